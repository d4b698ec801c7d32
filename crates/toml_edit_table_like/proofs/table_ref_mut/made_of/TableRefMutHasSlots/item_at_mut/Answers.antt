-- The item at a place.
use Rattle.std.proofs.Common.{refl, ap, slice_get, ◌∙◌}
use Rattle.toml_edit_slots.specs.Slots.{items_of, with_item}
use Rattle.toml_edit_table_like.specs.InItems.{with_entries_in}
use Rattle.toml_edit_table_like.specs.MutRefs.{same-ref}
use Rattle.toml_edit_table_like.proofs.MutLaws.{own-entries}
use Rattle.toml_edit_table_like.proofs.table_ref_mut.made_of.TableRefMutHasSlots.item_at_mut.Goals as goal

pub returns : goal.returns
returns c =
    let r = c.args.self.now in
    let is = own-entries r.item.now c.own_slots_mut-slots.result.now c.own_slots_mut-slots.ensures.slots in (
      (refl, λ w. same-ref _ _ (ap (λ es. record r.item { now = with_entries_in (with_item c.args.at w es) r.item.now }) is)),
      record { writes_back = tt; item = c.item_mut.ensures.item ∙ ap (λ es. slice_get (items_of es) c.args.at) is },
    )
