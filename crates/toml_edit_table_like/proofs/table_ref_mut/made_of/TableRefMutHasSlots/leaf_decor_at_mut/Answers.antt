-- A decor of the key at a place.
use Rattle.std.proofs.Common.{refl, ap, sym, option_map, slice_get, ◌∙◌}
use Rattle.toml_edit_slots.specs.Slots.{on_key}
use Rattle.toml_edit_table_like.specs.InItems.{with_entries_in}
use Rattle.toml_edit_table_like.specs.MutRefs.{same-ref}
use Rattle.toml_edit_table_like.proofs.MutLaws.{own-entries}
use Rattle.toml_edit_table_like.proofs.table_ref_mut.made_of.TableRefMutHasSlots.leaf_decor_at_mut.Goals as goal

pub returns : goal.returns
returns c =
    let r = c.args.self.now in
    let is = own-entries r.item.now c.own_slots_mut-slots.result.now c.own_slots_mut-slots.ensures.slots in (
      (
        refl,
        λ w. same-ref _ _ (ap (λ es. record r.item {
          now =
              with_entries_in (on_key c.args.at (λ k. record k { leaf = w }) es) r.item.now;
        }) is),
      ),
      record {
        writes_back = tt;
        decor = ap (λ es. option_map (λ s. s.key.leaf) (slice_get es c.args.at)) (sym is)
            ∙ c.leaf_decor_mut.ensures.decor;
      },
    )
