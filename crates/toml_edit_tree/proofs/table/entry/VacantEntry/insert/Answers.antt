-- A new slot, whose item is lent.
use Rattle.std.proofs.Common.{◌≡◌, [], ◌∷◌, ◌++◌, Some, ap, ◌∙◌, slice_get}
use mathlib.Core.Logic.{inl, inr}
use Rattle.std.proofs.lemmas.Option.{same_Some}
use Rattle.toml_edit_slots.specs.Slots.{items_of, with_item}
use Rattle.toml_edit_slots.specs.declared.slots.Slot.{Slot}
use Rattle.toml_edit_tree.specs.declared.item.Item.{Item}
use Rattle.toml_edit_tree.specs.declared.table.Table.{out-Table}
use Rattle.toml_edit_tree.specs.declared.table.entry.Entry.TheVariants.{Vacant}
use Rattle.toml_edit_tree.proofs.IndexedLaws.{same-table}
use Rattle.toml_edit_tree.proofs.LentLaws.{entry-keeps, entry-leaves}
use Rattle.toml_edit_tree.proofs.TableEntryLaws.{item-last, with_item-last}
use Rattle.toml_edit_tree.proofs.table.entry.VacantEntry.insert.Goals as goal

pub returns-in-Ok : goal.returns-in-Ok
returns-in-Ok c =
    let t = c.args.self.table.now in
    let es = (out-Table t).slots in
    let k = c.args.self.key in
    let put : (w : Item) → with_item c.len-at.result w c.push.new.self ≡ es ++ record { key = k; item = w } ∷ [] =
    λ w. rw (c.in-Ok.ensures.slots, c.len-at.ensures) (with_item-last es (record { key = k; item = c.args.item }) w) in
    let held : slice_get (items_of c.push.new.self) c.len-at.result ≡ Some c.args.item =
    rw (c.in-Ok.ensures.slots, c.len-at.ensures) (item-last es (record { key = k; item = c.args.item })) in (
      (λ j. inl (c.item_mut.result.ghost_name, λ w. ap (λ l. record t { slots = l }) (put w) j)),
      record {
        writes_back = tt;
        item = same_Some _ _ (c.item_mut.ensures.item ∙ held);
        leaves = entry-leaves (Vacant c.args.self);
        keeps = entry-keeps (Vacant c.args.self);
        back = tt;
      },
    )

pub returns-in-Err : goal.returns-in-Err
returns-in-Err c =
    let t = c.args.self.table.now in (
      λ j. inr ((ap (λ l. record t { slots = l }) c.in-Err.ensures.err ∙ same-table t) j),
      record {
        writes_back = tt;
        item = tt;
        leaves = entry-leaves (Vacant c.args.self);
        keeps = entry-keeps (Vacant c.args.self);
        back = c.into_item.ensures ∙ ap (λ (s : Slot Item). s.item) c.in-Err.ensures.back;
      },
    )
