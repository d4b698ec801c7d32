-- A new slot, whose value is lent.
use Rattle.std.proofs.Common.{◌≡◌, [], ◌∷◌, ◌++◌, Some, is_some, option_and_then, ap, sym, ◌∙◌, slice_get}
use mathlib.Core.Logic.{inl, inr}
use Rattle.std.proofs.lemmas.Option.{same_Some}
use Rattle.toml_edit_slots.specs.Slots.{items_of, with_item}
use Rattle.toml_edit_slots.specs.declared.slots.Slot.{Slot}
use Rattle.toml_edit_tree.specs.ElementHolds.{value_held}
use Rattle.toml_edit_tree.specs.InlineValues.{held-Value, value_at}
use Rattle.toml_edit_tree.specs.declared.inline_table.InlineTable.{out-InlineTable}
use Rattle.toml_edit_tree.specs.declared.inline_table.entry.InlineEntry.TheVariants.{Vacant}
use Rattle.toml_edit_tree.specs.declared.item.Item.{Item}
use Rattle.toml_edit_tree.specs.declared.item.Item.TheVariants as items
use Rattle.toml_edit_tree.specs.declared.value.Value.{Value}
use Rattle.toml_edit_tree.proofs.IndexedLaws.{same-inline}
use Rattle.toml_edit_tree.proofs.LentLaws.{inline_entry-keeps, inline_entry-leaves}
use Rattle.toml_edit_tree.proofs.TableEntryLaws.{item-last, with_item-last}
use Rattle.toml_edit_tree.proofs.inline_table.entry.InlineVacantEntry.insert.Goals as goal

pub returns-in-Ok : goal.returns-in-Ok
returns-in-Ok c =
    let t = c.args.self.table.now in
    let es = (out-InlineTable t).items in
    let k = c.args.self.key in
    let x = items.Value c.args.value in
    let put : (w : Value) → with_item c.len-at.result (items.Value w) c.push.new.self ≡ es ++ record { key = k; item = items.Value w }
    ∷ [] =
    λ w. rw (c.in-Ok.ensures.slots, c.len-at.ensures) (with_item-last es (record { key = k; item = x }) (items.Value w)) in
    let held : slice_get (items_of c.push.new.self) c.len-at.result ≡ Some x =
    rw (c.in-Ok.ensures.slots, c.len-at.ensures) (item-last es (record { key = k; item = x })) in
    let there : value_at c.len-at.result c.push.new.self ≡ Some c.args.value = ap (option_and_then value_held) held
    ∙ held-Value c.args.value in (
      (λ j. inl (c.value_at_mut.result.ghost_name, λ w. ap (λ l. record t { items = l }) (put w) j)),
      record {
        writes_back = tt;
        value = same_Some _ _ (sym c.value_at_mut.ensures.value ∙ there);
        leaves = inline_entry-leaves (Vacant c.args.self);
        keeps = inline_entry-keeps (Vacant c.args.self);
        back = tt;
      },
    )

pub returns-in-Err : goal.returns-in-Err
returns-in-Err c =
    let t = c.args.self.table.now in (
      λ j. inr ((ap (λ l. record t { items = l }) c.in-Err.ensures.err ∙ same-inline t) j),
      record {
        writes_back = tt;
        value = tt;
        leaves = inline_entry-leaves (Vacant c.args.self);
        keeps = inline_entry-keeps (Vacant c.args.self);
        back = same_Some _ _ (sym c.into_own_value.ensures
            ∙ ap value_held (c.into_item.ensures ∙ ap (λ (s : Slot Item). s.item) c.in-Err.ensures.back) ∙ held-Value c.args.value);
      },
    )

pub value_at_mut-requires : goal.value_at_mut-requires
value_at_mut-requires c =
    let es = (out-InlineTable c.args.self.table.now).items in
    let x = items.Value c.args.value in
    let held : slice_get (items_of c.push.new.self) c.len-at.result ≡ Some x =
    rw (c.in-Ok.ensures.slots, c.len-at.ensures) (item-last es (record { key = c.args.self.key; item = x })) in
    ap (λ o. is_some (option_and_then value_held o)) held ∙ ap is_some (held-Value c.args.value)
