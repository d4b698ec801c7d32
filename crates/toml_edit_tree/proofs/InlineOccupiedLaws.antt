-- What a write leaves of an entry of an inline table, whatever shows that it holds a value.
use denote.Struct.Props.{props}
use Rattle.std.proofs.Common.{◌≡◌, ℕ, zero, suc, Bool, true, List, [], ◌∷◌, Some, ap}
use Rattle.toml_edit_model.specs.Tree.{Key}
use Rattle.toml_edit_slots.specs.declared.slots.Slot.{Slot}
use Rattle.toml_edit_slots.specs.Slots.{on_key, with_item}
use Rattle.toml_edit_tree.specs.InlineEntries.{with_entry_value, with_inline_entry_key}
use Rattle.toml_edit_tree.specs.InlineLending.{with_inline_key, with_value_at}
use Rattle.toml_edit_tree.specs.InlineValues.{has_value_at, held-Value, value_at}
use Rattle.toml_edit_tree.specs.declared.inline_table.InlineTable.{out-InlineTable}
use Rattle.toml_edit_tree.specs.declared.inline_table.entry.InlineOccupiedEntry.{InlineOccupiedEntry}
use Rattle.toml_edit_tree.specs.declared.item.Item.{Item}
use Rattle.toml_edit_tree.specs.declared.item.Item.TheVariants as items
use Rattle.toml_edit_tree.specs.declared.value.Value.{Value}

one_proof : (b : Bool) → IsProp (b ≡ true)
one_proof b = hlevel props

pub value-with_item : (es : List (Slot Item)) (i : ℕ) (v : Value) → has_value_at i es ≡ true → value_at i (with_item i (items.Value v) es)
    ≡ Some v
value-with_item [] zero v h = absurd cc
value-with_item [] (suc i) v h = absurd cc
value-with_item (s ∷ es) zero v h = held-Value v
value-with_item (s ∷ es) (suc i) v h = value-with_item es i v h

module _ (o : InlineOccupiedEntry) where
  abbrev slots : List (Slot Item)
  slots = (out-InlineTable o.table.now).items

  pub value_written : (x : Value) (p : has_value_at o.at (with_item o.at (items.Value x) slots) ≡ true)
      → record { table = record o.table { now = with_value_at o.at x o.table.now }; at = o.at; held = p } ≡ with_entry_value o x
  value_written x p = ap (λ q. record (with_entry_value o x) { held = q }) (one_proof _ p (with_entry_value o x).held)

  pub inline_key_written : (h : Key → Key) (p : has_value_at o.at (on_key o.at h slots) ≡ true)
      → record { table = record o.table { now = with_inline_key o.at h o.table.now }; at = o.at; held = p } ≡ with_inline_entry_key o h
  inline_key_written h p = ap (λ q. record (with_inline_entry_key o h) { held = q }) (one_proof _ p (with_inline_entry_key o h).held)
