-- What the contracts of an inline table's entries cite.
use Rattle.std.specs.Prelude.{◌≡◌, ℕ, List, [], ◌∷◌, ◌++◌, length, Option, Some, None, Result, slice_get, option_map}
use Rattle.std.proofs.Common.{◌∙◌}
use mir.Syntax.{named}
use Rattle.std.specs.Option.{unwrap_or}
use Rattle.std.specs.Borrow.{MutBor, Fml, follows, follows_if, name_if_ok, RestsIfErr}
use Rattle.toml_edit_model.specs.InlineCalls.{entered}
use Rattle.toml_edit_model.specs.Slots as model
use Rattle.toml_edit_key.specs.KeyMutView.{lent_parts, with_parts}
use Rattle.toml_edit_key.specs.contracts.key.KeyParts.{the_row as parts_row}
use Rattle.toml_edit_key.specs.declared.key.KeyMut.{KeyMut}
use Rattle.toml_edit_model.specs.Tree.{Decor, Key, Node}
use Rattle.toml_edit_repr.specs.contracts.repr.Decor.{the_row as decor_row}
use Rattle.toml_edit_slots.specs.Slots.{with_item}
use Rattle.toml_edit_slots.specs.declared.slots.Slot.{Slot}
use Rattle.toml_edit_tree.specs.InlineLending.{with_inline_key, with_value_at}
use Rattle.toml_edit_tree.specs.InlineSlots.{inline_fields}
use Rattle.toml_edit_tree.specs.InlineValues.{has-on_key, has-with_item, value_at}
use Rattle.toml_edit_tree.specs.SlotsOf.{inline_slots_of}
use Rattle.toml_edit_tree.specs.View.{value_view}
use Rattle.toml_edit_tree.specs.contracts.inline_table.InlineTable.{the_row as inline_row}
use Rattle.toml_edit_tree.specs.contracts.inline_table.entry.InlineOccupiedEntry as occupied
use Rattle.toml_edit_tree.specs.contracts.value.Value.{the_row as value_row}
use Rattle.toml_edit_tree.specs.declared.inline_table.InlineTable.{InlineTable, out-InlineTable}
use Rattle.toml_edit_tree.specs.declared.inline_table.entry.InlineEntry.{InlineEntry}
use Rattle.toml_edit_tree.specs.declared.inline_table.entry.InlineEntry.TheVariants.{Occupied, Vacant}
use Rattle.toml_edit_tree.specs.declared.inline_table.entry.InlineOccupiedEntry.{InlineOccupiedEntry}
use Rattle.toml_edit_tree.specs.declared.item.Item.{Item}
use Rattle.toml_edit_tree.specs.declared.item.Item.TheVariants as items
use Rattle.toml_edit_tree.specs.declared.value.Value.{Value}

-- the reference to the inline table that it is an entry of
abbrev pub inline_ref : InlineEntry → MutBor InlineTable
inline_ref (Occupied o) = o.table
inline_ref (Vacant v) = v.table

-- the value and the key that are there, or the new key
abbrev pub inline_value : InlineEntry → Option Value
inline_value (Occupied o) = value_at o.at (out-InlineTable o.table.now).items
inline_value (Vacant v) = None

abbrev pub inline_key : InlineEntry → Option Key
inline_key (Occupied o) =
    option_map (λ s. s.key) (slice_get (out-InlineTable o.table.now).items o.at)
inline_key (Vacant v) = Some v.key

-- its place among the slots
abbrev pub inline_place : InlineEntry → ℕ
inline_place (Occupied o) = o.at
inline_place (Vacant v) = length (out-InlineTable v.table.now).items

-- the slots, and the inline table, with the value as that of the entry
abbrev pub values_with : InlineEntry → Value → List (Slot Item)
values_with (Occupied o) x = with_item o.at (items.Value x) (out-InlineTable o.table.now).items
values_with (Vacant v) x =
    (out-InlineTable v.table.now).items ++ record { key = v.key; item = items.Value x } ∷ []

abbrev pub inline_with : InlineEntry → Value → InlineTable
inline_with e x = record (inline_ref e).now { items = values_with e x }

-- the slots that this leaves, as the inline table shows them
abbrev pub inline_slots_left : InlineEntry → Node → List (model.Slot Node)
inline_slots_left (Occupied o) n =
    model.changed_at o.at (model.with_item n) (inline_slots_of o.table.now)
inline_slots_left (Vacant v) n =
    inline_slots_of v.table.now ++ record { key = v.key; item = n } ∷ []

-- the entry, with another value in its slot, or with its key changed
abbrev pub with_entry_value : InlineOccupiedEntry → Value → InlineOccupiedEntry
with_entry_value o x = record {
  table = record o.table { now = with_value_at o.at x o.table.now };
  at = o.at;
  held = has-with_item (out-InlineTable o.table.now).items o.at x o.held;
}

abbrev pub with_inline_entry_key : InlineOccupiedEntry → (Key → Key) → InlineOccupiedEntry
with_inline_entry_key o h = record {
  table = record o.table { now = with_inline_key o.at h o.table.now };
  at = o.at;
  held = has-on_key h (out-InlineTable o.table.now).items o.at ∙ o.held;
}

-- An entry of this inline table for the key, once what is there is made a value: what is there by
-- its name, and what a value leaves there. A present key stays as it is.
pub record IsInlineEntryOf (t : InlineTable) (k : Key) (e : InlineEntry) : Type 0 where
  pub slots : inline_slots_of (inline_ref e).now ≡ entered k.name (inline_slots_of t)
  pub fields : inline_fields (inline_ref e).now ≡ inline_fields t
  pub value : option_map value_view (inline_value e)
      ≡ model.lookup k.name (inline_slots_of (inline_ref e).now)
  pub key : inline_key e ≡ Some (unwrap_or (model.lookup_key k.name (inline_slots_of t)) k)
  pub leaves : (x : Value)
      → inline_slots_of (inline_with e x)
      ≡ model.put (model.with_item (value_view x)) (record { key = k; item = value_view x })
      (inline_slots_of t)
  pub keeps : (x : Value) → inline_fields (inline_with e x) ≡ inline_fields t

-- the inline table ends with the final value of the reference
abbrev pub InlineLends : InlineEntry → MutBor Value → Fml
InlineLends e r =
    follows inline_row value_row (inline_ref e).ghost_name r.ghost_name (inline_with e)

-- it ends so where a value is lent; it stays where it isn't
abbrev pub InlineLendsOk : {E : Type 0} → InlineEntry → Result (MutBor Value) E → Fml
InlineLendsOk e r =
    follows_if inline_row value_row (inline_ref e).ghost_name (name_if_ok (λ x. x.ghost_name) r)
    (inline_with e) (inline_ref e).now

-- the inline table stays where there is no entry
abbrev pub InlineRestsIfRefused : {E : Type 0} → MutBor InlineTable → Result InlineEntry E → Fml
InlineRestsIfRefused s r =
    RestsIfErr inline_row s (λ e. (inline_ref e).ghost_name) r (λ n. n ≡ s.now)

-- the entry ends with the final value of the reference in its slot, or with the final decor as one
-- of its key's
abbrev pub InlineOccupiedLends : MutBor InlineOccupiedEntry → MutBor Value → Fml
InlineOccupiedLends o r =
    follows (occupied.the_row
    (record { mir = named 1; lft = [] })) value_row o.ghost_name r.ghost_name
    (with_entry_value o.now)

abbrev pub InlineOccupiedLendsKey : MutBor InlineOccupiedEntry → KeyMut → Fml
InlineOccupiedLendsKey o r =
    follows (occupied.the_row (record { mir = named 1; lft = [] })) parts_row o.ghost_name
    (lent_parts r).ghost_name (λ w. with_inline_entry_key o.now (with_parts w))

abbrev pub InlineOccupiedLendsLeaf : MutBor InlineOccupiedEntry → MutBor Decor → Fml
InlineOccupiedLendsLeaf o r =
    follows (occupied.the_row
    (record { mir = named 1; lft = [] })) decor_row o.ghost_name r.ghost_name
    (λ w. with_inline_entry_key o.now (λ k. record k { leaf = w }))

abbrev pub InlineOccupiedLendsDotted : MutBor InlineOccupiedEntry → MutBor Decor → Fml
InlineOccupiedLendsDotted o r =
    follows (occupied.the_row
    (record { mir = named 1; lft = [] })) decor_row o.ghost_name r.ghost_name
    (λ w. with_inline_entry_key o.now (λ k. record k { dotted = w }))
