-- What the contracts of a table's entries cite.
use Rattle.std.specs.Prelude.{◌≡◌, ℕ, ◌<◌, List, [], ◌∷◌, ◌++◌, length, Option, Some, None, Result, slice_get, option_map}
use Rattle.std.proofs.Common.{sym, subst}
use mir.Syntax.{named}
use Rattle.std.specs.Option.{unwrap_or}
use Rattle.std.specs.Borrow.{MutBor, Fml, follows, follows_if, name_if_ok, RestsIfErr, RestsIfNone}
use Rattle.toml_edit_model.specs.Tree.{Decor, Key, Node}
use Rattle.toml_edit_model.specs.Slots as model
use Rattle.toml_edit_key.specs.KeyMutView.{lent_parts, with_parts}
use Rattle.toml_edit_key.specs.contracts.key.KeyParts.{the_row as parts_row}
use Rattle.toml_edit_key.specs.declared.key.KeyMut.{KeyMut}
use Rattle.toml_edit_repr.specs.contracts.repr.Decor.{the_row as decor_row}
use Rattle.toml_edit_slots.specs.Lengths.{length-on_key, length-with_item}
use Rattle.toml_edit_slots.specs.Slots.{items_of, with_item}
use Rattle.toml_edit_slots.specs.declared.slots.Slot.{Slot}
use Rattle.toml_edit_tree.specs.SlotsOf.{slots_of}
use Rattle.toml_edit_tree.specs.TableLending.{with_item_at, with_key_at}
use Rattle.toml_edit_tree.specs.View.{fields_view, item_view}
use Rattle.toml_edit_tree.specs.contracts.item.Item.{the_row as item_row}
use Rattle.toml_edit_tree.specs.contracts.table.Table.{the_row as table_row}
use Rattle.toml_edit_tree.specs.contracts.table.entry.OccupiedEntry as occupied
use Rattle.toml_edit_tree.specs.declared.item.Item.{Item}
use Rattle.toml_edit_tree.specs.declared.table.Table.{Table, out-Table}
use Rattle.toml_edit_tree.specs.declared.table.entry.Entry.{Entry}
use Rattle.toml_edit_tree.specs.declared.table.entry.Entry.TheVariants.{Occupied, Vacant}
use Rattle.toml_edit_tree.specs.declared.table.entry.OccupiedEntry.{OccupiedEntry}

-- the reference to the table that it is an entry of
abbrev pub entry_ref : Entry → MutBor Table
entry_ref (Occupied o) = o.table
entry_ref (Vacant v) = v.table

-- the item and the key that are there, or the new key
abbrev pub entry_item : Entry → Option Item
entry_item (Occupied o) = slice_get (items_of (out-Table o.table.now).slots) o.at
entry_item (Vacant v) = None

abbrev pub entry_key : Entry → Option Key
entry_key (Occupied o) = option_map (λ s. s.key) (slice_get (out-Table o.table.now).slots o.at)
entry_key (Vacant v) = Some v.key

-- its place among the slots
abbrev pub entry_place : Entry → ℕ
entry_place (Occupied o) = o.at
entry_place (Vacant v) = length (out-Table v.table.now).slots

-- the slots, and the table, with the item as that of the entry
abbrev pub slots_with : Entry → Item → List (Slot Item)
slots_with (Occupied o) x = with_item o.at x (out-Table o.table.now).slots
slots_with (Vacant v) x = (out-Table v.table.now).slots ++ record { key = v.key; item = x } ∷ []

abbrev pub table_with : Entry → Item → Table
table_with e x = record (entry_ref e).now { slots = slots_with e x }

-- the slots that this leaves, as the table shows them
abbrev pub slots_left : Entry → Node → List (model.Slot Node)
slots_left (Occupied o) n = model.changed_at o.at (model.with_item n) (slots_of o.table.now)
slots_left (Vacant v) n = slots_of v.table.now ++ record { key = v.key; item = n } ∷ []

-- the entry, with another item in its slot, or with its key changed
abbrev pub with_entry_item : OccupiedEntry → Item → OccupiedEntry
with_entry_item o x = record {
  table = record o.table { now = with_item_at o.at x o.table.now };
  at = o.at;
  within =
      subst (λ n. o.at < n) (sym (length-with_item (out-Table o.table.now).slots o.at x)) o.within;
}

abbrev pub with_entry_key : OccupiedEntry → (Key → Key) → OccupiedEntry
with_entry_key o h = record {
  table = record o.table { now = with_key_at o.at h o.table.now };
  at = o.at;
  within =
      subst (λ n. o.at < n) (sym (length-on_key h (out-Table o.table.now).slots o.at)) o.within;
}

-- An entry of this table for the key: what is there by its name, and what an item leaves there. A
-- present key stays as it is.
pub record IsEntryOf (t : Table) (k : Key) (e : Entry) : Type 0 where
  pub table : (entry_ref e).now ≡ t
  pub item : option_map item_view (entry_item e) ≡ model.lookup k.name (slots_of t)
  pub key : entry_key e ≡ Some (unwrap_or (model.lookup_key k.name (slots_of t)) k)
  pub leaves : (x : Item)
      → slots_of (table_with e x)
      ≡ model.put (model.with_item (item_view x)) (record { key = k; item = item_view x })
      (slots_of t)
  pub keeps : (x : Item) → fields_view (table_with e x) ≡ fields_view t

-- the table ends with the final item of the reference
abbrev pub EntryLends : Entry → MutBor Item → Fml
EntryLends e r = follows table_row item_row (entry_ref e).ghost_name r.ghost_name (table_with e)

-- it ends so where an item is lent; it stays where it isn't
abbrev pub EntryLendsOk : {E : Type 0} → Entry → Result (MutBor Item) E → Fml
EntryLendsOk e r =
    follows_if table_row item_row (entry_ref e).ghost_name (name_if_ok (λ x. x.ghost_name) r)
    (table_with e) (entry_ref e).now

-- the table stays where there is no entry
abbrev pub RestsIfRefused : {E : Type 0} → MutBor Table → Result Entry E → Fml
RestsIfRefused s r = RestsIfErr table_row s (λ e. (entry_ref e).ghost_name) r (λ n. n ≡ s.now)

abbrev pub RestsIfAbsent : MutBor Table → Option OccupiedEntry → Fml
RestsIfAbsent s r = RestsIfNone table_row s (λ o. o.table.ghost_name) r (λ n. n ≡ s.now)

-- the entry ends with the final item of the reference in its slot, or with the final decor as one
-- of its key's
abbrev pub OccupiedLends : MutBor OccupiedEntry → MutBor Item → Fml
OccupiedLends o r =
    follows (occupied.the_row
    (record { mir = named 1; lft = [] })) item_row o.ghost_name r.ghost_name (with_entry_item o.now)

abbrev pub OccupiedLendsKey : MutBor OccupiedEntry → KeyMut → Fml
OccupiedLendsKey o r =
    follows (occupied.the_row (record { mir = named 1; lft = [] })) parts_row o.ghost_name
    (lent_parts r).ghost_name (λ w. with_entry_key o.now (with_parts w))

abbrev pub OccupiedLendsLeaf : MutBor OccupiedEntry → MutBor Decor → Fml
OccupiedLendsLeaf o r =
    follows (occupied.the_row
    (record { mir = named 1; lft = [] })) decor_row o.ghost_name r.ghost_name
    (λ w. with_entry_key o.now (λ k. record k { leaf = w }))

abbrev pub OccupiedLendsDotted : MutBor OccupiedEntry → MutBor Decor → Fml
OccupiedLendsDotted o r =
    follows (occupied.the_row
    (record { mir = named 1; lft = [] })) decor_row o.ghost_name r.ghost_name
    (λ w. with_entry_key o.now (λ k. record k { dotted = w }))
