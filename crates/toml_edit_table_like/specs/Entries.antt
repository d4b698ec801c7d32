-- What the contracts of an entry of a table of either kind cite.
use Rattle.std.specs.Prelude.{◌≡◌, ℕ, Bool, List, [], Option, Result, slice_get}
use Rattle.std.specs.Borrow.{Fml, MutBor, follows_if, name_if_ok}
use denote.RattleType.{RattleType}
use mir.Syntax.{named}
use Rattle.toml_edit_model.specs.Keys.{new_key}
use Rattle.toml_edit_model.specs.Slots as model
use Rattle.toml_edit_model.specs.Tree.{Key, Node}
use Rattle.toml_edit_slots.specs.Slots.{items_of}
use Rattle.toml_edit_slots.specs.declared.slots.Slot.{Slot}
use Rattle.toml_edit_table_like.specs.Putting.{with_item_put}
use Rattle.toml_edit_table_like.specs.contracts.entry.TableLikeEntry as lent
use Rattle.toml_edit_table_like.specs.declared.entry.EntryKey.{EntryKey}
use Rattle.toml_edit_table_like.specs.declared.entry.EntryKey.TheVariants as keys
use Rattle.toml_edit_table_like.specs.declared.entry.TableLikeEntry.{TableLikeEntry}
use Rattle.toml_edit_tree.specs.View.{item_view}
use Rattle.toml_edit_tree.specs.contracts.item.Item.{the_row as item_row}
use Rattle.toml_edit_tree.specs.declared.item.Item.{Item}

-- the key that a new slot gets
abbrev pub key_of : EntryKey → Key
key_of (keys.Text t) = new_key t.now
key_of (keys.Formatted k) = k.now

module _ {X : Type 0} where
  -- the reference to the table that it is an entry of
  abbrev pub entry_ref : TableLikeEntry X → MutBor X
  entry_ref e = e.table

  abbrev pub entry_key : TableLikeEntry X → Key
  entry_key e = key_of e.key

  -- the entry of another state of the table
  abbrev pub with_table : X → TableLikeEntry X → TableLikeEntry X
  with_table t e = record e { table = record e.table { now = t } }

  -- whether its key has a slot, and the item there, by the slots of the table
  abbrev pub is_occupied : (X → List (model.Slot Node)) → TableLikeEntry X → Bool
  is_occupied slots_of e = model.has_slot (entry_key e).name (slots_of (entry_ref e).now)

  abbrev pub item_of : (X → List (model.Slot Node)) → TableLikeEntry X → Option Node
  item_of slots_of e = model.lookup (entry_key e).name (slots_of (entry_ref e).now)

  -- the item at a place of the table
  abbrev pub item_at : (X → List (Slot Item)) → TableLikeEntry X → ℕ → Option Item
  item_at entries e at = slice_get (items_of (entries (entry_ref e).now)) at

-- it is seen of an item that P holds of
abbrev pub IsViewOf : (Item → Type 0) → Node → Type 0
IsViewOf P n = (x : Item) × P x × (n ≡ item_view x)

-- the entry once the item is in its slot
abbrev pub with_entry_item : {X : Type 0} → (X → List (Slot Item)) → (List (Slot Item) → X → X)
    → TableLikeEntry X → Item → TableLikeEntry X
with_entry_item entries with_entries e x =
    with_table (with_item_put entries with_entries (key_of e.key) x e.table.now) e

-- it ends with the final item of the reference in its slot; it stays where none is lent
abbrev pub EntryLends : (R : RattleType) → (R.Denot → List (Slot Item))
    → (List (Slot Item) → R.Denot → R.Denot) → {E : Type 0} → MutBor (TableLikeEntry R.Denot)
    → Result (MutBor Item) E → Fml
EntryLends R entries with_entries o r =
    follows_if (lent.the_row (record { mir = named 1; lft = [] }) R) item_row o.ghost_name
    (name_if_ok (λ x. x.ghost_name) r) (with_entry_item entries with_entries o.now) o.now
