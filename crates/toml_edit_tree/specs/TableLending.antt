-- A new table, and what a table lends of its slots.
use Rattle.std.specs.Prelude.{ℕ, List, Option}
use Rattle.std.specs.Option.{option_map_or}
use Rattle.std.specs.Borrow.{Lends, LendsIf, MutBor, Fml, follows}
use Rattle.toml_edit_model.specs.Lists.{slots_from}
use Rattle.toml_edit_model.specs.Slots.{Slot}
use Rattle.toml_edit_model.specs.Text.{Text}
use Rattle.toml_edit_model.specs.Tree.{Decor, Key, Node}
use Rattle.toml_edit_model.specs.Conversions.{new_table}
use Rattle.toml_edit_tree.specs.Containers.{TableView}
use Rattle.toml_edit_key.specs.KeyMutView.{lent_parts, with_parts}
use Rattle.toml_edit_key.specs.contracts.key.KeyParts.{the_row as parts_row}
use Rattle.toml_edit_key.specs.declared.key.KeyMut.{KeyMut}
use Rattle.toml_edit_repr.specs.contracts.repr.Decor.{the_row as decor_row}
use Rattle.toml_edit_slots.specs.Slots.{on_key, place, with_item}
use Rattle.toml_edit_tree.specs.declared.item.Item.{Item}
use Rattle.toml_edit_tree.specs.declared.table.Table.{Table, out-Table}
use Rattle.toml_edit_tree.specs.contracts.item.Item.{the_row as item_row}
use Rattle.toml_edit_tree.specs.contracts.table.Table.{the_row as table_row}

-- a new table of these slots
abbrev pub new_table_of : List (Slot Node) → TableView
new_table_of ss = record { fields = new_table; slots = slots_from ss }

-- the table with another item in the slot of a key
abbrev pub with_item_under : Text → Item → Table → Table
with_item_under k x t =
    record t {
      slots = option_map_or (λ at. with_item at x (out-Table t).slots)
          (place k (out-Table t).slots) (out-Table t).slots;
    }

-- the table ends with the final item of r in the slot of the key, where an item is lent
abbrev pub LendsHeld : MutBor Table → Text → Option (MutBor Item) → Fml
LendsHeld s k r = LendsIf table_row item_row s r (λ w. with_item_under k w s.now) s.now

-- the table with another item in the slot at a place, or with the key there changed
abbrev pub with_item_at : ℕ → Item → Table → Table
with_item_at at x t = record t { slots = with_item at x (out-Table t).slots }

abbrev pub with_key_at : ℕ → (Key → Key) → Table → Table
with_key_at at h t = record t { slots = on_key at h (out-Table t).slots }

-- the table ends with the final parts of r in the key at the place
abbrev pub LendsKeyAt : MutBor Table → ℕ → KeyMut → Fml
LendsKeyAt s at r =
    follows table_row parts_row s.ghost_name (lent_parts r).ghost_name
    (λ w. with_key_at at (with_parts w) s.now)

-- the table ends with the final item of r in the slot at the place, or with the final decor as one
-- of the key's there
abbrev pub LendsItemAt : MutBor Table → ℕ → MutBor Item → Fml
LendsItemAt s at r = Lends table_row item_row s r (λ w. with_item_at at w s.now)

abbrev pub LendsLeafAt : MutBor Table → ℕ → MutBor Decor → Fml
LendsLeafAt s at r =
    Lends table_row decor_row s r (λ w. with_key_at at (λ k. record k { leaf = w }) s.now)

abbrev pub LendsDottedAt : MutBor Table → ℕ → MutBor Decor → Fml
LendsDottedAt s at r =
    Lends table_row decor_row s r (λ w. with_key_at at (λ k. record k { dotted = w }) s.now)
