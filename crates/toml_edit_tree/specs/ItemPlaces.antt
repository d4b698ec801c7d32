-- What arrays and arrays of tables lend of their slots, values and tables.
use Rattle.std.specs.Prelude.{ℕ, Option, slice_get, option_and_then}
use Rattle.std.specs.Borrow.{Lends, LendsIf, MutBor, Fml}
use Rattle.std.specs.Vec.{with_item}
use Rattle.toml_edit_tree.specs.ElementHolds.{table_held, value_held}
use Rattle.toml_edit_tree.specs.declared.array.Array.{Array, out-Array}
use Rattle.toml_edit_tree.specs.declared.array_of_tables.ArrayOfTables.{ArrayOfTables, out-ArrayOfTables}
use Rattle.toml_edit_tree.specs.declared.item.Item.{Item}
use Rattle.toml_edit_tree.specs.declared.item.Item.TheVariants as items
use Rattle.toml_edit_tree.specs.declared.table.Table.{Table}
use Rattle.toml_edit_tree.specs.declared.value.Value.{Value}
use Rattle.toml_edit_tree.specs.contracts.table.Table.{the_row as table_row}
use Rattle.toml_edit_tree.specs.contracts.value.Value.{the_row as value_row}
use Rattle.toml_edit_tree.specs.contracts.array.Array.{the_row as array_row}
use Rattle.toml_edit_tree.specs.contracts.array_of_tables.ArrayOfTables.{the_row as tables_row}
use Rattle.toml_edit_tree.specs.contracts.item.Item.{the_row as item_row}

-- the array, and the array of tables, with another item in the slot at the place
abbrev pub with_slot_at : ℕ → Item → Array → Array
with_slot_at i x a = record a { values = with_item (out-Array a).values i x }

abbrev pub with_element_at : ℕ → Item → ArrayOfTables → ArrayOfTables
with_element_at i x a = record a { values = with_item (out-ArrayOfTables a).values i x }

-- and with another value, or another table
abbrev pub with_value_at : ℕ → Value → Array → Array
with_value_at i v a = with_slot_at i (items.Value v) a

abbrev pub with_table_at : ℕ → Table → ArrayOfTables → ArrayOfTables
with_table_at i t a = with_element_at i (items.Table t) a

-- they end with the final item of r at the place, where one is lent
abbrev pub LendsArraySlot : MutBor Array → ℕ → Option (MutBor Item) → Fml
LendsArraySlot s i r = LendsIf array_row item_row s r (λ w. with_slot_at i w s.now) s.now

abbrev pub LendsTablesSlot : MutBor ArrayOfTables → ℕ → Option (MutBor Item) → Fml
LendsTablesSlot s i r = LendsIf tables_row item_row s r (λ w. with_element_at i w s.now) s.now

-- they end so, where the place has a slot
abbrev pub LendsArraySlotIn : MutBor Array → ℕ → MutBor Item → Fml
LendsArraySlotIn s i r = Lends array_row item_row s r (λ w. with_slot_at i w s.now)

abbrev pub LendsTablesSlotIn : MutBor ArrayOfTables → ℕ → MutBor Item → Fml
LendsTablesSlotIn s i r = Lends tables_row item_row s r (λ w. with_element_at i w s.now)

-- the value, and the table, in the slot at a place
abbrev pub value_in_at : ℕ → Array → Option Value
value_in_at i a = option_and_then value_held (slice_get (out-Array a).values.items i)

abbrev pub table_in_at : ℕ → ArrayOfTables → Option Table
table_in_at i a = option_and_then table_held (slice_get (out-ArrayOfTables a).values.items i)

-- they end with the final value, or table, of r in the slot at the place, where one is lent
abbrev pub LendsValueAt : MutBor Array → ℕ → Option (MutBor Value) → Fml
LendsValueAt s i r =
    LendsIf array_row value_row s r (λ w. with_slot_at i (items.Value w) s.now) s.now

abbrev pub LendsTableAt : MutBor ArrayOfTables → ℕ → Option (MutBor Table) → Fml
LendsTableAt s i r =
    LendsIf tables_row table_row s r (λ w. with_element_at i (items.Table w) s.now) s.now

-- they end so, where the place has one
abbrev pub LendsValueIn : MutBor Array → ℕ → MutBor Value → Fml
LendsValueIn s i r = Lends array_row value_row s r (λ w. with_slot_at i (items.Value w) s.now)

abbrev pub LendsTableIn : MutBor ArrayOfTables → ℕ → MutBor Table → Fml
LendsTableIn s i r = Lends tables_row table_row s r (λ w. with_element_at i (items.Table w) s.now)

-- the item ends as the final table of r
abbrev pub LendsOwnTable : MutBor Item → MutBor Table → Fml
LendsOwnTable s r = Lends item_row table_row s r (λ w. items.Table w)
