-- What is lent out of containers, values and items, and what the iterators of containers have left.
use Rattle.std.specs.Prelude.{List, Option}
use Rattle.std.specs.Borrow.{Bor, Lends, LendsIf, MutBor, Fml}
use Rattle.std.specs.Slice.Iter.{iter_rest}
use Rattle.toml_edit_model.specs.Iterating.{elements, value_pairs, values as values_seen}
use Rattle.toml_edit_model.specs.Lists.{slot_list}
use Rattle.toml_edit_model.specs.Text.{Text}
use Rattle.toml_edit_model.specs.Tree.{Decor, Node}
use Rattle.toml_edit_repr.specs.contracts.repr.Decor.{the_row as decor_row}
use Rattle.toml_edit_slots.specs.declared.slots.Slot.{Slot}
use Rattle.toml_edit_slots.specs.contracts.slots.Slots.{the_row as slots_row}
use Rattle.toml_edit_tree.specs.Containers.{table_node}
use Rattle.toml_edit_tree.specs.Elements.{listed}
use Rattle.toml_edit_tree.specs.View.{value_view, slots_view, table_view}
use Rattle.toml_edit_tree.specs.declared.array.Array.{Array}
use Rattle.toml_edit_tree.specs.declared.array.iter.ArrayIter.{ArrayIter}
use Rattle.toml_edit_tree.specs.declared.array_of_tables.ArrayOfTables.{ArrayOfTables}
use Rattle.toml_edit_tree.specs.declared.array_of_tables.ArrayOfTablesIter.{ArrayOfTablesIter}
use Rattle.toml_edit_tree.specs.declared.inline_table.InlineTable.{InlineTable}
use Rattle.toml_edit_tree.specs.declared.inline_table.iter.InlineTableIter.{InlineTableIter}
use Rattle.toml_edit_tree.specs.declared.item.Item.{Item}
use Rattle.toml_edit_tree.specs.declared.item.Item.TheVariants as items
use Rattle.toml_edit_tree.specs.declared.table.Table.{Table}
use Rattle.toml_edit_tree.specs.declared.value.Value.{Value}
use Rattle.toml_edit_tree.specs.declared.value.Value.TheVariants as values
use Rattle.toml_edit_tree.specs.contracts.array.Array.{the_row as array_row}
use Rattle.toml_edit_tree.specs.contracts.array_of_tables.ArrayOfTables.{the_row as tables_row}
use Rattle.toml_edit_tree.specs.contracts.inline_table.InlineTable.{the_row as inline_row}
use Rattle.toml_edit_tree.specs.contracts.item.Item.{the_row as item_row}
use Rattle.toml_edit_tree.specs.contracts.table.Table.{the_row as table_row}
use Rattle.toml_edit_tree.specs.contracts.value.Value.{the_row as value_row}

-- the array, the inline table, or the table, ends with the final decor of r
abbrev pub LendsArrayDecor : MutBor Array → MutBor Decor → Fml
LendsArrayDecor s r = Lends array_row decor_row s r (λ w. record s.now { decor = w })

abbrev pub LendsInlineDecor : MutBor InlineTable → MutBor Decor → Fml
LendsInlineDecor s r = Lends inline_row decor_row s r (λ w. record s.now { decor = w })

abbrev pub LendsTableDecor : MutBor Table → MutBor Decor → Fml
LendsTableDecor s r = Lends table_row decor_row s r (λ w. record s.now { decor = w })

-- the inline table with these slots
abbrev pub holding : List (Slot Item) → InlineTable → InlineTable
holding slots t = record t { items = slots }

-- it ends with the final slots of r
abbrev pub LendsInlineSlots : MutBor InlineTable → MutBor (List (Slot Item)) → Fml
LendsInlineSlots s r = Lends inline_row (slots_row item_row) s r (λ w. holding w s.now)

-- the table with these slots
abbrev pub table_holding : List (Slot Item) → Table → Table
table_holding slots t = record t { slots = slots }

abbrev pub LendsTableSlots : MutBor Table → MutBor (List (Slot Item)) → Fml
LendsTableSlots s r = Lends table_row (slots_row item_row) s r (λ w. table_holding w s.now)

-- the value ends as the final array, or the final inline table, of r, where it is one
abbrev pub LendsArray : MutBor Value → Option (MutBor Array) → Fml
LendsArray s r = LendsIf value_row array_row s r (λ w. values.Array w) s.now

abbrev pub LendsInline : MutBor Value → Option (MutBor InlineTable) → Fml
LendsInline s r = LendsIf value_row inline_row s r (λ w. values.InlineTable w) s.now

-- the item ends as the final table, or the final array of tables, of r, where it is one
abbrev pub LendsTable : MutBor Item → Option (MutBor Table) → Fml
LendsTable s r = LendsIf item_row table_row s r (λ w. items.Table w) s.now

abbrev pub LendsTables : MutBor Item → Option (MutBor ArrayOfTables) → Fml
LendsTables s r = LendsIf item_row tables_row s r (λ w. items.ArrayOfTables w) s.now

-- what an iterator has left
abbrev pub values_left : ArrayIter → List Node
values_left it = values_seen (listed (iter_rest it.items))

abbrev pub pairs_left : InlineTableIter → List (Text × Node)
pairs_left it = value_pairs (slot_list (slots_view (iter_rest it.slots)))

abbrev pub tables_left : ArrayOfTablesIter → List Node
tables_left it = elements (listed (iter_rest it.items))

-- a value, a pair, or a table, that was read
abbrev pub value_read : Bor Value → Node
value_read v = value_view v.now

abbrev pub pair_read : Bor Text × Bor Value → Text × Node
pair_read p = (p.0.now, value_view p.1.now)

abbrev pub table_read : Bor Table → Node
table_read t = table_node (table_view t.now)
