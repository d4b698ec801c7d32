-- The value, and the table, that an item holds.
use Rattle.std.specs.Prelude.{Option, None, Some}
use Rattle.toml_edit_tree.specs.declared.array.Array.{Array}
use Rattle.toml_edit_tree.specs.declared.array_of_tables.ArrayOfTables.{ArrayOfTables}
use Rattle.toml_edit_tree.specs.declared.inline_table.InlineTable.{InlineTable}
use Rattle.toml_edit_tree.specs.declared.item.Item.{Item, out-Item}
use Rattle.toml_edit_tree.specs.declared.item.Item.TheOpen.{Item-F}
use Rattle.toml_edit_tree.specs.declared.item.Item.TheVariants as items
use Rattle.toml_edit_tree.specs.declared.table.Table.{Table}
use Rattle.toml_edit_tree.specs.declared.value.Value.{Value}

-- ---- one level

abbrev pub value_open : Item-F Item Value Array ArrayOfTables InlineTable Table → Option Value
value_open (Item-F.Value v) = Some v
value_open Item-F.None = None
value_open (Item-F.Table t) = None
value_open (Item-F.ArrayOfTables a) = None

abbrev pub table_open : Item-F Item Value Array ArrayOfTables InlineTable Table → Option Table
table_open (Item-F.Table t) = Some t
table_open Item-F.None = None
table_open (Item-F.Value v) = None
table_open (Item-F.ArrayOfTables a) = None

-- ---- of an item

abbrev pub value_held : Item → Option Value
value_held x = value_open (out-Item x)

abbrev pub table_held : Item → Option Table
table_held x = table_open (out-Item x)

-- and the item that holds it
abbrev pub holding_value : Value → Item
holding_value v = items.Value v

abbrev pub holding_table : Table → Item
holding_table t = items.Table t
