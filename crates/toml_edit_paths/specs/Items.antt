-- The items of an array or an array of tables, and what is lent of them.
use Rattle.std.specs.Borrow.{Fml, LendsIf, MutBor}
use Rattle.std.specs.Prelude.{Bool, true, false, Vec, Option, Some, None}
use Rattle.std.specs.contracts.alloc.Global.{the_row as global_row}
use Rattle.std.specs.contracts.impls.GlobalAllocator.TheImpl.{ghosts}
use Rattle.std.specs.contracts.vec.Vec.{the_row as vec_row}
use Rattle.std.specs.declared.alloc.Global.{Global}
use Rattle.toml_edit_model.specs.Shown.{is_table_node}
use Rattle.toml_edit_model.specs.Tree.{Node, is_value_node}
use Rattle.toml_edit_tree.specs.contracts.item.Item.{the_row as item_row}
use Rattle.toml_edit_tree.specs.contracts.value.Value.{the_row as value_row}
use Rattle.toml_edit_tree.specs.declared.array.Array.{Array, out-Array}
use Rattle.toml_edit_tree.specs.declared.array_of_tables.ArrayOfTables.{ArrayOfTables, out-ArrayOfTables}
use Rattle.toml_edit_tree.specs.declared.inline_table.InlineTable.{InlineTable}
use Rattle.toml_edit_tree.specs.declared.item.Item.{Item, out-Item}
use Rattle.toml_edit_tree.specs.declared.item.Item.TheOpen.{Item-F, Value-F}
use Rattle.toml_edit_tree.specs.declared.item.Item.TheVariants as items
use Rattle.toml_edit_tree.specs.declared.table.Table.{Table}
use Rattle.toml_edit_tree.specs.declared.value.Value.{Value, out-Value}
use Rattle.toml_edit_tree.specs.declared.value.Value.TheVariants as values

-- the kind of the elements of an item: values in a value, and else tables
abbrev pub kind_of : Bool → Node → Bool
kind_of true n = is_value_node n
kind_of false n = is_table_node n

-- the items of a value that is an array, and of an item that is an array or an array of tables
abbrev pub value_items : Value-F Item Value Array ArrayOfTables InlineTable Table
    → Option (Vec Item Global)
value_items (Value-F.Array a) = Some (out-Array a).values
value_items v = None

abbrev pub item_items : Item-F Item Value Array ArrayOfTables InlineTable Table
    → Option (Vec Item Global)
item_items (Item-F.Value v) = value_items (out-Value v)
item_items (Item-F.ArrayOfTables a) = Some (out-ArrayOfTables a).values
item_items x = None

abbrev pub items_held : Item → Option (Vec Item Global)
items_held x = item_items (out-Item x)

-- they with other items
abbrev pub value_with : Value-F Item Value Array ArrayOfTables InlineTable Table
    → Vec Item Global → Value → Value
value_with (Value-F.Array a) xs v = values.Array (record a { values = xs })
value_with o xs v = v

abbrev pub item_with : Item-F Item Value Array ArrayOfTables InlineTable Table
    → Vec Item Global → Item → Item
item_with (Item-F.Value v) xs x = items.Value (value_with (out-Value v) xs v)
item_with (Item-F.ArrayOfTables a) xs x = items.ArrayOfTables (record a { values = xs })
item_with o xs x = x

abbrev pub with_items : Vec Item Global → Item → Item
with_items xs x = item_with (out-Item x) xs x

-- they end with the final items of r, where some are lent
abbrev pub LendsValueItems : MutBor Value → Option (MutBor (Vec Item Global)) → Fml
LendsValueItems s r =
    LendsIf value_row (vec_row item_row global_row ghosts) s r
    (λ w. value_with (out-Value s.now) w s.now) s.now

abbrev pub LendsItems : MutBor Item → Option (MutBor (Vec Item Global)) → Fml
LendsItems s r =
    LendsIf item_row (vec_row item_row global_row ghosts) s r (λ w. with_items w s.now) s.now
