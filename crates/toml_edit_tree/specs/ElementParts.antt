-- What the iterators that own their arrays have left, and what `extend` leaves.
use Rattle.std.specs.Prelude.{◌≡◌, List, ◌++◌, map, None}
use Rattle.std.specs.Vec.Iter.{into_iter_items}
use Rattle.toml_edit_model.specs.Conversions.{new_array}
use Rattle.toml_edit_model.specs.Iterating.{elements, values as values_seen}
use Rattle.toml_edit_model.specs.Tree.{Node}
use Rattle.toml_edit_tree.specs.Containers.{table_node}
use Rattle.toml_edit_tree.specs.Elements.{array_fields, extent_of, items_of, listed, tables_of}
use Rattle.toml_edit_tree.specs.View.{table_view, value_view}
use Rattle.toml_edit_tree.specs.declared.array.Array.{Array}
use Rattle.toml_edit_tree.specs.declared.array.iter.ArrayIntoIter.{ArrayIntoIter}
use Rattle.toml_edit_tree.specs.declared.array_of_tables.ArrayOfTables.{ArrayOfTables}
use Rattle.toml_edit_tree.specs.declared.array_of_tables.ArrayOfTablesIntoIter.{ArrayOfTablesIntoIter}
use Rattle.toml_edit_tree.specs.declared.table.Table.{Table}
use Rattle.toml_edit_tree.specs.declared.value.Value.{Value}

-- what an iterator has left, and a table that it gave
abbrev pub owned_values : ArrayIntoIter → List Node
owned_values it = values_seen (listed (into_iter_items it.items))

abbrev pub owned_tables : ArrayOfTablesIntoIter → List Node
owned_tables it = elements (listed (into_iter_items it.items))

abbrev pub table_owned : Table → Node
table_owned t = table_node (table_view t)

-- an array with more values at its end
abbrev pub AddsValues : Array → List Value → Array → Type 0
AddsValues old vs new =
    (items_of new ≡ items_of old ++ map value_view vs) × (array_fields new ≡ array_fields old)

-- an array of tables with more tables
abbrev pub AddsTables : ArrayOfTables → List Table → ArrayOfTables → Type 0
AddsTables old ts new =
    (tables_of new ≡ tables_of old ++ map (λ t. table_node (table_view t)) ts)
    × (extent_of new ≡ extent_of old)

-- a new array of these values, and a new array of these tables
abbrev pub HasValues : List Value → Array → Type 0
HasValues vs a = (items_of a ≡ map value_view vs) × (array_fields a ≡ new_array)

abbrev pub HasTables : List Table → ArrayOfTables → Type 0
HasTables ts a = (tables_of a ≡ map (λ t. table_node (table_view t)) ts) × (extent_of a ≡ None)
