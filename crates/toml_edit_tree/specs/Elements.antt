-- The elements of arrays and arrays of tables as a list.
use Rattle.std.specs.Prelude.{List}
use Rattle.toml_edit_model.specs.Tree.{ArrayFields, Extent, Node}
use Rattle.toml_edit_model.specs.Lists.{item_list}
use Rattle.toml_edit_tree.specs.declared.array.Array.{Array}
use Rattle.toml_edit_tree.specs.declared.array_of_tables.ArrayOfTables.{ArrayOfTables}
use Rattle.toml_edit_tree.specs.declared.item.Item.{Item}
use Rattle.toml_edit_tree.specs.View.{array_view, items_view, tables_view}

-- the code's items
abbrev pub listed : List Item → List Node
listed xs = item_list (items_view xs)

-- the slots of an array, and what it has beside them
abbrev pub items_of : Array → List Node
items_of a = item_list (array_view a).items

abbrev pub array_fields : Array → ArrayFields
array_fields a = (array_view a).fields

-- the slots of an array of tables, and what it has beside them
abbrev pub tables_of : ArrayOfTables → List Node
tables_of a = item_list (tables_view a).items

abbrev pub extent_of : ArrayOfTables → Extent
extent_of a = (tables_view a).extent
