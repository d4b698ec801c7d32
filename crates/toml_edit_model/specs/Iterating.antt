-- The lists that iterators and `get_values` give.
use Rattle.std.specs.Prelude.{List, [], map, filter}
use Rattle.toml_edit_model.specs.Text.{Text}
use Rattle.toml_edit_model.specs.Mode.{plain}
use Rattle.toml_edit_model.specs.Tree.{Key, Node, is_value_node}
use Rattle.toml_edit_model.specs.Shown.{is_table_node}
use Rattle.toml_edit_model.specs.Print.{Line, table_lines, inside_lines}
use Rattle.toml_edit_model.specs.Slots.{Slot, those, pairs}
use Rattle.toml_edit_model.specs.Lists.{is_item, slots_from}

-- the slots that are no placeholders, and those that hold a value
abbrev pub filled : List (Slot Node) → List (Slot Node)
filled es = those is_item es

abbrev pub valued : List (Slot Node) → List (Slot Node)
valued es = those is_value_node es

-- `Iter`, of a table and through `TableLike`; `IntoIter` gives the pairs of all slots
abbrev pub filled_pairs : List (Slot Node) → List (Text × Node)
filled_pairs es = pairs (filled es)

-- `InlineTableIter`, `InlineTableIntoIter`
abbrev pub value_pairs : List (Slot Node) → List (Text × Node)
value_pairs es = pairs (valued es)

-- `ArrayIter`, `ArrayIntoIter`
abbrev pub values : List Node → List Node
values xs = filter is_value_node xs

-- `ArrayOfTablesIter`, `ArrayOfTablesIntoIter`
abbrev pub elements : List Node → List Node
elements xs = filter is_table_node xs

-- `get_values`: the keys and the value of each line, of a table and inside an inline table
abbrev pub line_value : Line → List Key × Node
line_value l = (l.keys, l.item)

abbrev pub table_values : List (Slot Node) → List (List Key × Node)
table_values es = map line_value (table_lines plain (slots_from es) [])

abbrev pub inline_values : List (Slot Node) → List (List Key × Node)
inline_values es = map line_value (inside_lines plain (slots_from es) [])
