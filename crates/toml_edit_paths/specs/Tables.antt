-- The item at a path that goes through tables and arrays of tables alone.
use Rattle.std.specs.Prelude.{if◌then◌else◌, is_some, Bool, List, [], ◌∷◌, Option, Some, None}
use Rattle.std.specs.Option.{option_and_then}
use Rattle.toml_edit_model.specs.Text.{Text}
use Rattle.toml_edit_model.specs.Tree.{Node, is_value_node}
use Rattle.toml_edit_edit_laws.specs.Commands.{child}
use Rattle.toml_edit_tree.specs.Containers.{tables_in}

-- the item, and whether it is an element of an array of tables; the `Bool` says that of the item at
-- the empty path
abbrev pub item_through_tables : List Text → Bool → Node → Option (Node × Bool)
item_through_tables [] is_element n = Some (n, is_element)
item_through_tables (k ∷ path) is_element n =
    if is_value_node n then None
    else option_and_then (item_through_tables path (is_some (tables_in n))) (child k n)
