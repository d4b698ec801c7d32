-- The place in the print that a path leads to.
use Rattle.std.specs.Prelude.{ℕ, List, [], ◌∷◌, take, Option, Some, None}
use Rattle.toml_edit_model.specs.Lists.{item_list, slot_list}
use Rattle.toml_edit_model.specs.Paths.{Path, to_element, to_key}
use Rattle.toml_edit_model.specs.Shown.{is_table_node}
use Rattle.toml_edit_model.specs.Slots.{Slot, lookup_slot}
use Rattle.toml_edit_model.specs.Text.{Text}
use Rattle.toml_edit_model.specs.Tree.{Node, Tree, inline, leaf, list, nothing, table, tables}
use Rattle.toml_edit_laws.specs.Locality.{element_count}
use Rattle.toml_edit_edit_laws.specs.Commands.{element_of, root_item}

-- what is found, or a placeholder
abbrev pub item_or : Option (Slot Node) → Node
item_or None = nothing
item_or (Some s) = s.item

abbrev pub element_or : Option (ℕ × Node) → Node
element_or None = nothing
element_or (Some x) = x.1

-- the path of the element of an array of tables, numbered among its tables
abbrev pub element_path : Path → List Node → Option (ℕ × Node) → Path
element_path p ns None = p
element_path p ns (Some x) = to_element p (element_count (take x.0 ns))

-- The place of a path below an item at a place: it goes on through tables and elements of arrays of
-- tables, and ends at the last key of a table on the way. What is in a value has its place.
abbrev pub place_from : Path → List Text → Node → Path
place_from p [] n = p
place_from p (k ∷ path) (table f ss) =
    place_from (to_key p k) path (item_or (lookup_slot k (slot_list ss)))
place_from p (x ∷ []) (tables e xs) = p
place_from p (x ∷ k ∷ path) (tables e xs) =
    place_from (element_path p (item_list xs) (element_of is_table_node x (item_list xs))) (k ∷ path)
    (element_or (element_of is_table_node x (item_list xs)))
place_from p (k ∷ path) (leaf s r d) = p
place_from p (k ∷ path) (list f xs) = p
place_from p (k ∷ path) (inline f ss) = p
place_from p (k ∷ path) nothing = p

-- the place of a path of a tree
abbrev pub place_of : Tree → List Text → Path
place_of t path = place_from [] path (root_item t)
