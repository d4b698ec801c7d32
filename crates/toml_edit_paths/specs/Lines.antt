-- Removing the item at a path, where an element of an array goes with its line.
use Rattle.std.specs.Prelude.{ℕ, false, List, [], ◌∷◌, Option, Some, None}
use Rattle.toml_edit_model.specs.Text.{Text}
use Rattle.toml_edit_model.specs.Tree.{ArrayFields, Node, list, Tree, is_value_node}
use Rattle.toml_edit_model.specs.Keys.{new_key}
use Rattle.toml_edit_model.specs.Slots.{Slot, lookup_slot}
use Rattle.toml_edit_model.specs.Lists.{item_list, items_from}
use Rattle.toml_edit_edit_laws.specs.Commands.{Answer, done, refused, no_such_path, mapped, present, element_of, change_slot, child_changed}
use Rattle.toml_edit_edit_laws.specs.Commands.{drop_slot, remove_child, root_item, with_slots}
use Rattle.toml_edit_tree.specs.ArrayLines.{fields_removed, line_removed}

-- the array without the element that is found, and without its line
abbrev pub drop_line : ArrayFields → List Node → Option (ℕ × Node) → Answer Node
drop_line f ns None = refused no_such_path
drop_line f ns (Some x) =
    done (list (fields_removed x.0 f ns) (items_from (line_removed x.0 f ns)))

-- any other item loses what `remove` takes from it
abbrev pub remove_line_child : Text → Node → Answer Node
remove_line_child k (list f xs) =
    drop_line f (item_list xs) (element_of is_value_node k (item_list xs))
remove_line_child k n = remove_child k n

abbrev pub remove_line_below : List Text → Node → Answer Node
remove_line_below [] n = refused no_such_path
remove_line_below (k ∷ []) n = remove_line_child k n
remove_line_below (k ∷ l ∷ path) n = child_changed false (new_key k) (remove_line_below (l ∷ path)) n

-- the tree after it
abbrev pub remove_line_at : List Text → Tree → Answer Tree
remove_line_at path t = mapped (with_slots t) (remove_line_below path (root_item t))

-- the slots of a table after it
abbrev pub slot_without_line : Text → List Text → List (Slot Node) → Answer (List (Slot Node))
slot_without_line k [] ss = drop_slot k ss (present (lookup_slot k ss))
slot_without_line k (l ∷ path) ss =
    change_slot false (new_key k) (remove_line_below (l ∷ path)) ss (lookup_slot k ss)
