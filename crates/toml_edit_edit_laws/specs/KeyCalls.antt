-- What renaming and moving the last key of a path do to a tree.
use Rattle.std.specs.Prelude.{ℕ, false, if◌then◌else◌, List, [], ◌∷◌, Option, Some, None}
use Rattle.toml_edit_model.specs.Text.{Text}
use Rattle.toml_edit_model.specs.Tree.{Node, nothing, leaf, list, inline, table, tables, Tree}
use Rattle.toml_edit_model.specs.Keys.{new_key}
use Rattle.toml_edit_model.specs.Slots.{Slot, lookup_slot}
use Rattle.toml_edit_model.specs.Lists.{slot_list, slots_from}
use Rattle.toml_edit_model.specs.Rearranging.{is_free, moved_slot, renamed_slot}
use Rattle.toml_edit_edit_laws.specs.Commands.{Answer, done, refused, no_such_path, taken, mapped, present, child_changed, root_item, with_slots}

-- a change of slots that is made where a key leads to an item
abbrev pub where_present : Option Node → Answer (List (Slot Node)) → Answer (List (Slot Node))
where_present None a = refused no_such_path
where_present (Some n) a = a

-- the key gets the name u, unless another slot has it
abbrev pub renamed_where : Text → Text → List (Slot Node) → Answer (List (Slot Node))
renamed_where u k ss =
    where_present (present (lookup_slot k ss))
    (if is_free k u ss then done (renamed_slot k u ss) else refused taken)

-- its slot moves to a place among the others, or to the end if there are fewer
abbrev pub moved_where : ℕ → Text → List (Slot Node) → Answer (List (Slot Node))
moved_where i k ss = where_present (present (lookup_slot k ss)) (done (moved_slot k i ss))

-- A change of the slots of a table or an inline table. Other items have no keys.
abbrev pub slots_changed : (List (Slot Node) → Answer (List (Slot Node))) → Node → Answer Node
slots_changed g (table f ss) = mapped (λ xs. table f (slots_from xs)) (g (slot_list ss))
slots_changed g (inline f ss) = mapped (λ xs. inline f (slots_from xs)) (g (slot_list ss))
slots_changed g (list f xs) = refused no_such_path
slots_changed g (tables e xs) = refused no_such_path
slots_changed g (leaf s r d) = refused no_such_path
slots_changed g nothing = refused no_such_path

-- a change of the slots among which the last key of a path is
abbrev pub key_changed : (Text → List (Slot Node) → Answer (List (Slot Node))) → List Text → Node
    → Answer Node
key_changed g [] n = refused no_such_path
key_changed g (k ∷ []) n = slots_changed (g k) n
key_changed g (k ∷ l ∷ path) n = child_changed false (new_key k) (key_changed g (l ∷ path)) n

-- the tree after `rename` of the last key to u, and after `move_to`
abbrev pub rename_at : List Text → Text → Tree → Answer Tree
rename_at path u t = mapped (with_slots t) (key_changed (renamed_where u) path (root_item t))

abbrev pub move_at : List Text → ℕ → Tree → Answer Tree
move_at path i t = mapped (with_slots t) (key_changed (moved_where i) path (root_item t))
