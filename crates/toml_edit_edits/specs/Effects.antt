-- What an edit does to a tree, or why it is refused.
use Rattle.std.specs.Prelude.{◌||◌, ◌==◌, ℕ, nat_le, if◌then◌else◌, List, [], ◌∷◌, length, Option, Some, None, option_map, option_and_then, position, Result, Ok, Err}
use Rattle.std.specs.Option.{ok_or}
use Rattle.toml_edit_model.specs.Comments.{with_comment_after}
use Rattle.toml_edit_model.specs.Conversions.{with_decor}
use Rattle.toml_edit_model.specs.Keys.{names}
use Rattle.toml_edit_model.specs.Lists.{is_dotted_inline, is_dotted_table, item_list, items_from, on_slots, slots_from, slots_in}
use Rattle.toml_edit_model.specs.Rearranging.{renamed_slot}
use Rattle.toml_edit_model.specs.Slots.{Slot}
use Rattle.toml_edit_model.specs.Sorting.{sorted_slots}
use Rattle.toml_edit_model.specs.Text.{Text, hash, is_empty, space}
use Rattle.toml_edit_model.specs.Tree.{Key, Node, nothing, list, inline, table, tables, Tree, node_decor}
use Rattle.toml_edit_edit_laws.specs.Commands.{item_at, number_of, root_item, set_at}
use Rattle.toml_edit_paths.specs.Calls.{item_inside, replaced_at}
use Rattle.toml_edit_edit_laws.specs.Headed.{set_at_with_headers}
use Rattle.toml_edit_paths.specs.Lines.{remove_line_at}
use Rattle.toml_edit_repr.specs.Comments.{may_stand}
use Rattle.toml_edit_slots.specs.Renaming.{renaming}
use Rattle.toml_edit_slots.specs.declared.slots.rearrange.Renamed.{Renamed}
use Rattle.toml_edit_slots.specs.declared.slots.rearrange.Renamed.TheVariants as renames
use Rattle.toml_edit_tree.specs.ArrayLines.{fields_inserted, fields_removed, line_inserted, line_removed}
use Rattle.toml_edit_tree.specs.Casts.{array_in}
use Rattle.toml_edit_tree.specs.Containers.{ArrayView}
use Rattle.toml_edit_edits.specs.Missing.{is_numbered, unled}
use Rattle.toml_edit_edits.specs.Outcomes.{and_then, of_answer}
use Rattle.toml_edit_edits.specs.Same.{same_node}
use Rattle.toml_edit_edits.specs.declared.fault.EditFault.{EditFault}
use Rattle.toml_edit_edits.specs.declared.fault.EditFault.TheVariants.{NoSuchPath, WrongKind, NoSuchElement, Taken, BadComment}

-- ---- values

abbrev pub set : List Key → Node → Tree → Result Tree EditFault
set path v t = of_answer (set_at path v t)

-- no table is made for a key that is a number
abbrev pub headed : List Key → Node → Tree → Result Tree EditFault
headed path v t = if is_numbered (unled path t) then Err NoSuchPath else of_answer (set_at_with_headers path v t)

-- an element of an array goes with its line
abbrev pub removed : List Text → Tree → Result Tree EditFault
removed path t = of_answer (remove_line_at path t)

-- ---- arrays

abbrev pub array_of : Node → Result ArrayView EditFault
array_of n = ok_or (array_in n) WrongKind

abbrev pub array_at : List Text → Tree → Result ArrayView EditFault
array_at path t = and_then array_of (ok_or (item_at path t) NoSuchPath)

abbrev pub values_of : ArrayView → List Node
values_of a = item_list a.items

-- the array with a value at a place, on a line as the others, and without the one there
abbrev pub with_line : ℕ → Node → ArrayView → Node
with_line i v a =
    list (fields_inserted i v a.fields (values_of a))
    (items_from (line_inserted i v a.fields (values_of a)))

abbrev pub without_line : ℕ → ArrayView → Node
without_line i a =
    list (fields_removed i a.fields (values_of a))
    (items_from (line_removed i a.fields (values_of a)))

-- the array at a path, changed
abbrev pub array_set : (ArrayView → Result Node EditFault) → List Key → Tree → Result Tree EditFault
array_set go path t = and_then (λ n. set path n t) (and_then go (array_at (names path) t))

abbrev pub appended : List Key → Node → Tree → Result Tree EditFault
appended path v = array_set (λ a. Ok (with_line (length (values_of a)) v a)) path

-- the number that a text is, up to a count
abbrev pub up_to : ℕ → ℕ → Option ℕ
up_to n i = if nat_le i n then Some i else None

abbrev pub place_up_to : ℕ → Text → Option ℕ
place_up_to n k = option_and_then (up_to n) (number_of k)

-- before the element that the last key names, or at the end
abbrev pub inserted_before : List Key → Text → Node → Tree → Result Tree EditFault
inserted_before path k v =
    array_set (λ a. ok_or (option_map (λ i. with_line i v a) (place_up_to (length (values_of a)) k)) NoSuchPath) path

abbrev pub first_same : Node → List Node → Option ℕ
first_same v xs = position (λ x. same_node x v) xs

-- the first value that is equal goes with its line
abbrev pub taken : List Key → Node → Tree → Result Tree EditFault
taken path v =
    array_set (λ a. ok_or (option_map (λ i. without_line i a) (first_same v (values_of a))) NoSuchElement) path

-- ---- items

-- the item at a path, changed: that of the root too, or one below it
abbrev pub changed_by : (Node → Result Node EditFault) → List Text → Tree → Option Node → Result Tree EditFault
changed_by go path t found =
    and_then (λ m. of_answer (replaced_at path m t)) (and_then go (ok_or found NoSuchPath))

abbrev pub changed_at : (Node → Result Node EditFault) → List Text → Tree → Result Tree EditFault
changed_at go path t = changed_by go path t (item_at path t)

abbrev pub changed_below : (Node → Result Node EditFault) → List Text → Tree → Result Tree EditFault
changed_below go path t = changed_by go path t (item_inside path (root_item t))

-- the slots of a table or an inline table, changed
abbrev pub on_table : (List (Slot Node) → Result (List (Slot Node)) EditFault) → Node → Result Node EditFault
on_table go n = and_then (λ es. Ok (on_slots (λ _. es) n)) (and_then go (ok_or (slots_in n) WrongKind))

-- a slot gets another name, if it is there and no other has that name
abbrev pub told : List (Slot Node) → Renamed → Result (List (Slot Node)) EditFault
told es renames.Done = Ok es
told es renames.Absent = Err NoSuchPath
told es renames.Taken = Err Taken

abbrev pub slots_renamed : Text → Text → List (Slot Node) → Result (List (Slot Node)) EditFault
slots_renamed k u es = told (renamed_slot k u es) (renaming k u es)

abbrev pub renamed : List Text → Text → Text → Tree → Result Tree EditFault
renamed above k u = changed_at (on_table (slots_renamed k u)) above

-- a table or an inline table in the order of the names
abbrev pub in_order : Node → Result Node EditFault
in_order (table f ss) = Ok (table f (slots_from (sorted_slots is_dotted_table ss)))
in_order (inline f ss) = Ok (inline f (slots_from (sorted_slots is_dotted_inline ss)))
in_order n = Err WrongKind

abbrev pub sorted : List Text → Tree → Result Tree EditFault
sorted = changed_at in_order

-- a value, or a table with a header, with this comment after it; an empty text is none
abbrev pub body_of : Text → Option Text
body_of t = if is_empty t then None else Some t

abbrev pub if_may_stand : Text → Node → Result Node EditFault
if_may_stand t n = if may_stand (body_of t) then Ok n else Err BadComment

abbrev pub with_comment : Text → Node → Result Node EditFault
with_comment t nothing = Err WrongKind
with_comment t (tables e xs) = Err WrongKind
with_comment t (table f ss) =
    if f.is_dotted || f.is_implicit then Err WrongKind
    else if_may_stand t (table (record f { decor = with_comment_after (body_of t) f.decor }) ss)
with_comment t n = if_may_stand t (with_decor (with_comment_after (body_of t) (node_decor n)) n)

abbrev pub commented : List Text → Text → Tree → Result Tree EditFault
commented path t = changed_below (with_comment t) path

-- what stands after the `#` of a comment that is asked for by a text, with its `#` or without
abbrev pub comment_text : Text → Text
comment_text [] = []
comment_text (c ∷ t) = if c == hash then t else space ∷ c ∷ t

-- ---- the end of a path

-- a path without its last key, and that key
abbrev pub ended : {A : Type 0} → List A → Option (List A × A)
ended [] = None
ended (k ∷ []) = Some ([], k)
ended (k ∷ l ∷ path) = option_map (λ e. (k ∷ e.0, e.1)) (ended (l ∷ path))

-- so an edit is that of the last key and of what is above it
abbrev pub at_end : {A : Type 0} → (List A → A → Result Tree EditFault) → List A → Result Tree EditFault
at_end go path = and_then (λ e. go e.0 e.1) (ok_or (ended path) NoSuchPath)
