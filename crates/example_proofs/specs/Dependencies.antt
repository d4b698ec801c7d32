-- What a text is with one dependency more.
use Rattle.std.specs.Prelude.{◌≡◌, ◌⊎◌, ◌<◌, ℕ, Bool, true, false, List, [], ◌∷◌, Option, Some, None, codes, is_some, length, map, option_and_then, slice_get}
use Rattle.std.specs.Borrow.{Bor}
use Rattle.std.specs.Cmp.Lexicographic.{slice_cmp}
use Rattle.std.specs.Option.{option_map_or}
use Rattle.std.specs.Ordering.{is_lt, nat_cmp}
use Rattle.toml_edit.specs.Edited.{IsEditedText, IsEditedTree, MayBePut}
use Rattle.toml_edit.specs.edits.Commands.{Answer, refused, no_such_path, item_at, set_at}
use Rattle.toml_edit.specs.edits.KeyCalls.{move_at}
use Rattle.toml_edit.specs.edits.PathEdits.{PathCall, answer_and_then, moves, sets}
use Rattle.toml_edit.specs.model.Conversions.{new_array, new_inline}
use Rattle.toml_edit.specs.model.Fits.{Fits}
use Rattle.toml_edit.specs.model.Keys.{names, new_key}
use Rattle.toml_edit.specs.model.Lists.{items_from, slot_list}
use Rattle.toml_edit.specs.model.Slots.{Slot}
use Rattle.toml_edit.specs.model.TableCalls.{get}
use Rattle.toml_edit.specs.model.Text.{Text}
use Rattle.toml_edit.specs.model.Tree.{Key, Node, Tree, inline, list, no_slots, slot}
use Rattle.toml_edit.specs.tree.Containers.{TableView, table_in}
use Rattle.example_proofs.specs.Faults.{Refuses}
use Rattle.example_proofs.specs.Values.{string_node}
use Rattle.example_proofs.specs.declared.error.Fault.{Fault}
use Rattle.example_proofs.specs.declared.error.Fault.TheVariants.{Taken, Missing, Misfit}

-- the strings, each in its default spelling
abbrev pub strings : List (Bor Text) → List Node
strings texts = map (λ text. string_node text.now) texts

-- `{ version = "..", features = [..] }`
abbrev pub dependency : Text → List Node → Node
dependency version features =
    inline new_inline
    (slot (new_key (codes "version")) (string_node version)
    (slot (new_key (codes "features")) (list new_array (items_from features)) no_slots))

-- a key is at the place, and the name comes before it, by their bytes
abbrev pub is_before : Text → List (Slot Node) → ℕ → Bool
is_before name es i =
    option_map_or (λ s. is_lt (slice_cmp nat_cmp name s.key.name)) (slice_get es i) false

-- the place of the first key that the name comes before, or the number of slots
abbrev pub IsSortedPlace : Text → List (Slot Node) → ℕ → Type 0
IsSortedPlace name es at =
    ((j : ℕ) → j < at → is_before name es j ≡ false)
    × ((at ≡ length es) ⊎ (is_before name es at ≡ true))

abbrev pub dependencies_in : Tree → Option TableView
dependencies_in tree = option_and_then table_in (get (codes "dependencies") (slot_list tree.slots))

-- that in the table, if there is one
abbrev pub IsPlaceIn : Text → Tree → Option ℕ → Type 0
IsPlaceIn name tree (Some at) =
    (x : TableView) × (dependencies_in tree ≡ Some x) × IsSortedPlace name (slot_list x.slots) at
IsPlaceIn name tree None = dependencies_in tree ≡ None

abbrev pub path_to : Text → List Key
path_to name = new_key (codes "dependencies") ∷ new_key name ∷ []

-- an item has the name there
abbrev pub has_dependency : Text → Tree → Bool
has_dependency name tree = is_some (item_at (names (path_to name)) tree)

-- the value is put under the name, which is moved to the place
abbrev pub calls : Text → Node → ℕ → List PathCall
calls name value at = sets (path_to name) value ∷ moves (names (path_to name)) at ∷ []

abbrev pub added : Text → Node → ℕ → Tree → Answer Tree
added name value at tree =
    answer_and_then (move_at (names (path_to name)) at) (set_at (path_to name) value tree)

-- So it is in the tree of the text, where the name is new and that place is sorted.
abbrev pub AddsDependency : Text → Text → Node → Text → Type 0
AddsDependency text name value out =
    (tree : Tree) × (at : ℕ) × IsPlaceIn name tree (Some at) × (has_dependency name tree ≡ false)
    × IsEditedText text tree (calls name value at) out

-- The name is there; or the table takes no line; or this is refused.
abbrev pub HindersAt : Text → Node → ℕ → Tree → Fault → Type 0
HindersAt name value at tree Taken = has_dependency name tree ≡ true
HindersAt name value at tree Missing =
    ¬ (MayBePut tree (path_to name)) ⊎ (added name value at tree ≡ refused no_such_path)
HindersAt name value at tree f = Refuses (added name value at tree) tree f

-- So it is at the place, or there is no table; or what the calls leave doesn't fit.
abbrev pub Hinders : Text → Text → Node → Tree → Fault → Type 0
Hinders text name value tree f =
    (IsPlaceIn name tree None × (f ≡ Missing))
    ⊎ ((at : ℕ) × IsPlaceIn name tree (Some at) × (HindersAt name value at tree f
    ⊎ ((f ≡ Misfit) × ((left : Tree) × IsEditedTree text tree (calls name value at) left × ¬ (Fits left)))))
