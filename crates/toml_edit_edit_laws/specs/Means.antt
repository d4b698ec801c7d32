-- What calls by paths leave to be found, and what they change in the meaning of a tree.
use Rattle.std.specs.Prelude.{◌≡◌, ◌⊎◌, ℕ, Bool, true, false, not, ◌&&◌, ◌||◌, if◌then◌else◌, List, [], ◌∷◌, ◌++◌, length, map, take, filter, Contains, IsPermutation, Option, Some, None}
use Rattle.toml_edit_model.specs.Mode.{Mode}
use Rattle.toml_edit_model.specs.Text.{Text, is_empty}
use Rattle.toml_edit_model.specs.Paths.{Step, at_key, at_element, Path}
use Rattle.toml_edit_model.specs.Meaning.{Fact, a_table, SameFacts}
use Rattle.toml_edit_model.specs.Tree.{Key, Node, nothing, list, inline, table, tables, Slots, SlotsAreWellMade, IsWellMade, Tree, node_decor, is_value_node}
use Rattle.toml_edit_model.specs.Shown.{is_table_node, is_shown, inside_facts, node_facts, shown_meaning}
use Rattle.toml_edit_model.specs.Conversions.{with_decor}
use Rattle.toml_edit_model.specs.Keys.{names}
use Rattle.toml_edit_model.specs.Lists.{is_tables_node, item_list, slot_list}
use Rattle.toml_edit_model.specs.Slots.{Slot}
use Rattle.toml_edit_model.specs.Sorting.{IsDeepReorder, IsSortOf, Reorders, sorted_slots}
use Rattle.toml_edit_model.specs.HeaderOrder.{Visit}
use Rattle.toml_edit_model.specs.Print.{lines_of}
use Rattle.toml_edit_model.specs.Fits.{is_below}
use Rattle.toml_edit_laws.specs.Locality.{has_block, is_at_or_below, is_plain_value}
use Rattle.toml_edit_edit_laws.specs.Commands.{done, and_then, child, element_of, item_at, remove_at, remove_child, replaced_at}
use Rattle.toml_edit_edit_laws.specs.Commands.{root_item, set_at}
use Rattle.toml_edit_edit_laws.specs.KeyCalls.{move_at, rename_at}
use Rattle.toml_edit_edit_laws.specs.CommandLaws.{AreSpelled, NamesTable, is_listing, made_below}
use Rattle.toml_edit_edit_laws.specs.Renaming.{renamed_fact}

-- ---- what is found

-- a value in the place of what was there, whose decor it gets
abbrev pub in_place_of : Option Node → Node → Node
in_place_of None v = v
in_place_of (Some old) v = with_decor (node_decor old) v

-- After `set_at`, the value is at its path.
abbrev pub ItemAfterSet : Type 0
ItemAfterSet =
    (t u : Tree) (path : List Key) (v : Node) → is_value_node v ≡ true → set_at path v t ≡ done u
    → item_at (names path) u ≡ Some (in_place_of (item_at (names path) t) v)

-- The tree stays well made, if the keys that may be made are.
abbrev pub WellMadeAfterSet : Type 0
WellMadeAfterSet =
    (t u : Tree) (path : List Key) (v : Node) → SlotsAreWellMade t.slots → IsWellMade v
    → AreSpelled path → set_at path v t ≡ done u → SlotsAreWellMade u.slots

-- ---- where facts are

-- the step to an element that a text names, numbered among those that pass the test; to a key where
-- there is none
abbrev pub element_step : (Node → Bool) → Text → List Node → Option (ℕ × Node) → Step
element_step is k ns None = at_key k
element_step is k ns (Some x) = at_element (length (filter is (take x.0 ns)))

abbrev pub step_to : Text → Node → Step
step_to k (list f xs) =
    element_step is_value_node k (item_list xs) (element_of is_value_node k (item_list xs))
step_to k (tables e xs) =
    element_step is_table_node k (item_list xs) (element_of is_table_node k (item_list xs))
step_to k _ = at_key k

abbrev pub or_nothing : Option Node → Node
or_nothing None = nothing
or_nothing (Some n) = n

-- The path of the facts of what a path leads to, below an item at a path. It goes on inside values,
-- where elements are numbered as facts number them, and by keys below what is missing.
abbrev pub meant_from : Path → List Text → Node → Path
meant_from p [] n = p
meant_from p (k ∷ path) n = meant_from (p ++ (step_to k n ∷ [])) path (or_nothing (child k n))

abbrev pub meant_at : Tree → List Text → Path
meant_at t path = meant_from [] path (root_item t)

-- some fact is of the path, or of one below it, so what is there is shown
abbrev pub IsMeant : Tree → Path → Type 0
IsMeant t p = (f : Fact) × Contains (shown_meaning t) f × (is_at_or_below p f.path ≡ true)

-- A table that the walk enters has its facts at its own path.
abbrev pub NamedPath : Type 0
NamedPath =
    (t : Tree) (path : List Text) (v : Visit) → SlotsAreWellMade t.slots → NamesTable t path v
    → meant_at t path ≡ v.path

-- It is shown if its header is printed, or a line of it.
abbrev pub PrintedIsMeant : Type 0
PrintedIsMeant =
    (mode : Mode) (t : Tree) (path : List Text) (v : Visit) → SlotsAreWellMade t.slots
    → NamesTable t path v → (has_block mode v ≡ true) ⊎ (is_empty (lines_of mode v) ≡ false)
    → IsMeant t (meant_at t path)

-- The item at a path, but none of an array of tables that is inside a value, as it is never shown.
abbrev pub shown_below : (in_value : Bool) → List Text → Node → Option Node
shown_below in_value [] n = if is_tables_node n && in_value then None else Some n
shown_below in_value (k ∷ path) n =
    if is_tables_node n && in_value then None
    else and_then (shown_below (is_value_node n || in_value) path) (child k n)

abbrev pub shown_at : List Text → Tree → Option Node
shown_at path t = shown_below false path (root_item t)

-- A value that is so found is shown, except for a dotted inline table.
abbrev pub ValueIsMeant : Type 0
ValueIsMeant =
    (t : Tree) (path : List Text) (n : Node) → SlotsAreWellMade t.slots
    → shown_at path t ≡ Some n → is_plain_value n ≡ true → IsMeant t (meant_at t path)

-- What holds something that is shown is shown.
abbrev pub HolderIsMeant : Type 0
HolderIsMeant =
    (t : Tree) (path more : List Text) → IsMeant t (meant_at t (path ++ more))
    → IsMeant t (meant_at t path)

-- the facts that are neither of the path nor of one below it
abbrev pub facts_outside : Path → List Fact → List Fact
facts_outside p fs = filter (λ f. not (is_at_or_below p f.path)) fs

-- Where a path leads to nothing, no fact is at its path or below it.
abbrev pub AbsentMeans : Type 0
AbsentMeans =
    (t : Tree) (path : List Text) → SlotsAreWellMade t.slots → item_at path t ≡ None
    → facts_outside (meant_at t path) (shown_meaning t) ≡ shown_meaning t

-- The facts at the path and below it are these, and all others are as they were.
abbrev pub MeansWith : Path → List Fact → Tree → Tree → Type 0
MeansWith p gs t u = SameFacts (shown_meaning u) (facts_outside p (shown_meaning t) ++ gs)

-- ---- what is set

-- A value is set at a key or an element of an item that is shown: its facts are all that is there.
abbrev pub SetMeans : Type 0
SetMeans =
    (t u : Tree) (path : List Key) (k : Key) (v : Node) → SlotsAreWellMade t.slots
    → IsMeant t (meant_at t (names path)) → is_plain_value v ≡ true
    → set_at (path ++ (k ∷ [])) v t ≡ done u
    → let p = meant_at t (names (path ++ (k ∷ []))) in MeansWith p (inside_facts v p) t u

-- A value is set at a new key of an item that is shown, or below such a key: the facts of the
-- inline tables down to it are added.
abbrev pub AddMeans : Type 0
AddMeans =
    (t u : Tree) (path : List Key) (k : Key) (more : List Key) (v : Node)
    → SlotsAreWellMade t.slots → IsMeant t (meant_at t (names path))
    → item_at (names (path ++ (k ∷ []))) t ≡ None → is_plain_value v ≡ true
    → set_at (path ++ (k ∷ more)) v t ≡ done u
    → let p = meant_at t (names (path ++ (k ∷ []))) in
    SameFacts (shown_meaning u) (shown_meaning t ++ inside_facts (made_below more v) p)

-- ---- what is renamed or moved

-- The facts at the path of a key that gets another name, or below it, have that name.
abbrev pub RenameMeans : Type 0
RenameMeans =
    (t u : Tree) (path : List Text) (name : Text) → SlotsAreWellMade t.slots
    → rename_at path name t ≡ done u
    → SameFacts (shown_meaning u) (map (renamed_fact (meant_at t path) name) (shown_meaning t))

-- A key that moves leaves the meaning.
abbrev pub MoveMeans : Type 0
MoveMeans =
    (t u : Tree) (path : List Text) (i : ℕ) → SlotsAreWellMade t.slots → move_at path i t ≡ done u
    → SameFacts (shown_meaning u) (shown_meaning t)

-- ---- what is removed

-- a table at a path that the path goes on from
abbrev pub IsTableAbove : Path → Fact → Type 0
IsTableAbove p f = (f.kind ≡ a_table) × (is_below f.path p ≡ true)

-- The facts at the path and below it are gone, and no others but those of tables above it that
-- nothing is left in.
pub record Loses (p : Path) (t u : Tree) : Type 0 where
  pub were : (f : Fact) → Contains (shown_meaning u) f
      → Contains (facts_outside p (shown_meaning t)) f
  pub stay : (f : Fact) → Contains (facts_outside p (shown_meaning t)) f
      → Contains (shown_meaning u) f
      ⊎ (IsTableAbove p f × (facts_outside f.path (shown_meaning u) ≡ shown_meaning u))

-- A slot of a table or of an inline table is removed.
abbrev pub RemoveMeans : Type 0
RemoveMeans =
    (t u : Tree) (path : List Text) (n : Node) (k : Text) → SlotsAreWellMade t.slots
    → item_at path t ≡ Some n → is_listing n ≡ false → remove_at (path ++ (k ∷ [])) t ≡ done u
    → Loses (meant_at t (path ++ (k ∷ []))) t u

-- No other facts are gone where what held it is still shown.
abbrev pub RemoveKeepsRest : Type 0
RemoveKeepsRest =
    (t u : Tree) (path : List Text) (n : Node) (k : Text) → SlotsAreWellMade t.slots
    → item_at path t ≡ Some n → is_listing n ≡ false → remove_at (path ++ (k ∷ [])) t ≡ done u
    → IsMeant u (meant_at t path)
    → SameFacts (shown_meaning u) (facts_outside (meant_at t (path ++ (k ∷ []))) (shown_meaning t))

-- An element is removed of an array or of an array of tables that is shown. Later elements get other
-- numbers, so all facts of the array are those of what is left.
abbrev pub RemoveElementMeans : Type 0
RemoveElementMeans =
    (t u : Tree) (path : List Text) (n m : Node) (x : Text) → SlotsAreWellMade t.slots
    → item_at path t ≡ Some n → is_listing n ≡ true → IsMeant t (meant_at t path)
    → remove_child x n ≡ done m → is_shown m ≡ true → remove_at (path ++ (x ∷ [])) t ≡ done u
    → let p = meant_at t path in MeansWith p (node_facts m p) t u

-- The last one of an array of tables is removed, so the array is gone.
abbrev pub RemoveLastMeans : Type 0
RemoveLastMeans =
    (t u : Tree) (path : List Text) (n m : Node) (x : Text) → SlotsAreWellMade t.slots
    → item_at path t ≡ Some n → is_listing n ≡ true → remove_child x n ≡ done m
    → is_shown m ≡ false → remove_at (path ++ (x ∷ [])) t ≡ done u → Loses (meant_at t path) t u

-- ---- what is put in another order

-- a table or an inline table whose slots R took to others, and so on in tables inside that are
-- entered
abbrev pub IsReordered : (Node → Bool) → (List (Slot Node) → List (Slot Node) → Type 0) → Node → Node
    → Type 0
IsReordered enters R (table f ss) m =
    (us : Slots) × (m ≡ table f us) × Reorders enters R (slot_list ss) (slot_list us)
IsReordered enters R (inline f ss) m =
    (us : Slots) × (m ≡ inline f us) × Reorders enters R (slot_list ss) (slot_list us)
IsReordered enters R _ m = ⊥

-- The meaning stays where the slots of an item are in another order.
abbrev pub OrderMeans : (List (Slot Node) → List (Slot Node) → Type 0) → Type 0
OrderMeans R =
    (t u : Tree) (path : List Text) (enters : Node → Bool) (n m : Node) → SlotsAreWellMade t.slots
    → item_at path t ≡ Some n → IsReordered enters R n m → replaced_at path m t ≡ done u
    → SameFacts (shown_meaning u) (shown_meaning t)

abbrev pub ReorderMeans : Type 0
ReorderMeans = OrderMeans IsPermutation

abbrev pub SortMeans : Type 0
SortMeans = (lt : Slot Node → Slot Node → Bool) → OrderMeans (IsSortOf lt)

-- The sort by names leaves such an order.
abbrev pub SortedReorders : Type 0
SortedReorders =
    (enters : Node → Bool) (ss : Slots)
    → IsDeepReorder enters (slot_list ss) (sorted_slots enters ss)
