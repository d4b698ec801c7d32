-- Calls by paths as edits of a steady tree.
use Rattle.std.specs.Prelude.{◌≡◌, ◌⊎◌, ℕ, true, false, List, [], ◌∷◌, ◌++◌, map, Some, None}
use Rattle.toml_edit_model.specs.Mode.{Mode}
use Rattle.toml_edit_model.specs.Text.{Text, is_empty}
use Rattle.toml_edit_model.specs.Paths.{Path, to_key}
use Rattle.toml_edit_model.specs.Meaning.{SameFacts}
use Rattle.toml_edit_model.specs.Shown.{inside_facts, is_shown, node_facts, shown_meaning}
use Rattle.toml_edit_model.specs.Tree.{Key, TableFields, Node, table, Slots, SlotsAreWellMade, IsWellMade, Tree, is_value_node}
use Rattle.toml_edit_model.specs.HeaderOrder.{Visit, visit_of}
use Rattle.toml_edit_model.specs.Print.{lines_of}
use Rattle.toml_edit_model.specs.Fits.{is_steady_in}
use Rattle.toml_edit_model.specs.Keys.{cleared_key, names}
use Rattle.toml_edit_model.specs.Rearranging.{is_free, moved_slot, renamed_slot}
use Rattle.toml_edit_model.specs.Slots.{Slot, keyed, lookup_slot}
use Rattle.toml_edit_model.specs.Lists.{slot_list}
use Rattle.toml_edit_laws.specs.Locality.{Turn, Leads, root_visit, edited, is_plain_value, has_block}
use Rattle.toml_edit_laws.specs.EditLists.{Edit, replace, add, remove, remove_element, after, Applies}
use Rattle.toml_edit_edit_laws.specs.Commands.{Answer, done, refused, number_of, item_at, set_at, remove_at, remove_child}
use Rattle.toml_edit_edit_laws.specs.KeyCalls.{move_at, rename_at}
use Rattle.toml_edit_edit_laws.specs.CommandLaws.{AreSpelled, Goes, NamesTable, is_listing, made_below}
use Rattle.toml_edit_edit_laws.specs.DottedAdds.{OneLineMore}
use Rattle.toml_edit_edit_laws.specs.Means.{Loses, MeansWith, meant_at, shown_at}
use Rattle.toml_edit_edit_laws.specs.Places.{place_of}
use Rattle.toml_edit_edit_laws.specs.Renaming.{renamed_fact}
use Rattle.toml_edit_edit_laws.specs.Staying.{StaysButAt}

-- ---- calls

-- a call of `set_at`, `remove_at`, `rename_at` or `move_at`
pub data PathCall : Type 0 where
  sets : List Key → Node → PathCall
  removes : List Text → PathCall
  renames : List Text → Text → PathCall
  moves : List Text → ℕ → PathCall

abbrev pub called : PathCall → Tree → Answer Tree
called (sets path v) t = set_at path v t
called (removes path) t = remove_at path t
called (renames path u) t = rename_at path u t
called (moves path i) t = move_at path i t

-- calls one after another, up to the first that refuses
abbrev pub answer_and_then : {A B : Type 0} → (A → Answer B) → Answer A → Answer B
answer_and_then f (done a) = f a
answer_and_then f (refused r) = refused r

abbrev pub all_called : List PathCall → Tree → Answer Tree
all_called [] t = done t
all_called (c ∷ cs) t = answer_and_then (all_called cs) (called c t)

abbrev pub path_of_call : PathCall → List Text
path_of_call (sets path v) = names path
path_of_call (removes path) = path
path_of_call (renames path u) = path
path_of_call (moves path i) = path

-- a path with another last name
abbrev pub with_last : Text → List Text → List Text
with_last u [] = []
with_last u (k ∷ []) = u ∷ []
with_last u (k ∷ l ∷ path) = k ∷ with_last u (l ∷ path)

-- the paths that a call changes: of a renaming also the new one
abbrev pub paths_of_call : PathCall → List (List Text)
paths_of_call (sets path v) = names path ∷ []
paths_of_call (removes path) = path ∷ []
paths_of_call (renames path u) = path ∷ with_last u path ∷ []
paths_of_call (moves path i) = path ∷ []

-- the places of these paths in a tree
abbrev pub places_of_call : PathCall → Tree → List Path
places_of_call c t = map (place_of t) (paths_of_call c)

-- What a removal changes in the meaning. Of a slot, the facts go. Of an element, those of its array
-- become those of what is left, or go with the last one of an array of tables.
pub record RemovalMeans (path : List Text) (t u : Tree) : Type 0 where
  pub slot : (front : List Text) (k : Text) (n : Node) → path ≡ front ++ (k ∷ [])
      → item_at front t ≡ Some n → is_listing n ≡ false → Loses (meant_at t path) t u
  pub element : (front : List Text) (x : Text) (n m : Node) → path ≡ front ++ (x ∷ [])
      → shown_at front t ≡ Some n → is_listing n ≡ true → remove_child x n ≡ done m
      → is_shown m ≡ true
      → MeansWith (meant_at t front) (node_facts m (meant_at t front)) t u
  pub last : (front : List Text) (x : Text) (n m : Node) → path ≡ front ++ (x ∷ [])
      → item_at front t ≡ Some n → is_listing n ≡ true → remove_child x n ≡ done m
      → is_shown m ≡ false → Loses (meant_at t front) t u

-- what a call that is done changes in the meaning
abbrev pub CallMeans : PathCall → Tree → Tree → Type 0
CallMeans (sets path v) t u =
    let p = meant_at t (names path) in MeansWith p (inside_facts v p) t u
CallMeans (removes path) t u = RemovalMeans path t u
CallMeans (renames path name) t u =
    SameFacts (shown_meaning u) (map (renamed_fact (meant_at t path) name) (shown_meaning t))
CallMeans (moves path i) t u = SameFacts (shown_meaning u) (shown_meaning t)

-- each call is done on the tree that those before it left, at its places, and changes its meaning so;
-- the last leaves the second tree
abbrev pub AreDone : List PathCall → List (List Path) → Tree → Tree → Type 0
AreDone [] [] t w = w ≡ t
AreDone (c ∷ cs) (ps ∷ more) t w =
    (u : Tree) × (called c t ≡ done u) × (ps ≡ places_of_call c t) × CallMeans c t u
    × AreDone cs more u w
AreDone _ _ t w = ⊥

-- ---- which edit a call is

-- the path goes the way to a table, and from there to the key, and on inside the item there
abbrev pub GoesTo : List Turn → Text → List Text → List Text → Type 0
GoesTo way k inner path = (front : List Text) × Goes way front × (path ≡ front ++ (k ∷ inner))

-- A value is replaced at the path, or one that the path goes into, and the key stays; or a new key
-- is added, in the spelling that the path has, with inline tables down to the value. What is removed is a
-- slot, an element, or something inside a value. A key that is renamed or moved inside a value
-- leaves another value there.
abbrev pub IsEditAt : PathCall → Edit → Type 0
IsEditAt (sets path v) (replace way k f n) =
    (inner : List Text) × GoesTo way k inner (names path) × ((l : Key) → f l ≡ l)
IsEditAt (sets path v) (add way k n) =
    (front : List Key) × (l : Key) × (inner : List Key) × Goes way (names front)
    × (path ≡ front ++ (l ∷ inner)) × (k ≡ cleared_key l) × (n ≡ made_below inner v)
IsEditAt (removes path) (replace way k f n) =
    (x : Text) × (inner : List Text) × GoesTo way k (x ∷ inner) path × ((l : Key) → f l ≡ l)
IsEditAt (removes path) (remove way k) = GoesTo way k [] path
IsEditAt (removes path) (remove_element way k i) =
    (x : Text) × GoesTo way k (x ∷ []) path × (number_of x ≡ Some i)
IsEditAt (renames path u) (replace way k f n) =
    (x : Text) × (inner : List Text) × GoesTo way k (x ∷ inner) path × ((l : Key) → f l ≡ l)
IsEditAt (moves path i) (replace way k f n) =
    (x : Text) × (inner : List Text) × GoesTo way k (x ∷ inner) path × ((l : Key) → f l ≡ l)
IsEditAt _ _ = ⊥

-- the slot of a table on the walk that a path leads to
pub record SlotAt (t : Tree) (path : List Text) : Type 0 where
  pub way : List Turn
  pub table : Visit
  pub key : Text
  pub slot : Slot Node
  pub goes : GoesTo way key [] path
  pub leads : Leads way (root_visit t) table
  pub there : lookup_slot key (slot_list table.slots) ≡ Some slot

-- it gets a name that is free, or moves to a place
abbrev pub RenamesSlot : Tree → List Text → Text → Tree → Type 0
RenamesSlot t path name u =
    (s : SlotAt t path) × (is_free s.key name (slot_list s.table.slots) ≡ true)
    × (u ≡ edited s.way (renamed_slot s.key name) t)

abbrev pub MovesSlot : Tree → List Text → ℕ → Tree → Type 0
MovesSlot t path i u = (s : SlotAt t path) × (u ≡ edited s.way (moved_slot s.key i) t)

module _ (mode : Mode) where
  -- The call is an edit of the first tree, and leaves the second: all statements stay but those at
  -- the place of its path, and below it.
  pub record IsEdit (c : PathCall) (t u : Tree) : Type 0 where
    pub edit : Edit
    pub at : IsEditAt c edit
    pub applies : Applies mode edit t
    pub leaves : u ≡ after edit t
    pub stays : StaysButAt mode (place_of t (path_of_call c) ∷ []) t u

  -- `set_at` at a value, or inside one.
  abbrev pub SetReplaces : Type 0
  SetReplaces =
      (t u : Tree) (path : List Key) (v old : Node) → SlotsAreWellMade t.slots
      → is_steady_in mode t ≡ true → IsWellMade v → is_plain_value v ≡ true
      → item_at (names path) t ≡ Some old → is_value_node old ≡ true
      → set_at path v t ≡ done u → IsEdit (sets path v) t u

  -- `set_at` at a new key of the root, or of a table whose header is printed, or below one.
  abbrev pub SetAddsUnder : Type 0
  SetAddsUnder =
      (t u : Tree) (path : List Key) (w : Visit) (k : Key) (more : List Key) (v : Node)
      → SlotsAreWellMade t.slots → is_steady_in mode t ≡ true → IsWellMade v
      → is_plain_value v ≡ true → AreSpelled (k ∷ more) → NamesTable t (names path) w
      → lookup_slot k.name (slot_list w.slots) ≡ None → has_block mode w ≡ true
      → set_at (path ++ (k ∷ more)) v t ≡ done u → IsEdit (sets (path ++ (k ∷ more)) v) t u

  -- `remove_at`, whatever is removed.
  abbrev pub RemoveEdits : Type 0
  RemoveEdits =
      (t u : Tree) (path : List Text) → SlotsAreWellMade t.slots → is_steady_in mode t ≡ true
      → remove_at path t ≡ done u → IsEdit (removes path) t u

  -- `set_at` at a new key of a table that has lines, as a dotted table has: the value is added after
  -- them.
  abbrev pub SetAddsAfterLines : Type 0
  SetAddsAfterLines =
      (t u : Tree) (path : List Key) (w : Visit) (k : Key) (more : List Key) (v : Node)
      → SlotsAreWellMade t.slots → is_steady_in mode t ≡ true → IsWellMade v
      → is_plain_value v ≡ true → AreSpelled (k ∷ more) → NamesTable t (names path) w
      → lookup_slot k.name (slot_list w.slots) ≡ None → is_empty (lines_of mode w) ≡ false
      → set_at (path ++ (k ∷ more)) v t ≡ done u
      → OneLineMore mode t u w (cleared_key k) (made_below more v)
      × StaysButAt mode (places_of_call (sets (path ++ (k ∷ more)) v) t) t u

  -- ---- keys

  -- `rename_at` and `move_at`: of a slot, as the laws about names and places have it, or inside a
  -- value. All statements stay but those at the places of the call, and below them.
  abbrev pub RenameEdits : Type 0
  RenameEdits =
      (t u : Tree) (path : List Text) (name : Text) → SlotsAreWellMade t.slots
      → is_steady_in mode t ≡ true → rename_at path name t ≡ done u
      → (RenamesSlot t path name u ⊎ IsEdit (renames path name) t u)
      × StaysButAt mode (places_of_call (renames path name) t) t u

  abbrev pub MoveEdits : Type 0
  MoveEdits =
      (t u : Tree) (path : List Text) (i : ℕ) → SlotsAreWellMade t.slots
      → is_steady_in mode t ≡ true → move_at path i t ≡ done u
      → (MovesSlot t path i u ⊎ IsEdit (moves path i) t u)
      × StaysButAt mode (places_of_call (moves path i) t) t u

-- A call after others is one more of them.
abbrev pub OneCallMore : Type 0
OneCallMore =
    (cs : List PathCall) (more : List (List Path)) (t u w : Tree) (c : PathCall) (ps : List Path)
    → AreDone cs more t u → called c u ≡ done w → ps ≡ places_of_call c u → CallMeans c u w
    → AreDone (cs ++ (c ∷ [])) (more ++ (ps ∷ [])) t w

-- ---- tables by their paths

-- The empty path names the root, and a key more names the table that is under it.
abbrev pub RootIsNamed : Type 0
RootIsNamed = (t : Tree) → NamesTable t [] (root_visit t)

abbrev pub TablesAreNamed : Type 0
TablesAreNamed =
    (t : Tree) (path : List Text) (v : Visit) (k : Text) (l : Key) (f : TableFields) (ss : Slots)
    → NamesTable t path v → lookup_slot k (slot_list v.slots) ≡ Some (keyed l (table f ss))
    → NamesTable t (path ++ (k ∷ [])) (visit_of (to_key v.path l.name) (v.keys ++ (l ∷ [])) false f ss)
