-- What each kind of edit leaves of a steady tree.
use Rattle.std.specs.Prelude.{◌≡◌, ◌⊎◌, true, false, List, [], ◌∷◌, ◌++◌, Option, Some}
use Rattle.toml_edit_model.specs.Mode.{Mode}
use Rattle.toml_edit_model.specs.Text.{Text, one}
use Rattle.toml_edit_model.specs.Fits.{is_steady_in}
use Rattle.toml_edit_model.specs.HeaderOrder.{Visit}
use Rattle.toml_edit_model.specs.Keys.{names}
use Rattle.toml_edit_model.specs.Rearranging.{is_free, renamed_slot}
use Rattle.toml_edit_model.specs.Slots.{Slot, has_slot}
use Rattle.toml_edit_model.specs.Tree.{Key, Node, nothing, inline, table, tables, Tree, SlotsAreWellMade, IsWellMade, is_value_node, node_decor}
use Rattle.toml_edit_model.specs.Comments.{with_comment_after}
use Rattle.toml_edit_model.specs.Conversions.{with_decor}
use Rattle.toml_edit_model.specs.Lists.{is_dotted_inline, is_dotted_table, on_slots, slots_from, slots_in}
use Rattle.toml_edit_model.specs.Sorting.{sorted_slots}
use Rattle.toml_edit_laws.specs.Locality.{is_plain_value, IsWellMadeSlot}
use Rattle.toml_edit_edit_laws.specs.Commands.{done, item_at, remove_at, root_item, set_at}
use Rattle.toml_edit_edit_laws.specs.CommandLaws.{NamesTable}
use Rattle.toml_edit_edit_laws.specs.Headed.{set_at_with_headers}
use Rattle.toml_edit_edit_laws.specs.Staying.{StaysButAt}
use Rattle.toml_edit_paths.specs.Calls.{item_inside, replaced_at}
use Rattle.toml_edit_paths.specs.Lines.{remove_line_at}
use Rattle.toml_edit_edits.specs.OthersStay.{HasPlace, TakesLines}
use Rattle.toml_edit_edit_laws.specs.Places.{place_of}

-- the item with this comment
abbrev pub IsCommented : Option Text → Node → Node → Type 0
IsCommented b nothing m = ⊥
IsCommented b (tables e xs) m = ⊥
IsCommented b (table f ss) m = m ≡ table (record f { decor = with_comment_after b f.decor }) ss
IsCommented b n m = m ≡ with_decor (with_comment_after b (node_decor n)) n

-- the item with its keys in order
abbrev pub IsSorted : Node → Node → Type 0
IsSorted (table f ss) m = m ≡ table f (slots_from (sorted_slots is_dotted_table ss))
IsSorted (inline f ss) m = m ≡ inline f (slots_from (sorted_slots is_dotted_inline ss))
IsSorted n m = ⊥

module _ (mode : Mode) where
  -- all stays but at the place of the path
  abbrev pub StaysAt : Tree → Tree → List Text → Type 0
  StaysAt t u path = StaysButAt mode (place_of t path ∷ []) t u

  -- which is that of each longer path, too
  abbrev pub StaysWithin : Tree → Tree → List Text → Type 0
  StaysWithin t u path = (more : List Text) → StaysAt t u (path ++ more)

  abbrev pub ValueStays : Type 0
  ValueStays =
      (t u : Tree) (path : List Text) (old m : Node) → SlotsAreWellMade t.slots → is_steady_in mode t ≡ true
      → item_at path t ≡ Some old → is_value_node old ≡ true → (is_dotted_inline old ≡ false → is_plain_value m ≡ true)
      → IsWellMade m → replaced_at path m t ≡ done u → StaysWithin t u path

  abbrev pub SetStays : Type 0
  SetStays =
      (t u : Tree) (path below : List Key) (v : Node) → SlotsAreWellMade t.slots → is_steady_in mode t ≡ true
      → is_plain_value v ≡ true → IsWellMade v → HasPlace mode t path below → set_at path v t ≡ done u
      → StaysAt t u (names path)

  abbrev pub HeaderStays : Type 0
  HeaderStays =
      (t u : Tree) (path : List Key) (v : Node) → SlotsAreWellMade t.slots → is_steady_in mode t ≡ true
      → is_plain_value v ≡ true → IsWellMade v → HasPlace mode t path [] → set_at_with_headers path v t ≡ done u
      → StaysAt t u (names path)

  abbrev pub LineRemovalStays : Type 0
  LineRemovalStays =
      (t u : Tree) (path : List Text) → SlotsAreWellMade t.slots → is_steady_in mode t ≡ true
      → remove_line_at path t ≡ done u → StaysAt t u path

  -- the same with a second path
  abbrev pub StaysAtBoth : Tree → Tree → List Text → List Text → Type 0
  StaysAtBoth t u path other = StaysButAt mode (place_of t path ∷ place_of t other ∷ []) t u

  abbrev pub KeyStays : Type 0
  KeyStays =
      (t u : Tree) (above : List Text) (k name : Text) (n : Node) (es : List (Slot Node)) → SlotsAreWellMade t.slots
      → is_steady_in mode t ≡ true → item_at above t ≡ Some n → slots_in n ≡ Some es
      → has_slot k es ≡ true → is_free k name es ≡ true
      → replaced_at above (on_slots (λ _. renamed_slot k name es) n) t ≡ done u
      → StaysAtBoth t u (above ++ (k ∷ [])) (above ++ (name ∷ []))

  abbrev pub CommentedStays : Type 0
  CommentedStays =
      (t u : Tree) (path : List Text) (n m : Node) (b : Option Text) → SlotsAreWellMade t.slots
      → is_steady_in mode t ≡ true → item_inside path (root_item t) ≡ Some n → IsCommented b n m
      → replaced_at path m t ≡ done u → StaysAt t u path

  abbrev pub SortedStays : Type 0
  SortedStays =
      (t u : Tree) (path : List Text) (n m : Node) → SlotsAreWellMade t.slots → is_steady_in mode t ≡ true
      → item_at path t ≡ Some n → IsSorted n m → replaced_at path m t ≡ done u → StaysAt t u path

  -- a slot with a value comes last in a table or an inline table, and another item goes
  abbrev pub Room : Tree → List Text → Node → Type 0
  Room t target n = (is_value_node n ≡ true) ⊎ ((v : Visit) × NamesTable t target v × TakesLines mode v)

  abbrev pub MovedStays : Type 0
  MovedStays =
      (t w u : Tree) (from target : List Text) (n : Node) (es : List (Slot Node)) (s : Slot Node) → SlotsAreWellMade t.slots
      → is_steady_in mode t ≡ true → item_at target t ≡ Some n → slots_in n ≡ Some es → has_slot s.key.name es ≡ false
      → is_plain_value s.item ≡ true → IsWellMadeSlot s.key s.item → Room t target n
      → replaced_at target (on_slots (λ _. es ++ one s) n) t ≡ done w → remove_at from w ≡ done u
      → StaysAtBoth t u from (target ++ (s.key.name ∷ []))
