-- What calls leave of the printed statements, one after another.
use Rattle.std.specs.Prelude.{◌≡◌, ℕ, Bool, true, false, not, List, [], ◌∷◌, ◌++◌, filter, Some, None}
use Rattle.toml_edit_model.specs.Mode.{Mode}
use Rattle.toml_edit_model.specs.Text.{Text, is_empty, one}
use Rattle.toml_edit_model.specs.Paths.{Path, to_key}
use Rattle.toml_edit_model.specs.Tree.{Decor, Key, Node, SlotsAreWellMade, Tree, is_value_node}
use Rattle.toml_edit_model.specs.HeaderOrder.{Visit}
use Rattle.toml_edit_model.specs.Print.{lines_of, Printed, printed, print_in}
use Rattle.toml_edit_model.specs.Fits.{is_steady_in}
use Rattle.toml_edit_model.specs.Conversions.{with_decor}
use Rattle.toml_edit_model.specs.Slots.{Slot, keyed, lookup_slot, changed}
use Rattle.toml_edit_model.specs.Lists.{slot_list}
use Rattle.toml_edit_model.specs.Rearranging.{inserted_slot, moved_slot, renamed_slot, is_free}
use Rattle.toml_edit_laws.specs.Locality.{Turn, Leads, root_visit, edited, is_plain_value, is_at_or_below, has_block, StaysSteady, IsWellMadeSlot}
use Rattle.toml_edit_laws.specs.EditLists.{Edit, after, Applies, named_path, print_of_statements}

-- the statements at none of these paths, nor below one
abbrev pub away_from : List Path → List Printed → List Printed
away_from [] ss = ss
away_from (p ∷ ps) ss = away_from ps (filter (λ s. not (is_at_or_below p s.path)) ss)

module _ (mode : Mode) where
  -- The statements at none of these paths, nor below one, stay as they were, in their order, and so
  -- does what is printed before and after all. The second tree is steady and well made.
  pub record StaysButAt (ps : List Path) (t u : Tree) : Type 0 where
    pub others : away_from ps (printed mode u) ≡ away_from ps (printed mode t)
    pub text : (is_open : Bool)
        → print_in mode is_open u ≡ print_of_statements mode is_open t (printed mode u)
    pub steady : StaysSteady mode t u
    pub made : SlotsAreWellMade u.slots

  abbrev pub NothingChanges : Type 0
  NothingChanges =
      (t : Tree) → SlotsAreWellMade t.slots → is_steady_in mode t ≡ true → StaysButAt [] t t

  -- Calls after calls.
  abbrev pub OneAfterAnother : Type 0
  OneAfterAnother =
      (ps qs : List Path) (t u w : Tree) → StaysButAt ps t u → StaysButAt qs u w
      → StaysButAt (ps ++ qs) t w

  -- ---- each call

  abbrev pub EditStays : Type 0
  EditStays =
      (e : Edit) (t : Tree) → SlotsAreWellMade t.slots → is_steady_in mode t ≡ true
      → (a : Applies mode e t) → StaysButAt (named_path mode e t a ∷ []) t (after e t)

  abbrev pub AfterLinesStays : Type 0
  AfterLinesStays =
      (t : Tree) (way : List Turn) (v : Visit) (k : Key) (n : Node)
      → SlotsAreWellMade t.slots → is_steady_in mode t ≡ true → Leads way (root_visit t) v
      → lookup_slot k.name (slot_list v.slots) ≡ None → is_plain_value n ≡ true
      → IsWellMadeSlot k n → is_empty (lines_of mode v) ≡ false
      → StaysButAt (to_key v.path k.name ∷ []) t (edited way (λ ss. ss ++ one (keyed k n)) t)

  abbrev pub RenamingStays : Type 0
  RenamingStays =
      (t : Tree) (way : List Turn) (v : Visit) (k u : Text) (s : Slot Node)
      → SlotsAreWellMade t.slots → is_steady_in mode t ≡ true → Leads way (root_visit t) v
      → lookup_slot k (slot_list v.slots) ≡ Some s → is_free k u (slot_list v.slots) ≡ true
      → StaysButAt (to_key v.path s.key.name ∷ to_key v.path u ∷ []) t
      (edited way (renamed_slot k u) t)

  abbrev pub InsertionStays : Type 0
  InsertionStays =
      (t : Tree) (way : List Turn) (v : Visit) (i : ℕ) (k : Key) (n : Node)
      → SlotsAreWellMade t.slots → is_steady_in mode t ≡ true → Leads way (root_visit t) v
      → lookup_slot k.name (slot_list v.slots) ≡ None → is_plain_value n ≡ true
      → has_block mode v ≡ true → IsWellMadeSlot k n
      → StaysButAt (to_key v.path k.name ∷ []) t (edited way (inserted_slot i (keyed k n)) t)

  abbrev pub MoveStays : Type 0
  MoveStays =
      (t : Tree) (way : List Turn) (v : Visit) (k : Text) (i : ℕ) (s : Slot Node)
      → SlotsAreWellMade t.slots → is_steady_in mode t ≡ true → Leads way (root_visit t) v
      → lookup_slot k (slot_list v.slots) ≡ Some s
      → StaysButAt (to_key v.path s.key.name ∷ []) t (edited way (moved_slot k i) t)

  abbrev pub CommentStays : Type 0
  CommentStays =
      (t : Tree) (way : List Turn) (v : Visit) (k : Text) (h : Slot Node → Slot Node)
      (s : Slot Node) (d : Decor)
      → SlotsAreWellMade t.slots → is_steady_in mode t ≡ true → Leads way (root_visit t) v
      → lookup_slot k (slot_list v.slots) ≡ Some s → is_value_node s.item ≡ true
      → (h s).key.name ≡ s.key.name → (h s).key.spelling ≡ s.key.spelling
      → (h s).item ≡ with_decor d s.item
      → StaysButAt (to_key v.path s.key.name ∷ []) t (edited way (changed k h) t)
