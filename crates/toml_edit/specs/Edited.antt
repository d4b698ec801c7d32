-- What calls by paths leave of a document that was read: which statements stay, and what is printed.
use Rattle.std.specs.Prelude.{◌≡◌, ◌⊎◌, Bool, true, false, not, ◌&&◌, ◌||◌, if◌then◌else◌, is_none, List, [], ◌∷◌, ◌++◌, flat_map, Option, Some, None, option_map}
use Rattle.std.specs.List.{AllByRecursion}
use Rattle.toml_edit_model.specs.Text.{Text, is_empty}
use Rattle.toml_edit_model.specs.Mode.{plain}
use Rattle.toml_edit_model.specs.Paths.{Path, to_key}
use Rattle.toml_edit_model.specs.Tree.{HasTrueSpelling, IsWellMade, Key, Node, Slots, SlotsAreWellMade, TableFields, Tree, node_decor, table}
use Rattle.toml_edit_model.specs.HeaderOrder.{Visit}
use Rattle.toml_edit_model.specs.Keys.{names}
use Rattle.toml_edit_model.specs.Print.{lines_of, print_in}
use Rattle.toml_edit_model.specs.Fits.{Fits, is_steady_in}
use Rattle.toml_edit_model.specs.Slots.{lookup_slot}
use Rattle.toml_edit_model.specs.Spelling.{SpellsKey}
use Rattle.toml_edit_model.specs.Lists.{slot_list}
use Rattle.toml_edit_laws.specs.Locality.{is_plain_value, has_block}
use Rattle.toml_edit_laws.specs.PrintByVisits.{has_lines}
use Rattle.toml_edit_edit_laws.specs.Commands.{Answer, done, refused, no_such_path, wrong_kind, set_at}
use Rattle.toml_edit_edit_laws.specs.CommandLaws.{NamesTable, is_scalar}
use Rattle.toml_edit_edit_laws.specs.Fitting.{IsSpaced}
use Rattle.toml_edit_edit_laws.specs.HeaderAdds.{OneTableMore, last_table}
use Rattle.toml_edit_edit_laws.specs.Means.{shown_at}
use Rattle.toml_edit_edit_laws.specs.PathEdits.{PathCall, AreDone, all_called, moves, removes, renames, sets}
use Rattle.toml_edit_edit_laws.specs.Staying.{StaysButAt}
use Rattle.toml_edit_paths.specs.Tables.{item_through_tables}
use Rattle.toml_edit.specs.DocumentView.{IsPlain, print_of, tree_owned}
use Rattle.toml_edit.specs.Documents.{IsOwnedReading, MeansWhatIsShown}
use Rattle.toml_edit.specs.declared.document.DocumentMut.{DocumentMut}

-- The last tree is what the calls leave of the text's tree, each done at its places. All statements
-- that are at none of the places, nor below one, are those of the text, in their order.
pub record IsEditedTree (text : Text) (tree : Tree) (calls : List PathCall)
    (left : Tree) : Type 0 where
  pub reading : IsOwnedReading text tree
  pub called : all_called calls tree ≡ done left
  pub places : List (List Path)
  pub done : AreDone calls places tree left
  pub stays : StaysButAt plain (flat_map (λ ps. ps) places) tree left

-- A scalar is set that has white space around it, or nothing; or something is removed.
abbrev pub IsHarmless : PathCall → Type 0
IsHarmless (sets path v) = (is_scalar v ≡ true) × IsSpaced plain (node_decor v)
IsHarmless (removes path) = Unit {0}
IsHarmless (renames path u) = ⊥
IsHarmless (moves path i) = ⊥

-- A document that keeps no line endings was read from the text, as this tree, and has such a tree
-- now. After harmless calls it fits.
pub record IsEditedFrom (text : Text) (tree : Tree) (calls : List PathCall)
    (d : DocumentMut) : Type 0 where
  pub edited : IsEditedTree text tree calls (tree_owned d)
  pub plain : IsPlain d
  pub fits : AllByRecursion IsHarmless calls → Fits (tree_owned d)

-- The text is the print of such a tree, is accepted, and means what the tree shows.
pub record IsEditedText (text : Text) (tree : Tree) (calls : List PathCall)
    (out : Text) : Type 0 where
  pub left : Tree
  pub edited : IsEditedTree text tree calls left
  pub print : out ≡ print_in plain false left
  pub back : MeansWhatIsShown plain false left

-- The print of a document that is so edited, and fits, is such a text.
abbrev pub EditedPrints : Type 0
EditedPrints =
    (text : Text) (tree : Tree) (calls : List PathCall) (d : DocumentMut)
    → IsEditedFrom text tree calls d → Fits (tree_owned d)
    → IsEditedText text tree calls (print_of d)

-- a document so edited is so edited by a call more
abbrev pub EditsBy : PathCall → DocumentMut → DocumentMut → Type 0
EditsBy c d e =
    (text : Text) (tree : Tree) (calls : List PathCall) → IsEditedFrom text tree calls d
    → IsEditedFrom text tree (calls ++ (c ∷ [])) e

-- a value that is no dotted inline table; it is well made, or the tree that it was put into is
abbrev pub IsPlainValue : Node → Tree → Type 0
IsPlainValue v u = (is_plain_value v ≡ true) × (IsWellMade v ⊎ SlotsAreWellMade u.slots)

-- where a value may be put so that one statement changes or is added: such a value is shown there,
-- or the key is new and spells its name, in the root, in a table whose header is printed, or in one
-- that has lines, as a dotted table has
pub data MayBePut (t : Tree) (path : List Key) : Type 0 where
  at_value : (old : Node) → shown_at (names path) t ≡ Some old → is_plain_value old ≡ true
      → MayBePut t path
  in_block : (front : List Key) (k : Key) (w : Visit) → path ≡ front ++ (k ∷ [])
      → HasTrueSpelling (SpellsKey k.name) k.spelling → NamesTable t (names front) w
      → lookup_slot k.name (slot_list w.slots) ≡ None → has_block plain w ≡ true → MayBePut t path
  after_lines : (front : List Key) (k : Key) (w : Visit) → path ≡ front ++ (k ∷ [])
      → HasTrueSpelling (SpellsKey k.name) k.spelling → NamesTable t (names front) w
      → lookup_slot k.name (slot_list w.slots) ≡ None → is_empty (lines_of plain w) ≡ false
      → MayBePut t path

-- Where a key before the last is missing in a table of a steady tree, a value that is no dotted inline
-- table is put into one table more, whose header and line are all that is new in the print.
abbrev pub AddsTable : List Key → Node → Tree → Tree → Type 0
AddsTable path v t u =
    (front : List Key) (w : Visit) (k j : Key) (more : List Key) → path ≡ front ++ (k ∷ j ∷ more)
    → SlotsAreWellMade t.slots → is_steady_in plain t ≡ true → is_plain_value v ≡ true
    → NamesTable t (names front) w → lookup_slot k.name (slot_list w.slots) ≡ None
    → OneTableMore plain t u (to_key w.path k.name) (last_table w.path w.keys k j more v)

-- ---- tests

-- `set_at` where the item at the path is a value, and plain
abbrev pub replaced_where : Option Bool → Answer Tree → Answer Tree
replaced_where None set = refused no_such_path
replaced_where (Some is_plain) set = if is_plain then set else refused wrong_kind

abbrev pub replace_at : List Key → Node → Tree → Answer Tree
replace_at path v t =
    replaced_where (option_map is_plain_value (shown_at (names path) t)) (set_at path v t)

-- whether a line can be added to a table: to the root, after lines, or below a printed header
abbrev pub takes_line : (is_root is_element : Bool) → TableFields → Slots → Bool
takes_line is_root is_element f ss =
    is_root || (has_lines ss || (not f.is_dotted && (is_element || not f.is_implicit)))

-- whether the key is missing there, in a table
abbrev pub takes_key_in : (is_root : Bool) → Text → Option (Node × Bool) → Bool
takes_key_in is_root k (Some (table f ss, is_element)) =
    is_none (lookup_slot k (slot_list ss)) && takes_line is_root is_element f ss
takes_key_in is_root k _ = false

abbrev pub takes_key : Text → List Text → Node → Bool
takes_key k above n = takes_key_in (is_empty above) k (item_through_tables above false n)
