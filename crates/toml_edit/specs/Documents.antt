-- What a text is read as.
use Rattle.std.specs.Prelude.{◌≡◌, Bool, ◌&&◌, true, [], Some, pos}
use Rattle.toml_edit_model.specs.Text.{Text}
use Rattle.toml_edit_model.specs.Version.{Version, v1_1}
use Rattle.toml_edit_model.specs.Accepted.{AcceptedAs, AcceptedIn}
use Rattle.toml_edit_model.specs.Syntax.{Document, IsCut}
use Rattle.toml_edit_model.specs.Fits.{FitsIn, is_steady_in}
use Rattle.toml_edit_model.specs.Meaning.{SameFacts, meaning}
use Rattle.toml_edit_model.specs.Mode.{Mode, plain, is_exact}
use Rattle.toml_edit_model.specs.Normal.{has_open_end, normal_text_in}
use Rattle.toml_edit_model.specs.Print.{print_in, document_in}
use Rattle.toml_edit_model.specs.Shown.{shown_meaning}
use Rattle.toml_edit_model.specs.Tree.{owned, no_slots, Tree, SlotsAreWellMade}
use Rattle.toml_edit_model.specs.TreeOf.{spanned_in, owned_in, IsTreeOf}
use Rattle.toml_edit_model.specs.OwnedForm.{owned_tree}
use Rattle.toml_edit_model.specs.Conversions.{new_table}
use Rattle.toml_edit_error.specs.Report.{Report}
use Rattle.toml_edit_parser.specs.DocumentRead as parser
use Rattle.toml_edit_laws.specs.NormalTexts.{IsNormalForm}
use Rattle.toml_edit_laws.specs.ReadTrees.{HaveCutSpellings}

-- nothing, below a root that is the first of all headers
abbrev pub new_tree : Tree
new_tree = record {
  root = record new_table { position = Some (pos 0) };
  slots = no_slots;
  trailing = owned [];
}

-- the report says why the version refuses the text
abbrev pub IsRefusalIn : Version → Text → Report → Type 0
IsRefusalIn version t r = parser.IsRefusalIn version t r

-- the report says why TOML 1.1 refuses it
abbrev pub IsRefusal : Text → Report → Type 0
IsRefusal t r = IsRefusalIn v1_1 t r

-- What the tree prints is accepted, and means what the tree shows.
pub record MeansWhatIsShown (mode : Mode) (is_open : Bool) (x : Tree) : Type 0 where
  pub accepted : AcceptedAs (print_in mode is_open x) (document_in mode is_open x)
  pub meaning : SameFacts (meaning (document_in mode is_open x)) (shown_meaning x)

-- The tree fits, and what it prints, with an open end or without one, is accepted and means what
-- the document means.
pub record PrintsMeaningOf (mode : Mode) (d : Document) (x : Tree) : Type 0 where
  pub fits : FitsIn mode x
  pub accepted : (is_open : Bool)
      → AcceptedAs (print_in mode is_open x) (document_in mode is_open x)
  pub meaning : (is_open : Bool) → SameFacts (meaning (document_in mode is_open x)) (meaning d)

-- the end of a document is printed open where its line endings are kept and its last statement has
-- none
abbrev pub opens : Mode → Document → Bool
opens mode d = is_exact mode && has_open_end d.statements

module _ (mode : Mode) where
  -- The text has one cut, by which it is accepted, and this is the tree of that cut over the text:
  -- what its spans cut from the text makes the tree with owned texts, which is well made, and the
  -- span of each key and each scalar cuts its spelling. It means what the text means.
  pub record IsReadingWith (t : Text) (x : Tree) : Type 0 where
    pub document : Document
    pub accepted : AcceptedAs t document
    pub only : (other : Document) → IsCut other t → other ≡ document
    pub tree : IsTreeOf (spanned_in mode) document x
    pub owned : IsTreeOf (owned_in mode) document (owned_tree t x)
    pub made : SlotsAreWellMade (owned_tree t x).slots
    pub spellings : HaveCutSpellings t x.slots
    pub meaning : SameFacts (shown_meaning x) (meaning document)

  -- The text is accepted by this cut, and its normal text is accepted, means the same and is
  -- settled. A settled text is its own normal text.
  abbrev pub HasNormalText : Text → Document → Type 0
  HasNormalText t d = AcceptedAs t d × IsNormalForm mode t d

  -- The tree owns its texts and is of this accepted text: it is well made, fits and is steady in
  -- each mode, and prints the normal text, its end open where that of the text is. A version that
  -- accepts the text accepts this print too.
  pub record IsOwnedTreeWith (t : Text) (d : Document) (x : Tree) : Type 0 where
    pub tree : IsTreeOf (owned_in mode) d x
    pub made : SlotsAreWellMade x.slots
    pub fits : (printed : Mode) → FitsIn printed x
    pub steady : (printed : Mode) → is_steady_in printed x ≡ true
    pub prints : print_in mode (opens mode d) x ≡ normal_text_in mode d
    pub normal : HasNormalText t d
    pub stays : (version : Version) → AcceptedIn version t d
        → AcceptedIn version (print_in mode (opens mode d) x) (document_in mode (opens mode d) x)

  -- The text has one cut, by which it is accepted, and this tree, which owns its texts, is of that
  -- cut. It means what the text means.
  pub record IsOwnedReadingWith (t : Text) (x : Tree) : Type 0 where
    pub document : Document
    pub accepted : AcceptedAs t document
    pub only : (other : Document) → IsCut other t → other ≡ document
    pub tree : IsOwnedTreeWith t document x
    pub meaning : SameFacts (shown_meaning x) (meaning document)

-- ---- where line endings are not kept

abbrev pub IsReading : Text → Tree → Type 0
IsReading t x = IsReadingWith plain t x

abbrev pub IsOwnedTreeOf : Text → Document → Tree → Type 0
IsOwnedTreeOf t d x = IsOwnedTreeWith plain t d x

abbrev pub IsOwnedReading : Text → Tree → Type 0
IsOwnedReading t x = IsOwnedReadingWith plain t x

-- ---- in a version of the grammar

-- The version accepts the text, which is read as it is in TOML 1.1, and this is whether its end is
-- to be printed open.
pub record IsReadingIn (mode : Mode) (version : Version) (t : Text) (x : Tree)
    (is_open : Bool) : Type 0 where
  pub reading : IsReadingWith mode t x
  pub accepted : (d : Document) → IsCut d t → AcceptedIn version t d
  pub open_end : is_open ≡ opens mode reading.document

-- It accepts what is printed of the tree too.
pub record IsOwnedReadingIn (mode : Mode) (version : Version) (t : Text) (x : Tree)
    (is_open : Bool) : Type 0 where
  pub reading : IsOwnedReadingWith mode t x
  pub accepted : (d : Document) → IsCut d t → AcceptedIn version t d
  pub open_end : is_open ≡ opens mode reading.document
  pub stays : AcceptedIn version (print_in mode is_open x) (document_in mode is_open x)
