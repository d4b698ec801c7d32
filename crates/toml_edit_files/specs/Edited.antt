-- What `edit` writes in place of a text.
use Rattle.std.specs.Prelude.{◌≡◌, ◌≢◌, nat_eq, Bool, not, ◌&&◌, ◌⊎◌, if◌then◌else◌, IsTrue, List, [], ◌++◌, drop, Option, Some, None, Ok}
use Rattle.std.specs.List.{starts_with}
use Rattle.toml_edit_model.specs.Accepted.{AcceptedIn}
use Rattle.toml_edit_model.specs.Fits.{FitsIn}
use Rattle.toml_edit_model.specs.Mode.{Mode, plain, exact}
use Rattle.toml_edit_model.specs.Normal.{normal_text_in}
use Rattle.toml_edit_model.specs.Print.{print_in}
use Rattle.toml_edit_model.specs.Syntax.{Document}
use Rattle.toml_edit_model.specs.Text.{Text, byte_order_mark}
use Rattle.toml_edit_model.specs.Tree.{Tree}
use Rattle.toml_edit_model.specs.Version.{Version, v1_0, v1_1}
use Rattle.toml_edit.specs.DocumentView.{mode_owned, open_owned, print_of, tree_owned}
use Rattle.toml_edit.specs.Documents.{IsOwnedReadingIn, MeansWhatIsShown}
use Rattle.toml_edit.specs.declared.document.DocumentMut.{DocumentMut}
use Rattle.file_replace.specs.Events.{Event}
use Rattle.toml_edit_files.specs.Folders.{IsTextOf}
use Rattle.toml_edit_files.specs.Refusals.{SaysRefused}
use Rattle.toml_edit_files.specs.Stops.{StopsSaying}
use Rattle.toml_edit_edits.specs.Lists.{applied}
use Rattle.toml_edit_edits.specs.declared.edit.Edit.{Edit}
use Rattle.toml_edit_files.specs.declared.stop.Reason.{Reason}
use Rattle.toml_edit_files.specs.declared.stop.Reason.TheVariants.{No, Mistaken, Failed, Refused, Locked}
use Rattle.toml_edit_files.specs.declared.stop.Stop.{Stop}
use Rattle.toml_edit_files.specs.declared.words.Reading.{Reading}

-- ---- how a text is read

abbrev pub mode_by : Reading → Mode
mode_by reading = if reading.normal then plain else exact

abbrev pub version_by : Reading → Version
version_by reading = if reading.strict then v1_0 else v1_1

-- the tree of a text, and whether its end is open
abbrev pub IsRead : Reading → Text → Tree → Bool → Type 0
IsRead reading t x is_open =
    IsOwnedReadingIn (mode_by reading) (version_by reading) t x is_open

-- the tree of the text of a file
abbrev pub IsReadFrom : Reading → Text → Option (List Event) → Option (List Event) → Option Text
    → Tree → Type 0
IsReadFrom reading name old new left x =
    (t : Text) × (is_open : Bool) × IsTextOf name old new left t × IsRead reading t x is_open

abbrev pub IsAccepted : Version → Text → Type 0
IsAccepted version t = (d : Document) × AcceptedIn version t d

-- ---- the byte order mark

abbrev pub has_mark : Text → Bool
has_mark t = starts_with nat_eq t byte_order_mark

-- the mark that stays of a text, and the text without its mark
abbrev pub mark_of : Bool → Text → Text
mark_of normal t = if has_mark t && not normal then byte_order_mark else []

abbrev pub unmarked : Text → Text
unmarked t = if has_mark t then drop 3 t else t

-- ---- what edits leave

-- The edits leave a tree of this tree. It fits, so its print is accepted, also by the version that
-- is asked for, and means what it shows. The text is this print, behind the mark of the text before.
pub record IsLeft (reading : Reading) (edits : List Edit) (x : Tree) (is_open : Bool)
    (before s : Text) : Type 0 where
  pub left : Tree
  pub applied : applied edits x ≡ Ok left
  pub fits : FitsIn (mode_by reading) left
  pub back : ∥ MeansWhatIsShown (mode_by reading) is_open left ∥₁
  pub version : IsTrue reading.strict
      → IsAccepted v1_0 (print_in (mode_by reading) is_open left)
  pub text : s ≡ mark_of reading.normal before ++ print_in (mode_by reading) is_open left

-- a text before is read, and this is what the edits leave of it
abbrev pub IsEdited : Reading → List Edit → Text → Text → Type 0
IsEdited reading edits before s =
    (x : Tree) × (is_open : Bool) × IsRead reading before x is_open
    × IsLeft reading edits x is_open before s

-- ---- the normal form

-- the text is its own normal text, its mark aside
abbrev pub IsInForm : Reading → Text → Type 0
IsInForm reading t =
    (d : Document) × AcceptedIn (version_by reading) t d
    × (normal_text_in (mode_by reading) d ≡ unmarked t)

-- ---- the text of a document

-- The document fits, so its print is accepted and means what it shows, and this is the print.
pub record IsFittingPrint (d : DocumentMut) (s : Text) : Type 0 where
  pub fits : FitsIn (mode_owned d) (tree_owned d)
  pub back : ∥ MeansWhatIsShown (mode_owned d) (open_owned d) (tree_owned d) ∥₁
  pub text : s ≡ print_of d

-- It is written in place of the text before, and TOML 1.0 accepts it where that is asked for.
pub record IsWritten (reading : Reading) (before : Text) (d : DocumentMut) (s : Text) : Type 0 where
  pub print : IsFittingPrint d (print_of d)
  pub version : IsTrue reading.strict → IsAccepted v1_0 (print_of d)
  pub text : s ≡ mark_of reading.normal before ++ print_of d

-- ---- refusals

-- the text of a file is refused, which is said, or memory has run out
abbrev pub IsNotRead : Version → Text → Text → Stop → Type 0
IsNotRead version file t stop = StopsSaying Refused (SaysRefused version file t) stop

-- why edits are not made, a document is not printed, a print is not TOML 1.0, or neither
abbrev pub IsNotMade : List Edit → Tree → Option Reason → Type 0
IsNotMade edits x None = Unit {0}
IsNotMade edits x (Some No) = (y : Tree) → applied edits x ≢ Ok y
IsNotMade edits x (Some Mistaken) = (y : Tree) → applied edits x ≢ Ok y
IsNotMade edits x (Some _) = ⊥

abbrev pub IsMisfit : DocumentMut → Option Reason → Type 0
IsMisfit d None = Unit {0}
IsMisfit d (Some Mistaken) = ¬ (FitsIn (mode_owned d) (tree_owned d))
IsMisfit d (Some _) = ⊥

abbrev pub IsTooNew : Text → Option Reason → Type 0
IsTooNew t None = Unit {0}
IsTooNew t (Some Mistaken) = ¬ (IsAccepted v1_0 t)
IsTooNew t (Some _) = ⊥

abbrev pub IsNotWritten : Reading → DocumentMut → Option Reason → Type 0
IsNotWritten reading d reason =
    IsMisfit d reason ⊎ (IsTrue reading.strict × IsTooNew (print_of d) reason)

-- why a text is locked, by its normal form and itself
abbrev pub IsNotInForm : Bool → Text → Text → Option Reason → Type 0
IsNotInForm locked form t None = Unit {0}
IsNotInForm locked form t (Some Locked) = IsTrue locked × (form ≢ t)
IsNotInForm locked form t (Some _) = ⊥

-- Why a text that is read is not edited: it is not in its normal form and is locked; or the edits leave
-- no text of it.
abbrev pub IsNotEdited : Reading → Bool → List Edit → Text → Option Reason → Type 0
IsNotEdited reading locked edits t None = Unit {0}
IsNotEdited reading locked edits t (Some Failed) = ⊥
IsNotEdited reading locked edits t (Some Refused) = ⊥
IsNotEdited reading locked edits t (Some Locked) =
    IsTrue locked × IsAccepted (version_by reading) t × ¬ (IsInForm reading t)
IsNotEdited reading locked edits t (Some _) =
    (x : Tree) × (is_open : Bool) × IsRead reading t x is_open
    × ((s : Text) → ¬ (IsLeft reading edits x is_open t s))
