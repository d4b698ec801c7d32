-- What edits leave of a tree, and of a text.
use Rattle.std.specs.Prelude.{◌≡◌, false, List, Result, Ok, Err, slice_get, Some, take}
use Rattle.toml_edit_model.specs.Fits.{FitsIn}
use Rattle.toml_edit_model.specs.Mode.{Mode, plain}
use Rattle.toml_edit_model.specs.Print.{print_in}
use Rattle.toml_edit_model.specs.Text.{Text}
use Rattle.toml_edit_model.specs.Tree.{Tree}
use Rattle.toml_edit.specs.DocumentView.{IsPrintedAs, tree_owned}
use Rattle.toml_edit.specs.Documents.{IsOwnedReading, IsRefusal, MeansWhatIsShown}
use Rattle.toml_edit.specs.declared.document.DocumentMut.{DocumentMut}
use Rattle.toml_edit_edits.specs.Lists.{Applies, applied, effect, made_of}
use Rattle.toml_edit_edits.specs.Means.{EditsMean}
use Rattle.toml_edit_edits.specs.OthersStay.{OthersStay}
use Rattle.toml_edit_edits.specs.declared.edit.Edit.{Edit}
use Rattle.toml_edit_edits.specs.declared.fault.ScriptFault.{ScriptFault}
use Rattle.toml_edit_edits.specs.declared.fault.TextFault.{TextFault}
use Rattle.toml_edit_edits.specs.declared.fault.TextFault.TheVariants as faults

-- The edits are made in the first tree, and leave the second: what each of them means, and which
-- statements stay.
pub record EditsLeave (es : List Edit) (t u : Tree) : Type 0 where
  pub applied : applied es t ≡ Ok u
  pub means : EditsMean es t u
  pub stays : (mode : Mode) → OthersStay mode es t u

-- So a document has all of them, or those before the first that is refused. How it is printed stays.
pub record MakesEdits (es : List Edit) (old new : DocumentMut)
    (r : Result (Unit {0}) ScriptFault) : Type 0 where
  pub applies : Applies es (tree_owned old) (tree_owned new) r
  pub leaves : EditsLeave (made_of es r) (tree_owned old) (tree_owned new)
  pub printed : IsPrintedAs new old

-- So they are made in the tree of the text. The other text is the print of what they leave, which
-- fits, so it is accepted and means what that tree shows.
pub record IsEditedBy (text : Text) (es : List Edit) (out : Text) : Type 0 where
  pub tree : Tree
  pub reading : IsOwnedReading text tree
  pub left : Tree
  pub edits : EditsLeave es tree left
  pub fits : FitsIn plain left
  pub print : out ≡ print_in plain false left
  pub back : MeansWhatIsShown plain false left

-- The text is refused; or the edit of this number is, in what those before it leave of the text's
-- tree; or what they all leave doesn't fit.
abbrev pub RefusesText : Text → List Edit → TextFault → Type 0
RefusesText text es (faults.Toml e) = IsRefusal text e
RefusesText text es (faults.Edit f) =
    (tree : Tree) × (left : Tree) × (e : Edit) × IsOwnedReading text tree
    × (applied (take f.at es) tree ≡ Ok left) × (slice_get es f.at ≡ Some e)
    × (effect e left ≡ Err f.fault)
RefusesText text es faults.Misfit =
    (tree : Tree) × (left : Tree) × IsOwnedReading text tree × (applied es tree ≡ Ok left)
    × ¬ (FitsIn plain left)
RefusesText text es faults.Memory = Unit {0}
