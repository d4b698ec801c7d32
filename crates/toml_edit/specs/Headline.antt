-- The headline: what reading, printing and `fits` promise together, of every text and of every
-- document, however it was edited.
use Rattle.std.specs.Prelude.{◌≡◌, ◌↔◌, ◌⊎◌, Option, Result, String, IfOk, IfSome, IsOk, IsErrOf, IsSome, string_bytes}
use Rattle.std.specs.declared.alloc.Global.{Global}
use Rattle.toml_edit_model.specs.Text.{Text}
use Rattle.toml_edit_model.specs.Mode.{plain}
use Rattle.toml_edit_model.specs.Syntax.{Document, IsCut}
use Rattle.toml_edit_model.specs.Accepted.{AcceptedAs}
use Rattle.toml_edit_model.specs.Meaning.{SameFacts, meaning}
use Rattle.toml_edit_model.specs.Normal.{normal_text_in}
use Rattle.toml_edit_model.specs.Shown.{shown_meaning}
use Rattle.toml_edit_model.specs.Fits.{FitsIn}
use Rattle.toml_edit_model.specs.Tree.{Tree}
use Rattle.toml_edit_laws.specs.NormalTexts.{IsNormalForm}
use Rattle.toml_edit_error.specs.declared.toml_error.ParseFault.{ParseFault}
use Rattle.toml_edit_error.specs.declared.toml_error.ParseFault.TheVariants.{Memory}
use Rattle.toml_edit.specs.Documents.{MeansWhatIsShown}
use Rattle.toml_edit.specs.DocumentView.{mode_owned, open_owned, print_of, tree_owned}
use Rattle.toml_edit.specs.declared.document.DocumentMut.{DocumentMut}

-- The text is accepted, by one cut, and the tree means what that cut means. What is printed is its
-- normal text, which is accepted, means the same, and prints as itself from then on; a settled text
-- is its own.
pub record IsReadAndPrinted (t : Text) (x : Tree) (s : Text) : Type 0 where
  pub document : Document
  pub accepted : AcceptedAs t document
  pub only : (other : Document) → IsCut other t → other ≡ document
  pub meaning : SameFacts (shown_meaning x) (meaning document)
  pub print : s ≡ normal_text_in plain document
  pub normal : IsNormalForm plain t document

-- What is printed of the document is accepted, and means what its tree shows.
pub record IsPrintedFitting (m : DocumentMut) (s : Text) : Type 0 where
  pub print : s ≡ print_of m
  pub means : MeansWhatIsShown (mode_owned m) (open_owned m) (tree_owned m)

pub record Headline {E : Type 0} (t : Text) (m : DocumentMut)
    (r : Result (DocumentMut × String Global) ParseFault) (p : Result (Option (String Global)) E) : Type 0 where
  -- a text is read only if it is accepted, as what it means
  pub read : IfOk r (λ x. IsReadAndPrinted t (tree_owned x.0) (string_bytes x.1))
  -- and whenever it is accepted, unless memory runs out
  pub every : (d : Document) → AcceptedAs t d → IsOk r ⊎ IsErrOf r Memory
  -- a document, however it was edited, is printed exactly if it fits
  pub fits : IfOk p (λ s. IsSome s ↔ FitsIn (mode_owned m) (tree_owned m))
  -- and what is printed is valid and means what it shows
  pub prints : IfOk p (λ s. IfSome s (λ s. ∥ IsPrintedFitting m (string_bytes s) ∥₁))
