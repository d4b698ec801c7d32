-- Prints of documents that are printed as one that was read.
use Rattle.std.proofs.Common.{◌∙◌, subst, Bool, false}
use Rattle.toml_edit.specs.DocumentView.{IsPlain, IsPrintedAs, mode_owned, open_owned, tree_owned}
use Rattle.toml_edit.specs.declared.document.DocumentMut.{DocumentMut}
use Rattle.toml_edit.specs.model.Mode.{Mode, plain}
use Rattle.toml_edit.specs.model.Text.{Text}
use Rattle.example_calls.specs.Prints.{ReadsBack}

-- what is printed of a document that is printed as one that was read
pub printed-plain : (d e : DocumentMut) (out : Text) → IsPlain d → IsPrintedAs e d
    → ReadsBack (mode_owned e) (open_owned e) (tree_owned e) out → ReadsBack plain false (tree_owned e) out
printed-plain d e out is same back =
    subst (λ (m : Mode). ReadsBack m false (tree_owned e) out) (same.0 ∙ is.0)
    (subst (λ (b : Bool). ReadsBack (mode_owned e) b (tree_owned e) out) (same.1 ∙ is.1) back)
