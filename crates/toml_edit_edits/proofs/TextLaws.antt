-- What edits leave of a text.
use Rattle.std.proofs.Common.{◌≡◌, ◌∙◌, ap, subst, sym, Bool, false, List, inl, inr}
use Rattle.std.proofs.Math.Logic.{∥∥₁_map}
use Rattle.std.proofs.lemmas.Result.{err_from_is_err_and}
use Rattle.std.specs.Prelude.{◌⊎◌, Ok, Err, IfErr, IsErrAnd, Result}
use Rattle.toml_edit_model.specs.Fits.{FitsIn}
use Rattle.toml_edit_model.specs.Mode.{Mode, plain}
use Rattle.toml_edit_model.specs.Print.{print_in}
use Rattle.toml_edit_model.specs.Text.{Text}
use Rattle.toml_edit_model.specs.Tree.{Tree}
use Rattle.toml_edit_error.specs.Fault.{IfToml}
use Rattle.toml_edit_error.specs.declared.toml_error.ParseFault.{ParseFault}
use Rattle.toml_edit_error.specs.declared.toml_error.ParseFault.TheVariants as parses
use Rattle.toml_edit.specs.DocumentView.{IsPlain, IsPrintedAs, mode_owned, open_owned, print_of, tree_owned}
use Rattle.toml_edit.specs.Documents.{IsOwnedReading, IsRefusal, MeansWhatIsShown}
use Rattle.toml_edit.specs.declared.document.DocumentMut.{DocumentMut}
use Rattle.toml_edit_edits.specs.Edited.{EditsLeave, IsEditedBy, RefusesText}
use Rattle.toml_edit_edits.specs.Lists.{Applies, applied, effect}
use Rattle.toml_edit_edits.specs.Outcomes.{of_edit, of_parse}
use Rattle.toml_edit_edits.specs.declared.edit.Edit.{Edit}
use Rattle.toml_edit_edits.specs.declared.fault.EditFault.{EditFault}
use Rattle.toml_edit_edits.specs.declared.fault.EditFault.TheVariants.{NoSuchPath, WrongKind, NoSuchElement, Taken, BadComment, Memory}
use Rattle.toml_edit_edits.specs.declared.fault.ScriptFault.{ScriptFault}
use Rattle.toml_edit_edits.specs.declared.fault.TextFault.{TextFault}
use Rattle.toml_edit_edits.specs.declared.fault.TextFault.TheVariants.{Misfit}

module _ (text : Text) (es : List Edit) (m n : DocumentMut) (reading : IsOwnedReading text (tree_owned m)) (is_plain : IsPlain m)
    (printed : IsPrintedAs n m) where
  in-mode : mode_owned n ≡ plain
  in-mode = printed.0 ∙ is_plain.0

  shut : open_owned n ≡ false
  shut = printed.1 ∙ is_plain.1

  pub is-edited : EditsLeave es (tree_owned m) (tree_owned n) → FitsIn (mode_owned n) (tree_owned n)
      → ∥ MeansWhatIsShown (mode_owned n) (open_owned n) (tree_owned n) ∥₁ → (out : Text) → out ≡ print_of n → ∥ IsEditedBy text es out ∥₁
  is-edited leaves fits back out is =
      ∥∥₁_map
      (subst (λ (b : Bool). ∥ MeansWhatIsShown plain b (tree_owned n) ∥₁) shut
      (subst (λ (k : Mode). ∥ MeansWhatIsShown k (open_owned n) (tree_owned n) ∥₁) in-mode back)) (λ b. record {
        tree = tree_owned m;
        reading = reading;
        left = tree_owned n;
        edits = leaves;
        fits = subst (λ (k : Mode). FitsIn k (tree_owned n)) in-mode fits;
        print = is ∙ ap (λ (k : Mode). print_in k (open_owned n) (tree_owned n)) in-mode ∙ ap (λ (b : Bool). print_in plain b (tree_owned n)) shut;
        back = b;
      })

  pub misfits : applied es (tree_owned m) ≡ Ok (tree_owned n) → ¬ (FitsIn (mode_owned n) (tree_owned n)) → RefusesText text es Misfit
  misfits made unfit = (tree_owned m, tree_owned n, reading, made, subst (λ (k : Mode). ¬ (FitsIn k (tree_owned n))) in-mode unfit)

-- the error of a `?` is the one that it was made of
pub passed-on : {A : Type 0} (r : Result A TextFault) (e : TextFault) (P : TextFault → Type 0) → IsErrAnd r (λ y. y ≡ e) → P e → IfErr r P
passed-on r e P is holds =
    let q = err_from_is_err_and r is in
    subst (λ x. IfErr x P) (sym q.1) (subst P (sym q.2) holds)

-- the text is refused, or memory ran out
pub refuses-reading : (text : Text) (es : List Edit) (p : ParseFault) → IfToml p (IsRefusal text) → RefusesText text es (of_parse p)
refuses-reading text es (parses.Toml e) h = h
refuses-reading text es parses.Memory h = tt

-- an edit is refused, or memory ran out
pub refuses-edit : (text : Text) (es : List Edit) (t u : Tree) (f : ScriptFault) → IsOwnedReading text t → Applies es t u (Err f)
    → RefusesText text es (of_edit f.at f.fault)
refuses-edit text es t u f reading h = by_fault f.fault h.3
  where
    by_fault : (g : EditFault) → (g ≡ Memory) ⊎ (effect h.0 u ≡ Err g) → RefusesText text es (of_edit f.at g)
    by_fault Memory is = tt
    by_fault NoSuchPath (inl e) = absurd cc
    by_fault NoSuchPath (inr e) = (t, u, h.0, reading, h.2, h.1, e)
    by_fault WrongKind (inl e) = absurd cc
    by_fault WrongKind (inr e) = (t, u, h.0, reading, h.2, h.1, e)
    by_fault NoSuchElement (inl e) = absurd cc
    by_fault NoSuchElement (inr e) = (t, u, h.0, reading, h.2, h.1, e)
    by_fault Taken (inl e) = absurd cc
    by_fault Taken (inr e) = (t, u, h.0, reading, h.2, h.1, e)
    by_fault BadComment (inl e) = absurd cc
    by_fault BadComment (inr e) = (t, u, h.0, reading, h.2, h.1, e)
