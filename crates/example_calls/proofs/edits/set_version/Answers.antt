-- The path has the two keys. What is set is a string, so the document fits.
use Rattle.std.proofs.Common.{◌≡◌, ◌∙◌, ap, refl, subst, sym, List, [], ◌∷◌}
use Rattle.std.specs.Prelude.{codes}
use Rattle.toml_edit.specs.DocumentView.{tree_owned}
use Rattle.toml_edit.specs.Edited.{IsEditedFrom, IsEditedText}
use Rattle.toml_edit.specs.edits.PathEdits.{sets}
use Rattle.toml_edit.specs.model.Keys.{new_key}
use Rattle.toml_edit.specs.model.Tree.{Key}
use Rattle.example_calls.specs.Values.{string_node, version_path}
use Rattle.example_calls.proofs.edits.set_version.Goals as goal

pub returns : goal.returns
returns c =
    let text = c.args.text.now in
    let t = tree_owned c.in_ok-document.document in
    let k = c.in_ok-from_text.field-0 in
    let l = c.in_ok-from_text-2.field-0 in
    let is : (k ∷ l ∷ []) ≡ version_path =
    ap (λ (x : Key). x ∷ l ∷ []) c.in_ok-from_text.ensures
    ∙ ap (λ (x : Key). new_key (codes "package") ∷ x ∷ []) c.in_ok-from_text-2.ensures in
    let one = subst (λ (p : List Key). IsEditedFrom text t (sets p (string_node c.args.version.now) ∷ []) c.replace.new.document) is
    (c.in_ok-replace.ensures text t [] c.in_ok-document.ensures.edits) in
    let fits = one.fits ((refl, (refl, refl)), tt) in
    ∣ (t, subst (IsEditedText text t _) (sym c.in_ok-print.ensures) (c.edited_prints.ensures text t _ _ one fits)) ∣₁
