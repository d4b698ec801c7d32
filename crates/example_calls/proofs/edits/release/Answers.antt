-- One step for each call. What is set is a scalar, so the document fits.
use Rattle.std.proofs.Common.{refl, subst, sym}
use Rattle.toml_edit.specs.DocumentView.{tree_owned}
use Rattle.toml_edit.specs.Edited.{IsEditedText}
use Rattle.example_calls.proofs.edits.release.Goals as goal

pub returns : goal.returns
returns c =
    let text = c.args.text.now in
    let t = tree_owned c.in_ok-document.document in
    let one = c.in_ok-replace.ensures text t _ c.in_ok-document.ensures.edits in
    let two = c.in_ok-add_flag.ensures text t _ one in
    let three = c.in_ok-remove_at.ensures.edits text t _ two in
    let fits = three.fits ((refl, (refl, refl)), ((refl, (refl, refl)), (tt, tt))) in
    ∣ (t, subst (IsEditedText text t _) (sym c.in_ok-print.ensures) (c.edited_prints.ensures text t _ _ three fits)) ∣₁
