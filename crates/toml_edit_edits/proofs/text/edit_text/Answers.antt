-- What the calls say, at the tree of the text. Each refusal is that of a call.
use Rattle.std.specs.Prelude.{string_bytes}
use Rattle.toml_edit_laws.proofs.common.Tests.{true-false}
use Rattle.toml_edit.specs.DocumentView.{tree_owned}
use Rattle.toml_edit_edits.proofs.TextLaws.{is-edited, misfits, passed-on, refuses-edit, refuses-reading}
use Rattle.toml_edit_edits.specs.Edited.{RefusesText}
use Rattle.toml_edit_edits.specs.Outcomes.{of_edit, of_parse}
use Rattle.toml_edit_edits.proofs.text.edit_text.Goals as goal

pub returns-then-branch-clause-edited : goal.returns-then-branch-clause-edited
returns-then-branch-clause-edited c =
    is-edited c.args.text.now c.args.edits.now c.in_ok-document.document c.apply.new.document c.in_ok-document.ensures.accepted.reading
    c.in_ok-document.ensures.plain c.apply.ensures.printed c.in_ok-apply.ensures.leaves (c.in_ok-fits.ensures.fits.0 c.if-branch.true)
    (c.in_ok-fits.ensures.reparse c.if-branch.true) (string_bytes c.in_ok-print.field-0) c.in_ok-print.ensures

pub returns-clause-refuses : goal.returns-clause-refuses
returns-clause-refuses c =
    misfits c.args.text.now c.args.edits.now c.in_ok-document.document c.apply.new.document c.in_ok-document.ensures.accepted.reading
    c.in_ok-document.ensures.plain c.apply.ensures.printed c.in_ok-apply.ensures.applies
    (λ fits. true-false _ (c.in_ok-fits.ensures.fits.1 fits) c.if-branch.false)

pub returns-in_err-document-clause-refuses : goal.returns-in_err-document-clause-refuses
returns-in_err-document-clause-refuses c =
    let p = c.in_err-document.field-0.0 in
    passed-on c.from_residual.result (of_parse p) (RefusesText c.args.text.now c.args.edits.now) c.from_residual.ensures.1
    (refuses-reading c.args.text.now c.args.edits.now p c.in_err-document.ensures.refused)

pub returns-in_err-apply-clause-refuses : goal.returns-in_err-apply-clause-refuses
returns-in_err-apply-clause-refuses c =
    let f = c.in_err-apply.field-0.0 in
    passed-on c.from_residual-in_err-apply.result (of_edit f.at f.fault) (RefusesText c.args.text.now c.args.edits.now)
    c.from_residual-in_err-apply.ensures.1
    (refuses-edit c.args.text.now c.args.edits.now (tree_owned c.in_ok-document.document) (tree_owned c.apply.new.document) f
    c.in_ok-document.ensures.accepted.reading c.in_err-apply.ensures.applies)
