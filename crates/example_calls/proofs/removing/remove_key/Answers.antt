-- The law of removals, at the tree that is printed.
use Rattle.std.proofs.Common.{◌∙◌, subst, sym, false, string_bytes}
use Rattle.toml_edit.specs.DocumentView.{tree_owned}
use Rattle.toml_edit.specs.model.Mode.{plain}
use Rattle.toml_edit.specs.model.Tree.{Tree}
use Rattle.example_calls.specs.Faults.{RemovalFails, parsing_fault}
use Rattle.example_calls.specs.Prints.{ReadsBack}
use Rattle.example_calls.proofs.FaultLaws.{none-of, passed-on, refusal-removal}
use Rattle.example_calls.proofs.PrintLaws.{printed-plain}
use Rattle.example_calls.proofs.RemovalLaws.{told}
use Rattle.example_calls.proofs.removing.remove_key.Goals as goal

pub returns-in_err-document-clause-fails : goal.returns-in_err-document-clause-fails
returns-in_err-document-clause-fails c =
    passed-on c.from_residual.result (parsing_fault c.in_err-document.field-0.0) (RemovalFails c.args.text.now c.args.name.now)
    c.from_residual.ensures.1
    (refusal-removal c.args.text.now c.args.name.now c.in_err-document.field-0.0 c.in_err-document.ensures.refused)

pub returns-then-not-remove_in_document-clause-fails : goal.returns-then-not-remove_in_document-clause-fails
returns-then-not-remove_in_document-clause-fails c = (
  tree_owned c.in_ok-document.document,
  c.in_ok-document.ensures.accepted.reading,
  none-of _ (sym c.remove_in_document.ensures.found ∙ c.if-not-remove_in_document.true),
)

pub returns-clause-removed : goal.returns-clause-removed
returns-clause-removed c =
    let d = c.in_ok-document.document in
    let e = c.remove_in_document.new.document in
    let there = sym c.remove_in_document.ensures.found ∙ c.if-not-remove_in_document.false in
    let out = string_bytes c.in_ok-print_fitting.field-0 in
    ∣ told c.args.text.now c.args.name.now out (tree_owned d) c.removed.ensures.slot c.removed.ensures.slot_made c.still_fits.ensures.edit
    c.in_ok-document.ensures.accepted.reading there
    (subst (λ (t : Tree). ReadsBack plain false t out) c.remove_in_document.ensures.tree
    (printed-plain d e out c.in_ok-document.ensures.plain c.remove_in_document.ensures.printed c.in_ok-print_fitting.ensures)) ∣₁
