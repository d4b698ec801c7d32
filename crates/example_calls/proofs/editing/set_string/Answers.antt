-- The laws of edits and of replaced values, at the tree that is printed.
use Rattle.std.proofs.Common.{◌∙◌, subst, sym, string_bytes}
use Rattle.toml_edit.specs.DocumentView.{tree_owned}
use Rattle.toml_edit.specs.model.Tree.{Node}
use Rattle.example_calls.specs.Faults.{SetFails, parsing_fault}
use Rattle.example_calls.specs.Sets.{SetsInTree}
use Rattle.example_calls.proofs.EditLaws.{told}
use Rattle.example_calls.proofs.FaultLaws.{none-of, passed-on, refusal-set}
use Rattle.example_calls.proofs.PrintLaws.{printed-plain}
use Rattle.example_calls.proofs.editing.set_string.Goals as goal

pub returns-in_err-document-clause-fails : goal.returns-in_err-document-clause-fails
returns-in_err-document-clause-fails c =
    passed-on c.from_residual.result (parsing_fault c.in_err-document.field-0.0)
    (SetFails c.args.text.now c.args.name.now c.args.key.now) c.from_residual.ensures.1
    (refusal-set c.args.text.now c.args.name.now c.args.key.now c.in_err-document.field-0.0 c.in_err-document.ensures.refused)

pub returns-then-not-replace_in_document-clause-fails : goal.returns-then-not-replace_in_document-clause-fails
returns-then-not-replace_in_document-clause-fails c = (
  tree_owned c.in_ok-document.document,
  c.in_ok-document.ensures.accepted.reading,
  none-of _ (sym c.replace_in_document.ensures.found ∙ c.if-not-replace_in_document.true),
)

pub returns-clause-set : goal.returns-clause-set
returns-clause-set c =
    let d = c.in_ok-document.document in
    let e = c.replace_in_document.new.document in
    let set = c.replace_in_document.ensures.tree c.if-not-replace_in_document.false in
    let sets = subst (λ (n : Node). SetsInTree c.args.name.now c.args.key.now n (tree_owned d) (tree_owned e)) c.in_ok-value.ensures set in
    let out = string_bytes c.in_ok-print_fitting.field-0 in
    ∣ told c.args.text.now c.args.name.now c.args.key.now c.args.value.now out (tree_owned d) (tree_owned e) c.edits.ensures
    c.replaced.ensures.frame c.still_fits.ensures.edits c.still_fits.ensures.scalars c.in_ok-document.ensures.accepted.reading sets
    (printed-plain d e out c.in_ok-document.ensures.plain c.replace_in_document.ensures.printed c.in_ok-print_fitting.ensures) ∣₁
