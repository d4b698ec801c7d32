-- The law of edits, at the tree that is printed.
use Rattle.std.proofs.Common.{◌∙◌, subst, string_bytes}
use Rattle.toml_edit.specs.DocumentView.{tree_owned}
use Rattle.toml_edit.specs.model.Tree.{Node}
use Rattle.example_calls.specs.Exchanges.{ExchangesInTree}
use Rattle.example_calls.specs.Faults.{ExchangeFails, parsing_fault}
use Rattle.example_calls.proofs.ExchangeLaws.{told}
use Rattle.example_calls.proofs.FaultLaws.{passed-on, refusal-exchange, stays-exchange}
use Rattle.example_calls.proofs.PrintLaws.{printed-plain}
use Rattle.example_calls.proofs.ViewLaws.{view-Value}
use Rattle.example_calls.proofs.exchanging.exchange.Goals as goal

pub returns-in_err-document-clause-fails : goal.returns-in_err-document-clause-fails
returns-in_err-document-clause-fails c =
    passed-on c.from_residual.result (parsing_fault c.in_err-document.field-0.0)
    (ExchangeFails c.args.text.now c.args.table.now c.args.key.now) c.from_residual.ensures.1
    (refusal-exchange c.args.text.now c.args.table.now c.args.key.now c.in_err-document.field-0.0 c.in_err-document.ensures.refused)

pub returns-in_err-exchange_in_document-clause-fails : goal.returns-in_err-exchange_in_document-clause-fails
returns-in_err-exchange_in_document-clause-fails c =
    let r = c.from_residual-in_err-exchange_in_document in
    passed-on r.result c.in_err-exchange_in_document.field-0.0 (ExchangeFails c.args.text.now c.args.table.now c.args.key.now) r.ensures.1
    (stays-exchange c.args.text.now c.args.table.now c.args.key.now (tree_owned c.in_ok-document.document)
    c.in_ok-document.ensures.accepted.reading c.in_err-exchange_in_document.field-0.0 c.in_err-exchange_in_document.ensures.fails)

pub returns-clause-exchanged : goal.returns-clause-exchanged
returns-clause-exchanged c =
    let d = c.in_ok-document.document in
    let e = c.exchange_in_document.new.document in
    let seen = view-Value c.in_ok-string.field-0 ∙ c.in_ok-string.ensures in
    let sets = subst (λ (n : Node). ExchangesInTree c.args.table.now c.args.key.now n (tree_owned d) (tree_owned e)) seen
    c.in_ok-exchange_in_document.ensures.tree in
    let out = string_bytes c.in_ok-print_fitting.field-0 in
    ∣ told c.args.text.now c.args.table.now c.args.key.now c.args.value.now out (tree_owned d) (tree_owned e) c.edits.ensures
    c.still_fits.ensures.edits c.still_fits.ensures.scalars c.in_ok-document.ensures.accepted.reading sets
    (printed-plain d e out c.in_ok-document.ensures.plain c.exchange_in_document.ensures.printed c.in_ok-print_fitting.ensures) ∣₁
