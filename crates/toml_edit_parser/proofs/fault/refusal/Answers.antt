-- The message is that of the fault.
use Rattle.std.proofs.Common.{◌≡◌, Some, sym, subst}
use Rattle.toml_edit_model.specs.Text.{Text}
use Rattle.toml_edit_error.specs.Fault.{IfToml}
use Rattle.toml_edit_parser.specs.Listed.{IsMessageIn}
use Rattle.toml_edit_parser.proofs.fault.refusal.Goals as goal

pub returns-clause-report : goal.returns-clause-report
returns-clause-report c =
    subst
    (λ (m : Text). IfToml c.refusal_with.result
    (λ r. r ≡ record { message = m; span = Some (c.args.span.start, c.args.span.end); input = c.args.reader.now.source.now }))
    c.message.ensures.message c.refusal_with.ensures.report

pub returns-clause-refused : goal.returns-clause-refused
returns-clause-refused c =
    λ version is. c.refusal_with.ensures.refused version (subst (IsMessageIn version) (sym c.message.ensures.message) is)
