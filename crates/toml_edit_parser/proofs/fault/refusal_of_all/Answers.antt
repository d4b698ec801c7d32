-- The message is that of the limit.
use Rattle.std.proofs.Common.{◌≡◌, None, subst}
use Rattle.toml_edit_model.specs.Text.{Text}
use Rattle.toml_edit_error.specs.Fault.{IfToml}
use Rattle.toml_edit_parser.proofs.ListedLaws.{refused_limit}
use Rattle.toml_edit_parser.proofs.fault.refusal_of_all.Goals as goal

pub returns-clause-report : goal.returns-clause-report
returns-clause-report c =
    subst (λ (m : Text). IfToml c.refusal.result (λ r. r ≡ record { message = m; span = None; input = c.args.reader.now.source.now }))
    c.message.ensures.message c.refusal.ensures

pub returns-clause-refused : goal.returns-clause-refused
returns-clause-refused c =
    λ version. refused_limit version c.args.reader.now.source.now c.message.result.now c.refusal.result c.message.ensures.message c.refusal.ensures
