-- The first event that ends a line is the last one of the first statement.
use Rattle.std.proofs.Common.{sym, ◌∙◌}
use Rattle.toml_edit_fmt.proofs.StatementEvents.{end-found, first-cut}
use Rattle.toml_edit_fmt.proofs.statements.split_statement.Goals as goal

pub returns-in_err-at-clause-statement : goal.returns-in_err-at-clause-statement
returns-in_err-at-clause-statement c s start more is =
    let found = end-found start s more c.args.events.now is in
    let none = c.in_err-at.ensures in
    absurd cc

pub returns-clause-statement : goal.returns-clause-statement
returns-clause-statement c s start more is =
    let (front, back) = first-cut start s more c.args.events.now c.in_ok-at.at is c.in_ok-at.ensures in
    (c.split_at.ensures.front ∙ front, c.split_at.ensures.back ∙ back)
