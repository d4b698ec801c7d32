-- The events behind the first hold the statement's late places.
use Rattle.toml_edit_syntax.proofs.late.StatementLaws.{statement_found, statement_named, statement_none, shallow_none}
use Rattle.toml_edit_syntax.proofs.version.late_part_of_statement.Goals as goal

pub returns-in-len1-up-clause-found : goal.returns-in-len1-up-clause-found
returns-in-len1-up-clause-found c =
    λ s start more is stands e.
    statement_named c.args.source.now start s c.args.events.now more c.late_in_events.result
    (statement_found c.args.source.now start s is stands) e c.late_in_events.ensures.part

pub returns-in-len1-up-clause-none : goal.returns-in-len1-up-clause-none
returns-in-len1-up-clause-none c =
    λ s start more is stands e shallow none.
    shallow_none c.args.source.now start s c.args.events.now more c.late_in_events.result
    (statement_found c.args.source.now start s is stands) e c.late_in_events.ensures.part
    shallow none

pub returns-in-len1-up-clause-none_whole : goal.returns-in-len1-up-clause-none_whole
returns-in-len1-up-clause-none_whole c =
    λ s start more is stands e shallow none.
    statement_none c.args.source.now start s c.args.events.now more c.late_in_events.result
    (statement_found c.args.source.now start s is stands) e c.late_in_events.ensures.part
    shallow none
