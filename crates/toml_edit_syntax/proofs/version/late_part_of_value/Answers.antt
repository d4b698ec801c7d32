-- The events hold the value's late places.
use Rattle.toml_edit_syntax.proofs.late.StatementLaws.{value_named, value_none}
use Rattle.toml_edit_syntax.proofs.version.late_part_of_value.Goals as goal

pub returns-clause-found : goal.returns-clause-found
returns-clause-found c =
    λ v start is stands e. value_named c.args.source.now start v c.args.events.now c.late_in_events.result is stands e
    c.late_in_events.ensures.part

pub returns-clause-none : goal.returns-clause-none
returns-clause-none c =
    λ v start is stands e shallow none.
    value_none c.args.source.now start v c.args.events.now c.late_in_events.result is stands e c.late_in_events.ensures.part shallow none
