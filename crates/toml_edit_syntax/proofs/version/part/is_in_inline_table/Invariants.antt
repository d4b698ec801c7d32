-- What is to come tells it just as all does.
use Rattle.std.proofs.Common.{◌≡◌, drop}
use Rattle.toml_edit_syntax.specs.LateEvents as spec
use Rattle.toml_edit_syntax.proofs.version.part.is_in_inline_table.Given as goal

abbrev pub invariant-events : goal.invariant-events
invariant-events l = spec.is_in_inline_table (drop l.event-index l.events) ≡ spec.is_in_inline_table l.events
