-- What is to come has the first late part just where all has it.
use Rattle.std.proofs.Common.{◌≡◌, length}
use Rattle.toml_edit_syntax.specs.LateEvents as spec
use Rattle.toml_edit_syntax.proofs.version.late_in_events.Given as goal

abbrev pub invariant-events : goal.invariant-events
invariant-events l = record {
  spans : spec.AreIn l.source l.rest;
  same : spec.late_in_events l.source l.rest ≡ spec.late_in_events l.source l.events;
}

abbrev pub decreases-events : goal.decreases-events
decreases-events l = length l.rest
