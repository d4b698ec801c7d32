-- A look at the events that are left ends as one at all of them.
use Rattle.std.proofs.Common.{◌≤◌, ◌+◌, length}
use Rattle.toml_edit_syntax.specs.LateEvents.{AreIn}
use Rattle.toml_edit_fmt.specs.RulesView.{rules_of}
use Rattle.toml_edit_fmt.specs.declared.measure.Inside.{Inside}
use Rattle.toml_edit_fmt.proofs.MeasureLaws.{Ends}
use Rattle.toml_edit_fmt.proofs.measure.measure.Given as goal

abbrev pub invariant-events : goal.invariant-events
invariant-events l =
    record {
      spans : AreIn l.page.source.now l.rest;
      room : l.look.level + length l.rest ≤ length l.events + 1;
      ends : (i : Inside) → Ends l.page.source.now (rules_of l.page.rules) i l.events l.initial.look
          → Ends l.page.source.now (rules_of l.page.rules) i l.rest l.look;
    }

abbrev pub decreases-events : goal.decreases-events
decreases-events l = length l.rest
