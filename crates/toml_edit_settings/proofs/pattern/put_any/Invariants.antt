-- From the byte on the row is done.
use Rattle.std.proofs.Common.{◌≤◌, length}
use Rattle.toml_edit_settings.specs.Patterns.{AreRests, Test, any_rest}
use Rattle.toml_edit_settings.proofs.RowLaws.{AreRestsAt}
use Rattle.toml_edit_settings.proofs.pattern.put_any.Given as goal

abbrev pub invariant-loop-at : goal.invariant-loop-at
invariant-loop-at l =
    (l.at ≤ length l.path) × ((is_such : Test) → AreRests is_such l.path l.initial.row → AreRestsAt is_such (any_rest l.crosses is_such) l.path l.row l.at)

abbrev pub decreases-loop-at : goal.decreases-loop-at
decreases-loop-at l = l.at
