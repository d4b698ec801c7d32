-- From the byte on the row is done.
use Rattle.std.proofs.Common.{◌≡◌, ◌≤◌, drop, length}
use Rattle.toml_edit_settings.specs.Patterns.{AreRests, Test, after_character, one_character}
use Rattle.toml_edit_settings.proofs.RowLaws.{AreRestsAt}
use Rattle.toml_edit_settings.proofs.pattern.put_one.Given as goal

abbrev pub invariant-loop-at : goal.invariant-loop-at
invariant-loop-at l =
    (l.at ≤ length l.path) × ((is_such : Test) → AreRests is_such l.path l.fn.row
    → AreRestsAt is_such (one_character is_such) l.path l.row l.at × (l.after ≡ is_such (after_character (drop l.at l.path))))

abbrev pub decreases-loop-at : goal.decreases-loop-at
decreases-loop-at l = l.at
