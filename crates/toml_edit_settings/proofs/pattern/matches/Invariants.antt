-- The row is about what is left of the pattern.
use Rattle.std.proofs.Common.{◌≡◌, ◌+◌, ◌≤◌, drop, length}
use Rattle.toml_edit_settings.specs.Patterns.{AreRests, matches}
use Rattle.toml_edit_settings.proofs.pattern.matches.Given as goal

abbrev pub invariant-loop-at : goal.invariant-loop-at
invariant-loop-at l = (l.at ≤ length l.pattern) × (length l.row.items ≡ length l.path + 1) × AreRests (matches (drop l.at l.pattern)) l.path l.row.items

abbrev pub decreases-loop-at : goal.decreases-loop-at
decreases-loop-at l = l.at
