use Rattle.std.proofs.Common.{◌≡◌, ◌++◌, ◌+◌, ◌<◌, ◌≤◌, ℕ, ◌⊎◌, List, length, take, string_bytes}
use Rattle.std.proofs.Common.{◌-◌}
use Rattle.line_diff.specs.Diff.{IsShown, new_lines, old_lines}
use Rattle.line_diff.specs.Steps.{lines_of}
use Rattle.line_diff.proofs.HunkLaws.{Written}
use Rattle.line_diff.proofs.hunks.write_hunks.Given as goal

-- the hunks up to this place are written, and it is not shown
abbrev pub invariant-hunks : goal.invariant-hunks
invariant-hunks l = record {
  inside : l.at ≤ length l.script;
  olds : l.olds ≡ length (old_lines (take l.at (lines_of l.script)));
  news : l.news ≡ length (new_lines (take l.at (lines_of l.script)));
  clear : (l.at ≡ 0) ⊎ (IsShown (lines_of l.script) l.at → ⊥);
  written : Written (lines_of l.script) l.at (string_bytes l.initial.out) (string_bytes l.out);
}

abbrev pub decreases-hunks : goal.decreases-hunks
decreases-hunks l = length l.script - l.at
