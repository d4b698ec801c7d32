use Rattle.std.proofs.Common.{◌≡◌, ◌++◌, ◌+◌, ◌<◌, ◌≤◌, ℕ, ◌⊎◌, List, length, take, string_bytes}
use Rattle.line_diff.specs.Diff.{IsChange}
use Rattle.line_diff.specs.Steps.{lines_of}
use Rattle.line_diff.proofs.hunks.next_change.Given as goal

abbrev pub invariant-steps : goal.invariant-steps
invariant-steps l = (other : ℕ) → l.at ≤ other → other < l.place → IsChange (lines_of l.script) other → ⊥
