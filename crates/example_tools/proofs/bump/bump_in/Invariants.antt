-- At most one of each table is counted.
use Rattle.std.proofs.Common.{◌≤◌}
use Rattle.example_tools.proofs.bump.bump_in.Given as goal

abbrev pub invariant-loop-section : goal.invariant-loop-section
invariant-loop-section g l = l.count ≤ l.section-index
