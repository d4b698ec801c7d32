-- The values before this slot are counted.
use Rattle.std.proofs.Common.{◌≡◌, ◌+◌, ◌≤◌, drop, length}
use Rattle.toml_edit.specs.model.Iterating.{valued}
use Rattle.example_tools.proofs.count_values.count_values.Given as goal

abbrev pub invariant-loop-at : goal.invariant-loop-at
invariant-loop-at g l = (l.count + length (valued (drop l.at (g.T.HasSlots.slots_of l.table))) ≡ length (valued (g.T.HasSlots.slots_of l.table))) × (l.count ≤ l.at)
