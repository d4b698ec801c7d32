-- No slots.
use Rattle.std.proofs.Common.{arith}
use Rattle.std.specs.List.{IsDistinct}
use Rattle.toml_edit_slots.proofs.slots.Slots.clear.Goals as goal

pub invariant_of-self : goal.invariant_of-self
unfolding IsDistinct
invariant_of-self g c = rw c.clear.ensures.items (tt, omega arith)
