-- No slots, with room.
use Rattle.std.proofs.Common.{arith}
use Rattle.std.specs.List.{IsDistinct}
use Rattle.toml_edit_slots.proofs.slots.Slots.with_room.Goals as goal

pub invariant_of-result : goal.invariant_of-result
unfolding IsDistinct
invariant_of-result g c = rw c.in-Ok.ensures.items (tt, omega arith)
