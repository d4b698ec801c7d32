-- The pairs up to here are in.
use Rattle.toml_edit_slots.specs.Seen.{Adds}
use Rattle.toml_edit_slots.proofs.slots.Slots.extend.Given as goal

abbrev pub invariant-loop-key : goal.invariant-loop-key
invariant-loop-key g l = Adds l.fn.self l.yielded l.self
