-- The slots before the next are in the index.
use Rattle.std.proofs.Common.{take}
use Rattle.toml_edit_slots.specs.Slots.{names}
use Rattle.toml_edit_slots.specs.SlotIndex.{IsIndex}
use Rattle.toml_edit_slots.proofs.index.index_with.Given as goal

abbrev pub invariant-loop-at : goal.invariant-loop-at
invariant-loop-at g l = IsIndex l.index (take l.at (names l.entries))
