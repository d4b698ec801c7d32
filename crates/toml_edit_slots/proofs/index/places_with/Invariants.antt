-- The slots before the next are in the index.
use Rattle.std.proofs.Common.{take}
use Rattle.toml_edit_slots.specs.Slots.{names}
use Rattle.toml_edit_slots.specs.SlotIndex.{IsIndexOf}
use Rattle.toml_edit_slots.proofs.index.places_with.Given as goal

abbrev pub invariant-loop-at : goal.invariant-loop-at
invariant-loop-at g l = IsIndexOf l.places (take l.at (names l.entries))
