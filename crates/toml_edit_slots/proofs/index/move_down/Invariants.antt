-- The places before the next are right.
use Rattle.std.proofs.Common.{◌<◌, ◌-◌, remove}
use Rattle.toml_edit_slots.specs.Slots.{names}
use Rattle.toml_edit_slots.specs.SlotIndex.{HasTexts, IsRightBefore}
use Rattle.toml_edit_slots.proofs.index.move_down.Given as goal

abbrev pub invariant-loop-at : goal.invariant-loop-at
invariant-loop-at g l =
    (l.gap < l.at) × HasTexts l.places (remove (names l.entries) l.gap) × IsRightBefore (l.at - 1) l.places (remove (names l.entries) l.gap)
