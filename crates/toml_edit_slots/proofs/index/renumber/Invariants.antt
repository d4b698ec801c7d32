-- The places before the next are right.
use Rattle.toml_edit_slots.specs.Slots.{names}
use Rattle.toml_edit_slots.specs.SlotIndex.{HasTexts, IsRightBefore}
use Rattle.toml_edit_slots.proofs.index.renumber.Given as goal

abbrev pub invariant-loop-at : goal.invariant-loop-at
invariant-loop-at g l = HasTexts l.places (names l.entries) × IsRightBefore l.at l.places (names l.entries)
