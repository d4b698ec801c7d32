-- The places before the next are right.
use Rattle.toml_edit_slots.specs.Slots.{names}
use Rattle.toml_edit_slots.specs.Hashed.{HasNames, IsHashedBefore}
use Rattle.toml_edit_slots.proofs.index.number_all.Given as goal

abbrev pub invariant-loop-at : goal.invariant-loop-at
invariant-loop-at g l = HasNames l.hashed (names l.entries) × IsHashedBefore l.at l.hashed (names l.entries)
