-- The places before the next are moved down.
use Rattle.std.proofs.Common.{◌≡◌}
use Rattle.toml_edit_slots.proofs.HashedLaws.{closed_first}
use Rattle.toml_edit_slots.proofs.hashed.Hashed.close_gap.Given as goal

abbrev pub invariant-loop-at : goal.invariant-loop-at
invariant-loop-at l = l.self.places.entries ≡ closed_first l.gap l.at l.fn.self.places.entries
