-- The second hash of a name.
use Rattle.std.proofs.Common.{rules}
use Rattle.toml_edit_slots.specs.SlotIndex.{second_hash}
use Rattle.toml_edit_slots.proofs.places.second_hash.Goals as goal

pub returns : goal.returns
unfolding second_hash
returns c = search rules
