-- The slot of a key.
use Rattle.std.proofs.Common.{refl}
use Rattle.toml_edit_table_like.proofs.SlotLaws.{slot_of}
use Rattle.toml_edit_table_like.proofs.like.InlineTableTableLike.slot_mut.Goals as goal

pub returns-in-Some : goal.returns-in-Some
returns-in-Some c = (
  (refl, λ w. refl, tt),
  (refl, (slot_of _, c.in-Some.ensures.there)),
)
