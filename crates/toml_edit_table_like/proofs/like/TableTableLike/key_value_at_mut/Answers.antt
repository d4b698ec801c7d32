-- The slot at a place.
use Rattle.std.proofs.Common.{refl, sym, ◌∙◌}
use Rattle.toml_edit_table_like.proofs.SlotLaws.{slot_of}
use Rattle.toml_edit_table_like.proofs.like.TableTableLike.key_value_at_mut.Goals as goal

pub returns-then-has_place : goal.returns-then-has_place
returns-then-has_place c = (
  (refl, λ w. refl, tt),
  record { absent = tt; same_table = refl; slot = slot_of _; place = rw (sym c.has_place.ensures.there ∙ c.if-has_place.true) refl },
)
