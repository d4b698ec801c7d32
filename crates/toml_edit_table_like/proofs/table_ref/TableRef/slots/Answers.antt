-- How many slots there are, and their keys, apart.
use Rattle.std.proofs.Common.{length, sym, ap, subst, ◌∙◌}
use Rattle.toml_edit_model.specs.Slots.{AreApart}
use Rattle.toml_edit_table_like.proofs.ShownLaws.{apart-first, length-shown}
use Rattle.toml_edit_table_like.proofs.table_ref.TableRef.slots.Goals as goal

pub returns-clause-count : goal.returns-clause-count
returns-clause-count c = c.len.ensures ∙ sym (length-shown c.as_slots-slots.result.now) ∙ ap length c.as_slots-slots.ensures

pub returns-clause-apart : goal.returns-clause-apart
returns-clause-apart c = subst AreApart c.as_slots-slots.ensures (apart-first c.as_slots-slots.result.now c.as_slice.ensures.apart)
