-- A slot by its name.
use Rattle.std.proofs.Common.{sym, ap, ◌∙◌}
use Rattle.toml_edit_slots.specs.Slots.{place}
use Rattle.toml_edit_slots.proofs.SlotLaws.{slot-at, places-within}
use Rattle.toml_edit_slots.proofs.slots.Slots.find.Goals as goal

pub returns-clause-place : goal.returns-clause-place
returns-clause-place g c = c.find_place.ensures ∙ ap (place c.args.text.now) (c.deref.ensures.value ∙ c.self.view_is)

pub returns-clause-slot : goal.returns-clause-slot
returns-clause-slot g c = slot-at c.args.text.now c.args.self.now c.find_place.result (sym (returns-clause-place g c))

pub returns-clause-within : goal.returns-clause-within
returns-clause-within g c = places-within c.args.text.now c.args.self.now c.find_place.result (returns-clause-place g c)
