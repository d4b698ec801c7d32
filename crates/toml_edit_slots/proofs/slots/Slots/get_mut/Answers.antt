-- An item by its name, to be changed.
use Rattle.std.proofs.Common.{refl, sym, ◌∙◌}
use Rattle.toml_edit_slots.proofs.SlotLaws.{lookup_slot-absent, lookup-at}
use Rattle.toml_edit_slots.proofs.slots.Slots.get_mut.Goals as goal

pub returns-in-None : goal.returns-in-None
returns-in-None g c = (refl, rw (lookup_slot-absent c.args.text.now c.args.self.now (sym c.in-None.ensures.place)) refl)

pub returns-in-Some : goal.returns-in-Some
returns-in-Some g c = (
  rw (sym c.in-Some.ensures.place) refl,
  c.item_mut.ensures.item ∙ sym (lookup-at c.args.text.now c.args.self.now c.in-Some.at (sym c.in-Some.ensures.place)),
)
