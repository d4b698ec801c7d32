-- An item by its name.
use Rattle.std.proofs.Common.{rules, sym}
use Rattle.toml_edit_slots.proofs.SlotLaws.{lookup_slot-absent, lookup_slot-present}
use Rattle.toml_edit_slots.proofs.slots.Slots.get.Goals as goal

pub returns-in_err-at : goal.returns-in_err-at
returns-in_err-at g c = rw (lookup_slot-absent c.args.text.now c.args.self.now (sym c.in_err-at.ensures.place)) (search rules)

pub returns : goal.returns
returns g c = rw (lookup_slot-present c.args.text.now c.args.self.now c.in_ok-at.at c.index.result.now (sym c.in_ok-at.ensures.place))
    (search rules)
