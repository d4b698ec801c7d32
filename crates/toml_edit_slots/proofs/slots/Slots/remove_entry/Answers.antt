-- A key with its item, taken out.
use Rattle.std.proofs.Common.{rules, sym, ap, ◌∙◌, option_map}
use Rattle.toml_edit_slots.proofs.SeenLaws.{lookup_slot-seen, one_seen, place-seen}
use Rattle.toml_edit_slots.proofs.slots.Slots.remove_entry.Goals as goal

pub returns-in_err-key-clause-slot : goal.returns-in_err-key-clause-slot
returns-in_err-key-clause-slot g c = rw (lookup_slot-seen c.args.name.now c.args.self.now, ← c.in_err-key.ensures.slot) (search rules)

pub returns-in_err-key-clause-slots : goal.returns-in_err-key-clause-slots
returns-in_err-key-clause-slots g c = c.remove.ensures.seen

pub returns-in_err-key-clause-absent : goal.returns-in_err-key-clause-absent
returns-in_err-key-clause-absent g c = place-seen c.args.name.now c.remove.new.self ∙ c.remove.ensures.absent

pub returns-clause-slot : goal.returns-clause-slot
returns-clause-slot g c = ap (option_map one_seen) c.in_ok-key.ensures.slot ∙ sym (lookup_slot-seen c.args.name.now c.args.self.now)

pub returns-clause-slots : goal.returns-clause-slots
returns-clause-slots g c = c.remove.ensures.seen

pub returns-clause-absent : goal.returns-clause-absent
returns-clause-absent g c = place-seen c.args.name.now c.remove.new.self ∙ c.remove.ensures.absent
