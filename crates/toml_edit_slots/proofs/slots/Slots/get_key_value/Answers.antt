-- A key with its item.
use Rattle.std.proofs.Common.{rules, subst, sym, ap, ◌∙◌, option_map}
use Rattle.std.proofs.lemmas.Option.{slice_get-map}
use Rattle.toml_edit_slots.specs.Slots.{AreApart}
use Rattle.toml_edit_slots.proofs.SeenLaws.{apart-seen, lookup_slot-seen, one_seen}
use Rattle.toml_edit_slots.proofs.SlotLaws.{lookup_slot-absent}
use Rattle.toml_edit_slots.proofs.slots.Slots.get_key_value.Goals as goal

pub returns-in_err-at-clause-slot : goal.returns-in_err-at-clause-slot
returns-in_err-at-clause-slot g c =
    rw (
      lookup_slot-seen c.args.name.now c.args.self.now,
      lookup_slot-absent c.args.name.now c.args.self.now (sym c.in_err-at.ensures.place),
    ) (search rules)

pub returns-in_err-at-clause-apart : goal.returns-in_err-at-clause-apart
returns-in_err-at-clause-apart g c = apart-seen c.args.self.now (subst AreApart c.self.view_is c.self.invariant.0)

pub returns-clause-slot : goal.returns-clause-slot
returns-clause-slot g c =
    c.key_value_at.ensures ∙ slice_get-map one_seen c.args.self.now c.in_ok-at.at ∙ ap (option_map one_seen) c.in_ok-at.ensures.slot
    ∙ sym (lookup_slot-seen c.args.name.now c.args.self.now)

pub returns-clause-apart : goal.returns-clause-apart
returns-clause-apart g c = apart-seen c.args.self.now (subst AreApart c.self.view_is c.self.invariant.0)
