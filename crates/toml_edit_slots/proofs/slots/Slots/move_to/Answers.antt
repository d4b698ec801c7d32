-- The slot of a name at another place.
use Rattle.std.proofs.Common.{ap, sym, subst, ◌∙◌}
use Rattle.toml_edit_slots.specs.Seen.{seen}
use Rattle.toml_edit_slots.specs.Slots.{AreApart}
use Rattle.toml_edit_slots.proofs.MoveLaws.{moved-none-seen, moved-seen}
use Rattle.toml_edit_slots.proofs.RenameLaws.{has-none-seen, has-seen}
use Rattle.toml_edit_slots.proofs.slots.Slots.move_to.Goals as goal

pub returns-in-Some-clause-found : goal.returns-in-Some-clause-found
returns-in-Some-clause-found g c = sym (has-seen c.args.name.now c.args.self.now c.in-Some.from (sym c.in-Some.ensures.place))

pub returns-in-Some-clause-slots : goal.returns-in-Some-clause-slots
returns-in-Some-clause-slots g c =
    ap seen c.move_at.ensures
    ∙ moved-seen c.args.name.now c.args.self.now c.in-Some.from c.args.at (subst AreApart c.self.view_is c.self.invariant.0)
    (sym c.in-Some.ensures.place)

pub returns-in-None-clause-found : goal.returns-in-None-clause-found
returns-in-None-clause-found g c = sym (has-none-seen c.args.name.now c.args.self.now (sym c.in-None.ensures.place))

pub returns-in-None-clause-slots : goal.returns-in-None-clause-slots
returns-in-None-clause-slots g c = moved-none-seen c.args.name.now c.args.self.now c.args.at (sym c.in-None.ensures.place)
