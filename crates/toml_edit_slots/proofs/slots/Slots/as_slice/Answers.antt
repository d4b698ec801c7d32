-- No two slots have one name.
use Rattle.std.proofs.Common.{subst}
use Rattle.toml_edit_slots.specs.Slots.{AreApart}
use Rattle.toml_edit_slots.proofs.SlotLaws.{apart-at}
use Rattle.toml_edit_slots.proofs.slots.Slots.as_slice.Goals as goal

pub returns-clause-apart : goal.returns-clause-apart
returns-clause-apart g c at slot is = apart-at c.args.self.now at slot (subst AreApart c.self.view_is c.self.invariant.0) is
