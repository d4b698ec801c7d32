-- The closure at a slot.
use Rattle.std.proofs.Common.{refl}
use Rattle.toml_edit_slots.proofs.ClosureLaws.{at_two}
use Rattle.toml_edit_slots.proofs.slots.whole.fn.retain_entries.retain.Goals as goal

pub returns : goal.returns
returns g c = at_two g.F.Fn c.captures.keep c.get.result _ c.keep.result _ c.args.slot.now.item c.get.ensures.name refl c.keep.ensures
