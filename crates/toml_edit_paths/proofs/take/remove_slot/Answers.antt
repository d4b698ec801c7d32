-- What stands under the key, if anything does.
use Rattle.std.proofs.Common.{refl, sym}
use Rattle.toml_edit_tree.specs.Indexed.{shown_slots}
use Rattle.toml_edit_paths.proofs.SlotLaws.{none-taken, slot-taken}
use Rattle.toml_edit_paths.proofs.take.remove_slot.Goals as goal

pub returns-in-None-clause-changes : goal.returns-in-None-clause-changes
returns-in-None-clause-changes c = (none-taken c.args.key.now (shown_slots c.args.slots.now) (sym c.in-None.ensures), refl)

pub returns-in-Some-clause-changes : goal.returns-in-Some-clause-changes
returns-in-Some-clause-changes c =
    slot-taken c.args.key.now c.args.slots.now c.remove.new.self _ (sym c.in-Some.ensures) c.remove.ensures.slots c.remove.ensures.absent
