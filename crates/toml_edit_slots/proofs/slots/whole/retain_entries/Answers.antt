-- What std's `retain` leaves.
use Rattle.std.proofs.Common.{rules}
use Rattle.toml_edit_laws.proofs.slots.Retains.{retains_by}
use Rattle.toml_edit_slots.specs.Closures.{SaysOfSlot}
use Rattle.toml_edit_slots.specs.Seen.{slot_seen}
use Rattle.toml_edit_slots.proofs.slots.whole.retain_entries.Goals as goal

pub returns : goal.returns
returns g c = retains_by _ (λ slot. SaysOfSlot g.F.Fn c.args.keep (slot_seen (λ x. x) slot)) _ (λ x b f' k. search rules) _ _
    c.retain.ensures.filtered
