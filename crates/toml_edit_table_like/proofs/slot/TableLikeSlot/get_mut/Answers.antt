-- The item of a slot, to be changed.
use Rattle.std.proofs.Common.{length, refl, arith, ap, ◌∙◌}
use Rattle.toml_edit_slots.specs.Lengths.{length-with_item}
use Rattle.toml_edit_slots.specs.Slots.{with_item}
use Rattle.toml_edit_table_like.proofs.SlotLaws.{item_written, slot_of}
use Rattle.toml_edit_table_like.proofs.slot.TableLikeSlot.get_mut.Goals as goal

pub invariant_of-self-lent : goal.invariant_of-self-lent
invariant_of-self-lent g c w =
    let o = c.args.self.now in
    let es = g.T.HasSlots.entries o.table.now in
    let many = ap length (g.T.HasSlots.takes (with_item o.at w es) o.table.now) ∙ length-with_item es o.at w in
    (omega (arith, o.within, many), tt)

pub returns : goal.returns
returns g c =
    let here = slot_of c.args.self.now in (
      (refl, λ w. item_written c.args.self.now w _),
      record { writes_back = tt; item = c.item_at_mut.ensures.item; leaves = here.leaves; keeps = here.keeps_item },
    )
