-- The key of a slot, to be changed.
use Rattle.std.proofs.Common.{length, refl, arith, ap, ◌∙◌}
use Rattle.toml_edit_key.specs.KeyMutView.{with_parts}
use Rattle.toml_edit_slots.specs.Lengths.{length-on_key}
use Rattle.toml_edit_slots.specs.Slots.{on_key}
use Rattle.toml_edit_table_like.proofs.SlotLaws.{key_written, slot_of}
use Rattle.toml_edit_table_like.proofs.slot.TableLikeSlot.key_mut.Goals as goal

pub invariant_of-self-lent : goal.invariant_of-self-lent
invariant_of-self-lent g c w =
    let o = c.args.self.now in
    let es = g.T.HasSlots.entries o.table.now in
    let many = ap length (g.T.HasSlots.takes (on_key o.at (with_parts w) es) o.table.now) ∙ length-on_key (with_parts w) es o.at in
    (omega (arith, o.within, many), tt)

pub returns : goal.returns
returns g c =
    let here = slot_of c.args.self.now in (
      (refl, λ w. key_written c.args.self.now (with_parts w) _),
      record { writes_back = tt; key = c.key_at_mut.ensures.key; leaves = here.rekeys; keeps = here.keeps_key },
    )
