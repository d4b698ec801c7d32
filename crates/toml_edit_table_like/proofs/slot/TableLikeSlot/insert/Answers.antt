-- Another item in a slot.
use Rattle.std.proofs.Common.{◌<◌, length, sym, ap, subst, ◌∙◌}
use Rattle.toml_edit_slots.specs.Lengths.{length-with_item}
use Rattle.toml_edit_slots.specs.Slots.{with_item}
use Rattle.toml_edit_table_like.proofs.slot.TableLikeSlot.insert.Goals as goal

pub invariant_of-self : goal.invariant_of-self
invariant_of-self g c =
    let o = c.args.self.now in
    let t = o.table.now in
    let many = ap length (g.T.HasSlots.takes c.replace_item.new.self t ∙ c.replace_item.ensures.slots
    ∙ ap (with_item o.at c.args.item) c.as_slots_mut.ensures.slots)
    ∙ length-with_item (g.T.HasSlots.entries t) o.at c.args.item in
    record { within = subst (λ n. o.at < n) (sym many) o.within }
