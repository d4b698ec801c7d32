-- The key of a slot with its default spelling.
use Rattle.std.proofs.Common.{◌<◌, length, sym, ap, subst, ◌∙◌}
use Rattle.toml_edit_model.specs.Keys.{reset_key}
use Rattle.toml_edit_slots.specs.Lengths.{length-on_key}
use Rattle.toml_edit_slots.specs.Slots.{on_key}
use Rattle.toml_edit_table_like.proofs.slot.TableLikeSlot.fmt_key.Goals as goal

pub invariant_of-self : goal.invariant_of-self
invariant_of-self g c =
    let o = c.args.self.now in
    let t = o.table.now in
    let many = ap length (g.T.HasSlots.takes c.fmt_key.new.self t ∙ c.fmt_key.ensures
    ∙ ap (on_key o.at reset_key) c.as_slots_mut.ensures.slots)
    ∙ length-on_key reset_key (g.T.HasSlots.entries t) o.at in
    record { within = subst (λ n. o.at < n) (sym many) o.within }
