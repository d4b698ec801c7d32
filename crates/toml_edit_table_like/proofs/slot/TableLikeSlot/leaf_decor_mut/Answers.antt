-- A decor of the key of a slot, to be changed.
use Rattle.std.proofs.Common.{length, refl, arith, ap, ◌∙◌, slice_get}
use Rattle.toml_edit_slots.specs.Lengths.{length-on_key}
use Rattle.toml_edit_slots.specs.Slots.{on_key}
use Rattle.toml_edit_table_like.proofs.SlotLaws.{key_written, part-of-key, slot_of}
use Rattle.toml_edit_table_like.proofs.slot.TableLikeSlot.leaf_decor_mut.Goals as goal

pub invariant_of-self-lent : goal.invariant_of-self-lent
invariant_of-self-lent g c w =
    let o = c.args.self.now in
    let es = g.T.HasSlots.entries o.table.now in
    let many = ap length (g.T.HasSlots.takes (on_key o.at (λ k. record k { leaf = w }) es) o.table.now)
    ∙ length-on_key (λ k. record k { leaf = w }) es o.at in
    (omega (arith, o.within, many), tt)

pub returns : goal.returns
returns g c =
    let o = c.args.self.now in
    let here = slot_of o in (
      (refl, λ w. key_written o (λ k. record k { leaf = w }) _),
      record {
        writes_back = tt;
        decor = part-of-key (λ k. k.leaf) (slice_get (g.T.HasSlots.entries o.table.now) o.at) ∙ c.leaf_decor_at_mut.ensures.decor;
        leaves = here.rekeys;
        keeps = here.keeps_key;
      },
    )
