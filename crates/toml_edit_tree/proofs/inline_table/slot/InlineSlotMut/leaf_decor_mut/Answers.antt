-- A decor of the key of a slot, to be changed.
use Rattle.std.proofs.Common.{refl, arith, ◌∙◌, slice_get}
use Rattle.toml_edit_slots.specs.Lengths.{length-on_key}
use Rattle.toml_edit_tree.specs.declared.inline_table.InlineTable.{out-InlineTable}
use Rattle.toml_edit_tree.proofs.LentLaws.{inline_key-keeps, inline_key-leaves}
use Rattle.toml_edit_tree.proofs.InlineSlotLaws.{slot_key_written}
use Rattle.toml_edit_tree.proofs.TableEntryLaws.{part-of-key}
use Rattle.toml_edit_tree.proofs.inline_table.slot.InlineSlotMut.leaf_decor_mut.Goals as goal

pub invariant_of-self-lent : goal.invariant_of-self-lent
invariant_of-self-lent c w =
    let o = c.args.self.now in
    (omega (arith, o.within, length-on_key (λ k. record k { leaf = w }) (out-InlineTable o.table.now).items o.at), tt)

pub returns : goal.returns
returns c =
    let o = c.args.self.now in (
      (refl, λ w. slot_key_written o (λ k. record k { leaf = w }) _),
      record {
        writes_back = tt;
        decor = part-of-key (λ k. k.leaf) (slice_get (out-InlineTable o.table.now).items o.at)
            ∙ c.leaf_decor_in_mut.ensures.decor;
        leaves = inline_key-leaves o.at o.table.now;
        keeps = inline_key-keeps o.at o.table.now;
      },
    )
