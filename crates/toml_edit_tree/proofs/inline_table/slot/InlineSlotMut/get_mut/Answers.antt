-- The item of a slot, to be changed.
use Rattle.std.proofs.Common.{refl, arith}
use Rattle.toml_edit_slots.specs.Lengths.{length-with_item}
use Rattle.toml_edit_tree.specs.declared.inline_table.InlineTable.{out-InlineTable}
use Rattle.toml_edit_tree.proofs.LentLaws.{inline_item-keeps, inline_item-leaves}
use Rattle.toml_edit_tree.proofs.InlineSlotLaws.{slot_written}
use Rattle.toml_edit_tree.proofs.inline_table.slot.InlineSlotMut.get_mut.Goals as goal

pub invariant_of-self-lent : goal.invariant_of-self-lent
invariant_of-self-lent c w =
    let o = c.args.self.now in
    (omega (arith, o.within, length-with_item (out-InlineTable o.table.now).items o.at w), tt)

pub returns : goal.returns
returns c =
    let o = c.args.self.now in (
      (refl, λ w. slot_written o w _),
      record {
        writes_back = tt;
        item = c.item_at_mut.ensures.item;
        leaves = inline_item-leaves o.at o.table.now;
        keeps =
            inline_item-keeps o.at o.table.now;
      },
    )
