-- The key of a slot, to be changed.
use Rattle.std.proofs.Common.{refl, arith}
use Rattle.toml_edit_key.specs.KeyMutView.{with_parts}
use Rattle.toml_edit_slots.specs.Lengths.{length-on_key}
use Rattle.toml_edit_tree.specs.declared.inline_table.InlineTable.{out-InlineTable}
use Rattle.toml_edit_tree.proofs.LentLaws.{inline_key-keeps, inline_key-leaves}
use Rattle.toml_edit_tree.proofs.InlineSlotLaws.{slot_key_written}
use Rattle.toml_edit_tree.proofs.inline_table.slot.InlineSlotMut.key_mut.Goals as goal

pub invariant_of-self-lent : goal.invariant_of-self-lent
invariant_of-self-lent c w =
    let o = c.args.self.now in
    (omega (arith, o.within, length-on_key (with_parts w) (out-InlineTable o.table.now).items o.at), tt)

pub returns : goal.returns
returns c =
    let o = c.args.self.now in (
      (refl, λ w. slot_key_written o (with_parts w) _),
      record {
        writes_back = tt;
        key = c.key_in_mut.ensures.key;
        leaves = inline_key-leaves o.at o.table.now;
        keeps =
            inline_key-keeps o.at o.table.now;
      },
    )
