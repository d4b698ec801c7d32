-- The item of an entry, to be changed.
use Rattle.std.proofs.Common.{refl, arith}
use Rattle.toml_edit_slots.specs.Lengths.{length-with_item}
use Rattle.toml_edit_tree.specs.declared.table.Table.{out-Table}
use Rattle.toml_edit_tree.proofs.LentLaws.{item-keeps, item-leaves}
use Rattle.toml_edit_tree.proofs.TableEntryLaws.{item_written}
use Rattle.toml_edit_tree.proofs.table.entry.OccupiedEntry.get_mut.Goals as goal

pub invariant_of-self-lent : goal.invariant_of-self-lent
invariant_of-self-lent c w =
    let o = c.args.self.now in
    (omega (arith, o.within, length-with_item (out-Table o.table.now).slots o.at w), tt)

pub returns : goal.returns
returns c =
    let o = c.args.self.now in (
      (refl, λ w. item_written o w _),
      record {
        writes_back = tt;
        item = c.item_at_mut.ensures.item;
        leaves = item-leaves o.at o.table.now;
        keeps =
            item-keeps o.at o.table.now;
      },
    )
