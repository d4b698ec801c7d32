-- The item of an entry that is lent, and what the table is once it is written.
use Rattle.std.proofs.Common.{refl}
use Rattle.toml_edit_tree.proofs.LentLaws.{item-keeps, item-leaves}
use Rattle.toml_edit_tree.proofs.table.entry.OccupiedEntry.into_mut.Goals as goal

pub returns : goal.returns
returns c =
    let o = c.args.self in (
      (refl, λ w. refl),
      record {
        writes_back = tt;
        item = c.item_mut.ensures.item;
        leaves = item-leaves o.at o.table.now;
        keeps =
            item-keeps o.at o.table.now;
      },
    )
