-- The value of an entry that is lent, and what the inline table is once it is written.
use Rattle.std.proofs.Common.{refl, sym}
use Rattle.toml_edit_tree.specs.declared.item.Item.TheVariants as items
use Rattle.toml_edit_tree.proofs.LentLaws.{inline_item-keeps, inline_value-leaves}
use Rattle.toml_edit_tree.proofs.inline_table.entry.InlineOccupiedEntry.into_mut.Goals as goal

pub returns : goal.returns
returns c =
    let o = c.args.self in (
      (refl, λ w. refl),
      record {
        writes_back = tt;
        value = sym c.value_at_mut.ensures.value;
        leaves = inline_value-leaves o.at o.table.now;
        keeps = λ w. inline_item-keeps o.at o.table.now (items.Value w);
      },
    )
