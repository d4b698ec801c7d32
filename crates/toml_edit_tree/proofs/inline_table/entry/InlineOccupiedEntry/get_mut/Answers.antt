-- The value of an entry, to be changed.
use Rattle.std.proofs.Common.{refl, sym}
use Rattle.toml_edit_tree.specs.InlineValues.{has-with_item}
use Rattle.toml_edit_tree.specs.declared.inline_table.InlineTable.{out-InlineTable}
use Rattle.toml_edit_tree.specs.declared.item.Item.TheVariants as items
use Rattle.toml_edit_tree.proofs.LentLaws.{inline_item-keeps, inline_value-leaves}
use Rattle.toml_edit_tree.proofs.InlineOccupiedLaws.{value_written}
use Rattle.toml_edit_tree.proofs.inline_table.entry.InlineOccupiedEntry.get_mut.Goals as goal

pub invariant_of-self-lent : goal.invariant_of-self-lent
invariant_of-self-lent c w =
    let o = c.args.self.now in
    (has-with_item (out-InlineTable o.table.now).items o.at w o.held, tt)

pub returns : goal.returns
returns c =
    let o = c.args.self.now in (
      (refl, λ w. value_written o w _),
      record {
        writes_back = tt;
        value = sym c.value_at_mut.ensures.value;
        leaves = inline_value-leaves o.at o.table.now;
        keeps = λ w. inline_item-keeps o.at o.table.now (items.Value w);
      },
    )
