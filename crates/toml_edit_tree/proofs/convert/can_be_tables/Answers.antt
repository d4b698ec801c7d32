-- An item that may be no table.
use Rattle.std.proofs.Common.{◌<◌, length, sym, arith, ◌∙◌}
use Rattle.toml_edit_tree.proofs.ConvertLaws.{not-tables}
use Rattle.toml_edit_tree.proofs.convert.can_be_tables.Goals as goal

pub returns-then-not-can_be_table : goal.returns-then-not-can_be_table
returns-then-not-can_be_table c =
    let xs = c.args.items.now in
    let i = c.loop-item.item-index in
    let below : i < length xs = omega arith in
    sym (not-tables xs i c.item-item.result below c.item-item.is (sym c.can_be_table.ensures ∙ c.if-not-can_be_table.true))
