-- The lines of the table's slots, after none.
use Rattle.std.proofs.Common.{ap}
use Rattle.toml_edit_tree.specs.LineValues.{values_read}
use Rattle.toml_edit_tree.proofs.LineValueLaws.{table-whole}
use Rattle.toml_edit_tree.proofs.table.Table.get_values.Goals as goal

pub returns : goal.returns
returns c = table-whole c.args.self.now _ _ (ap values_read c.new-lines.ensures.items) c.in_ok-add_lines.ensures
