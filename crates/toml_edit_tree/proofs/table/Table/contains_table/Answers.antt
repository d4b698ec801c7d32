-- A table.
use Rattle.std.proofs.Common.{◌∙◌}
use Rattle.toml_edit_model.specs.Shown.{is_table_node}
use Rattle.toml_edit_tree.proofs.SlotsLaws.{is_table-some}
use Rattle.toml_edit_tree.proofs.table.Table.contains_table.Goals as goal

pub returns-in-Some : goal.returns-in-Some
returns-in-Some c = c.is_table.ensures ∙ is_table-some _ ∙ c.in-Some.ensures is_table_node

pub returns-in-None : goal.returns-in-None
returns-in-None c = c.in-None.ensures is_table_node
