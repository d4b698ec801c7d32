-- An array of tables.
use Rattle.std.proofs.Common.{◌∙◌}
use Rattle.toml_edit_model.specs.Lists.{is_tables_node}
use Rattle.toml_edit_tree.proofs.SlotsLaws.{is_tables-some}
use Rattle.toml_edit_tree.proofs.table.Table.contains_array_of_tables.Goals as goal

pub returns-in-Some : goal.returns-in-Some
returns-in-Some c = c.is_array_of_tables.ensures ∙ is_tables-some _ ∙ c.in-Some.ensures is_tables_node

pub returns-in-None : goal.returns-in-None
returns-in-None c = c.in-None.ensures is_tables_node
