-- A value.
use Rattle.std.proofs.Common.{◌∙◌}
use Rattle.toml_edit_model.specs.Tree.{is_value_node}
use Rattle.toml_edit_tree.proofs.table.Table.contains_value.Goals as goal

pub returns-in-Some : goal.returns-in-Some
returns-in-Some c = c.is_value.ensures ∙ c.in-Some.ensures is_value_node

pub returns-in-None : goal.returns-in-None
returns-in-None c = c.in-None.ensures is_value_node
