use Rattle.std.proofs.Common.{ap, ◌∙◌}
use Rattle.toml_edit_tree.specs.Containers.{inline_node}
use Rattle.toml_edit_parser.proofs.ViewLaws.{view-InlineTable, view-Value}
use Rattle.toml_edit_parser.proofs.inline_table.path_item.Goals as goal

pub returns : goal.returns
returns c = view-Value _ ∙ view-InlineTable c.path_table.result ∙ ap inline_node c.path_table.ensures
