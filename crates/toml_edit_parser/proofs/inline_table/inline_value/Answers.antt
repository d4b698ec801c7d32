use Rattle.std.proofs.Common.{ap, ◌∙◌}
use Rattle.toml_edit_tree.specs.Containers.{inline_node}
use Rattle.toml_edit_parser.proofs.ViewLaws.{view-InlineTable}
use Rattle.toml_edit_parser.proofs.inline_table.inline_value.Goals as goal

pub returns : goal.returns
returns c = view-InlineTable c.new_inline.result ∙ ap inline_node c.new_inline.ensures
