use Rattle.std.proofs.Common.{ap, ◌∙◌}
use Rattle.toml_edit_tree.specs.Containers.{array_node}
use Rattle.toml_edit_parser.proofs.ViewLaws.{view-Array}
use Rattle.toml_edit_parser.proofs.array.array_value.Goals as goal

pub returns : goal.returns
returns c = view-Array c.new_array.result ∙ ap array_node c.new_array.ensures
