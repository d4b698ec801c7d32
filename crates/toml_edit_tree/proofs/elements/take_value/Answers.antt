-- The value that is taken out.
use Rattle.std.proofs.Common.{ap, ◌∙◌}
use Rattle.toml_edit_model.specs.Tree.{is_value_node}
use Rattle.toml_edit_tree.specs.ElementHolds.{value_held}
use Rattle.toml_edit_tree.specs.Elements.{listed}
use Rattle.toml_edit_tree.specs.View.{value_view}
use Rattle.toml_edit_tree.proofs.ElementLaws.{removed-listed}
use Rattle.toml_edit_tree.proofs.HoldsLaws.{found-at, stands-at, value-seen}
use Rattle.toml_edit_tree.proofs.elements.take_value.Goals as goal

pub remove-requires : goal.remove-requires
remove-requires c = stands-at value_held value_view is_value_node value-seen c.args.items.now.items c.args.at c.requires

pub returns-clause-value : goal.returns-clause-value
returns-clause-value c =
    found-at value_held value_view is_value_node value-seen c.args.items.now.items c.args.at c.remove.result c.remove.ensures.element

pub returns-clause-items : goal.returns-clause-items
returns-clause-items c = ap listed c.remove.ensures.items ∙ removed-listed c.args.items.now.items c.args.at
