-- The table that is taken out.
use Rattle.std.proofs.Common.{ap, ◌∙◌}
use Rattle.toml_edit_model.specs.Shown.{is_table_node}
use Rattle.toml_edit_tree.specs.Containers.{table_node}
use Rattle.toml_edit_tree.specs.ElementHolds.{table_held}
use Rattle.toml_edit_tree.specs.Elements.{listed}
use Rattle.toml_edit_tree.specs.View.{table_view}
use Rattle.toml_edit_tree.proofs.ElementLaws.{removed-listed}
use Rattle.toml_edit_tree.proofs.HoldsLaws.{found-at, stands-at, table-seen}
use Rattle.toml_edit_tree.proofs.elements.take_table.Goals as goal

pub remove-requires : goal.remove-requires
remove-requires c = stands-at table_held (λ t. table_node (table_view t)) is_table_node table-seen c.args.items.now.items c.args.at
    c.requires

pub returns-clause-table : goal.returns-clause-table
returns-clause-table c =
    found-at table_held (λ t. table_node (table_view t)) is_table_node table-seen c.args.items.now.items c.args.at c.remove.result
    c.remove.ensures.element

pub returns-clause-items : goal.returns-clause-items
returns-clause-items c = ap listed c.remove.ensures.items ∙ removed-listed c.args.items.now.items c.args.at
