-- The table that is replaced.
use Rattle.std.proofs.Common.{ap, ◌∙◌}
use Rattle.toml_edit_model.specs.ArrayCalls.{written_at}
use Rattle.toml_edit_model.specs.Shown.{is_table_node}
use Rattle.toml_edit_tree.specs.Containers.{table_node}
use Rattle.toml_edit_tree.specs.declared.item.Item.TheVariants as items
use Rattle.toml_edit_tree.specs.ElementHolds.{table_held}
use Rattle.toml_edit_tree.specs.Elements.{listed}
use Rattle.toml_edit_tree.specs.View.{table_view}
use Rattle.toml_edit_tree.proofs.ElementLaws.{inside, written-listed}
use Rattle.toml_edit_tree.proofs.HoldsLaws.{found-at, stands-at, table-seen}
use Rattle.toml_edit_tree.proofs.ViewLaws.{view-Table}
use Rattle.toml_edit_tree.proofs.elements.replace_table.Goals as goal

pub replace-requires : goal.replace-requires
replace-requires c =
    stands-at table_held (λ t. table_node (table_view t)) is_table_node table-seen c.args.items.now.items c.args.at c.requires

pub returns-clause-table : goal.returns-clause-table
returns-clause-table c =
    found-at table_held (λ t. table_node (table_view t)) is_table_node table-seen c.args.items.now.items c.args.at c.replace.result
    c.replace.ensures.element

pub returns-clause-items : goal.returns-clause-items
returns-clause-items c =
    let xs = c.args.items.now.items in
    ap listed c.replace.ensures.items
    ∙ written-listed xs c.args.at (items.Table c.args.table) (inside is_table_node xs c.args.at c.requires)
    ∙ ap (λ n. written_at c.args.at n (listed xs)) (view-Table c.args.table)
