-- The table at a place.
use Rattle.std.proofs.Common.{sym, ap, ◌∙◌}
use Rattle.toml_edit_model.specs.Lists.{item_list}
use Rattle.toml_edit_model.specs.Shown.{is_table_node}
use Rattle.toml_edit_model.specs.TablesCalls.{table_at}
use Rattle.toml_edit_tree.specs.Containers.{table_node}
use Rattle.toml_edit_tree.specs.ElementHolds.{table_held}
use Rattle.toml_edit_tree.specs.View.{items_view, table_view}
use Rattle.toml_edit_tree.proofs.HoldsLaws.{read-at, table-seen}
use Rattle.toml_edit_tree.proofs.ViewLaws.{tables_items}
use Rattle.toml_edit_tree.proofs.array_of_tables.ArrayOfTables.get.Goals as goal

pub returns : goal.returns
returns c =
    read-at table_held (λ t. table_node (table_view t)) is_table_node table-seen c.as_slice.result.now c.args.at c.get.result c.get.ensures
    ∙ sym (ap (λ xs. table_at c.args.at (item_list xs)) (tables_items c.args.self.now ∙ ap items_view (sym c.as_slice.ensures.value)))
