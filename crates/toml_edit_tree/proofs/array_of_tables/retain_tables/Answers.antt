-- The tables that are kept.
use Rattle.std.specs.Fn.{FnReturnsAt}
use Rattle.toml_edit_model.specs.Shown.{is_table_node}
use Rattle.toml_edit_tree.specs.Containers.{table_node}
use Rattle.toml_edit_tree.specs.ElementHolds.{table_held}
use Rattle.toml_edit_tree.specs.View.{table_view}
use Rattle.toml_edit_tree.proofs.HoldsLaws.{retains-held, table-seen}
use Rattle.toml_edit_tree.proofs.array_of_tables.retain_tables.Goals as goal

pub returns : goal.returns
returns g c = retains-held table_held (λ t. table_node (table_view t)) is_table_node table-seen (FnReturnsAt g.F.Fn c.args.keep) _ _
    c.retain.ensures
