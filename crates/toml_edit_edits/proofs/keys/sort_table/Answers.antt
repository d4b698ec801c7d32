-- The copy takes the place of the table.
use Rattle.std.proofs.Common.{◌∙◌, ap, sym}
use Rattle.std.specs.Prelude.{Ok}
use Rattle.toml_edit_tree.specs.Containers.{table_node}
use Rattle.toml_edit_tree.specs.View.{table_view}
use Rattle.toml_edit_edits.proofs.OutcomeLaws.{sorted-table}
use Rattle.toml_edit_edits.proofs.keys.sort_table.Goals as goal

pub returns : goal.returns
returns c =
    ap (λ n. Ok n) (sorted-table (table_view c.args.table.now) (table_view c.in_ok-copy.copy) (table_view c.sort_values.new.self) c.in_ok-copy.ensures
    c.in_ok-sort_values.ensures.fields c.in_ok-sort_values.ensures.in_order
    ∙ ap (λ t. table_node (table_view t)) (sym c.replace.ensures.after))
