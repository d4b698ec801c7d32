-- Values are of one kind, and tables of the other.
use Rattle.std.proofs.Common.{ap, ◌∙◌, sym, Bool}
use Rattle.std.specs.Prelude.{if◌then◌else◌}
use Rattle.toml_edit_model.specs.Shown.{is_table_node}
use Rattle.toml_edit_model.specs.Tree.{is_value_node}
use Rattle.toml_edit_tree.specs.View.{item_view}
use Rattle.toml_edit_visit.proofs.BelowLaws.{table-kind}
use Rattle.toml_edit_visit.proofs.visit.is_of_kind.Goals as goal

pub returns-then-values : goal.returns-then-values
returns-then-values c =
    c.is_value.ensures ∙ ap (λ (b : Bool). (if b then is_value_node else is_table_node) (item_view c.args.item.now)) (sym c.if-values.true)

pub returns-else-values : goal.returns-else-values
returns-else-values c =
    c.is_table.ensures ∙ table-kind (item_view c.args.item.now)
    ∙ ap (λ (b : Bool). (if b then is_value_node else is_table_node) (item_view c.args.item.now)) (sym c.if-values.false)
