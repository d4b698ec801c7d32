-- A table is seen as one.
use Rattle.std.proofs.Common.{ap, ◌∙◌, sym}
use Rattle.toml_edit_tree.specs.View.{item_view}
use Rattle.toml_edit_paths.specs.Items.{kind_of}
use Rattle.toml_edit_paths.proofs.ElementLaws.{table-kind}
use Rattle.toml_edit_paths.proofs.element.is_of_kind.Goals as goal

pub returns-else-values : goal.returns-else-values
returns-else-values c = c.is_table.ensures ∙ table-kind (item_view c.args.item.now)
    ∙ ap (λ b. kind_of b (item_view c.args.item.now)) (sym c.if-values.false)
