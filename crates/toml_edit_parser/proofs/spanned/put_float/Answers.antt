-- A float that is put.
use Rattle.std.proofs.Common.{ap, ◌∙◌}
use Rattle.toml_edit_model.specs.Scalars.{float}
use Rattle.toml_edit_model.specs.Text.{Text}
use Rattle.toml_edit_model.specs.Tree.{leaf}
use Rattle.toml_edit_repr.specs.Views.{FormattedView}
use Rattle.toml_edit_tree.specs.View.{item_view}
use Rattle.toml_edit_parser.proofs.ViewLaws.{view-Float, view-Value}
use Rattle.toml_edit_parser.proofs.spanned.put_float.Goals as goal

pub returns : goal.returns
returns c =
    ap item_view c.put.ensures ∙ view-Value _ ∙ view-Float c.spanned.result
    ∙ ap (λ (f : FormattedView Text). leaf (float f.value) f.repr f.decor) c.spanned.ensures
