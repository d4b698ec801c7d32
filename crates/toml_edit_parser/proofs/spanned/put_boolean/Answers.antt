-- A boolean that is put.
use Rattle.std.proofs.Common.{Bool, ap, ◌∙◌}
use Rattle.toml_edit_model.specs.Scalars.{boolean}
use Rattle.toml_edit_model.specs.Tree.{leaf}
use Rattle.toml_edit_repr.specs.Views.{FormattedView}
use Rattle.toml_edit_tree.specs.View.{item_view}
use Rattle.toml_edit_parser.proofs.ViewLaws.{view-Boolean, view-Value}
use Rattle.toml_edit_parser.proofs.spanned.put_boolean.Goals as goal

pub returns : goal.returns
returns c =
    ap item_view c.put.ensures ∙ view-Value _ ∙ view-Boolean c.spanned.result
    ∙ ap (λ (f : FormattedView Bool). leaf (boolean f.value) f.repr f.decor) c.spanned.ensures
