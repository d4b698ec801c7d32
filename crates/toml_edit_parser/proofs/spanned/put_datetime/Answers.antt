-- A date or a time that is put.
use Rattle.std.proofs.Common.{ap, ◌∙◌}
use Rattle.toml_edit_model.specs.Scalars.{datetime}
use Rattle.toml_edit_model.specs.Tree.{leaf}
use Rattle.toml_edit_datetime.specs.DatetimeView.{datetime_view}
use Rattle.toml_edit_datetime.specs.declared.datetime.Datetime as code
use Rattle.toml_edit_repr.specs.Views.{FormattedView}
use Rattle.toml_edit_tree.specs.View.{item_view}
use Rattle.toml_edit_parser.proofs.ViewLaws.{view-Datetime, view-Value}
use Rattle.toml_edit_parser.proofs.spanned.put_datetime.Goals as goal

pub returns : goal.returns
returns c =
    ap item_view c.put.ensures ∙ view-Value _ ∙ view-Datetime c.spanned.result
    ∙ ap (λ (f : FormattedView code.Datetime). leaf (datetime (datetime_view f.value)) f.repr f.decor) c.spanned.ensures
