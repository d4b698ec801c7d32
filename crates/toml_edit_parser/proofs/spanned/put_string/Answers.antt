-- A string that is put.
use Rattle.std.proofs.Common.{String, string_bytes, ap, ◌∙◌}
use Rattle.std.specs.declared.alloc.Global.{Global}
use Rattle.toml_edit_model.specs.Scalars.{string}
use Rattle.toml_edit_model.specs.Tree.{leaf}
use Rattle.toml_edit_repr.specs.Views.{FormattedView}
use Rattle.toml_edit_tree.specs.View.{item_view}
use Rattle.toml_edit_parser.proofs.ViewLaws.{view-String, view-Value}
use Rattle.toml_edit_parser.proofs.spanned.put_string.Goals as goal

pub returns : goal.returns
returns c =
    ap item_view c.put.ensures ∙ view-Value _ ∙ view-String c.spanned.result
    ∙ ap (λ (f : FormattedView (String Global)). leaf (string (string_bytes f.value)) f.repr f.decor) c.spanned.ensures
