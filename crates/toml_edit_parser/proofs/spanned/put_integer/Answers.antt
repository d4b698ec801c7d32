-- An integer that is put.
use Rattle.std.proofs.Common.{rules, w64, to_z, of_z, ◌≡◌, ℤ, Some, ap, ◌∙◌}
use Rattle.toml_edit_model.specs.Scalars.{integer}
use Rattle.toml_edit_model.specs.Tree.{leaf, span}
use Rattle.toml_edit_repr.specs.Views.{FormattedView}
use Rattle.toml_edit_tree.specs.View.{item_view}
use Rattle.toml_edit_parser.proofs.ViewLaws.{view-Integer, view-Value}
use Rattle.toml_edit_parser.proofs.spanned.put_integer.Goals as goal

pub returns : goal.returns
returns c =
    let number = c.args.number in
    let own : to_z w64 (of_z w64 number) ≡ number = search rules in
    ap item_view c.put.ensures ∙ view-Value _ ∙ view-Integer c.spanned.result
    ∙ ap (λ (f : FormattedView ℤ). leaf (integer f.value) f.repr f.decor) c.spanned.ensures
    ∙ ap (λ (z : ℤ). leaf (integer z) (Some (span c.args.span.start c.args.span.end)) c.args.decor) own
