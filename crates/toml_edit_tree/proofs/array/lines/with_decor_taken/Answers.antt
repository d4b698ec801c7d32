-- The value with another decor.
use Rattle.std.proofs.Common.{ap, ◌∙◌, sym}
use Rattle.toml_edit_tree.specs.ArrayLines.{redecorated}
use Rattle.toml_edit_tree.specs.View.{value_view}
use Rattle.toml_edit_tree.proofs.ViewLaws.{decorated-view}
use Rattle.toml_edit_tree.proofs.array.lines.with_decor_taken.Goals as goal

pub returns-in-Some : goal.returns-in-Some
returns-in-Some c =
    decorated-view c.in-Some.decor c.args.value ∙ ap (λ d. redecorated d (value_view c.args.value)) (sym c.in-Some.is)
