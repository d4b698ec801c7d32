-- The new value has the decor of the old one.
use Rattle.std.proofs.Common.{ap, ◌∙◌}
use Rattle.toml_edit_model.specs.Conversions.{with_decor}
use Rattle.toml_edit_model.specs.Tree.{Decor}
use Rattle.toml_edit_tree.specs.View.{value_view}
use Rattle.toml_edit_paths.proofs.ViewLaws.{decorated-view}
use Rattle.toml_edit_paths.proofs.put.swap_decors.Goals as goal

pub returns : goal.returns
returns c =
    let new = c.args.new.now in
    decorated-view _ new ∙ ap (λ (d : Decor). with_decor d (value_view new)) (c.swap.ensures.y_after ∙ c.decor_mut.ensures.decor)
