-- The new value with the old decor, and the old one with the new.
use Rattle.std.proofs.Common.{ap, ◌∙◌}
use Rattle.toml_edit_model.specs.Conversions.{with_decor}
use Rattle.toml_edit_tree.specs.View.{value_view}
use Rattle.toml_edit_tree.proofs.ViewLaws.{decorated-view}
use Rattle.toml_edit_tree.proofs.value.Value.replace_with.Goals as goal

pub returns-clause-new : goal.returns-clause-new
returns-clause-new c =
    ap value_view c.replace.ensures.after ∙ decorated-view _ c.args.new
    ∙ ap (λ d. with_decor d (value_view c.args.new)) (c.swap.ensures.y_after ∙ c.decor_mut.ensures.decor)

pub returns-clause-old : goal.returns-clause-old
returns-clause-old c =
    ap value_view c.replace.ensures.value ∙ decorated-view _ c.args.self.now
    ∙ ap (λ d. with_decor d (value_view c.args.self.now)) (c.swap.ensures.x_after ∙ c.decor_mut-2.ensures.decor)
