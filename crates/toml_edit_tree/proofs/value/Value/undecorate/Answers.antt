-- The value with its decor unset.
use Rattle.std.proofs.Common.{ap, ◌∙◌}
use Rattle.toml_edit_model.specs.Conversions.{with_decor}
use Rattle.toml_edit_tree.specs.View.{value_view}
use Rattle.toml_edit_tree.proofs.ViewLaws.{decorated-view}
use Rattle.toml_edit_tree.proofs.value.Value.undecorate.Goals as goal

pub returns : goal.returns
returns c = decorated-view c.default.result c.args.self.now ∙ ap (λ d. with_decor d (value_view c.args.self.now)) c.default.ensures
