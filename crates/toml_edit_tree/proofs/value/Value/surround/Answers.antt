-- The value with another decor.
use Rattle.std.proofs.Common.{ap, ◌∙◌}
use Rattle.toml_edit_model.specs.Conversions.{with_decor}
use Rattle.toml_edit_tree.specs.View.{value_view}
use Rattle.toml_edit_tree.proofs.ViewLaws.{decorated-view}
use Rattle.toml_edit_tree.proofs.value.Value.surround.Goals as goal

pub returns : goal.returns
returns c = decorated-view c.new.result c.args.self.now ∙ ap (λ d. with_decor d (value_view c.args.self.now)) c.new.ensures
