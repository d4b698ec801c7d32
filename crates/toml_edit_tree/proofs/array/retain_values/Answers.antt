-- The values that are kept.
use Rattle.std.specs.Fn.{FnReturnsAt}
use Rattle.toml_edit_model.specs.Tree.{is_value_node}
use Rattle.toml_edit_tree.specs.ElementHolds.{value_held}
use Rattle.toml_edit_tree.specs.View.{value_view}
use Rattle.toml_edit_tree.proofs.HoldsLaws.{retains-held, value-seen}
use Rattle.toml_edit_tree.proofs.array.retain_values.Goals as goal

pub returns : goal.returns
returns g c = retains-held value_held value_view is_value_node value-seen (FnReturnsAt g.F.Fn c.args.keep) _ _ c.retain.ensures
