-- The values in another order.
use Rattle.std.proofs.lemmas.Result.{on_ok_weaker}
use Rattle.toml_edit_model.specs.Tree.{is_value_node}
use Rattle.toml_edit_tree.specs.ElementHolds.{value_held}
use Rattle.toml_edit_tree.specs.View.{value_view}
use Rattle.toml_edit_tree.proofs.HoldsLaws.{value-seen}
use Rattle.toml_edit_tree.proofs.SortsLaws.{permuted-listed, sorts-held}
use Rattle.toml_edit_tree.proofs.array.sort.sort_values.Goals as goal

pub returns-clause-permutation : goal.returns-clause-permutation
returns-clause-permutation g c = permuted-listed _ _ c.sort_by.ensures.permutation

pub returns-clause-sorted : goal.returns-clause-sorted
returns-clause-sorted g c =
    on_ok_weaker c.sort_by.result
    (λ p lt by. sorts-held value_held value_view is_value_node value-seen lt _ _ (p (λ v w. lt (value_view v) (value_view w)) by))
    c.sort_by.ensures.sorted
