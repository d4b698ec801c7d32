-- The values in another order.
use Rattle.std.proofs.lemmas.Result.{on_ok_weaker}
use Rattle.std.specs.Ordering.{is_lt}
use Rattle.toml_edit_model.specs.Tree.{is_value_node}
use Rattle.toml_edit_tree.specs.ElementHolds.{value_held}
use Rattle.toml_edit_tree.specs.View.{value_view}
use Rattle.toml_edit_tree.proofs.HoldsLaws.{value-seen}
use Rattle.toml_edit_tree.proofs.SortsLaws.{permuted-listed, sorts-held}
use Rattle.toml_edit_tree.proofs.array.sort.sort_values_by_key.Goals as goal

pub returns-clause-permutation : goal.returns-clause-permutation
returns-clause-permutation g c = permuted-listed _ _ c.sort_by_key.ensures.permutation

pub returns-clause-sorted : goal.returns-clause-sorted
returns-clause-sorted g c =
    on_ok_weaker c.sort_by_key.result
    (λ p key by. sorts-held value_held value_view is_value_node value-seen (λ m n. is_lt (g.K.Ord.cmp (key m) (key n))) _ _
    (p (λ v. key (value_view v)) by))
    c.sort_by_key.ensures.sorted
