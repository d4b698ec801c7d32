-- No value before the place is the same.
use Rattle.std.proofs.Common.{◌≡◌, ◌<◌, ℕ, false, get_or}
use Rattle.toml_edit_model.specs.Tree.{Node}
use Rattle.toml_edit_tree.specs.Elements.{items_of}
use Rattle.toml_edit_tree.specs.View.{value_view}
use Rattle.toml_edit_edits.specs.Same.{same_node}
use Rattle.toml_edit_edits.proofs.arrays.first_same.Given as goal

abbrev pub invariant-loop-at : goal.invariant-loop-at
invariant-loop-at l = (k : ℕ) (d : Node) → k < l.at → same_node (get_or (items_of l.array) k d) (value_view l.value) ≡ false
