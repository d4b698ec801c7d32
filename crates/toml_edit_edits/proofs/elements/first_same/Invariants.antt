-- No item before the place is the same.
use Rattle.std.proofs.Common.{◌≡◌, ◌<◌, ℕ, false, get_or, map}
use Rattle.toml_edit_model.specs.Conversions.{made_value}
use Rattle.toml_edit_model.specs.Tree.{Node}
use Rattle.toml_edit_tree.specs.Elements.{listed}
use Rattle.toml_edit_tree.specs.View.{value_view}
use Rattle.toml_edit_edits.specs.Same.{same_node}
use Rattle.toml_edit_edits.proofs.elements.first_same.Given as goal

abbrev pub invariant-loop-at : goal.invariant-loop-at
invariant-loop-at l =
    (k : ℕ) (d : Node) → k < l.at → same_node (get_or (map made_value (listed l.items.items)) k d) (value_view l.value) ≡ false
