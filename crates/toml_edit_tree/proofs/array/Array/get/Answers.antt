-- The value at a place.
use Rattle.std.proofs.Common.{sym, ap, ◌∙◌}
use Rattle.toml_edit_model.specs.ArrayCalls.{value_at}
use Rattle.toml_edit_model.specs.Lists.{item_list}
use Rattle.toml_edit_model.specs.Tree.{is_value_node}
use Rattle.toml_edit_tree.specs.ElementHolds.{value_held}
use Rattle.toml_edit_tree.specs.View.{items_view, value_view}
use Rattle.toml_edit_tree.proofs.HoldsLaws.{read-at, value-seen}
use Rattle.toml_edit_tree.proofs.ViewLaws.{array_items}
use Rattle.toml_edit_tree.proofs.array.Array.get.Goals as goal

pub returns : goal.returns
returns c =
    read-at value_held value_view is_value_node value-seen c.as_slice.result.now c.args.at c.get.result c.get.ensures
    ∙ sym (ap (λ xs. value_at c.args.at (item_list xs)) (array_items c.args.self.now ∙ ap items_view (sym c.as_slice.ensures.value)))
