-- The items to come decide.
use Rattle.std.proofs.Common.{◌≡◌, drop, filter, map}
use Rattle.std.specs.List.{list_all}
use Rattle.toml_edit_model.specs.Lists.{is_inline_node}
use Rattle.toml_edit_model.specs.Tree.{is_value_node}
use Rattle.toml_edit_tree.specs.View.{item_view}
use Rattle.toml_edit_tree.proofs.convert.can_be_tables.Given as goal

abbrev pub invariant-loop-item : goal.invariant-loop-item
invariant-loop-item l =
    list_all is_inline_node (filter is_value_node (map item_view (drop l.item-index l.items)))
    ≡ list_all is_inline_node (filter is_value_node (map item_view l.items))
