-- What the calls of arrays and inline tables answer, by their lists.
use Rattle.std.proofs.Common.{◌≡◌, List, [], ◌∷◌, ◌++◌, is_some, refl, ap}
use Rattle.toml_edit_model.specs.Tree.{Node, nothing, leaf, list, inline, table, tables, item, is_value_node}
use Rattle.toml_edit_laws.specs.TableTree.{with_item}
use Rattle.toml_edit_tree.specs.Containers.{value_in}
use Rattle.toml_edit_tree.specs.declared.item.Item.{Item}
use Rattle.toml_edit_tree.specs.View.{item_view, items_view}

-- one more at the end
pub items-more : (xs : List Item) (x : Item) → items_view (xs ++ x ∷ []) ≡ with_item (items_view xs) (item_view x)
items-more [] x = refl
items-more (y ∷ xs) x = ap (item (item_view y)) (items-more xs x)

-- a value is in a node that is one
pub value_in-some : (n : Node) → is_some (value_in n) ≡ is_value_node n
value_in-some nothing = refl
value_in-some (leaf s spelling d) = refl
value_in-some (list f xs) = refl
value_in-some (inline f ss) = refl
value_in-some (table f ss) = refl
value_in-some (tables e xs) = refl
