-- The value that is named goes with its line.
use Rattle.std.proofs.Common.{◌≡◌, ◌∙◌, List, Some, ap, sym}
use Rattle.toml_edit_model.specs.Lists.{item_list}
use Rattle.toml_edit_model.specs.Tree.{is_value_node}
use Rattle.toml_edit_tree.specs.declared.item.Item.{Item}
use Rattle.toml_edit_tree.specs.Elements.{items_of, listed}
use Rattle.toml_edit_tree.specs.View.{array_view}
use Rattle.toml_edit_paths.specs.Elements.{place_named}
use Rattle.toml_edit_paths.proofs.LineLaws.{line-dropped}
use Rattle.toml_edit_paths.proofs.ViewLaws.{array-items}
use Rattle.toml_edit_paths.proofs.take_line.remove_line_in_array.Goals as goal

pub returns-in_ok-remove_line-in-Some : goal.returns-in_ok-remove_line-in-Some
returns-in_ok-remove_line-in-Some c =
    let k = c.args.key.now.name in
    let a = c.args.array.now in
    let named : Some c.in-Some.at ≡ place_named is_value_node k (items_of a) =
    c.in-Some.ensures.place ∙ ap (λ (zs : List Item). place_named is_value_node k (listed zs)) c.as_slice.ensures.value
    ∙ ap (λ xs. place_named is_value_node k (item_list xs)) (sym (array-items a)) in
    line-dropped k (array_view a) (array_view c.remove_line.new.self) c.in-Some.at named c.in_ok-remove_line-in-Some.ensures.fields
    c.in_ok-remove_line-in-Some.ensures.items
