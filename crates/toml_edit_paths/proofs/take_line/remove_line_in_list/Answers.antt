-- An array loses the line of its value, and any other item what `remove` takes from it.
use Rattle.std.proofs.Common.{◌≡◌, ◌∙◌, ap, refl, sym}
use Rattle.toml_edit_tree.specs.Containers.{array_node}
use Rattle.toml_edit_tree.specs.View.{array_view, item_view}
use Rattle.toml_edit_paths.specs.Lines.{remove_line_child}
use Rattle.toml_edit_paths.proofs.ChangeLaws.{renamed}
use Rattle.toml_edit_paths.proofs.LineLaws.{array-is, no-array}
use Rattle.toml_edit_paths.proofs.ViewLaws.{view-Array, view-Value}
use Rattle.toml_edit_paths.proofs.take_line.remove_line_in_list.Goals as goal

pub returns-in-Some : goal.returns-in-Some
returns-in-Some c =
    let n = item_view c.args.item.now in
    let is : array_node (array_view c.in-Some.array.now) ≡ n = array-is n (array_view c.in-Some.array.now) c.in-Some.ensures.array in
    renamed _ _ _ _ _ _ _ (ap (remove_line_child c.args.key.now.name) is) is (sym (view-Value _ ∙ view-Array _)) c.remove_line_in_array.ensures

pub returns-in-None : goal.returns-in-None
returns-in-None c =
    renamed _ _ _ _ _ _ _ (no-array c.args.key.now.name (item_view c.args.item.now) (sym c.in-None.ensures.array)) refl refl
    c.remove_in_item.ensures.changes
