-- The value that is replaced.
use Rattle.std.proofs.Common.{ap, ◌∙◌}
use Rattle.toml_edit_model.specs.ArrayCalls.{written_at}
use Rattle.toml_edit_model.specs.Tree.{is_value_node}
use Rattle.toml_edit_tree.specs.declared.item.Item.TheVariants as items
use Rattle.toml_edit_tree.specs.ElementHolds.{value_held}
use Rattle.toml_edit_tree.specs.Elements.{listed}
use Rattle.toml_edit_tree.specs.View.{value_view}
use Rattle.toml_edit_tree.proofs.ElementLaws.{inside, written-listed}
use Rattle.toml_edit_tree.proofs.HoldsLaws.{found-at, stands-at, value-seen}
use Rattle.toml_edit_tree.proofs.ViewLaws.{view-Value}
use Rattle.toml_edit_tree.proofs.elements.replace_value.Goals as goal

pub replace-requires : goal.replace-requires
replace-requires c = stands-at value_held value_view is_value_node value-seen c.args.items.now.items c.args.at c.requires

pub returns-clause-value : goal.returns-clause-value
returns-clause-value c =
    found-at value_held value_view is_value_node value-seen c.args.items.now.items c.args.at c.replace.result c.replace.ensures.element

pub returns-clause-items : goal.returns-clause-items
returns-clause-items c =
    let xs = c.args.items.now.items in
    ap listed c.replace.ensures.items
    ∙ written-listed xs c.args.at (items.Value c.args.value) (inside is_value_node xs c.args.at c.requires)
    ∙ ap (λ n. written_at c.args.at n (listed xs)) (view-Value c.args.value)
