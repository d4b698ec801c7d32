-- One table more, at a place.
use Rattle.std.proofs.Common.{◌≤◌, ap, subst, ◌∙◌}
use Rattle.toml_edit_model.specs.ArrayCalls.{inserted_at}
use Rattle.toml_edit_tree.specs.declared.item.Item.TheVariants as items
use Rattle.toml_edit_tree.specs.Elements.{listed}
use Rattle.toml_edit_tree.proofs.ElementLaws.{inserted-listed, listed-length}
use Rattle.toml_edit_tree.proofs.ViewLaws.{view-Table}
use Rattle.toml_edit_tree.proofs.elements.insert_table.Goals as goal

pub insert-requires : goal.insert-requires
insert-requires c = subst (λ n. c.args.at ≤ n) (listed-length c.args.items.now.items) c.requires

pub returns-in-Ok-clause-items : goal.returns-in-Ok-clause-items
returns-in-Ok-clause-items c =
    let xs = c.args.items.now.items in
    ap listed c.in-Ok.ensures.items ∙ inserted-listed xs c.args.at (items.Table c.args.table)
    ∙ ap (λ n. inserted_at c.args.at n (listed xs)) (view-Table c.args.table)
