-- One value more.
use Rattle.std.proofs.Common.{ap, ◌∙◌}
use Rattle.toml_edit_model.specs.ArrayCalls.{pushed}
use Rattle.toml_edit_tree.specs.declared.item.Item.TheVariants as items
use Rattle.toml_edit_tree.specs.Elements.{listed}
use Rattle.toml_edit_tree.proofs.ElementLaws.{pushed-listed}
use Rattle.toml_edit_tree.proofs.ViewLaws.{view-Value}
use Rattle.toml_edit_tree.proofs.elements.push_value.Goals as goal

pub returns-in-Ok-clause-items : goal.returns-in-Ok-clause-items
returns-in-Ok-clause-items c =
    let xs = c.args.items.now.items in
    ap listed c.in-Ok.ensures.items ∙ pushed-listed xs (items.Value c.args.value) ∙ ap (λ n. pushed n (listed xs)) (view-Value c.args.value)
