-- The first table that is equal is removed.
use Rattle.std.proofs.Common.{◌≡◌, ◌∙◌, ap, sym, List, map}
use Rattle.toml_edit_model.specs.Conversions.{made_value}
use Rattle.toml_edit_model.specs.ArrayCalls.{removed_at}
use Rattle.toml_edit_model.specs.Lists.{item_list}
use Rattle.toml_edit_model.specs.Tree.{Node}
use Rattle.toml_edit_paths.proofs.ViewLaws.{tables-items, tables-made}
use Rattle.toml_edit_tree.specs.Containers.{TablesView}
use Rattle.toml_edit_tree.specs.Elements.{listed}
use Rattle.toml_edit_tree.specs.View.{tables_view, value_view}
use Rattle.toml_edit_tree.proofs.ElementLaws.{removed-listed}
use Rattle.toml_edit_edits.specs.Effects.{first_same}
use Rattle.toml_edit_edits.proofs.ElementLaws.{pairs-are, taken-made}
use Rattle.toml_edit_edits.proofs.elements.take_in.Goals as goal

pub returns-in-Some : goal.returns-in-Some
returns-in-Some c =
    let v = value_view c.args.value.now in
    let i = c.in-Some.at in
    let xs = c.args.tables.now.values.items in
    let long : item_list (tables_view c.args.tables.now).items ≡ listed xs = ap item_list (tables-items c.args.tables.now) in
    let made = tables-made c.args.tables.now c.remove.new.self in
    taken-made (tables_view c.args.tables.now) _ (ap (λ (a : TablesView). a.extent) made) v i
    (pairs-are v (sym c.is_inline_table.ensures ∙ c.if-not-is_inline_table.false))
    (sym c.in-Some.is ∙ c.in_ok-at.ensures.place ∙ ap (λ (ns : List Node). first_same v (map made_value ns)) (sym long))
    (ap (λ (a : TablesView). item_list a.items) made ∙ ap listed c.remove.ensures.items ∙ removed-listed xs i ∙ ap (removed_at i) (sym long))
