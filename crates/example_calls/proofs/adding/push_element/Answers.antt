-- The array of tables in the item has the element at its end.
use Rattle.std.proofs.Common.{◌≡◌, ◌∙◌, rules}
use Rattle.toml_edit.specs.model.ArrayCalls.{pushed}
use Rattle.toml_edit.specs.tree.Containers.{table_node}
use Rattle.toml_edit.specs.tree.Elements.{tables_of}
use Rattle.toml_edit.specs.tree.View.{item_view, table_view, tables_view}
use Rattle.example_calls.proofs.SlotLaws.{last-view, view-ArrayOfTables}
use Rattle.example_calls.proofs.adding.push_element.Goals as goal

pub returns-in-Some-clause-ok : goal.returns-in-Some-clause-ok
returns-in-Some-clause-ok c =
    let x = table_node (table_view c.args.element) in
    let items : tables_of c.push.new.self ≡ pushed x (tables_of c.in-Some.tables.now) = search rules in
    view-ArrayOfTables c.push.new.self
    ∙ last-view x (item_view c.args.item.now) (tables_view c.in-Some.tables.now) (tables_view c.push.new.self) c.in-Some.ensures.tables
    c.push.ensures.extent items
