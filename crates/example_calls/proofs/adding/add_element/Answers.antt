-- What is inserted is an array of the element alone.
use Rattle.std.proofs.Common.{◌≡◌, None, ap, ◌∙◌, false, rules}
use Rattle.toml_edit.specs.model.ArrayCalls.{pushed}
use Rattle.toml_edit.specs.model.Lists.{item_list}
use Rattle.toml_edit.specs.model.Slots.{inserted}
use Rattle.toml_edit.specs.model.TableCalls.{contains_tables}
use Rattle.toml_edit.specs.tree.Containers.{table_node}
use Rattle.toml_edit.specs.tree.Elements.{tables_of}
use Rattle.toml_edit.specs.tree.SlotsOf.{slots_of}
use Rattle.toml_edit.specs.tree.View.{item_view, table_view, tables_view}
use Rattle.toml_edit.specs.tree.declared.item.Item.TheVariants as items
use Rattle.example_calls.proofs.SlotLaws.{new-view, view-ArrayOfTables}
use Rattle.example_calls.proofs.adding.add_element.Goals as goal

pub returns-clause-ok : goal.returns-clause-ok
returns-clause-ok c =
    let x = table_node (table_view c.args.element) in
    let t = c.args.name.now in
    let es = slots_of c.args.root.now in
    let off : contains_tables t es ≡ false = search rules in
    let put : slots_of c.insert.new.self ≡ inserted t (item_view (items.ArrayOfTables c.push.new.self)) es = search rules in
    let added : tables_of c.push.new.self ≡ pushed x (tables_of c.new-tables.result) = search rules in
    let list = added ∙ ap (λ a. pushed x (item_list a.items)) c.new-tables.ensures in
    let extent : (tables_view c.push.new.self).extent ≡ None = c.push.ensures.extent ∙ ap (λ a. a.extent) c.new-tables.ensures in
    rw off (put ∙ ap (λ n. inserted t n es) (view-ArrayOfTables c.push.new.self ∙ new-view x (tables_view c.push.new.self) extent list))
