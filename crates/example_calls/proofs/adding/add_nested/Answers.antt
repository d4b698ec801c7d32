-- What is inserted is a new implicit table of the other one alone.
use Rattle.std.proofs.Common.{◌≡◌, [], ap, true, ◌∙◌, rules}
use Rattle.toml_edit.specs.model.Lists.{slot_list}
use Rattle.toml_edit.specs.model.Slots.{inserted}
use Rattle.toml_edit.specs.tree.Containers.{table_node, table_with_implicit}
use Rattle.toml_edit.specs.tree.SlotsOf.{slots_of}
use Rattle.toml_edit.specs.tree.View.{fields_view, item_view, table_view}
use Rattle.toml_edit.specs.tree.declared.item.Item.TheVariants as items
use Rattle.example_calls.specs.Adds.{implicit_table}
use Rattle.example_calls.proofs.AddLaws.{table-one, view-Table}
use Rattle.example_calls.proofs.adding.add_nested.Goals as goal

pub returns-clause-ok : goal.returns-clause-ok
returns-clause-ok c =
    let x = c.args.table in
    let key = c.args.inner.now in
    let t = c.insert.new.self in
    let put : slots_of c.insert-2.new.self ≡ inserted c.args.outer.now (item_view (items.Table t)) (slots_of c.args.root.now) =
    search rules in
    let first : slots_of t ≡ inserted key (item_view (items.Table x)) (slots_of c.set_implicit.new.self) = search rules in
    let made = c.set_implicit.ensures ∙ ap (table_with_implicit true) c.new-above.ensures in
    let slots : slots_of t ≡ inserted key (table_node (table_view x)) [] =
    first ∙ (λ i. inserted key (view-Table x i) (slot_list (made i).slots)) in
    let fields : fields_view t ≡ implicit_table = c.insert.ensures.fields ∙ ap (λ a. a.fields) made in
    put ∙ ap (λ n. inserted c.args.outer.now n (slots_of c.args.root.now)) (view-Table t
    ∙ table-one implicit_table key (table_node (table_view x)) (table_view t) fields slots)
