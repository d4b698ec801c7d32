-- What is inserted is a new table of the value alone.
use Rattle.std.proofs.Common.{◌≡◌, [], ap, ◌∙◌, rules}
use Rattle.toml_edit.specs.model.Conversions.{new_table}
use Rattle.toml_edit.specs.model.Lists.{slot_list}
use Rattle.toml_edit.specs.model.Slots.{inserted}
use Rattle.toml_edit.specs.tree.SlotsOf.{slots_of}
use Rattle.toml_edit.specs.tree.View.{fields_view, item_view, table_view, value_view}
use Rattle.toml_edit.specs.tree.declared.item.Item.TheVariants as items
use Rattle.example_calls.proofs.AddLaws.{table-one, view-Table, view-Value}
use Rattle.example_calls.proofs.adding.add_table.Goals as goal

pub returns-clause-ok : goal.returns-clause-ok
returns-clause-ok c =
    let v = c.args.value in
    let key = c.args.key.now in
    let t = c.insert.new.self in
    let put : slots_of c.insert-2.new.self ≡ inserted c.args.name.now (item_view (items.Table t)) (slots_of c.args.root.now) =
    search rules in
    let first : slots_of t ≡ inserted key (item_view (items.Value v)) (slots_of c.new-table.result) = search rules in
    let slots : slots_of t ≡ inserted key (value_view v) [] =
    first ∙ (λ i. inserted key (view-Value v i) (slot_list (c.new-table.ensures i).slots)) in
    let fields : fields_view t ≡ new_table = c.insert.ensures.fields ∙ ap (λ a. a.fields) c.new-table.ensures in
    put ∙ ap (λ n. inserted c.args.name.now n (slots_of c.args.root.now)) (view-Table t
    ∙ table-one new_table key (value_view v) (table_view t) fields slots)
