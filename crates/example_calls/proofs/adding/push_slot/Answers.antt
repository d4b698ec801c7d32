-- The item at the place is changed, and stays on a failure.
use Rattle.std.proofs.Common.{ap, ◌∙◌}
use Rattle.std.proofs.lemmas.Result.{on_err_weaker, on_ok_weaker}
use Rattle.toml_edit.specs.model.Slots.{changed_at, with_item}
use Rattle.toml_edit.specs.tree.Containers.{table_node}
use Rattle.toml_edit.specs.tree.SlotsOf.{slots_of}
use Rattle.toml_edit.specs.tree.View.{table_view}
use Rattle.example_calls.specs.Elements.{with_last}
use Rattle.example_calls.proofs.SlotLaws.{item-at, item-same}
use Rattle.example_calls.proofs.adding.push_slot.Goals as goal

pub returns-clause-ok : goal.returns-clause-ok
returns-clause-ok c =
    let o = c.args.slot.now in
    let x = table_node (table_view c.args.element) in
    on_ok_weaker c.push_element.result
    (λ is.
    c.get_mut.ensures.leaves c.push_element.new.item ∙ ap (λ n. changed_at o.at (with_item n) (slots_of o.table.now)) is
    ∙ item-at o.table.now o.at (with_last x) c.get_mut.result.now c.get_mut.ensures.item)
    c.push_element.ensures.ok

pub returns-clause-err : goal.returns-clause-err
returns-clause-err c =
    let o = c.args.slot.now in
    on_err_weaker c.push_element.result
    (λ is.
    c.get_mut.ensures.leaves c.push_element.new.item ∙ ap (λ n. changed_at o.at (with_item n) (slots_of o.table.now)) is
    ∙ item-at o.table.now o.at (λ n. n) c.get_mut.result.now c.get_mut.ensures.item ∙ item-same (slots_of o.table.now) o.at)
    c.push_element.ensures.err
