-- Slots sorted, as the table shows them.
use Rattle.std.proofs.Common.{rules}
use Rattle.std.proofs.lemmas.List.Sorted.{answers_always}
use Rattle.toml_edit_laws.proofs.slots.OneSort.{sorted_slots-only}
use Rattle.toml_edit_model.specs.Lists.{is_dotted_table}
use Rattle.toml_edit_model.specs.Sorting.{IsDeepReorder, IsDeepSort, name_lt}
use Rattle.toml_edit_tree.proofs.DespanLaws.{if_done}
use Rattle.toml_edit_tree.proofs.SlotsLaws.{made_fields}
use Rattle.toml_edit_tree.proofs.SortLaws.{of_table}
use Rattle.toml_edit_tree.proofs.table.Table.sort_values.Goals as goal

pub returns-clause-reorders : goal.returns-clause-reorders
returns-clause-reorders c =
    let t = c.args.self.now in
    of_table (IsDeepReorder is_dotted_table) t (record t { slots = c.sort_slots.new.slots }) c.sort_slots.ensures.reorders

pub returns-clause-sorted : goal.returns-clause-sorted
returns-clause-sorted c =
    let t = c.args.self.now in
    if_done c.sort_slots.result c.sort_slots.ensures.sorted
    (λ s. of_table (IsDeepSort is_dotted_table name_lt) t (record t { slots = c.sort_slots.new.slots })
    (s name_lt (answers_always _ _ _ (λ f a r f' k. search rules))))

pub returns-clause-in_order : goal.returns-clause-in_order
returns-clause-in_order c =
    let t = c.args.self.now in
    if_done c.sort_slots.result c.sort_slots.ensures.sorted
    (λ s. sorted_slots-only is_dotted_table _ _
    (of_table (IsDeepSort is_dotted_table name_lt) t (record t { slots = c.sort_slots.new.slots })
    (s name_lt (answers_always _ _ _ (λ f a r f' k. search rules)))))

pub returns-clause-fields : goal.returns-clause-fields
returns-clause-fields c = made_fields c.args.self.now c.sort_slots.new.slots
