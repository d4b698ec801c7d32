-- Slots sorted, as the inline table shows them.
use Rattle.std.proofs.Common.{rules}
use Rattle.std.proofs.lemmas.List.Sorted.{answers_always}
use Rattle.toml_edit_laws.proofs.slots.OneSort.{sorted_slots-only}
use Rattle.toml_edit_model.specs.Lists.{is_dotted_inline}
use Rattle.toml_edit_model.specs.Sorting.{IsDeepReorder, IsDeepSort, name_lt}
use Rattle.toml_edit_tree.proofs.DespanLaws.{if_done}
use Rattle.toml_edit_tree.proofs.InlineLaws.{made_inline_fields}
use Rattle.toml_edit_tree.proofs.InlineSortLaws.{of_inline}
use Rattle.toml_edit_tree.proofs.inline_table.InlineTable.sort_values.Goals as goal

pub returns-clause-reorders : goal.returns-clause-reorders
returns-clause-reorders c = of_inline (IsDeepReorder is_dotted_inline) c.args.self.now c.sort_slots.new.slots c.sort_slots.ensures.reorders

pub returns-clause-sorted : goal.returns-clause-sorted
returns-clause-sorted c =
    if_done c.sort_slots.result c.sort_slots.ensures.sorted
    (λ s. of_inline (IsDeepSort is_dotted_inline name_lt) c.args.self.now c.sort_slots.new.slots
    (s name_lt (answers_always _ _ _ (λ f a r f' k. search rules))))

pub returns-clause-in_order : goal.returns-clause-in_order
returns-clause-in_order c =
    if_done c.sort_slots.result c.sort_slots.ensures.sorted
    (λ s. sorted_slots-only is_dotted_inline _ _
    (of_inline (IsDeepSort is_dotted_inline name_lt) c.args.self.now c.sort_slots.new.slots
    (s name_lt (answers_always _ _ _ (λ f a r f' k. search rules)))))

pub returns-clause-fields : goal.returns-clause-fields
returns-clause-fields c = made_inline_fields c.args.self.now c.sort_slots.new.slots
