-- Slots sorted by a closure, as the inline table shows them.
use Rattle.std.proofs.lemmas.Fn.{always_returns_same}
use Rattle.toml_edit_model.specs.Lists.{is_dotted_inline}
use Rattle.toml_edit_model.specs.Sorting.{IsDeepReorder, IsSortOfInline, others_first}
use Rattle.toml_edit_model.specs.Tree.{is_value_node}
use Rattle.toml_edit_tree.proofs.DespanLaws.{if_done}
use Rattle.toml_edit_tree.proofs.InlineLaws.{made_inline_fields}
use Rattle.toml_edit_tree.proofs.InlineSortLaws.{of_inline}
use Rattle.toml_edit_tree.proofs.inline_table.InlineTable.sort_values_by.Goals as goal

pub returns-clause-reorders : goal.returns-clause-reorders
returns-clause-reorders g c =
    of_inline (IsDeepReorder is_dotted_inline) c.args.self.now c.sort_slots.new.slots c.sort_slots.ensures.reorders

pub returns-clause-sorted : goal.returns-clause-sorted
returns-clause-sorted g c =
    if_done c.sort_slots.result c.sort_slots.ensures.sorted
    (λ s lt by. of_inline (IsSortOfInline lt) c.args.self.now c.sort_slots.new.slots
    (s (others_first (λ t. is_value_node t.item) lt) (always_returns_same _ _ _ (λ a r f' k. (k.met.0 lt by, k.met.1)))))

pub returns-clause-fields : goal.returns-clause-fields
returns-clause-fields g c = made_inline_fields c.args.self.now c.sort_slots.new.slots
