-- There are as many items as at first, and none is deeper than the deepest of those.
use denote.Param.Weighed.{most}
use Rattle.std.proofs.Common.{◌≡◌, ◌≤◌, length}
use Rattle.toml_edit_tree.proofs.DespanLaws.{item_depth, slot_depth}
use Rattle.toml_edit_tree.proofs.+tree_drop.Given as goal

abbrev pub invariant-empty::empty_items-loop-at : goal.invariant-empty::empty_items-loop-at
invariant-empty::empty_items-loop-at l =
    (length l.items.items ≡ length l.initial.items.items) × (most item_depth l.items.items ≤ most item_depth l.initial.items.items)

abbrev pub invariant-empty::empty_slots-loop-at : goal.invariant-empty::empty_slots-loop-at
invariant-empty::empty_slots-loop-at l =
    (length l.slots ≡ length l.initial.slots) × (most slot_depth l.slots ≤ most slot_depth l.initial.slots)
