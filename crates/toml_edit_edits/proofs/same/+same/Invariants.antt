-- What is left to compare decides.
use Rattle.std.proofs.Common.{◌≡◌, drop, length}
use Rattle.toml_edit_tree.specs.Indexed.{shown_slots}
use Rattle.toml_edit_tree.specs.View.{items_view, slots_view}
use Rattle.toml_edit_edits.specs.Same.{same_items, same_slots}
use Rattle.toml_edit_edits.proofs.same.+same.Given as goal

abbrev pub invariant-same_items-loop-at : goal.invariant-same_items-loop-at
invariant-same_items-loop-at l =
    (same_items (items_view (drop l.at l.a.items)) (items_view (drop l.at l.b.items)) ≡ same_items (items_view l.a.items) (items_view l.b.items))
    × (length l.a.items ≡ length l.b.items)

abbrev pub invariant-same_slots-slots : goal.invariant-same_slots-slots
invariant-same_slots-slots l =
    same_slots (slots_view (drop l.slot-index l.entries)) (shown_slots l.b) ≡ same_slots (slots_view l.entries) (shown_slots l.b)
