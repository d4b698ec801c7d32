-- What is left is seen after what was seen.
use Rattle.std.proofs.Common.{◌≡◌, drop}
use Rattle.toml_edit_tree.specs.View.{items_view, slots_view}
use Rattle.toml_edit_edits.specs.Sections.{latest_items, latest_slots}
use Rattle.toml_edit_edits.proofs.sections.+latest.Given as goal

abbrev pub invariant-latest_in_items-loop-at : goal.invariant-latest_in_items-loop-at
invariant-latest_in_items-loop-at l =
    latest_items l.last (items_view (drop l.at l.items.items)) ≡ latest_items l.seen (items_view l.items.items)

abbrev pub invariant-latest_in_slots-slots : goal.invariant-latest_in_slots-slots
invariant-latest_in_slots-slots l =
    latest_slots l.last (slots_view (drop l.slot-index l.entries)) ≡ latest_slots l.seen (slots_view l.entries)
