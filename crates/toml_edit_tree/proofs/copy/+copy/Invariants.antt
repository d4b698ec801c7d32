-- The copies up to here look like the first of the items.
use Rattle.std.proofs.Common.{◌≡◌, map, take}
use Rattle.toml_edit_slots.specs.Slots.{on_item}
use Rattle.toml_edit_tree.specs.View.{item_view}
use Rattle.toml_edit_tree.proofs.copy.+copy.Given as goal

abbrev pub invariant-fill_items-loop-at : goal.invariant-fill_items-loop-at
invariant-fill_items-loop-at l = map item_view l.copies.items ≡ map item_view (take l.at l.items.items)

abbrev pub invariant-fill_slots-loop-at : goal.invariant-fill_slots-loop-at
invariant-fill_slots-loop-at l = map (on_item item_view) l.copies ≡ map (on_item item_view) (take l.at l.entries)
