-- The items before the place look as they did, and the others are as they were.
use Rattle.toml_edit_slots.specs.Slots.{on_item}
use Rattle.toml_edit_tree.specs.View.{item_view}
use Rattle.toml_edit_tree.proofs.InPlace.{Done}
use Rattle.toml_edit_tree.proofs.detach.+detach.Given as goal

abbrev pub invariant-detach_items-loop-at : goal.invariant-detach_items-loop-at
invariant-detach_items-loop-at l = Done item_view (λ n. n) l.items.items l.initial.items.items l.at

abbrev pub invariant-detach_slots-loop-at : goal.invariant-detach_slots-loop-at
invariant-detach_slots-loop-at l = Done (on_item item_view) (λ s. s) l.slots l.initial.slots l.at
