-- The items before the place are in owned form, and the others as they were.
use Rattle.toml_edit_slots.specs.Slots.{on_item}
use Rattle.toml_edit_tree.specs.View.{item_view}
use Rattle.toml_edit_tree.proofs.DespanLaws.{owned_slot}
use Rattle.toml_edit_tree.proofs.InPlace.{Done}
use Rattle.toml_edit_tree.proofs.despan.+despan.Given as goal
use Rattle.toml_edit_model.specs.OwnedForm.{owned_node}

abbrev pub invariant-despan_items-loop-at : goal.invariant-despan_items-loop-at
invariant-despan_items-loop-at l = Done item_view (owned_node l.source) l.items.items l.initial.items.items l.at

abbrev pub invariant-despan_slots-loop-at : goal.invariant-despan_slots-loop-at
invariant-despan_slots-loop-at l = Done (on_item item_view) (owned_slot l.source) l.slots l.initial.slots l.at
