-- The items before the place are in order, and the others as they were.
use Rattle.toml_edit_laws.specs.PlaceOrder.{node_by_place}
use Rattle.toml_edit_slots.specs.Slots.{on_item}
use Rattle.toml_edit_tree.specs.View.{item_view}
use Rattle.toml_edit_tree.proofs.InPlace.{Done}
use Rattle.toml_edit_tree.proofs.OrderLaws.{ordered_slot}
use Rattle.toml_edit_tree.proofs.order.+order.Given as goal

abbrev pub invariant-order_items-loop-at : goal.invariant-order_items-loop-at
invariant-order_items-loop-at l = Done item_view node_by_place l.items.items l.initial.items.items l.at

abbrev pub invariant-put_in_order-loop-at : goal.invariant-put_in_order-loop-at
invariant-put_in_order-loop-at l = Done (on_item item_view) ordered_slot l.slots l.initial.slots l.at
