-- The items before the place are made values, and the others as they were.
use Rattle.toml_edit_model.specs.Conversions.{made_value}
use Rattle.toml_edit_slots.specs.Slots.{on_item}
use Rattle.toml_edit_tree.specs.View.{item_view}
use Rattle.toml_edit_tree.proofs.ConvertLaws.{made_slot}
use Rattle.toml_edit_tree.proofs.InPlace.{Done}
use Rattle.toml_edit_tree.proofs.convert.+convert.Given as goal

abbrev pub invariant-make_items-loop-at : goal.invariant-make_items-loop-at
invariant-make_items-loop-at l = Done item_view made_value l.items.items l.initial.items.items l.at

abbrev pub invariant-make_slots-loop-at : goal.invariant-make_slots-loop-at
invariant-make_slots-loop-at l = Done (on_item item_view) made_slot l.slots l.initial.slots l.at
