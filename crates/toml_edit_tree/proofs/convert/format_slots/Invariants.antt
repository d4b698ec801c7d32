-- The slots before the place are formatted, and the others as they were.
use Rattle.toml_edit_slots.specs.Slots.{on_item}
use Rattle.toml_edit_tree.specs.View.{item_view}
use Rattle.toml_edit_tree.proofs.ConvertLaws.{formatted_slot}
use Rattle.toml_edit_tree.proofs.InPlace.{Done}
use Rattle.toml_edit_tree.proofs.convert.format_slots.Given as goal

abbrev pub invariant-loop-at : goal.invariant-loop-at
invariant-loop-at l = Done (on_item item_view) formatted_slot l.slots l.initial.slots l.at
