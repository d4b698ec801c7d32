-- The items before the place have no positions, and the others are as they were.
use Rattle.toml_edit_model.specs.Positions.{without_positions}
use Rattle.toml_edit_tree.specs.View.{item_view}
use Rattle.toml_edit_tree.proofs.InPlace.{Done}
use Rattle.toml_edit_edits.proofs.moves.+forget.Given as goal

abbrev pub invariant-forget_items-loop-at : goal.invariant-forget_items-loop-at
invariant-forget_items-loop-at l = Done item_view without_positions l.items.items l.initial.items.items l.at
