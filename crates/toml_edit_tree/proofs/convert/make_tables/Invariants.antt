-- The items before the place are made tables, and the others as they were.
use Rattle.toml_edit_model.specs.Conversions.{made_table}
use Rattle.toml_edit_tree.specs.View.{item_view}
use Rattle.toml_edit_tree.proofs.InPlace.{Done}
use Rattle.toml_edit_tree.proofs.convert.make_tables.Given as goal

abbrev pub invariant-loop-at : goal.invariant-loop-at
invariant-loop-at l = Done item_view made_table l.items.items l.initial.items.items l.at
