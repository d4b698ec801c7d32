-- The name sorts before none of the keys up to here.
use Rattle.std.proofs.Common.{◌≡◌, ◌+◌, drop}
use Rattle.toml_edit.specs.tree.SlotsOf.{slots_of}
use Rattle.example_tasks.specs.Sorted.{sorted_place}
use Rattle.example_tasks.proofs.add.new_place.Given as goal

abbrev pub invariant-loop-at : goal.invariant-loop-at
invariant-loop-at l = sorted_place l.name (slots_of l.table) ≡ l.at + sorted_place l.name (drop l.at (slots_of l.table))
