-- One slot more.
use Rattle.std.proofs.Common.{◌≡◌, ◌+◌, ◌<◌, ℕ, List, arith, cond, drop, false, length, slice_get}
use Rattle.std.proofs.lemmas.Grind.{common_steps}
use Rattle.std.proofs.lemmas.Option.{gets}
use Rattle.std.specs.Option.{option_map_or}
use Rattle.toml_edit.specs.model.Slots.{Slot}
use Rattle.toml_edit.specs.model.Text.{Text}
use Rattle.toml_edit.specs.model.Tree.{Node}
use Rattle.example_tasks.specs.Sorted.{comes_before, sorted_place}
use Rattle.example_tasks.proofs.add.new_place.Goals as goal

next : (t : Text) (es : List (Slot Node)) (i : ℕ) → i < length es
    → sorted_place t (drop i es) ≡ cond (option_map_or (comes_before t) (slice_get es i) false) 0 (1 + sorted_place t (drop (i + 1) es))
next t es i l = grind (arith, common_steps, gets)

pub returns-then-sorts_before-clause-place : goal.returns-then-sorts_before-clause-place
returns-then-sorts_before-clause-place c = grind (arith, next)

pub loop-at-preserved : goal.loop-at-preserved
loop-at-preserved c = grind (arith, next)
