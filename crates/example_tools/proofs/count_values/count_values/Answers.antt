-- One slot more.
use Rattle.std.proofs.Common.{◌≡◌, ◌+◌, ◌<◌, ℕ, List, arith, cond, drop, false, length, slice_get}
use Rattle.std.proofs.lemmas.Grind.{common_steps}
use Rattle.std.proofs.lemmas.Option.{gets}
use Rattle.std.specs.Option.{option_map_or}
use Rattle.toml_edit.specs.model.Iterating.{valued}
use Rattle.toml_edit.specs.model.Slots.{Slot}
use Rattle.toml_edit.specs.model.Tree.{Node, is_value_node}
use Rattle.example_tools.proofs.count_values.count_values.Goals as goal

-- the values from a place on are the one there and those after it
next : (es : List (Slot Node)) (i : ℕ) → i < length es
    → length (valued (drop i es)) ≡ cond (option_map_or (λ s. is_value_node s.item) (slice_get es i) false) 1 0 + length (valued (drop (i + 1) es))
next es i l = grind (arith, common_steps, gets)

pub loop-at-preserved : goal.loop-at-preserved
loop-at-preserved g c = grind (arith, next)
