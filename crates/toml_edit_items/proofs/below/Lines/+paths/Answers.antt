-- The paths below one more slot are written.
use Rattle.std.proofs.Common.{List, ℕ, ◌+◌, ◌<◌, ◌++◌, drop, length, ap, ◌∙◌, arith}
use Rattle.toml_edit_items.specs.Below.{path_lines, slot_paths}
use Rattle.toml_edit_visit.specs.Steps.{steps_on}
use Rattle.toml_edit_items.proofs.BelowLaws.{slot_turn}
use Rattle.toml_edit_tree.specs.View.{slots_view}
use Rattle.toml_edit_items.proofs.below.Lines.+paths.Goals as goal

pub put_slots-slots-preserved : goal.put_slots-slots-preserved
put_slots-slots-preserved t c =
    let ks = steps_on c.args.path.now in
    let es = c.as_slice-entries.result.now in
    let i = c.slots.slot-index in
    let below : i < length es = omega arith in
    ap (λ (t : List ℕ). t ++ path_lines (slot_paths ks (slots_view (drop (i + 1) es)))) c.in_ok-put_item.ensures
    ∙ slot_turn ks es i c.slot-item.result below c.slot-item.is _ _ c.slots.invariant
