-- One more key is written, or a placeholder is left out.
use Rattle.std.proofs.Common.{◌<◌, length, sym, ◌∙◌, arith}
use Rattle.toml_edit_items.proofs.BelowLaws.{gap_turn, key_turn}
use Rattle.toml_edit_items.proofs.below.key_lines.Goals as goal
use Rattle.toml_edit_items.proofs.below.key_lines.Goals.{then-is_filled+in_ok-put_path_line, else-is_filled}

pub slots-preserved : goal.slots-preserved
slots-preserved c =
    let es = c.as_slice-entries.result.now in
    let i = c.slots.slot-index in
    let s = c.slot-item.result in
    let below : i < length es = omega arith in
    elim c.if-is_filled.branch [
      | then-is_filled+in_ok-put_path_line w ↦
          rw w.text-is (rw w.in_ok-put_path_line.ensures (key_turn es i s below c.slot-item.is (sym c.is_filled.ensures ∙ w.if-is_filled.true) _ _ c.slots.invariant))
      | else-is_filled w ↦
          rw w.text-is (gap_turn es i s below c.slot-item.is (sym c.is_filled.ensures ∙ w.if-is_filled.false) _ _ c.slots.invariant)
    ]
