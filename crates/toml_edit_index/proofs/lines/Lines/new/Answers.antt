-- A byte more, and a mark at every 64th.
use Rattle.std.proofs.Common.{◌∙◌, ap, sym, arith, ◌+◌, ◌*◌, ◌<◌, ◌≤◌, length, get_or}
use Rattle.std.proofs.lemmas.List.Sums.{fold_more}
use Rattle.toml_edit_index.specs.Lines.{AreMarks, after_byte, first}
use Rattle.toml_edit_index.proofs.LineLaws.{mark_turn, room}
use Rattle.toml_edit_index.proofs.lines.Lines.new.Goals as goal
use Rattle.toml_edit_index.proofs.lines.Lines.new.Goals.{then-at-eq0+in_ok-push, else-at-eq0}

pub after_byte-here-requires-clause-line : goal.after_byte-here-requires-clause-line
after_byte-here-requires-clause-line c =
    (room first c.bytes.here c.as_bytes-bytes.result.now c.bytes.at 18446744073709551616 (omega arith) c.bytes.invariant.here (omega arith) (omega arith)).0

pub after_byte-here-requires-clause-column : goal.after_byte-here-requires-clause-column
after_byte-here-requires-clause-column c =
    (room first c.bytes.here c.as_bytes-bytes.result.now c.bytes.at 18446744073709551616 (omega arith) c.bytes.invariant.here (omega arith) (omega arith)).1

pub bytes-preserved : goal.bytes-preserved
bytes-preserved c =
    let bs = c.as_bytes-bytes.result.now in
    let at = c.bytes.at in
    let l = c.bytes.invariant in
    let below : at < length bs = omega arith in
    let ms = c.if-at-eq0.marks.items in
    let more : (at + 1 ≤ 64 * length ms) × (64 * length ms < at + 1 + 64) × AreMarks bs ms =
    elim c.if-at-eq0.branch [
      | then-at-eq0+in_ok-push w ↦
          mark_turn bs c.bytes.marks.items ms c.bytes.here at l.marks l.here l.low l.high w.if-at-eq0.true (ap (λ v. v.items) w.marks-is ∙ w.in_ok-push.ensures.items)
      | else-at-eq0 w ↦ rw w.marks-is (omega (arith, w.if-at-eq0.false), omega arith, l.marks)
    ] in
    record {
      here = c.after_byte-here.ensures ∙ ap (λ p. after_byte p (get_or bs at 0)) l.here ∙ sym (fold_more after_byte first bs at 0 below);
      low = more.0;
      high = more.1;
      marks = more.2;
    }
