-- The first byte that is no white space ends it.
use Rattle.std.proofs.Common.{ap, arith, length, sym, ◌∙◌}
use Rattle.toml_edit_repr.proofs.CommentLines.{white-boundary, white-place}
use Rattle.toml_edit_repr.proofs.comments.white_len.Goals as goal

pub returns-then-not-is_blank-clause-boundary : goal.returns-then-not-is_blank-clause-boundary
returns-then-not-is_blank-clause-boundary c =
    white-boundary c.args.text.now c.as_bytes-bytes.result.now c.loop-at.at c.as_bytes-bytes.ensures.value c.utf8.text (omega arith)
    c.loop-at.invariant

pub returns-then-not-is_blank-clause-place : goal.returns-then-not-is_blank-clause-place
returns-then-not-is_blank-clause-place c =
    white-place c.args.text.now c.as_bytes-bytes.result.now c.loop-at.at c.as_bytes-bytes.ensures.value (omega arith) c.loop-at.invariant
    (λ _. sym c.is_blank.ensures ∙ c.if-not-is_blank.true)

pub returns-clause-place : goal.returns-clause-place
returns-clause-place c =
    let s = c.as_bytes-bytes.result.now in
    ap length (sym c.as_bytes-bytes.ensures.value)
    ∙ white-place c.args.text.now s (length s) c.as_bytes-bytes.ensures.value (omega arith) (λ k below. c.loop-at.invariant k (omega arith))
    (λ more. absurd (omega arith))
