-- The byte before the place is no white space, or there is none.
use Rattle.std.proofs.Common.{sym, ◌∙◌, arith}
use Rattle.toml_edit_repr.proofs.CommentLines.{words-end}
use Rattle.toml_edit_repr.proofs.comments.end_of_words.Goals as goal

pub returns-else-is_blank-clause-place : goal.returns-else-is_blank-clause-place
returns-else-is_blank-clause-place c =
    words-end c.args.text.now c.as_bytes-bytes.result.now c.blanks.end c.as_bytes-bytes.ensures.value c.blanks.invariant.0
    c.blanks.invariant.1
    (λ some. sym c.is_blank.ensures ∙ c.if-is_blank.false)

pub returns-after-blanks-clause-place : goal.returns-after-blanks-clause-place
returns-after-blanks-clause-place c =
    words-end c.args.text.now c.as_bytes-bytes.result.now c.blanks.end c.as_bytes-bytes.ensures.value c.blanks.invariant.0
    c.blanks.invariant.1
    (λ some. absurd (omega arith))
