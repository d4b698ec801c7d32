-- The line ends before the first line feed, or at the end of the text, and before a CR that is there.
use Rattle.std.proofs.Common.{◌-◌, arith}
use Rattle.toml_edit_repr.proofs.CommentLines.{EndsAt, end-place, first_line-empty, line-cut, line-kept}
use Rattle.toml_edit_repr.proofs.comments.first_line_len.Goals as goal
use Rattle.toml_edit_repr.proofs.comments.first_line_len.Goals.{then-end-eq0-via-then-end-eq0}
use Rattle.toml_edit_repr.proofs.comments.first_line_len.Goals.{then-end-eq0-via-else-end-eq0+then-bytes-end-ne13}

pub returns-then-end-eq0-clause-line : goal.returns-then-end-eq0-clause-line
returns-then-end-eq0-clause-line c =
    let t = c.args.text.now in
    let s = c.as_bytes-bytes.result.now in
    let e = c.unwrap_or-end.result in
    let place : EndsAt t e = end-place t s c.memchr.result e c.as_bytes-bytes.ensures.value c.memchr.ensures c.unwrap_or-end.ensures in
    elim c.then-end-eq0.branch [
      | then-end-eq0-via-then-end-eq0 w ↦ first_line-empty t e place w.if-end-eq0.true
      | then-end-eq0-via-else-end-eq0+then-bytes-end-ne13 w ↦
          line-kept t s e (e - 1) c.as_bytes-bytes.ensures.value place (omega arith) w.if-bytes-end-ne13.true
    ]

pub returns-clause-line : goal.returns-clause-line
returns-clause-line c =
    let t = c.args.text.now in
    let s = c.as_bytes-bytes.result.now in
    let e = c.unwrap_or-end.result in
    let place : EndsAt t e = end-place t s c.memchr.result e c.as_bytes-bytes.ensures.value c.memchr.ensures c.unwrap_or-end.ensures in
    line-cut t s e (e - 1) c.as_bytes-bytes.ensures.value place (omega arith) c.if-bytes-end-ne13.false
