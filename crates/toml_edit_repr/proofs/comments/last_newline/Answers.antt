-- The byte before the last line feed decides.
use Rattle.std.proofs.Common.{◌-◌, arith}
use Rattle.toml_edit_repr.proofs.CommentLines.{LastFeedAt, last-feed, newline-alone, newline-full, newline-lean}
use Rattle.toml_edit_repr.proofs.comments.last_newline.Goals as goal
use Rattle.toml_edit_repr.proofs.comments.last_newline.Goals.{then-end-eq0-via-then-end-eq0}
use Rattle.toml_edit_repr.proofs.comments.last_newline.Goals.{then-end-eq0-via-else-end-eq0+then-bytes-end-ne13}

pub returns-then-end-eq0 : goal.returns-then-end-eq0
returns-then-end-eq0 c =
    let t = c.args.text.now in
    let s = c.as_bytes-bytes.result.now in
    let e = c.unwrap_or-end.result in
    let place : LastFeedAt t e =
    last-feed t s c.memrchr.result e c.as_bytes-bytes.ensures.value c.memrchr.ensures c.unwrap_or-end.ensures in
    elim c.then-end-eq0.branch [
      | then-end-eq0-via-then-end-eq0 w ↦ newline-alone t e place w.if-end-eq0.true
      | then-end-eq0-via-else-end-eq0+then-bytes-end-ne13 w ↦
          newline-lean t s e (e - 1) c.as_bytes-bytes.ensures.value place (omega arith) w.if-bytes-end-ne13.true
    ]

pub returns : goal.returns
returns c =
    let t = c.args.text.now in
    let s = c.as_bytes-bytes.result.now in
    let e = c.unwrap_or-end.result in
    let place : LastFeedAt t e =
    last-feed t s c.memrchr.result e c.as_bytes-bytes.ensures.value c.memrchr.ensures c.unwrap_or-end.ensures in
    newline-full t s e (e - 1) c.as_bytes-bytes.ensures.value place (omega arith) c.if-bytes-end-ne13.false
