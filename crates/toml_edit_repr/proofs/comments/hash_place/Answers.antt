-- The first byte that is no white space decides.
use Rattle.std.proofs.Common.{arith, sym, ◌∙◌}
use Rattle.toml_edit_repr.proofs.CommentLines.{hash-at, no-hash, no-hash-at-all}
use Rattle.toml_edit_repr.proofs.comments.hash_place.Goals as goal

pub returns-then-byte-eq35 : goal.returns-then-byte-eq35
returns-then-byte-eq35 c =
    hash-at c.args.line.now c.as_bytes-bytes.result.now c.loop-at.at c.as_bytes-bytes.ensures.value (omega arith) c.loop-at.invariant
    c.if-byte-eq35.true

pub returns-then-not-is_blank : goal.returns-then-not-is_blank
returns-then-not-is_blank c =
    no-hash c.args.line.now c.as_bytes-bytes.result.now c.loop-at.at c.as_bytes-bytes.ensures.value (omega arith) c.loop-at.invariant
    (sym c.is_blank.ensures ∙ c.if-not-is_blank.true) c.if-byte-eq35.false

pub returns : goal.returns
returns c = no-hash-at-all c.args.line.now c.as_bytes-bytes.result.now c.loop-at.at c.as_bytes-bytes.ensures.value (omega arith)
    c.loop-at.invariant
