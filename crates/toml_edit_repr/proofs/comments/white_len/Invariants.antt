-- Only white space is before the place.
use Rattle.toml_edit_repr.proofs.CommentLines.{BlankBelow}
use Rattle.toml_edit_repr.proofs.comments.white_len.Given as goal

abbrev pub invariant-loop-at : goal.invariant-loop-at
invariant-loop-at l = BlankBelow l.at l.bytes
