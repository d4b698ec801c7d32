-- Only white space is behind the place.
use Rattle.std.proofs.Common.{◌≤◌, length}
use Rattle.toml_edit_repr.proofs.CommentLines.{BlankFrom}
use Rattle.toml_edit_repr.proofs.comments.end_of_words.Given as goal

abbrev pub invariant-blanks : goal.invariant-blanks
invariant-blanks l = (l.end ≤ length l.bytes) × BlankFrom l.end l.bytes

abbrev pub decreases-blanks : goal.decreases-blanks
decreases-blanks l = l.end
