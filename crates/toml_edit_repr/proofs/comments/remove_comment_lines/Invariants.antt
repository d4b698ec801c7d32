-- The lines that are kept, and those of the rest, are those of the whole text.
use Rattle.std.proofs.Common.{◌≡◌, ◌++◌, length, string_bytes}
use denote.Text.{Utf8}
use denote.Shadow.{shadow}
use Rattle.toml_edit_model.specs.Comments.{without_comments}
use Rattle.toml_edit_repr.proofs.comments.remove_comment_lines.Given as goal

abbrev pub invariant-lines : goal.invariant-lines
invariant-lines l =
    shadow (Utf8 l.rest) × (string_bytes l.kept ++ without_comments l.rest ≡ without_comments l.fn.text)

abbrev pub decreases-lines : goal.decreases-lines
decreases-lines l = length l.rest
