-- The lines that are passed have no comments.
use Rattle.std.proofs.Common.{◌≡◌, ◌≤◌, length}
use denote.Text.{Utf8}
use denote.Shadow.{shadow}
use Rattle.toml_edit_model.specs.Comments.{comments}
use Rattle.toml_edit_fmt.proofs.lines.split_comment.Given as goal

abbrev pub invariant-lines : goal.invariant-lines
invariant-lines l = record {
  rest_text : shadow (Utf8 l.rest);
  same : comments l.rest ≡ comments l.fn.text;
  within : length l.rest ≤ length l.fn.text;
}

abbrev pub decreases-lines : goal.decreases-lines
decreases-lines l = length l.rest
