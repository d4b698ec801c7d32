-- What the comments that are left say is what all say.
use Rattle.std.proofs.Common.{◌≡◌, length}
use denote.Text.{Utf8}
use denote.Shadow.{shadow}
use Rattle.toml_edit_model.specs.Comments.{comments}
use Rattle.toml_edit_fmt_laws.specs.Formatted.{off_after}
use Rattle.toml_edit_fmt.proofs.state.is_off_after.Given as goal

abbrev pub invariant-comments : goal.invariant-comments
invariant-comments l =
    shadow (Utf8 l.rest) × (off_after l.is_off (comments l.rest) ≡ off_after l.fn.is_off (comments l.fn.text))

abbrev pub decreases-comments : goal.decreases-comments
decreases-comments l = length l.rest
