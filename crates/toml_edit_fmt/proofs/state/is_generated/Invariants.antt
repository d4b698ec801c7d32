-- The comments that are passed do not say so.
use Rattle.std.proofs.Common.{◌≡◌, length}
use Rattle.std.specs.Prelude.{codes}
use Rattle.std.specs.List.{list_any}
use denote.Text.{Utf8}
use denote.Shadow.{shadow}
use Rattle.toml_edit_model.specs.Comments.{comments}
use Rattle.toml_edit_fmt_laws.specs.Formatted.{has_part}
use Rattle.toml_edit_fmt.proofs.state.is_generated.Given as goal

abbrev pub invariant-comments : goal.invariant-comments
invariant-comments l =
    shadow (Utf8 l.rest)
    × (list_any (has_part (codes "@generated")) (comments l.rest) ≡ list_any (has_part (codes "@generated")) (comments l.fn.text))

abbrev pub decreases-comments : goal.decreases-comments
decreases-comments l = length l.rest
