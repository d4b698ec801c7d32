-- The first line feed is one that is to come.
use Rattle.std.proofs.Common.{◌≡◌, false, length}
use Rattle.toml_edit_fmt.specs.Newlines.{returns_after}
use Rattle.toml_edit_fmt.proofs.rules.first_line_has_return.Given as goal

abbrev pub invariant-bytes : goal.invariant-bytes
invariant-bytes l = returns_after l.after_return l.rest ≡ returns_after false l.fn.text

abbrev pub decreases-bytes : goal.decreases-bytes
decreases-bytes l = length l.rest
