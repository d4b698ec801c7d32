-- The text up to here, and the rest without its carriage returns, are the whole text without them.
use Rattle.std.proofs.Common.{◌≡◌, List, ℕ, ◌++◌, length}
use denote.Text.{Utf8}
use denote.Shadow.{shadow}
use Rattle.std.specs.Fmt.{WritesInCalls}
use Rattle.toml_edit_model.specs.Text.{without_returns}
use Rattle.toml_edit_repr.proofs.write.put_pieces.Given as goal

abbrev pub invariant-pieces : goal.invariant-pieces
invariant-pieces g l =
    shadow (Utf8 l.rest)
    × (done : List ℕ) × WritesInCalls g.S.Sink.puts l.initial.out done l.out
    × (done ++ without_returns l.rest ≡ without_returns l.fn.text)

abbrev pub decreases-pieces : goal.decreases-pieces
decreases-pieces g l = length l.rest
