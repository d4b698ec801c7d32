-- The text up to here, and that of the bytes to come, are the whole text.
use Rattle.std.proofs.Common.{◌≡◌, List, ℕ, ◌++◌, length}
use denote.Text.{Utf8}
use denote.Shadow.{shadow}
use Rattle.std.specs.Fmt.{WritesInCalls}
use Rattle.toml_edit_model.specs.DefaultSpelling.{escaped}
use Rattle.toml_edit_token.proofs.spelling.put_escaped.Given as goal

abbrev pub invariant-runs : goal.invariant-runs
invariant-runs g l =
    shadow (Utf8 l.rest)
    × (done : List ℕ) × WritesInCalls g.S.Sink.puts l.initial.out done l.out
    × (done ++ escaped l.many_lines l.rest ≡ escaped l.many_lines l.fn.text)

abbrev pub decreases-runs : goal.decreases-runs
decreases-runs g l = length l.rest
