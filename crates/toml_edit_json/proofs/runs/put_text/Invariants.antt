-- The text up to here, and that of the bytes to come, are the whole text.
use Rattle.std.proofs.Common.{◌≡◌, List, ℕ, ◌++◌, length}
use denote.Text.{Utf8}
use denote.Shadow.{shadow}
use Rattle.std.specs.Fmt.{WritesInCalls}
use Rattle.toml_edit_json.specs.Texts as spec
use Rattle.toml_edit_json.proofs.runs.put_text.Given as goal

abbrev pub invariant-runs : goal.invariant-runs
invariant-runs g l =
    shadow (Utf8 l.rest)
    × (done : List ℕ) × WritesInCalls g.S.Sink.puts l.initial.out done l.out
    × (done ++ spec.written l.form l.rest ≡ spec.written l.form l.fn.text)

abbrev pub decreases-runs : goal.decreases-runs
decreases-runs g l = length l.rest
