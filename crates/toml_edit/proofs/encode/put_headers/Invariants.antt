-- The text up to here, and that of the headers to come, are the whole text.
use Rattle.std.proofs.Common.{◌≡◌, List, ℕ, ◌++◌, drop, map}
use Rattle.std.specs.Fmt.{WritesInCalls}
use Rattle.toml_edit_laws.specs.PrintByVisits.{headers_text}
use Rattle.toml_edit_repr.specs.Modes.{mode_of}
use Rattle.toml_edit.specs.HeadersView.{header_view}
use Rattle.toml_edit.proofs.encode.put_headers.Given as goal

abbrev pub invariant-headers : goal.invariant-headers
invariant-headers g l =
    (done : List ℕ) × WritesInCalls g.S.Sink.puts l.initial.out done l.out
    × (done ++ headers_text (mode_of l.mode) l.is_first (map header_view (drop l.header-index l.headers))
    ≡ headers_text (mode_of l.mode) l.begins (map header_view l.headers))
