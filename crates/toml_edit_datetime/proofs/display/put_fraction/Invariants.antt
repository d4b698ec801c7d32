-- What was put, and the places that are left.
use Rattle.std.proofs.Common.{◌≡◌, ℕ, suc, ◌*◌, ◌^◌, ◌<◌, List, ◌++◌}
use Rattle.std.specs.Fmt.{WritesInCalls}
use Rattle.toml_edit_model.specs.DefaultSpelling.{fraction_digits}
use Rattle.toml_edit_datetime.specs.FractionText.{fraction_text}
use Rattle.toml_edit_datetime.proofs.display.put_fraction.Given as goal

abbrev pub invariant-digits : goal.invariant-digits
invariant-digits g l =
    (k : ℕ) × (l.place ≡ 10 ^ k) × (l.left < 10 * l.place) × (0 < l.place) × (done : List ℕ)
    × (done ++ fraction_digits (suc k) l.left ≡ fraction_text l.fn.nanosecond)
    × WritesInCalls g.S.Sink.puts l.initial.out done l.out

abbrev pub decreases-digits : goal.decreases-digits
decreases-digits g l = l.place
