-- What is to come has the first one just where all has it.
use Rattle.std.proofs.Common.{◌≡◌, ◌+◌, length}
use Rattle.toml_edit_syntax.specs.LateSpellings as spec
use Rattle.toml_edit_syntax.proofs.version.spelling.first_escape.Given as goal

abbrev pub invariant-bytes : goal.invariant-bytes
invariant-bytes l = record {
  place : l.at + length l.rest ≡ l.start + length l.bytes;
  same : spec.first_escape l.at l.rest ≡ spec.first_escape l.start l.bytes;
}

abbrev pub decreases-bytes : goal.decreases-bytes
decreases-bytes l = length l.rest
