-- What is to come has the first one just where all has it.
use Rattle.std.proofs.Common.{◌≡◌, ◌+◌, length}
use Rattle.toml_edit_syntax.specs.LateTrivia as spec
use Rattle.toml_edit_syntax.proofs.version.trivia.late_in_trivia.Given as goal

abbrev pub invariant-bytes : goal.invariant-bytes
invariant-bytes l = record {
  place : l.at + length l.rest ≡ l.start + length l.text;
  same : spec.late_in_trivia l.at l.rest ≡ spec.late_in_trivia l.start l.text;
}

abbrev pub decreases-bytes : goal.decreases-bytes
decreases-bytes l = length l.rest
