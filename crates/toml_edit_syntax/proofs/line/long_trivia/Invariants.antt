use Rattle.std.proofs.Common.{◌≡◌, ◌+◌, ◌-◌, ◌≤◌, false, drop, length}
use Rattle.std.specs.Str.{IsCharBoundary}
use Rattle.toml_edit_syntax.specs.Scanning.{scan}
use Rattle.toml_edit_syntax.proofs.line.long_trivia.Given as goal

abbrev pub invariant-bytes : goal.invariant-bytes
invariant-bytes l = record {
  within : l.at ≤ length l.s;
  scanned : scan false l.s ≡ (l.at + (scan l.inside (drop l.at l.s)).0, (scan l.inside (drop l.at l.s)).1);
  boundary : l.inside ≡ false → IsCharBoundary l.s l.at;
}

abbrev pub decreases-bytes : goal.decreases-bytes
decreases-bytes l = length l.s - l.at
