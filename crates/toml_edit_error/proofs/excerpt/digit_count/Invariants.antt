-- The digits that are counted, and those of the rest, are those of the number.
use Rattle.std.proofs.Common.{◌≡◌, ◌+◌, ◌≤◌, length}
use Rattle.std.specs.Fmt.{decimal}
use Rattle.toml_edit_error.proofs.excerpt.digit_count.Given as goal

abbrev pub invariant-loop-rest : goal.invariant-loop-rest
invariant-loop-rest l = record {
  all : l.count + length (decimal l.rest) ≡ 1 + length (decimal l.fn.number);
  below : l.rest ≤ l.fn.number;
}

abbrev pub decreases-loop-rest : goal.decreases-loop-rest
decreases-loop-rest l = l.rest
