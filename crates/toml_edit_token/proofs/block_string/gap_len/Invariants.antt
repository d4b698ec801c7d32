-- The bytes up to here are of the gap.
use Rattle.std.proofs.Common.{◌≡◌, ◌+◌, drop}
use Rattle.toml_edit_laws.specs.reading.BlockReading.{gap_len}
use Rattle.toml_edit_token.proofs.block_string.gap_len.Given as goal

abbrev pub invariant-loop-i : goal.invariant-loop-i
invariant-loop-i l = gap_len l.s ≡ l.i + gap_len (drop l.i l.s)
