-- Each byte is of the gap, or ends it.
use Rattle.std.proofs.Common.{◌≡◌, ◌+◌, ◌≤◌, length, true, false, get_or, arith}
use Rattle.std.proofs.lemmas.Grind.{common_steps}
use Rattle.toml_edit_laws.specs.reading.BlockReading.{is_gap_byte}
use Rattle.toml_edit_token.proofs.BlockLoop.{gap_goes, gap_stops, gap_end}
use Rattle.toml_edit_token.proofs.block_string.gap_len.Goals as goal

pub returns-then-not-is_gap_byte-clause-len : goal.returns-then-not-is_gap_byte-clause-len
returns-then-not-is_gap_byte-clause-len c =
    let s = c.args.s.now in
    let i = c.loop-i.i in
    let off : is_gap_byte (get_or s i 0) (get_or s (i + 1) 0) ≡ false = grind (arith, common_steps) in
    gap_stops s _ i (omega arith) c.loop-i.invariant off

pub loop-i-preserved : goal.loop-i-preserved
loop-i-preserved c =
    let s = c.args.s.now in
    let i = c.loop-i.i in
    let on : is_gap_byte (get_or s i 0) (get_or s (i + 1) 0) ≡ true = grind (arith, common_steps) in
    gap_goes s _ i (omega arith) c.loop-i.invariant on

pub returns-clause-len : goal.returns-clause-len
returns-clause-len c =
    let s = c.args.s.now in
    let past : length s ≤ c.loop-i.i = omega arith in
    omega (arith, c.loop-i.invariant, gap_end s c.loop-i.i past)
