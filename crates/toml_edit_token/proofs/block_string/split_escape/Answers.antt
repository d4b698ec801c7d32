-- A gap with a newline, or an escape.
use Rattle.std.proofs.Common.{◌≡◌, ◌-◌, ◌<◌, take, true, arith}
use Rattle.std.proofs.lemmas.Grind.{common_steps}
use Rattle.toml_edit_model.specs.Text.{has_byte}
use Rattle.toml_edit_laws.specs.reading.BlockReading.{gap_len}
use Rattle.toml_edit_token.proofs.BlockLoop.{gap_ascii, gap_some}
use Rattle.toml_edit_token.proofs.block_string.split_escape.Goals as goal

pub skip-requires-clause-some : goal.skip-requires-clause-some
skip-requires-clause-some c =
    let s = c.args.s.now in
    let feed : has_byte 10 (take (gap_len s) s) ≡ true = grind (arith, common_steps) in
    omega (arith, gap_some s feed)

pub skip-requires-clause-there : goal.skip-requires-clause-there
skip-requires-clause-there c =
    let s = c.args.s.now in
    let feed : has_byte 10 (take (gap_len s) s) ≡ true = grind (arith, common_steps) in
    let last : gap_len s - 1 < gap_len s = omega (arith, gap_some s feed) in
    rw c.gap_len-len.ensures.len (gap_ascii s (gap_len s - 1) last).0

pub skip-requires-clause-ascii : goal.skip-requires-clause-ascii
skip-requires-clause-ascii c =
    let s = c.args.s.now in
    let feed : has_byte 10 (take (gap_len s) s) ≡ true = grind (arith, common_steps) in
    let last : gap_len s - 1 < gap_len s = omega (arith, gap_some s feed) in
    rw c.gap_len-len.ensures.len (gap_ascii s (gap_len s - 1) last).1
