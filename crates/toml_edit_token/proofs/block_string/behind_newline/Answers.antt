-- A newline ends with a line feed.
use Rattle.std.proofs.Common.{◌<◌, arith}
use Rattle.toml_edit_laws.specs.reading.BlockReading.{newline_len}
use Rattle.toml_edit_token.proofs.BlockLoop.{newline_last}
use Rattle.toml_edit_token.proofs.block_string.behind_newline.Goals as goal

pub skip-requires-clause-there : goal.skip-requires-clause-there
skip-requires-clause-there c =
    let some : 0 < newline_len c.args.s.now = omega arith in
    rw c.newline_len-len.ensures (omega (arith, newline_last c.args.s.now some))

pub skip-requires-clause-ascii : goal.skip-requires-clause-ascii
skip-requires-clause-ascii c =
    let some : 0 < newline_len c.args.s.now = omega arith in
    rw c.newline_len-len.ensures (omega (arith, newline_last c.args.s.now some))
