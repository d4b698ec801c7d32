-- A byte before the signs and the digits begins no integer.
use Rattle.std.proofs.Common.{◌<◌, get_or, sym, ap, arith}
use Rattle.toml_edit_laws.specs.reading.Tokens.{fitting}
use Rattle.toml_edit_token.proofs.NumberLoop.{no_integer}
use Rattle.toml_edit_token.proofs.number.decode_integer.Goals as goal

pub returns-then-first-lt43 : goal.returns-then-first-lt43
returns-then-first-lt43 c =
    let low : get_or c.args.word.now 0 0 < 43 = omega (arith, c.byte_of-first.ensures, c.if-first-lt43.true) in
    sym (ap fitting (no_integer c.args.word.now low))
