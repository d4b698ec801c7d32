-- A number of fewer digits is smaller.
use Rattle.std.proofs.Common.{◌<◌, ◌^◌, arith}
use Rattle.std.proofs.lemmas.Grind.{common_steps}
use Rattle.toml_edit_token.proofs.BasicLoop.{hex_room}
use Rattle.toml_edit_token.proofs.string.hex_value.Goals as goal

pub overflow_mul-value : goal.overflow_mul-value
overflow_mul-value c = omega (arith, hex_room c.digits.byte-index (omega arith), c.digits.invariant.0)

pub overflow_add-value : goal.overflow_add-value
overflow_add-value c =
    let room : c.digits.value < 2 ^ 28 = omega (arith, hex_room c.digits.byte-index (omega arith), c.digits.invariant.0) in
    let small : c.in_ok-digit.digit < 16 = grind (arith, common_steps) in
    omega arith
