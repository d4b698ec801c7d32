-- Each step takes the last digit.
use Rattle.std.proofs.Common.{◌≡◌, ◌+◌, ◌/◌, ap, length, [], ◌∷◌, ◌++◌, ◌%◌, arith}
use Rattle.std.specs.Fmt.{decimal}
use Rattle.std.proofs.lemmas.Fmt.{decimal_digit, decimal_step, length-decimal-le}
use Rattle.std.proofs.lemmas.List.{length-append}
use Rattle.toml_edit_error.proofs.excerpt.digit_count.Goals as goal

pub loop-rest-preserved : goal.loop-rest-preserved
loop-rest-preserved c =
    let step : length (decimal c.loop-rest.rest) ≡ length (decimal (c.loop-rest.rest / 10) ++ ((48 + c.loop-rest.rest % 10) ∷ [])) =
    ap length (decimal_step c.loop-rest.rest (omega arith) (omega arith)) in
    let apart = length-append (decimal (c.loop-rest.rest / 10)) ((48 + c.loop-rest.rest % 10) ∷ []) in
    record {
      all = omega (arith, step, apart);
      below = omega arith;
    }

pub overflow_add-count : goal.overflow_add-count
overflow_add-count c =
    let small = length-decimal-le 20 c.args.number (omega arith) (omega arith) (omega arith) in
    omega (arith, small)

pub returns : goal.returns
returns c =
    let one : length (decimal c.loop-rest.rest) ≡ 1 = ap length (decimal_digit c.loop-rest.rest (omega arith)) in
    let small = length-decimal-le 20 c.args.number (omega arith) (omega arith) (omega arith) in
    record { digits = omega (arith, one); bound = omega (arith, one, small) }
