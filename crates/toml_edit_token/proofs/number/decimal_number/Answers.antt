-- Each turn goes on as the digits are read, and each number fits as many digits.
use Rattle.std.proofs.Common.{◌≡◌, ◌<◌, ◌≤◌, ◌+◌, ◌*◌, true, false, cond, None, Some, drop, get_or, nat_lt, sym, ap, ◌∙◌, arith}
use Rattle.std.proofs.lemmas.Bool.{lt-ltb}
use Rattle.std.proofs.lemmas.Grind.{common_steps}
use Rattle.std.specs.Char.{is_ascii_digit}
use Rattle.toml_edit_laws.specs.reading.Tokens.{digits_at}
use Rattle.toml_edit_token.proofs.NumberLoop.{below_end, below_none, decimals-fit, decimals-more, digit-few, end_decimal, no_first, other_byte, some_first, turn_decimal}
use Rattle.toml_edit_token.proofs.number.decimal_number.Goals as goal

pub overflow_mul-value : goal.overflow_mul-value
overflow_mul-value c =
    let l = c.digits in
    let few : l.byte-index ≤ 17 = omega (arith, c.if-digits-gt-MOST_DIGITS.false, c.digits-test.true) in
    omega (arith, decimals-fit l.value l.byte-index 17 l.invariant.small few)

pub overflow_add-value : goal.overflow_add-value
overflow_add-value c =
    let l = c.digits in
    let ds = c.args.digits.now in
    let few : l.byte-index ≤ 17 = omega (arith, c.if-digits-gt-MOST_DIGITS.false, c.digits-test.true) in
    let has : is_ascii_digit (get_or ds l.byte-index 0) ≡ true = grind (arith, common_steps) in
    omega (
      arith,
      decimals-fit l.value l.byte-index 17 l.invariant.small few,
      c.from.ensures,
      digit-few (get_or ds l.byte-index 0) has,
    )

pub digits-preserved : goal.digits-preserved
digits-preserved c =
    let l = c.digits in
    let i = l.byte-index in
    let ds = c.args.digits.now in
    let has : is_ascii_digit (get_or ds i 0) ≡ true = grind (arith, common_steps) in
    let few : c.from.result ≤ 9 = omega (arith, c.from.ensures, digit-few (get_or ds i 0) has) in
    record {
      small = decimals-more l.value i c.from.result l.invariant.small few;
      read =
          ap (λ d. digits_at 10 (nat_lt 0 (i + 1)) (l.value * 10 + d) (drop (i + 1) ds)) c.from.ensures
          ∙ sym (turn_decimal l.value ds i c.digits-test.true has) ∙ l.invariant.read;
    }

pub returns-then-not-is_ascii_digit-clause-value : goal.returns-then-not-is_ascii_digit-clause-value
returns-then-not-is_ascii_digit-clause-value c =
    let ds = c.args.digits.now in
    let bad : is_ascii_digit (get_or ds 0 0) ≡ false = ap is_ascii_digit (sym c.byte_of.ensures) ∙ sym c.if-not-is_ascii_digit.ensures.value in
    sym (below_none 10 c.args.limit ds (no_first ds bad))

pub returns-else-byte-eq95-clause-value : goal.returns-else-byte-eq95-clause-value
returns-else-byte-eq95-clause-value c =
    let l = c.digits in
    let ds = c.args.digits.now in
    let bad : is_ascii_digit (get_or ds l.byte-index 0) ≡ false = sym c.if-not-is_ascii_digit-2.ensures.value in
    let other : get_or ds l.byte-index 0 ≡ 95 → ⊥ = λ b. grind (arith, common_steps) in
    sym (below_none 10 c.args.limit ds (sym l.invariant.read ∙ other_byte l.value ds l.byte-index c.digits-test.true bad other))

pub returns-clause-value : goal.returns-clause-value
returns-clause-value c =
    let l = c.digits in
    let ds = c.args.digits.now in
    let first : is_ascii_digit (get_or ds 0 0) ≡ true = ap is_ascii_digit (sym c.byte_of.ensures) ∙ sym c.if-not-is_ascii_digit.ensures.value in
    let some : 0 < l.byte-index = omega (arith, some_first ds first, c.digits-test.false) in
    let small : l.value < c.args.limit =
    omega (arith, decimals-fit l.value l.byte-index 18 l.invariant.small (omega (arith, c.if-digits-gt-MOST_DIGITS.false)), c.requires.room) in
    sym (below_end 10 c.args.limit true l.value ds (sym (end_decimal l.value ds l.byte-index (omega arith) some) ∙ l.invariant.read)
    ∙ ap (λ b. cond b (Some l.value) None) (lt-ltb l.value c.args.limit small))

pub returns-clause-below : goal.returns-clause-below
returns-clause-below c =
    let l = c.digits in
    omega (arith, decimals-fit l.value l.byte-index 18 l.invariant.small (omega (arith, c.if-digits-gt-MOST_DIGITS.false)), c.requires.room)
