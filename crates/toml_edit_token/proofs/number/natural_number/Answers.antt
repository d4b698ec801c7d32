-- Each turn goes on as the digits are read, or the number is past the limit.
use Rattle.std.proofs.Common.{◌≡◌, ◌+◌, ◌*◌, ◌<◌, ◌≤◌, true, false, get_or, drop, sym, ◌∙◌, arith, mul-le-mul_left}
use Rattle.std.proofs.lemmas.Grind.{common_steps}
use Rattle.std.proofs.lemmas.Bool.Decides.{nat_tests}
use Rattle.std.specs.Char.{is_digit, digit_value}
use Rattle.toml_edit_token.proofs.NumberLoop.{turn_digit, turn_under, turn_bad, turn_end, below_past, below_none, below_end}
use Rattle.toml_edit_token.proofs.number.natural_number.Goals as goal
use Rattle.toml_edit_token.proofs.number.natural_number.Goals.{in-Some+else-next-from, in-None+else-not-after_digit+else-byte-ne95}
use Rattle.toml_edit_token.proofs.number.natural_number.Goals.{then-not-after_digit-via-then-not-after_digit}
use Rattle.toml_edit_token.proofs.number.natural_number.Goals.{then-not-after_digit-via-else-not-after_digit+then-byte-ne95}
use Rattle.toml_edit_token.proofs.number.natural_number.Goals.{else-after_digit-via-then-after_digit+else-value-limit}
use Rattle.toml_edit_token.proofs.number.natural_number.Goals.{else-after_digit-via-else-after_digit}

pub overflow_mul-next : goal.overflow_mul-next
overflow_mul-next c =
    let v : c.from-in-Some.result ≡ c.digits.value = grind (arith, common_steps) in
    let r : c.from-in-Some-2.result ≡ c.args.base = grind (arith, common_steps) in
    rw (v, r) (omega (arith, mul-le-mul_left c.digits.value c.requires.high, c.digits.invariant.small))

pub overflow_add-next : goal.overflow_add-next
overflow_add-next c =
    let v : c.from-in-Some.result ≡ c.digits.value = grind (arith, common_steps) in
    let r : c.from-in-Some-2.result ≡ c.args.base = grind (arith, common_steps) in
    let d : c.from-in-Some-3.result < 16 = grind (arith, common_steps) in
    rw (v, r) (omega (arith, mul-le-mul_left c.digits.value c.requires.high, c.digits.invariant.small))

pub returns-then-next-from-clause-value : goal.returns-then-next-from-clause-value
returns-then-next-from-clause-value c =
    let l = c.digits in
    let ds = c.args.digits.now in
    let has : is_digit (get_or ds l.byte-index 0) c.args.base ≡ true = grind (arith, nat_tests, common_steps) in
    let past : c.args.limit ≤ l.value * c.args.base + digit_value (get_or ds l.byte-index 0) = grind (arith, common_steps) in
    sym (below_past c.args.base true _ c.args.limit (drop (l.byte-index + 1) ds) ds (omega (arith, c.requires.low)) past
    (sym (turn_digit c.args.base l.after_digit l.value ds l.byte-index c.digits-test.true has) ∙ l.invariant.read))

pub returns-then-not-after_digit-clause-value : goal.returns-then-not-after_digit-clause-value
returns-then-not-after_digit-clause-value c =
    let l = c.digits in
    let ds = c.args.digits.now in
    let other_byte : is_digit (get_or ds l.byte-index 0) c.args.base ≡ false = grind (arith, nat_tests, common_steps) in
    elim c.then-not-after_digit.branch [
      | then-not-after_digit-via-then-not-after_digit w ↦
          let other : l.after_digit ≡ true → get_or ds l.byte-index 0 ≡ 95 → ⊥ = λ a b. grind (arith, common_steps) in
          sym (below_none c.args.base c.args.limit ds (sym l.invariant.read
          ∙ turn_bad c.args.base l.after_digit l.value ds l.byte-index c.digits-test.true other_byte other))
      | then-not-after_digit-via-else-not-after_digit+then-byte-ne95 w ↦
          let other : l.after_digit ≡ true → get_or ds l.byte-index 0 ≡ 95 → ⊥ = λ a b. grind (arith, common_steps) in
          sym (below_none c.args.base c.args.limit ds (sym l.invariant.read
          ∙ turn_bad c.args.base l.after_digit l.value ds l.byte-index c.digits-test.true other_byte other))
    ]

pub digits-preserved : goal.digits-preserved
digits-preserved c =
    let l = c.digits in
    let ds = c.args.digits.now in
    elim c.match-to_digit.branch [
      | in-Some+else-next-from w ↦
          let has : is_digit (get_or ds l.byte-index 0) c.args.base ≡ true = grind (arith, nat_tests, common_steps) in
          let turn = turn_digit c.args.base l.after_digit l.value ds l.byte-index c.digits-test.true has in
          record { small = grind (arith, common_steps); read = rw (w.value-is, w.after_digit-is) (grind (arith, common_steps)) }
      | in-None+else-not-after_digit+else-byte-ne95 w ↦
          let other_byte : is_digit (get_or ds l.byte-index 0) c.args.base ≡ false = grind (arith, nat_tests, common_steps) in
          let turn = turn_under c.args.base l.after_digit l.value ds l.byte-index c.digits-test.true other_byte (grind (
            arith,
            common_steps,
          )) (grind (arith, common_steps)) in
          record { small = grind (arith, common_steps); read = rw (w.value-is, w.after_digit-is) (grind (arith, common_steps)) }
    ]

pub returns-then-value-limit-clause-value : goal.returns-then-value-limit-clause-value
returns-then-value-limit-clause-value c =
    let l = c.digits in
    let ds = c.args.digits.now in
    let done = sym (turn_end c.args.base l.after_digit l.value ds l.byte-index (omega arith)) ∙ l.invariant.read in
    sym (below_end c.args.base c.args.limit l.after_digit l.value ds done ∙ grind (arith, nat_tests, common_steps))

pub returns-else-after_digit-clause-value : goal.returns-else-after_digit-clause-value
returns-else-after_digit-clause-value c =
    let l = c.digits in
    let ds = c.args.digits.now in
    let done = sym (turn_end c.args.base l.after_digit l.value ds l.byte-index (omega arith)) ∙ l.invariant.read in
    let all = below_end c.args.base c.args.limit l.after_digit l.value ds done in
    elim c.else-after_digit.branch [
      | else-after_digit-via-then-after_digit+else-value-limit w ↦ sym (all ∙ grind (arith, nat_tests, common_steps))
      | else-after_digit-via-else-after_digit w ↦ sym (all ∙ grind (arith, nat_tests, common_steps))
    ]
