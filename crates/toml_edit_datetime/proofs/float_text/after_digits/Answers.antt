-- Each turn goes on as the digits are read.
use Rattle.std.proofs.Common.{◌≡◌, ◌-◌, true, false, Some, length, take, get_or, drop, sym, ap, ◌∙◌, arith}
use Rattle.std.proofs.lemmas.Grind.{common_steps}
use Rattle.std.proofs.lemmas.List.{take_all, length-drop}
use Rattle.std.specs.Char.{is_digit}
use Rattle.toml_edit_datetime.proofs.FloatLoop.{digit_decimal, turn_digit, turn_under, turn_past, turn_none, turn_end}
use Rattle.toml_edit_datetime.proofs.float_text.after_digits.Goals as goal
use Rattle.toml_edit_datetime.proofs.float_text.after_digits.Goals.{then-is_ascii_digit}
use Rattle.toml_edit_datetime.proofs.float_text.after_digits.Goals.{else-is_ascii_digit+then-after_digit+then-byte-eq95}
use Rattle.toml_edit_datetime.proofs.float_text.after_digits.Goals.{else-after_digit-via-then-after_digit+else-byte-eq95}
use Rattle.toml_edit_datetime.proofs.float_text.after_digits.Goals.{else-after_digit-via-else-after_digit}

pub returns-then-after_digit-2 : goal.returns-then-after_digit-2
returns-then-after_digit-2 c =
    let l = c.digits in
    let t = c.args.text.now in
    let none : is_digit (get_or t l.index 0) 10 ≡ false = digit_decimal (get_or t l.index 0) false (grind (arith, common_steps)) in
    let other : get_or t l.index 0 ≡ 95 → ⊥ =
    elim c.else-after_digit.branch [
      | else-after_digit-via-then-after_digit+else-byte-eq95 w ↦ w.if-byte-eq95.false
      | else-after_digit-via-else-after_digit w ↦ absurd (cc)
    ]
    in
    let all : take (length t - l.index) (drop l.index t) ≡ drop l.index t =
    take_all _ (drop l.index t) (omega (arith, length-drop l.index t)) in
    ap Some all ∙ sym (turn_past l.after_digit t l.index c.digits-test.true none c.if-after_digit-2.true other) ∙ l.invariant

pub returns-else-after_digit-2 : goal.returns-else-after_digit-2
returns-else-after_digit-2 c =
    let l = c.digits in
    let t = c.args.text.now in
    let none : is_digit (get_or t l.index 0) 10 ≡ false = digit_decimal (get_or t l.index 0) false (grind (arith, common_steps)) in
    sym (turn_none l.after_digit t l.index c.digits-test.true none c.if-after_digit-2.false) ∙ l.invariant

pub digits-preserved : goal.digits-preserved
digits-preserved c =
    let l = c.digits in
    let t = c.args.text.now in
    elim c.if-is_ascii_digit.branch [
      | then-is_ascii_digit w ↦
          let has : is_digit (get_or t l.index 0) 10 ≡ true = digit_decimal (get_or t l.index 0) true (grind (arith, common_steps)) in
          rw w.after_digit-is (sym (turn_digit l.after_digit t l.index c.digits-test.true has) ∙ l.invariant)
      | else-is_ascii_digit+then-after_digit+then-byte-eq95 w ↦
          let none : is_digit (get_or t l.index 0) 10 ≡ false = digit_decimal (get_or t l.index 0) false (grind (arith, common_steps)) in
          rw w.after_digit-is (sym (turn_under l.after_digit t l.index c.digits-test.true none w.if-after_digit.true w.if-byte-eq95.true)
          ∙ l.invariant)
    ]

pub returns-then-after_digit-3 : goal.returns-then-after_digit-3
returns-then-after_digit-3 c =
    let l = c.digits in
    let done = sym (turn_end l.after_digit c.args.text.now l.index (omega arith)) ∙ l.invariant in
    rw c.if-after_digit-3.true at done

pub returns-else-after_digit-3 : goal.returns-else-after_digit-3
returns-else-after_digit-3 c =
    let l = c.digits in
    let done = sym (turn_end l.after_digit c.args.text.now l.index (omega arith)) ∙ l.invariant in
    rw c.if-after_digit-3.false at done
