-- Each turn goes on as the digits are read.
use Rattle.std.proofs.Common.{◌≡◌, ◌+◌, ◌*◌, ◌-◌, true, false, not, nat_lt, is_some, get_or, sym, ap, ◌∙◌, arith}
use Rattle.std.proofs.lemmas.Bool.{ne_eqb}
use Rattle.std.proofs.lemmas.Grind.{common_steps}
use Rattle.std.specs.Char.{is_ascii_digit}
use Rattle.std.proofs.lemmas.Bool.Decides.{nat_tests}
use Rattle.toml_edit_token.proofs.NumberLoop.{is_some_choice, other_byte, turn_decimal, turn_end}
use Rattle.toml_edit_token.proofs.number.are_digits.Goals as goal

pub digits-preserved : goal.digits-preserved
digits-preserved c =
    let l = c.digits in
    let ds = c.args.digits.now in
    let (n, read) = l.invariant in
    let has : is_ascii_digit (get_or ds l.byte-index 0) ≡ true = grind (arith, common_steps) in
    (n * 10 + (get_or ds l.byte-index 0 - 48), sym (turn_decimal n ds l.byte-index c.digits-test.true has) ∙ read)

pub returns-else-byte-eq95 : goal.returns-else-byte-eq95
returns-else-byte-eq95 c =
    let l = c.digits in
    let ds = c.args.digits.now in
    let (n, read) = l.invariant in
    let bad : is_ascii_digit (get_or ds l.byte-index 0) ≡ false = grind (arith, common_steps) in
    let other : get_or ds l.byte-index 0 ≡ 95 → ⊥ = λ b. grind (arith, common_steps) in
    ne_eqb (get_or ds l.byte-index 0) 95 other ∙ ap is_some (sym (other_byte n ds l.byte-index c.digits-test.true bad other) ∙ read)

pub returns : goal.returns
returns c =
    let l = c.digits in
    let (n, read) = l.invariant in
    let some : not c.is_empty.result ≡ nat_lt 0 l.byte-index = grind (arith, nat_tests, common_steps) in
    some
    ∙ is_some_choice (nat_lt 0 l.byte-index) n _
    (sym (turn_end 10 (nat_lt 0 l.byte-index) n c.args.digits.now l.byte-index (omega arith)) ∙ read)
