-- Each turn goes on as the digits are read.
use Rattle.std.proofs.Common.{◌≡◌, ◌+◌, ◌*◌, true, false, is_some, get_or, sym, ap, ◌∙◌, arith}
use Rattle.std.proofs.lemmas.Grind.{common_steps}
use Rattle.std.specs.Char.{is_digit, digit_value}
use Rattle.toml_edit_token.proofs.NumberLoop.{turn_digit, turn_under, turn_bad, turn_end, is_some_choice}
use Rattle.toml_edit_token.proofs.number.is_natural.Goals as goal
use Rattle.toml_edit_token.proofs.number.is_natural.Goals.{then-is_digit, else-is_digit+then-follows_digit+then-byte-eq95}
use Rattle.toml_edit_token.proofs.number.is_natural.Goals.{else-follows_digit-via-then-follows_digit+else-byte-eq95}
use Rattle.toml_edit_token.proofs.number.is_natural.Goals.{else-follows_digit-via-else-follows_digit}

pub returns-else-follows_digit : goal.returns-else-follows_digit
returns-else-follows_digit c =
    let l = c.digits in
    let ds = c.args.digits.now in
    let (n, read) = l.invariant in
    let other : is_digit (get_or ds l.byte-index 0) c.args.base ≡ false = grind (arith, common_steps) in
    elim c.else-follows_digit.branch [
      | else-follows_digit-via-then-follows_digit+else-byte-eq95 w ↦
          let wrong : l.follows_digit ≡ true → get_or ds l.byte-index 0 ≡ 95 → ⊥ = λ a b. grind (arith, common_steps) in
          ap is_some (sym (sym read ∙ turn_bad c.args.base l.follows_digit n ds l.byte-index c.digits-test.true other wrong))
      | else-follows_digit-via-else-follows_digit w ↦
          let wrong : l.follows_digit ≡ true → get_or ds l.byte-index 0 ≡ 95 → ⊥ = λ a b. grind (arith, common_steps) in
          ap is_some (sym (sym read ∙ turn_bad c.args.base l.follows_digit n ds l.byte-index c.digits-test.true other wrong))
    ]

pub digits-preserved : goal.digits-preserved
digits-preserved c =
    let l = c.digits in
    let ds = c.args.digits.now in
    let (n, read) = l.invariant in
    elim c.if-is_digit.branch [
      | then-is_digit w ↦
          let has : is_digit (get_or ds l.byte-index 0) c.args.base ≡ true = grind (arith, common_steps) in
          let turn = turn_digit c.args.base l.follows_digit n ds l.byte-index c.digits-test.true has in
          (n * c.args.base + digit_value (get_or ds l.byte-index 0), rw w.follows_digit-is (sym turn ∙ read))
      | else-is_digit+then-follows_digit+then-byte-eq95 w ↦
          let other : is_digit (get_or ds l.byte-index 0) c.args.base ≡ false = grind (arith, common_steps) in
          let turn = turn_under c.args.base l.follows_digit n ds l.byte-index c.digits-test.true other (grind (arith, common_steps))
          (grind (arith, common_steps)) in
          (n, rw w.follows_digit-is (sym turn ∙ read))
    ]

pub returns : goal.returns
returns c =
    let l = c.digits in
    let (n, read) = l.invariant in
    is_some_choice l.follows_digit n _ (sym (turn_end c.args.base l.follows_digit n c.args.digits.now l.byte-index (omega arith)) ∙ read)
