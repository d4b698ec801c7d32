-- Each turn puts a digit.
use Rattle.std.proofs.Common.{◌/◌, ◌^◌, [], ◌∷◌, ◌++◌, refl, sym, ap, ◌∙◌, arith, append_assoc}
use Rattle.toml_edit_model.specs.Spelling.{digit}
use Rattle.toml_edit_io.proofs.Puts.{put_none, put_two}
use Rattle.toml_edit_datetime.specs.FractionText.{fraction_text}
use Rattle.toml_edit_datetime.proofs.Fractions.{fraction_digits_last, fraction_digits_more}
use Rattle.toml_edit_datetime.proofs.display.put_fraction.Goals as goal

pub digits-init : goal.digits-init
unfolding fraction_text
digits-init g c = (8, refl, omega arith, omega arith, [], refl, put_none _ _ refl)

pub returns-then-left-eq0 : goal.returns-then-left-eq0
returns-then-left-eq0 g c =
    let (k, place, _, _, done, whole, wrote) = c.digits.invariant in
    let last = fraction_digits_last k c.digits.left c.digits.place place c.if-left-eq0.true in
    put_two _ _ _ _ _ _ wrote c.put_digit.ensures (ap (λ t. done ++ t) (sym last) ∙ whole)

pub digits-preserved : goal.digits-preserved
digits-preserved g c =
    let (k, place, _, _, done, whole, wrote) = c.digits.invariant in
    let (j, tenfold, more) = fraction_digits_more k c.digits.left c.digits.place place c.if-left-eq0.false in
    let power = 10 ^ j in (
      j,
      omega arith,
      omega arith,
      omega arith,
      done ++ digit (c.digits.left / c.digits.place) ∷ [],
      append_assoc done _ _ ∙ ap (λ t. done ++ t) (sym more) ∙ whole,
      put_two _ _ _ _ _ _ wrote c.put_digit.ensures refl,
    )
