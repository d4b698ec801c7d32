-- Which texts name numbers.
use Rattle.std.proofs.Common.{◌≡◌, refl, sym, ap, subst, ℕ, zero, suc, ◌^◌, ◌<◌, ◌≤◌, true, [], ◌∷◌, length, get_or, Some, None, Result, Ok}
use Rattle.std.proofs.Common.{Err, arith, inl, inr}
use Rattle.std.specs.Prelude.{cond, drop}
use Rattle.std.specs.Fmt.{decimal}
use Rattle.std.specs.Result.{result_ok}
use Rattle.std.specs.Str.Parse.{digits_value, ParsesUnsigned, IsNumeral, without_leading_plus}
use Rattle.std.proofs.lemmas.Bool.{cases_lt, ne_eqb}
use Rattle.std.proofs.lemmas.Fmt.{decimal_digit, decimal_is_IsNumeral, decimal-digits_value, first_decimal}
use Rattle.std.proofs.lemmas.Str.Parse.{numerals_by_value, tells_digits}
use Rattle.toml_edit_model.specs.Text.{Text, same_text}
use Rattle.toml_edit_edit_laws.specs.Commands.{number_of}
use Rattle.toml_edit_laws.proofs.common.Tests.{if-true, same_text-refl}
use Rattle.toml_edit_edit_laws.proofs.commands.Apart.{number-text}
use Rattle.toml_edit_paths.specs.Elements.{IsNumberOf}

-- a text that is the decimal of its value names that
own-decimal : (x : Text) → decimal (digits_value 10 x) ≡ x → number_of x ≡ Some (digits_value 10 x)
own-decimal x h =
    if-true (same_text (decimal (digits_value 10 x)) x) (Some (digits_value 10 x)) None
    (subst (λ y. same_text y x ≡ true) (sym h) (same_text-refl x))

-- a numeral with no zero in front
record IsPlain (x : Text) (i : ℕ) : Type 0 where
  numeral : IsNumeral 10 x
  value : digits_value 10 x ≡ i
  front : get_or x 0 0 ≡ 48 → length x ≡ 1

plain-decimal : (i : ℕ) → i < 2 ^ 64 → IsPlain (decimal i) i
plain-decimal zero h =
    record {
      numeral = (decimal_is_IsNumeral 0 h).0;
      value = (decimal_is_IsNumeral 0 h).1;
      front =
          λ z. ap length (decimal_digit 0 (omega arith));
    }
plain-decimal (suc i) h =
    record {
      numeral = (decimal_is_IsNumeral (suc i) h).0;
      value = (decimal_is_IsNumeral (suc i) h).1;
      front = λ z. absurd (omega (arith, first_decimal (suc i) (omega arith) h, z));
    }

-- each text that names a small number is one
plain : (x : Text) (i : ℕ) → number_of x ≡ Some i → i < 2 ^ 64 → IsPlain x i
plain x i h small = subst (λ y. IsPlain y i) (number-text x i h) (plain-decimal i small)

none-plain : (x : Text) → ((i : ℕ) → IsPlain x i → i < 2 ^ 64 → ⊥) → IsNumberOf x None
none-plain x f i h = elim (cases_lt i (2 ^ 64)) [ inl small ↦ absurd (f i (plain x i h small) small) | inr large ↦ large ]

-- a zero in front
pub led : (x : Text) → get_or x 0 0 ≡ 48 → 1 < length x → IsNumberOf x None
led x zero_first long = none-plain x (λ i p small. omega (arith, p.front zero_first))

signed_numeral : (x : Text) → get_or x 0 0 ≡ 43 → IsNumeral 10 x → ⊥
signed_numeral [] h n = omega (arith, n.0)
signed_numeral (c ∷ x) h n = let d = subst (λ b. IsNumeral 10 (b ∷ x)) h n in omega (arith, d.1.0)

-- a sign in front
pub signed : (x : Text) → get_or x 0 0 ≡ 43 → IsNumberOf x None
signed x h = none-plain x (λ i p small. signed_numeral x h p.numeral)

unsigned : (x : Text) → (get_or x 0 0 ≡ 43 → ⊥) → without_leading_plus x ≡ x
unsigned [] h = refl
unsigned (c ∷ x) h = ap (λ b. drop (cond b 1 0) (c ∷ x)) (ne_eqb c 43 h)

pub no-bytes : (x : Text) → length x ≡ 0 → get_or x 0 0 ≡ 0
no-bytes [] h = refl
no-bytes (c ∷ x) h = absurd (omega arith)

-- what else is read is named
pub parsed : {E : Type 0} (x : Text) (r : Result ℕ E) → ParsesUnsigned 64 10 x r → (get_or x 0 0 ≡ 43 → ⊥)
    → (get_or x 0 0 ≡ 48 → length x ≤ 1)
    → IsNumberOf x (result_ok r)
parsed x (Ok n) h plus lead =
    let g : (IsNumeral 10 x × (digits_value 10 x < 2 ^ 64)) × (n ≡ digits_value 10 x) =
    subst (λ y. (IsNumeral 10 y × (digits_value 10 y < 2 ^ 64)) × (n ≡ digits_value 10 y)) (unsigned x plus) h in
    subst (λ m. number_of x ≡ Some m) (sym g.1)
    (own-decimal x (decimal-digits_value (numerals_by_value _ tells_digits) x g.0.0.1 g.0.0.0 (λ z. omega (arith, lead z, g.0.0.0)) g.0.1))
parsed x (Err e) h plus lead =
    none-plain x (λ i p small. h (subst (λ y. IsNumeral 10 y × (digits_value 10 y < 2 ^ 64)) (sym (unsigned x plus)) (
      p.numeral,
      subst (λ m. m < 2 ^ 64) (sym p.value) small,
    )))
