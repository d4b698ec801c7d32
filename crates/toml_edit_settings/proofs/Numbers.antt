-- What `parse` says of digits.
use Rattle.std.proofs.Common.{◌≡◌, ◌≢◌, ◌<◌, ◌∙◌, refl, sym, ap, cond, Bool, true, false, ℕ, List, [], ◌∷◌, get_or, length, arith, Some, None, nat_lt}
use Rattle.std.proofs.lemmas.Bool.{ltb-true}
use Rattle.std.proofs.lemmas.Str.Parse.{IsNumeralModel, numerals_by_value, parse_plain, tells_all_ascii_digits}
use Rattle.std.specs.Prelude.{◌&&◌, not, Ok, Err}
use Rattle.std.specs.Str.{all_ascii_digits}
use Rattle.std.specs.Str.Parse.{ParsesUnsigned, digits_value}
use Rattle.toml_edit_model.specs.Text.{is_empty}
use Rattle.toml_edit_settings.specs.RuleWords.{is_number, is_padded, number_of}

numerals : IsNumeralModel (λ ds. all_ascii_digits ds ≡ true) (digits_value 10)
numerals = numerals_by_value (λ ds. all_ascii_digits ds ≡ true) tells_all_ascii_digits

no-plus : (w : List ℕ) → is_padded w ≡ false → get_or w 0 0 ≢ 43
no-plus [] plain = grind arith
no-plus (c ∷ []) plain = grind arith
no-plus (c ∷ (d ∷ t)) plain = grind arith

is-number : (w : List ℕ) → is_padded w ≡ false → all_ascii_digits w ≡ true → 0 < length w → digits_value 10 w < 256 → is_number w ≡ true
is-number [] plain digits some small = absurd (omega (arith, some))
is-number (c ∷ t) plain digits some small = grind arith

halves : (a b : Bool) → (a && b) ≡ true → (a ≡ true) × (b ≡ true)
halves true b is = (refl, is)
halves false b is = absurd (let e : false ≡ true = is in cc)

parts : (w : List ℕ) → is_number w ≡ true → (all_ascii_digits w ≡ true) × (0 < length w) × (digits_value 10 w < 256)
parts [] is = absurd (let e : false ≡ true = is in cc)
parts (c ∷ t) is =
    let w = c ∷ t in let unpadded = not (is_padded w) in let some = not (is_empty w) in
    let digits = all_ascii_digits w in let small = nat_lt (digits_value 10 w) 256 in
    let both = halves (unpadded && some && digits) small is in
    ((halves (unpadded && some) digits both.0).1, omega arith, ltb-true (digits_value 10 w) 256 both.1)

pub number-ok : (w : List ℕ) (n : ℕ) → is_padded w ≡ false → ParsesUnsigned {E = ℕ} 8 10 w (Ok n) → Some n ≡ number_of w
number-ok w n plain parses =
    let k = parse_plain numerals {E = ℕ} 8 w (Ok n) parses (no-plus w plain) in
    ap Some k.1 ∙ sym (ap (λ b. cond b (Some (digits_value 10 w)) None) (is-number w plain k.0.0 k.0.1 k.0.2))

pub number-none : (E : Type 0) (w : List ℕ) (e : E) → is_padded w ≡ false → ParsesUnsigned {E = E} 8 10 w (Err e) → None ≡ number_of w
number-none E w e plain parses = by (is_number w) refl
  where
    by : (b : Bool) → is_number w ≡ b → None ≡ number_of w
    by true is = absurd (parse_plain numerals {E = E} 8 w (Err e) parses (no-plus w plain) (parts w is))
    by false is = sym (ap (λ b. cond b (Some (digits_value 10 w)) None) is)
