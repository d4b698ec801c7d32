-- The digits of a fraction, one at a time.
use Rattle.std.proofs.Common.{◌≡◌, ℕ, zero, suc, ◌+◌, ◌-◌, ◌*◌, ◌/◌, ◌%◌, ◌^◌, ◌<◌, ◌≤◌, true, List, [], ◌∷◌, ◌++◌, length, get_or, take}
use Rattle.std.proofs.Common.{codes, refl, sym, ap, ◌∙◌, arith, add-one, length-append, eq-eqb, ne_eqb}
use Rattle.std.specs.Char.{is_ascii_digit, digit_value}
use Rattle.std.specs.Str.Parse.{digits_value}
use Rattle.std.proofs.lemmas.Int.Digits.{digits_value_more}
use Rattle.std.proofs.lemmas.Bool.Decides.{nat_tests}
use Rattle.std.proofs.lemmas.List.{get_or_append_left, get_or-append-add}
use Rattle.toml_edit_model.specs.Spelling.{digit}
use Rattle.toml_edit_model.specs.DefaultSpelling.{fraction_digits}
use Rattle.std.proofs.Math.Nat.{pow-le-pow_right, pow-suc}

-- nine zeros
abbrev pub zeros : List ℕ
zeros = codes "000000000"

-- fewer than nine digits write less than a billion
pub power_room : (i : ℕ) → i < 9 → 10 ^ i ≤ 100000000
power_room i h = let ten : 0 < 10 = omega arith in let small : i ≤ 8 = omega arith in pow-le-pow_right ten small

-- a digit's value
pub digit_worth : (c : ℕ) → is_ascii_digit c ≡ true → digit_value c ≡ c - 48
digit_worth c h = grind (arith, nat_tests)

-- one digit more
pub digit_more : (ds : List ℕ) (i : ℕ) → i < length ds → is_ascii_digit (get_or ds i 0) ≡ true
    → digits_value 10 (take (i + 1) (ds ++ zeros)) ≡ digits_value 10 (take i (ds ++ zeros)) * 10 + (get_or ds i 0 - 48)
digit_more ds i h d =
    let within : i < length (ds ++ zeros) = omega (arith, length-append ds zeros) in
    digits_value_more 10 (ds ++ zeros) i within ∙ ap (λ x. digits_value 10 (take i (ds ++ zeros)) * 10
    + x) (ap digit_value (get_or_append_left ds zeros 0 i h) ∙ digit_worth _ d)

-- the zeros are zeros
zero_at : (j : ℕ) → j < 9 → digit_value (get_or zeros j 0) ≡ 0
zero_at zero h = refl
zero_at (suc zero) h = refl
zero_at (suc (suc zero)) h = refl
zero_at (suc (suc (suc zero))) h = refl
zero_at (suc (suc (suc (suc zero)))) h = refl
zero_at (suc (suc (suc (suc (suc zero))))) h = refl
zero_at (suc (suc (suc (suc (suc (suc zero)))))) h = refl
zero_at (suc (suc (suc (suc (suc (suc (suc zero))))))) h = refl
zero_at (suc (suc (suc (suc (suc (suc (suc (suc zero)))))))) h = refl
zero_at (suc (suc (suc (suc (suc (suc (suc (suc (suc j))))))))) h = absurd (omega arith)

-- one zero more
pub zero_more : (ds : List ℕ) (i : ℕ) → i < 9 → length ds ≤ i
    → digits_value 10 (take (i + 1) (ds ++ zeros)) ≡ digits_value 10 (take i (ds ++ zeros)) * 10
zero_more ds i h past =
    let within : i < length (ds ++ zeros) = omega (arith, length-append ds zeros) in
    let place : length ds + (i - length ds) ≡ i = omega arith in
    let here : digit_value (get_or (ds ++ zeros) i 0) ≡ 0 =
    ap (λ (k : ℕ). digit_value (get_or (ds ++ zeros) k 0)) (sym place) ∙ ap digit_value (get_or-append-add ds zeros (i - length ds) 0)
    ∙ zero_at (i - length ds) (omega arith) in
    digits_value_more 10 (ds ++ zeros) i within ∙ omega (arith, here)

-- a digit is below ten
pub digit_below : (c : ℕ) → is_ascii_digit c ≡ true → c - 48 < 10
digit_below c h = grind (arith, nat_tests)

-- one place more is ten times as much
pub tenfold : (i : ℕ) → 10 ^ (i + 1) ≡ 10 * 10 ^ i
tenfold i = rw add-one (omega (arith, pow-suc 10 i))

-- ---- writing

-- ten times a power is the next one
pub tenth : (k j : ℕ) → k ≡ suc j → 10 ^ k ≡ 10 * 10 ^ j
tenth k j e = rw e (omega (arith, pow-suc 10 j))

-- the last digit that isn't 0
pub fraction_digits_last : (k n place : ℕ) → place ≡ 10 ^ k → n % place ≡ 0 → fraction_digits (suc k) n ≡ digit (n / place) ∷ []
fraction_digits_last k n place e none = rw (← e) (rw (eq-eqb _ _ none))

-- where something is left, a place is left for it
pub fraction_digits_more : (k n place : ℕ) → place ≡ 10 ^ k → (n % place ≡ 0 → ⊥)
    → (j : ℕ) × (place ≡ 10 * 10 ^ j) × (fraction_digits (suc k) n ≡ digit (n / place) ∷ fraction_digits (suc j) (n % place))
fraction_digits_more zero n place e some = absurd (some (rw e (omega arith)))
fraction_digits_more (suc j) n place e some = (j, e ∙ tenth (suc j) j refl, rw (← e) (rw (ne_eqb _ _ some)))
