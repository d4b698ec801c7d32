-- The loop over digits, a turn at a time.
use Rattle.std.proofs.Common.{◌≡◌, ℕ, ◌+◌, ◌<◌, ◌≤◌, Bool, true, false, cond, List, [], length, get_or, drop, Some, None, refl, sym, ap}
use Rattle.std.proofs.Common.{arith, ◌∙◌}
use Rattle.std.specs.Char.{is_digit, is_ascii_digit}
use Rattle.std.proofs.lemmas.Bool.{eq-eqb, ne_eqb}
use Rattle.std.proofs.lemmas.Bool.Decides.{nat_tests}
use Rattle.std.proofs.lemmas.List.{drop_more, drop_all}
use Rattle.toml_edit_laws.specs.reading.FloatReading.{after_digits}

-- the two tests of a digit
pub digit_decimal : (c : ℕ) (b : Bool) → is_ascii_digit c ≡ b → is_digit c 10 ≡ b
digit_decimal c true h = grind (arith, nat_tests)
digit_decimal c false h = grind (arith, nat_tests)

module _ (after_digit : Bool) (ds : List ℕ) (i : ℕ) (within : i < length ds) where
  -- a digit
  pub turn_digit : is_digit (get_or ds i 0) 10 ≡ true → after_digits after_digit (drop i ds) ≡ after_digits true (drop (i + 1) ds)
  unfolding after_digits
  turn_digit h = ap (after_digits after_digit) (drop_more ds i 0 within) ∙ rw h refl

  -- an underscore behind a digit
  pub turn_under : is_digit (get_or ds i 0) 10 ≡ false → after_digit ≡ true → get_or ds i 0 ≡ 0x5F → after_digits after_digit (drop i ds)
      ≡ after_digits false (drop (i + 1) ds)
  unfolding after_digits
  turn_under h after under = ap (after_digits after_digit) (drop_more ds i 0 within) ∙ rw (h, after, eq-eqb (get_or ds i 0) 0x5F under) refl

  -- another byte behind a digit
  pub turn_past : is_digit (get_or ds i 0) 10 ≡ false → after_digit ≡ true → (get_or ds i 0 ≡ 0x5F → ⊥)
      → after_digits after_digit (drop i ds) ≡ Some (drop i ds)
  unfolding after_digits
  turn_past h after other = ap (after_digits after_digit) (drop_more ds i 0 within)
      ∙ rw (h, after, ne_eqb (get_or ds i 0) 0x5F other) (ap Some (sym (drop_more ds i 0 within)))

  -- another byte behind none
  pub turn_none : is_digit (get_or ds i 0) 10 ≡ false → after_digit ≡ false → after_digits after_digit (drop i ds) ≡ None
  unfolding after_digits
  turn_none h after = ap (after_digits after_digit) (drop_more ds i 0 within) ∙ rw (h, after) refl

-- where the text ends nothing is left
pub turn_end : (after_digit : Bool) (ds : List ℕ) (i : ℕ) → length ds ≤ i → after_digits after_digit (drop i ds)
    ≡ cond after_digit (Some []) None
unfolding after_digits
turn_end after_digit ds i past = ap (after_digits after_digit) (drop_all i ds past) ∙ refl
