-- The loop over the digits of a number, a turn at a time.
use Rattle.std.proofs.Common.{◌≡◌, ℕ, ◌+◌, ◌-◌, ◌*◌, ◌^◌, ◌<◌, ◌≤◌, Bool, true, false, cond, ◌==◌, ◌&&◌, List, length, get_or, drop, Option, Some}
use Rattle.std.proofs.Common.{None, is_some, refl, sym, ap, inl, inr, arith, mul-le-mul_left, le_trans, nat_lt, ◌∙◌, eqb-true}
use Rattle.std.specs.Char.{is_ascii_digit, is_digit, digit_value}
use Rattle.std.proofs.lemmas.Bool.{eq-eqb, le-ltb, lt-ltb, ne_eqb}
use Rattle.std.proofs.lemmas.Bool.Decides.{nat_tests}
use Rattle.std.proofs.Math.Nat.{pow-suc, pow-le-pow_right}
use Rattle.std.proofs.lemmas.List.{drop_more, drop_all}
use Rattle.toml_edit_model.specs.Spelling.{signed, unsigned}
use Rattle.toml_edit_laws.specs.reading.Tokens.{decimal_of, digits_at, if_below, integer_of, natural_of}
use Rattle.toml_edit_laws.proofs.reading.Steps.{chosen}
use Rattle.toml_edit_laws.proofs.common.OptionSteps.{guard_read}
use Rattle.std.specs.Prelude.{[], ◌∷◌, option_map}

-- a test of two that do not both hold
none_of : {A : Type 0} (o : Option A) (a b : Bool) → (a ≡ true → b ≡ true → ⊥) → cond (a && b) o None ≡ None
none_of o true true h = absurd (h refl refl)
none_of o true false h = refl
none_of o false b h = refl

module _ (base : ℕ) (after_digit : Bool) (n : ℕ) (ds : List ℕ) (i : ℕ) (within : i < length ds) where
  -- a digit
  pub turn_digit : is_digit (get_or ds i 0) base ≡ true → digits_at base after_digit n (drop i ds)
      ≡ digits_at base true (n * base + digit_value (get_or ds i 0)) (drop (i + 1) ds)
  unfolding digits_at
  turn_digit h = ap (digits_at base after_digit n) (drop_more ds i 0 within) ∙ rw h refl

  -- an underscore behind a digit
  pub turn_under : is_digit (get_or ds i 0) base ≡ false → after_digit ≡ true → get_or ds i 0 ≡ 0x5F
      → digits_at base after_digit n (drop i ds) ≡ digits_at base false n (drop (i + 1) ds)
  unfolding digits_at
  turn_under h after under = ap (digits_at base after_digit n) (drop_more ds i 0 within)
      ∙ rw (h, after, eq-eqb (get_or ds i 0) 0x5F under) refl

  -- any other byte
  pub turn_bad : is_digit (get_or ds i 0) base ≡ false → (after_digit ≡ true → get_or ds i 0 ≡ 0x5F → ⊥)
      → digits_at base after_digit n (drop i ds) ≡ None
  unfolding digits_at
  turn_bad h other = ap (digits_at base after_digit n) (drop_more ds i 0 within)
      ∙ rw h (none_of _ after_digit (get_or ds i 0 == 0x5F) (λ a b. other a (eqb-true (get_or ds i 0) 0x5F b)))

-- where the digits end there is a number behind a digit
pub turn_end : (base : ℕ) (after_digit : Bool) (n : ℕ) (ds : List ℕ) (i : ℕ) → length ds ≤ i → digits_at base after_digit n (drop i ds)
    ≡ cond after_digit (Some n) None
unfolding digits_at
turn_end base after_digit n ds i past = ap (digits_at base after_digit n) (drop_all i ds past) ∙ refl

-- whether a choice by a test gave something
pub is_some_choice : (b : Bool) (n : ℕ) (o : Option ℕ) → cond b (Some n) None ≡ o → b ≡ is_some o
is_some_choice true n o e = ap is_some e
is_some_choice false n o e = ap is_some e

-- ---- numbers below a limit

-- the number only grows
digits_grow : (base : ℕ) (after_digit : Bool) (n m : ℕ) (ds : List ℕ) → 1 ≤ base → digits_at base after_digit n ds ≡ Some m → n ≤ m
unfolding digits_at
digits_grow base true n m [] h e = let same : n ≡ m = cc in omega arith
digits_grow base false n m [] h e = absurd cc
digits_grow base after_digit n m (c ∷ cs) h e =
    elim (chosen (is_digit c base) (digits_at base true (n * base + digit_value c) cs) _ (Some m) e) [
      | inl (has, f) ↦
          let step : n ≤ n * base + digit_value c = omega (arith, mul-le-mul_left n h) in
          le_trans step (digits_grow base true (n * base + digit_value c) m cs h f)
      | inr (none, f) ↦
          let (under, g) = guard_read (after_digit && c == 0x5F) (digits_at base false n cs) m f in
          digits_grow base false n m cs h g
    ]

-- a number that is not below the limit
limited : (limit : ℕ) (o : Option ℕ) → ((m : ℕ) → o ≡ Some m → limit ≤ m) → if_below limit o ≡ None
limited limit None h = refl
limited limit (Some m) h = rw (le-ltb m limit (h m refl)) refl

-- past the limit there is no number below it
pub below_past : (base : ℕ) (after_digit : Bool) (n limit : ℕ) (ds whole : List ℕ) → 1 ≤ base → limit ≤ n
    → digits_at base after_digit n ds ≡ digits_at base false 0 whole → if_below limit (natural_of base whole) ≡ None
below_past base after_digit n limit ds whole h past e =
    limited limit (digits_at base false 0 whole) (λ m found. le_trans past (digits_grow base after_digit n m ds h (e ∙ found)))

-- no number, and so none below the limit
pub below_none : (base limit : ℕ) (whole : List ℕ) → digits_at base false 0 whole ≡ None → if_below limit (natural_of base whole) ≡ None
below_none base limit whole e = rw e refl

-- where the digits end there is a number below the limit, if a digit stands last and the number is
pub below_end : (base limit : ℕ) (after_digit : Bool) (n : ℕ) (whole : List ℕ) → cond after_digit (Some n) None
    ≡ digits_at base false 0 whole
    → if_below limit (natural_of base whole) ≡ cond (after_digit && nat_lt n limit) (Some n) None
below_end base limit true n whole e = rw (← e) refl
below_end base limit false n whole e = rw (← e) refl

-- ---- decimal digits alone

pub digit-few : (c : ℕ) → is_ascii_digit c ≡ true → c - 48 ≤ 9
digit-few c is =
    let high : c ≤ 57 = grind (arith, nat_tests) in
    omega (arith, high)

-- a turn at a decimal digit
pub turn_decimal : (n : ℕ) (ds : List ℕ) (i : ℕ) → i < length ds → is_ascii_digit (get_or ds i 0) ≡ true
    → digits_at 10 (nat_lt 0 i) n (drop i ds)
    ≡ digits_at 10 (nat_lt 0 (i + 1)) (n * 10 + (get_or ds i 0 - 48)) (drop (i + 1) ds)
turn_decimal n ds i within is =
    let c = get_or ds i 0 in
    let low : 48 ≤ c = grind (arith, nat_tests) in
    let high : c ≤ 57 = grind (arith, nat_tests) in
    let value : digit_value c ≡ c - 48 = rw (le-ltb c 48 low, lt-ltb c 58 (omega (arith, high))) refl in
    let has : is_digit c 10 ≡ true = lt-ltb (digit_value c) 10 (omega (arith, value, low, high)) in
    turn_digit 10 (nat_lt 0 i) n ds i within has
    ∙ ap (λ b. digits_at 10 b (n * 10 + digit_value c) (drop (i + 1) ds)) (sym (lt-ltb 0 (i + 1) (omega arith)))
    ∙ ap (λ v. digits_at 10 (nat_lt 0 (i + 1)) (n * 10 + v) (drop (i + 1) ds)) value

-- behind the last of some decimal digits
pub end_decimal : (n : ℕ) (ds : List ℕ) (i : ℕ) → length ds ≤ i → 0 < i → digits_at 10 (nat_lt 0 i) n (drop i ds) ≡ Some n
end_decimal n ds i past some =
    turn_end 10 (nat_lt 0 i) n ds i past ∙ ap (λ b. cond b (Some n) None) (lt-ltb 0 i some)

pub decimals-more : (v i d : ℕ) → v < 10 ^ i → d ≤ 9 → v * 10 + d < 10 ^ (i + 1)
decimals-more v i d small few =
    let one : 10 ^ (i + 1) ≡ 10 ^ i * 10 = ap (λ k. 10 ^ k) (omega arith) ∙ pow-suc 10 i in
    omega (arith, one, small, few)

pub decimals-fit : (v i n : ℕ) → v < 10 ^ i → i ≤ n → v < 10 ^ n
decimals-fit v i n small within = omega (arith, small, pow-le-pow_right {n = 10} (omega arith) within)

-- a byte that is no decimal digit
decimal-bad : (c : ℕ) → is_ascii_digit c ≡ false → is_digit c 10 ≡ false
decimal-bad c h = grind (arith, nat_tests)

-- a turn at a byte that is neither a decimal digit nor an underscore
pub other_byte : (n : ℕ) (ds : List ℕ) (i : ℕ) → i < length ds → is_ascii_digit (get_or ds i 0) ≡ false → (get_or ds i 0 ≡ 0x5F → ⊥)
    → digits_at 10 (nat_lt 0 i) n (drop i ds) ≡ None
other_byte n ds i within bad other = turn_bad 10 (nat_lt 0 i) n ds i within (decimal-bad (get_or ds i 0) bad) (λ _. other)

-- no decimal digit stands first
pub no_first : (ds : List ℕ) → is_ascii_digit (get_or ds 0 0) ≡ false → natural_of 10 ds ≡ None
unfolding digits_at
no_first [] h = refl
no_first (c ∷ cs) h = rw (decimal-bad c h) refl

-- there is a first byte, if it is a digit
pub some_first : (ds : List ℕ) → is_ascii_digit (get_or ds 0 0) ≡ true → 0 < length ds
some_first [] h = absurd cc
some_first (c ∷ cs) h = grind arith

-- no integer begins with a byte that is before the signs and the digits
pub no_integer : (t : List ℕ) → get_or t 0 0 < 0x2B → integer_of t ≡ None
unfolding integer_of decimal_of
no_integer t low =
    let apart : (b : ℕ) → 0x2B ≤ b → (get_or t 0 0 == b) ≡ false = λ b h. ne_eqb (get_or t 0 0) b (λ e. omega (arith, e, low, h)) in
    let bad : is_ascii_digit (get_or t 0 0) ≡ false = grind (arith, nat_tests) in
    rw (apart 0x30 (omega arith), apart 0x2B (omega arith), apart 0x2D (omega arith)) (ap (option_map (signed unsigned)) (no_first t bad))
