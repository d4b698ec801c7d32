-- A field that was read is spelled so, and one that is spelled is read again.
use Rattle.std.proofs.Common.{◌≡◌, ℕ, ◌+◌, ◌-◌, ◌*◌, ◌/◌, ◌%◌, ◌<◌, ◌≤◌, true, ◌&&◌, ◌==◌, List, [], ◌∷◌, ◌++◌, Option, Some, refl, ap}
use Rattle.std.proofs.Common.{subst, ◌∙◌, arith, eqb-true}
use Rattle.std.specs.Prelude.{option_and_then}
use Rattle.std.specs.Char.{is_ascii_digit}
use Rattle.std.proofs.lemmas.Bool.{and_parts}
use Rattle.std.proofs.lemmas.Bool.Decides.{nat_tests}
use Rattle.std.proofs.lemmas.Option.{some_pair_parts}
use Rattle.toml_edit_model.specs.Scalars.{Date}
use Rattle.toml_edit_model.specs.Spelling.{digit, two_digits, date_text, clock_text}
use Rattle.toml_edit_laws.specs.reading.DatetimeReading.{after_byte, two_at, date_at, clock_at}
use Rattle.toml_edit_laws.proofs.common.OptionSteps.{bind_some}
use Rattle.toml_edit_laws.proofs.reading.Steps.{guard_some, same_parts}
use Rattle.toml_edit_laws.proofs.spellings.OffsetLaws.{digit-ascii}

-- ---- two digits

-- the digits of a number of two digits
digits_of_two : (a b : ℕ) → is_ascii_digit a ≡ true → is_ascii_digit b ≡ true
    → (10 * (a - 48) + (b - 48) < 100) × (a ≡ digit ((10 * (a - 48) + (b - 48)) / 10)) × (b ≡ digit ((10 * (a - 48) + (b - 48)) % 10))
digits_of_two a b ha hb =
    let la : 48 ≤ a = grind (arith, nat_tests) in
    let ua : a ≤ 57 = grind (arith, nat_tests) in
    let lb : 48 ≤ b = grind (arith, nat_tests) in
    let ub : b ≤ 57 = grind (arith, nat_tests) in
    (omega arith, omega arith, omega arith)

pub two_takes : (t : List ℕ) (n : ℕ) (rest : List ℕ) → two_at t ≡ Some (n, rest) → (n < 100) × (t ≡ two_digits n ++ rest)
unfolding two_at
two_takes [] n rest e = absurd cc
two_takes (a ∷ []) n rest e = absurd cc
two_takes (a ∷ b ∷ more) n rest e =
    let (both, same) = guard_some (is_ascii_digit a && is_ascii_digit b) (10 * (a - 48) + (b - 48), more) (n, rest) e in
    let (ha, hb) = and_parts (is_ascii_digit a) (is_ascii_digit b) both in
    let (value, tail) = same_parts (10 * (a - 48) + (b - 48)) n more rest same in
    let (small, first, second) = digits_of_two a b ha hb in
    let P : ℕ → List ℕ → Type 0 = λ m r. (m < 100) × (a ∷ b ∷ more ≡ two_digits m ++ r) in
    subst (λ (m : ℕ). P m rest) value (subst (λ (r : List ℕ). P (10 * (a - 48) + (b - 48)) r) tail (small, cc))

pub two_again : (n : ℕ) (rest : List ℕ) → n < 100 → two_at (two_digits n ++ rest) ≡ Some (n, rest)
unfolding two_at
two_again n rest h =
    let value : 10 * (digit (n / 10) - 48) + (digit (n % 10) - 48) ≡ n = omega arith in
    rw (digit-ascii (n / 10) (omega arith), digit-ascii (n % 10) (omega arith), value) refl

-- ---- bytes

pub byte_takes : (c : ℕ) (t rest : List ℕ) → after_byte c t ≡ Some rest → t ≡ c ∷ rest
byte_takes c [] rest e = absurd cc
byte_takes c (x ∷ more) rest e =
    let (same, tail) = guard_some (x == c) more rest e in
    let here = eqb-true x c same in cc

-- a byte and two digits
marked_takes : (c : ℕ) (t : List ℕ) (n : ℕ) (rest : List ℕ) → option_and_then two_at (after_byte c t) ≡ Some (n, rest) → (n < 100)
    × (t ≡ c ∷ two_digits n ++ rest)
marked_takes c t n rest e =
    let (more, found, read) = bind_some (after_byte c t) two_at (n, rest) e in
    let (small, same) = two_takes more n rest read in
    (small, byte_takes c t more found ∙ ap (λ (x : List ℕ). c ∷ x) same)

-- ---- dates

abbrev made_date : ℕ → ℕ → ℕ → ℕ → Date
made_date c y m e = record { year = 100 * c + y; month = m; day = e }

-- a date of its fields
date_joined : (d : Date) (rest : List ℕ) (c y m e : ℕ) (t r1 r2 r3 r4 : List ℕ) → (c < 100) × (y < 100) × (m < 100) × (e < 100)
    → t ≡ two_digits c ++ r1 → r1 ≡ two_digits y ++ r2 → r2 ≡ 45 ∷ two_digits m ++ r3 → r3 ≡ 45 ∷ two_digits e ++ r4
    → ◌≡◌ {A = Option (Date × List ℕ)} (Some (made_date c y m e, r4)) (Some (d, rest))
    → (d.year < 10000) × (d.month < 100) × (d.day < 100) × (t ≡ date_text d ++ rest)
date_joined d rest c y m e t r1 r2 r3 r4 (lc, ly, lm, le) e1 e2 e3 e4 whole =
    let (same, tail) = some_pair_parts (made_date c y m e) d r4 rest whole in
    let year = ap (λ (x : Date). x.year) same in
    let month = ap (λ (x : Date). x.month) same in
    let day = ap (λ (x : Date). x.day) same in
    let high : d.year / 100 ≡ c = omega arith in
    let low : d.year % 100 ≡ y = omega arith in
    let text : t ≡ two_digits (d.year / 100) ++ two_digits (d.year % 100) ++ 45 ∷ two_digits d.month ++ 45 ∷ two_digits d.day ++ rest =
    rw (high, low, ← month, ← day, ← tail) cc in
    (omega arith, omega arith, omega arith, text)

pub date_takes : (t : List ℕ) (d : Date) (rest : List ℕ) → date_at t ≡ Some (d, rest)
    → (d.year < 10000) × (d.month < 100) × (d.day < 100) × (t ≡ date_text d ++ rest)
unfolding date_at
date_takes t d rest e =
    let (century, found1, e1) = bind_some (two_at t) _ (d, rest) e in
    let (year, found2, e2) = bind_some (two_at century.1) _ (d, rest) e1 in
    let (month, found3, e3) = bind_some (option_and_then two_at (after_byte 45 year.1)) _ (d, rest) e2 in
    let (day, found4, e4) = bind_some (option_and_then two_at (after_byte 45 month.1)) _ (d, rest) e3 in
    let (small1, text1) = two_takes t century.0 century.1 found1 in
    let (small2, text2) = two_takes century.1 year.0 year.1 found2 in
    let (small3, text3) = marked_takes 45 year.1 month.0 month.1 found3 in
    let (small4, text4) = marked_takes 45 month.1 day.0 day.1 found4 in
    date_joined d rest century.0 year.0 month.0 day.0 t century.1 year.1 month.1 day.1 (
      small1,
      small2,
      small3,
      small4,
    ) text1 text2 text3 text4 e4

pub date_again : (d : Date) (rest : List ℕ) → d.year < 10000 → d.month < 100 → d.day < 100 → date_at (date_text d ++ rest) ≡ Some (d, rest)
unfolding date_at
date_again d rest year month day =
    let value : 100 * (d.year / 100) + d.year % 100 ≡ d.year = omega arith in
    rw (
      two_again (d.year / 100) _ (omega arith),
      two_again (d.year % 100) _ (omega arith),
      two_again d.month _ month,
      two_again d.day _ day,
      value,
    ) refl

-- ---- hours and minutes

-- hours and minutes of their fields
clock_joined : (h m a b : ℕ) (t r1 r2 rest : List ℕ) → (a < 100) × (b < 100) → t ≡ two_digits a ++ r1 → r1 ≡ 58 ∷ two_digits b ++ r2
    → ◌≡◌ {A = Option ((ℕ × ℕ) × List ℕ)} (Some ((a, b), r2)) (Some ((h, m), rest)) → (h < 100) × (m < 100) × (t ≡ clock_text h m ++ rest)
clock_joined h m a b t r1 r2 rest (la, lb) e1 e2 whole =
    let (same, tail) = some_pair_parts {A = ℕ × ℕ} (a, b) (h, m) r2 rest whole in
    let (eh, em) = same_parts a h b m same in
    (omega arith, omega arith, rw (← eh, ← em, ← tail) cc)

pub clock_takes : (t : List ℕ) (h m : ℕ) (rest : List ℕ) → clock_at t ≡ Some ((h, m), rest) → (h < 100) × (m < 100)
    × (t ≡ clock_text h m ++ rest)
unfolding clock_at
clock_takes t h m rest e =
    let (hour, found1, e1) = bind_some (two_at t) _ ((h, m), rest) e in
    let (minute, found2, e2) = bind_some (option_and_then two_at (after_byte 58 hour.1)) _ ((h, m), rest) e1 in
    let (small1, text1) = two_takes t hour.0 hour.1 found1 in
    let (small2, text2) = marked_takes 58 hour.1 minute.0 minute.1 found2 in
    clock_joined h m hour.0 minute.0 t hour.1 minute.1 rest (small1, small2) text1 text2 e2

pub clock_again : (h m : ℕ) (rest : List ℕ) → h < 100 → m < 100 → clock_at (clock_text h m ++ rest) ≡ Some ((h, m), rest)
unfolding clock_at
clock_again h m rest hh hm = rw (two_again h _ hh, two_again m _ hm) refl
