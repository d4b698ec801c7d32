-- What is written for a date and time with real parts spells it, in range.
use Rattle.std.proofs.Common.{◌≡◌, refl, sym, ◌∙◌, ap, subst, ℕ, zero, suc, ◌+◌, ◌*◌, ◌/◌, ◌%◌, ◌^◌, ◌<◌, ◌≤◌, Bool, true, false, [], ◌∷◌}
use Rattle.std.proofs.Common.{◌++◌, take, arith, inl}
use Rattle.std.specs.Prelude.{◌&&◌, ◌||◌, ◌==◌, nat_lt, nat_le, pos, negsuc, Option, Some, None, if◌then◌else◌}
use Rattle.std.specs.Char.{is_ascii_digit}
use Rattle.std.specs.Str.Parse.{digits_value_after}
use Rattle.std.proofs.Math.Nat.{pow-suc, div-lt_iff_lt-mul}
use Rattle.std.proofs.lemmas.Bool.{lt-ltb, ltb-true, leb-true, eqb-true}
use Rattle.toml_edit_model.specs.Text.{Text}
use Rattle.toml_edit_model.specs.Trivia.{Each}
use Rattle.toml_edit_model.specs.Scalars.{Date, Time, Offset, zulu, shift, Datetime, datetime, is_leap_year, days_in_month, is_real_date}
use Rattle.toml_edit_model.specs.Scalars.{is_absent_or_below, has_second_for, is_real_time, is_absent_or}
use Rattle.toml_edit_model.specs.Spelling.{plus, minus, signed, digit, date_text, SpellsDate, SpellsFraction, SpellsSeconds, SpellsTime}
use Rattle.toml_edit_model.specs.Spelling.{SpellsOffset, SpellsOffsetPart, is_real_offset, SpellsInRange}
use Rattle.toml_edit_model.specs.DefaultSpelling.{fraction_digits, nanosecond_spelling, seconds_spelling, time_spelling, offset_spelling}
use Rattle.toml_edit_model.specs.DefaultSpelling.{part_spelling, datetime_spelling}
use Rattle.toml_edit_model.specs.Tree.{is_real_shift, has_real_parts}
use Rattle.toml_edit_laws.proofs.common.Tests.{and_left, and_right, and_both, append-nil}
use Rattle.toml_edit_laws.proofs.spellings.OffsetLaws.{digit-value, digit-ascii, offset-real}

-- ---- dates

-- a choice of two is below a bound of both
either-below : (b : Bool) (x y k : ℕ) → x ≤ k → y ≤ k → (if b then x else y) ≤ k
either-below true x y k h g = h
either-below false x y k h g = g

-- no month has more days
month-days : (year month : ℕ) → days_in_month year month ≤ 31
month-days year month =
    either-below (month == 2) _ _ 31 (either-below (is_leap_year year) 29 28 31 (omega arith) (omega arith))
    (either-below (((month == 4 || month == 6) || month == 9) || month == 11) 30 31 31 (omega arith) (omega arith))

-- a real date
date-spells : (d : Date) → is_real_date d ≡ true → SpellsDate d (date_text d)
date-spells d h =
    let early = and_left (nat_lt d.year 10000 && (nat_le 1 d.month && nat_le d.month 12)) _ h in
    let months = and_right (nat_le 1 d.month) _ (and_right (nat_lt d.year 10000) _ early) in
    let days = and_right (nat_le 1 d.day) _ (and_right (nat_lt d.year 10000 && (nat_le 1 d.month && nat_le d.month 12)) _ h) in
    let month : d.month ≤ 12 = leb-true d.month 12 months in
    let day : d.day ≤ days_in_month d.year d.month = leb-true d.day (days_in_month d.year d.month) days in
    (ltb-true d.year 10000 (and_left (nat_lt d.year 10000) _ early), omega arith, omega (arith, day, month-days d.year d.month), refl)

-- ---- fractions of a second

-- so many digits 0
abbrev zeros : ℕ → Text
zeros zero = []
zeros (suc n) = 0x30 ∷ zeros n

-- zeros shift a number
zeros-value : (places count n : ℕ) → places ≤ count → digits_value_after 10 n (take places (zeros count)) ≡ n * 10 ^ places
zeros-value zero count n h = omega arith
zeros-value (suc places) zero n h = absurd (omega arith)
zeros-value (suc places) (suc count) n h = zeros-value places count (n * 10 + 0) (omega arith) ∙ rw (pow-suc 10 places) (omega arith)

-- the first of the places, and the others
place-below : (w n : ℕ) → 0 < w → n < w * 10 → n / w < 10
place-below w n some h = (div-lt_iff_lt-mul some).1 (omega arith)

-- what the others write is small
rest-below : (w n : ℕ) → 0 < w → n % w < w
rest-below w n h = omega arith

-- a power of ten is not 0
pow-some : (places : ℕ) → 0 < 10 ^ places
pow-some zero = omega arith
pow-some (suc places) = rw (pow-suc 10 places) (omega (arith, pow-some places))

-- a place and the others make the number
place-value : (w m n v : ℕ) → v ≡ (m * 10 + n / w) * w + n % w → v ≡ m * (w * 10) + n
place-value w m n v h = omega arith

-- with zeros behind them, the digits write the number
fraction-value : (places count m n : ℕ) → places ≤ count → n < 10 ^ places
    → digits_value_after 10 m (take places (fraction_digits places n ++ zeros count)) ≡ m * 10 ^ places + n
fraction-value zero count m n h small = omega arith
fraction-value (suc places) count m n h small =
    let below : n < 10 ^ places * 10 = subst (λ w. n < w) (pow-suc 10 places) small in
    let first : n / 10 ^ places < 10 = place-below (10 ^ places) n (pow-some places) below in
    rw (digit-value (n / 10 ^ places) first)
    (rw (pow-suc 10 places)
    (place-value (10 ^ places) m n _
    (by_test (n % 10 ^ places == 0) refl
    (fraction-value places count (m * 10 + n / 10 ^ places) (n % 10 ^ places) (omega arith)
    (rest-below (10 ^ places) n (pow-some places))))))
  where
    by_test : (b : Bool) → (n % 10 ^ places == 0) ≡ b
        → digits_value_after 10 (m * 10 + n / 10 ^ places) (take places (fraction_digits places (n % 10 ^ places) ++ zeros count))
        ≡ (m * 10 + n / 10 ^ places) * 10 ^ places + n % 10 ^ places
        → digits_value_after 10 (m * 10 + n / 10 ^ places) (take places ((if b then [] else fraction_digits places (n % 10 ^ places))
        ++ zeros count))
        ≡ (m * 10 + n / 10 ^ places) * 10 ^ places + n % 10 ^ places
    by_test true e more =
        let none : n % 10 ^ places ≡ 0 = eqb-true (n % 10 ^ places) 0 e in
        zeros-value places count (m * 10 + n / 10 ^ places) (omega arith) ∙ omega arith
    by_test false e more = more

-- each is a digit
fraction-digits : (places n : ℕ) → n < 10 ^ places → Each is_ascii_digit (fraction_digits places n)
fraction-digits zero n small = refl
fraction-digits (suc places) n small =
    let below : n < 10 ^ places * 10 = subst (λ w. n < w) (pow-suc 10 places) small in
    and_both (is_ascii_digit (digit (n / 10 ^ places))) _
    (digit-ascii (n / 10 ^ places) (place-below (10 ^ places) n (pow-some places) below))
    (by_test (n % 10 ^ places == 0) (fraction-digits places (n % 10 ^ places) (rest-below (10 ^ places) n (pow-some places))))
  where
    by_test : (b : Bool) → Each is_ascii_digit (fraction_digits places (n % 10 ^ places))
        → Each is_ascii_digit (if b then [] else fraction_digits places (n % 10 ^ places))
    by_test true more = refl
    by_test false more = more

-- a fraction below a second
fraction-spells : (n : Option ℕ) → is_absent_or_below 1000000000 n ≡ true → SpellsFraction n (nanosecond_spelling n)
fraction-spells None h = refl
fraction-spells (Some n) h =
    let small : n < 10 ^ 9 = ltb-true n 1000000000 h in
    (fraction_digits 9 n, fraction-digits 9 n small, refl, omega (arith, fraction-value 9 9 0 n (omega arith) small), refl)

-- ---- times

-- seconds, and perhaps a fraction
seconds-spell : (s n : Option ℕ) → is_absent_or_below 61 s ≡ true → is_absent_or_below 1000000000 n ≡ true → has_second_for s n ≡ true
    → SpellsSeconds s n (seconds_spelling s n)
seconds-spell None None h g f = refl
seconds-spell None (Some n) h g f = cc
seconds-spell (Some s) n h g f =
    let below : s < 61 = ltb-true s 61 h in
    (omega arith, nanosecond_spelling n, fraction-spells n g, refl)

-- a real time
time-spells : (t : Time) → is_real_time t ≡ true → SpellsTime t (time_spelling t)
time-spells t h =
    let clock = and_left (nat_lt t.hour 24 && nat_lt t.minute 60) _ h in
    let rest = and_right (nat_lt t.hour 24 && nat_lt t.minute 60) _ h in
    let both = and_left (is_absent_or_below 61 t.second && is_absent_or_below 1000000000 t.nanosecond) _ rest in
    let hour : t.hour < 24 = ltb-true t.hour 24 (and_left (nat_lt t.hour 24) _ clock) in
    let minute : t.minute < 60 = ltb-true t.minute 60 (and_right (nat_lt t.hour 24) _ clock) in (
      omega arith,
      omega arith,
      seconds_spelling t.second t.nanosecond,
      seconds-spell t.second t.nanosecond (and_left (is_absent_or_below 61 t.second) _ both)
          (and_right (is_absent_or_below 61 t.second) _ both)
          (and_right (is_absent_or_below 61 t.second && is_absent_or_below 1000000000 t.nanosecond) _ rest),
      refl,
    )

-- ---- offsets

-- the hours and minutes of so many minutes
minutes-are : (n : ℕ) → n ≡ 60 * (n / 60) + n % 60
minutes-are n = omega arith

-- an offset of less than a day
offset-spells : (o : Offset) → is_real_shift o ≡ true → SpellsOffset o (offset_spelling o)
offset-spells zulu h = inl refl
offset-spells (shift (pos n)) h =
    let below : n < 1440 = ltb-true n 1440 h in
    (plus, n / 60, n % 60, λ e. cc, omega arith, omega arith, ap pos (minutes-are n), refl)
offset-spells (shift (negsuc n)) h =
    let below : suc n < 1440 = ltb-true (suc n) 1440 h in
    (minus, suc n / 60, suc n % 60, λ e. cc, omega arith, omega arith, ap (signed minus) (minutes-are (suc n)), refl)

-- or none
part-spells : (o : Option Offset) → is_absent_or is_real_shift o ≡ true → SpellsOffsetPart o (part_spelling offset_spelling o)
part-spells None h = refl
part-spells (Some o) h = offset-spells o h

-- the hours and minutes of less than a day
clock-below : (n : ℕ) → n < 1440 → (nat_lt (n / 60) 24 && nat_lt (n % 60) 60) ≡ true
clock-below n h = and_both (nat_lt (n / 60) 24) _ (lt-ltb (n / 60) 24 (omega arith)) (lt-ltb (n % 60) 60 (omega arith))

-- its hours and minutes are those of a day
offset-ranged : (d : Date) (t : Time) (o : Option Offset) → is_real_time t ≡ true → is_absent_or is_real_shift o ≡ true
    → is_absent_or (λ p. is_real_offset p (date_text d ++ 0x54 ∷ time_spelling t ++ part_spelling offset_spelling o)) o ≡ true
offset-ranged d t None h g = refl
offset-ranged d t (Some zulu) h g = refl
offset-ranged d t (Some (shift (pos n))) h g =
    let below : n < 1440 = ltb-true n 1440 g in
    offset-real (pos n) d 0x54 0x2B (time_spelling t) (n / 60) (n % 60) (omega arith) (omega arith)
    ∙ clock-below n below
offset-ranged d t (Some (shift (negsuc n))) h g =
    let below : suc n < 1440 = ltb-true (suc n) 1440 g in
    offset-real (negsuc n) d 0x54 0x2D (time_spelling t) (suc n / 60) (suc n % 60) (omega arith) (omega arith)
    ∙ clock-below (suc n) below

-- ---- dates with times

-- part by part
by-parts : (date : Option Date) (time : Option Time) (offset : Option Offset) → has_real_parts date time offset ≡ true
    → SpellsInRange (datetime (record { date = date; time = time; offset = offset }))
    (datetime_spelling (record { date = date; time = time; offset = offset }))
by-parts (Some d) None None h = (date-spells d h, and_both (is_real_date d && true) true (and_both (is_real_date d) true h refl) refl)
by-parts None (Some t) None h =
    subst (SpellsInRange (datetime (record { date = None; time = Some t; offset = None }))) (sym (append-nil (time_spelling t)))
    (time-spells t h, and_both (is_real_time t) true h refl)
by-parts (Some d) (Some t) o h =
    let both = and_left (is_real_date d && is_real_time t) _ h in
    let date = and_left (is_real_date d) _ both in
    let time = and_right (is_real_date d) _ both in
    let shifted = and_right (is_real_date d && is_real_time t) _ h in (
      (
        date_text d,
        time_spelling t,
        part_spelling offset_spelling o,
        0x54,
        date-spells d date,
        refl,
        time-spells t time,
        part-spells o shifted,
        refl,
      ),
      and_both (is_real_date d && is_real_time t) _ both (offset-ranged d t o time shifted),
    )
by-parts None None o h = cc
by-parts None (Some t) (Some o) h = cc
by-parts (Some d) None (Some o) h = cc

-- the default spelling of a date and time
pub datetime-spells : (d : Datetime) → has_real_parts d.date d.time d.offset ≡ true → SpellsInRange (datetime d) (datetime_spelling d)
datetime-spells d h = by-parts d.date d.time d.offset h
