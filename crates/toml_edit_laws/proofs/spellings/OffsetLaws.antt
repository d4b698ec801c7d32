-- The clock of an offset stands behind the date, the mark, the time and the sign; and dates and times that are in range are real.
use Rattle.std.proofs.Common.{◌≡◌, refl, sym, ◌∙◌, ap, subst, ℕ, zero, suc, ◌+◌, ◌-◌, ◌*◌, ◌/◌, ◌%◌, ◌<◌, true, [], ◌∷◌, ◌++◌, length, take}
use Rattle.std.proofs.Common.{drop, arith}
use Rattle.std.specs.Prelude.{◌&&◌, nat_lt, ℤ, nat_abs, Option, Some, None}
use Rattle.std.specs.Char.{digit_value, is_ascii_digit}
use Rattle.std.specs.Str.Parse.{digits_value}
use Rattle.std.proofs.Math.Seq.{drop-append-add}
use Rattle.std.proofs.lemmas.List.{length-append}
use Rattle.std.proofs.lemmas.Bool.{lt-ltb, ltb-true}
use Rattle.std.proofs.lemmas.Bool.Decides.{nat_tests}
use Rattle.toml_edit_model.specs.Text.{Text}
use Rattle.toml_edit_model.specs.Scalars.{Date, Time, Offset, zulu, shift, Datetime, datetime, is_real_date, is_real_time, is_absent_or}
use Rattle.toml_edit_model.specs.Spelling.{Sign, plus, minus, unsigned, signed, digit, two_digits, date_text, clock_text, SpellsDatetime}
use Rattle.toml_edit_model.specs.Spelling.{SpellsOffsetPart, offset_clock, is_real_offset, is_in_range}
use Rattle.toml_edit_model.specs.Tree.{is_real_shift, has_real_parts}
use Rattle.toml_edit_laws.proofs.common.Tests.{and_left, and_right, and_both}

-- ---- digits

-- what a digit below ten is
pub digit-value : (n : ℕ) → n < 10 → digit_value (digit n) ≡ n
digit-value n h = grind (arith, nat_tests)

-- a digit below ten is a byte of a number
pub digit-ascii : (n : ℕ) → n < 10 → is_ascii_digit (digit n) ≡ true
digit-ascii n h = grind (arith, nat_tests)

-- what two digits write
pub two-value : (n : ℕ) → n < 100 → digits_value 10 (two_digits n) ≡ n
two-value n h = rw (digit-value (n / 10) (omega arith)) (rw (digit-value (n % 10) (omega arith)) (omega arith))

-- ---- the clock

-- what stands behind a text and one byte more
drop-past : (s : Text) (c : ℕ) (t : Text) → drop (suc (length s)) (s ++ c ∷ t) ≡ t
drop-past [] c t = refl
drop-past (d ∷ s) c t = drop-past s c t

-- the clock behind a date, a mark, a time and a sign
pub clock-is : (d : Date) (mark sign : ℕ) (time clock : Text) → length clock ≡ 5 → offset_clock (date_text d ++ mark ∷ time ++ sign ∷ clock)
    ≡ clock
clock-is d mark sign time clock h =
    let behind : length (time ++ sign ∷ clock) ≡ length time + suc (length clock) = length-append time (sign ∷ clock) in
    let skipped : 11 + suc (length time) ≡ length (date_text d ++ mark ∷ time ++ sign ∷ clock) - 5 = omega arith in
    ap (λ n. drop n (date_text d ++ mark ∷ time ++ sign ∷ clock)) (sym skipped)
    ∙ drop-append-add (date_text d ++ mark ∷ []) (time ++ sign ∷ clock) (suc (length time)) ∙ drop-past time sign clock

-- the offset is real if its hours and minutes are
pub offset-real : (z : ℤ) (d : Date) (mark sign : ℕ) (time : Text) (hours minutes : ℕ) → hours < 100 → minutes < 100
    → is_real_offset (shift z) (date_text d ++ mark ∷ time ++ sign ∷ clock_text hours minutes) ≡ (nat_lt hours 24 && nat_lt minutes 60)
offset-real z d mark sign time hours minutes small less =
    ap (λ t. nat_lt (digits_value 10 (take 2 t)) 24 && nat_lt (digits_value 10 (drop 3 t)) 60)
    (clock-is d mark sign time (clock_text hours minutes) refl)
    ∙ ap (λ n. nat_lt n 24 && nat_lt (digits_value 10 (two_digits minutes)) 60) (two-value hours small)
    ∙ ap (λ n. nat_lt hours 24 && nat_lt n 60) (two-value minutes less)

-- ---- from the range to the parts

-- a sign leaves the size
signed-abs : (s : Sign) (n : ℕ) → nat_abs (signed s n) ≡ n
signed-abs plus n = refl
signed-abs minus zero = refl
signed-abs minus (suc n) = refl
signed-abs unsigned n = refl

-- so many minutes are less than a day
shift-below : (s : Sign) (hours minutes : ℕ) → (nat_lt hours 24 && nat_lt minutes 60) ≡ true
    → is_real_shift (shift (signed s (60 * hours + minutes))) ≡ true
shift-below s hours minutes h =
    lt-ltb (nat_abs (signed s (60 * hours + minutes))) 1440
    (rw (signed-abs s (60 * hours + minutes))
    (let hour : hours < 24 = ltb-true hours 24 (and_left (nat_lt hours 24) _ h) in
    let minute : minutes < 60 = ltb-true minutes 60 (and_right (nat_lt hours 24) _ h) in
    omega arith))

-- an offset in range is real
real-offset : (d : Date) (mark : ℕ) (time third : Text) (offset : Option Offset) → SpellsOffsetPart offset third
    → is_absent_or (λ o. is_real_offset o (date_text d ++ mark ∷ time ++ third)) offset ≡ true → is_absent_or is_real_shift offset ≡ true
real-offset d mark time third None s g = refl
real-offset d mark time third (Some zulu) s g = refl
real-offset d mark time third (Some (shift z)) (plus, hours, minutes, sure, small, less, value, parts) g =
    rw value
    (shift-below plus hours minutes
    (sym (offset-real z d mark 0x2B time hours minutes small less)
    ∙ subst (λ t. is_real_offset (shift z) (date_text d ++ mark ∷ time ++ t) ≡ true) parts g))
real-offset d mark time third (Some (shift z)) (minus, hours, minutes, sure, small, less, value, parts) g =
    rw value
    (shift-below minus hours minutes
    (sym (offset-real z d mark 0x2D time hours minutes small less)
    ∙ subst (λ t. is_real_offset (shift z) (date_text d ++ mark ∷ time ++ t) ≡ true) parts g))
real-offset d mark time third (Some (shift z)) (unsigned, hours, minutes, sure, small, less, value, parts) g = absurd (sure refl)

-- the same, part by part
by-parts : (date : Option Date) (time : Option Time) (offset : Option Offset) (t : Text)
    → SpellsDatetime (record { date = date; time = time; offset = offset }) t
    → is_in_range (datetime (record { date = date; time = time; offset = offset })) t ≡ true → has_real_parts date time offset ≡ true
by-parts (Some d) None None t s h = and_left (is_real_date d) true (and_left (is_real_date d && true) true h)
by-parts None (Some time) None t s h = and_left (is_real_time time) true h
by-parts (Some d) (Some time) offset t (first, second, third, mark, date, is, clock, behind, parts) h =
    let both = and_left (is_real_date d && is_real_time time) _ h in
    let shown = and_right (is_real_date d && is_real_time time) _ h in
    and_both (is_real_date d && is_real_time time) _ both
    (real-offset d mark second third offset behind
    (subst (λ u. is_absent_or (λ o. is_real_offset o u) offset ≡ true) (parts ∙ ap (λ u. u ++ mark ∷ second ++ third) date.3) shown))
by-parts _ _ _ t s h = absurd s

-- A date and time that is spelled in range has real parts.
pub real_parts : (d : Datetime) (t : Text) → SpellsDatetime d t → is_in_range (datetime d) t ≡ true → has_real_parts d.date d.time d.offset
    ≡ true
real_parts d t s h = by-parts d.date d.time d.offset t s h
