-- The hours and minutes at the end of a text, and which offsets are in range.
use Rattle.std.proofs.Common.{◌≡◌, refl, sym, ◌∙◌, ap, ℕ, ◌+◌, ◌-◌, ◌<◌, true, [], ◌∷◌, ◌++◌, append_assoc, append-nil, length, drop, take}
use Rattle.std.proofs.Common.{arith}
use Rattle.std.specs.Prelude.{◌&&◌, nat_lt, ℤ, Option, Some, None}
use Rattle.std.specs.Str.Parse.{digits_value}
use Rattle.std.proofs.lemmas.List.{length-append}
use Rattle.std.proofs.lemmas.Bool.{lt-ltb, ltb-true}
use Rattle.toml_edit_model.specs.Text.{Text}
use Rattle.toml_edit_model.specs.Scalars.{Date, Time, Offset, zulu, shift, Datetime, datetime, is_absent_or, is_real_date, is_real_time}
use Rattle.toml_edit_model.specs.Spelling.{Sign, two_digits, sign_text, clock_text, SpellsOffset, SpellsOffsetPart, SpellsParts}
use Rattle.toml_edit_model.specs.Spelling.{SpellsDatetime, is_real_offset, is_in_range}
use Rattle.toml_edit_laws.specs.Offsets.{SpellsRealOffset, SpellsRealPart, ClocksAtEnds, RealOffsets, RealDatetimes}
use Rattle.toml_edit_laws.proofs.common.Tests.{and_left, and_right, and_both}
use Rattle.toml_edit_laws.proofs.spellings.OffsetLaws.{two-value}

drop-front : (s t : Text) → drop (length s) (s ++ t) ≡ t
drop-front [] t = refl
drop-front (c ∷ s) t = drop-front s t

pub clocks-at-ends : ClocksAtEnds
clocks-at-ends front hours minutes =
    let long : length (front ++ clock_text hours minutes) ≡ length front + 5 = length-append front (clock_text hours minutes) in
    let skipped : length front ≡ length (front ++ clock_text hours minutes) - 5 = omega arith in
    ap (λ n. drop n (front ++ clock_text hours minutes)) (sym skipped) ∙ drop-front front (clock_text hours minutes)

-- the test reads the hours and minutes behind the sign
clock-test : (z : ℤ) (front : Text) (s : Sign) (hours minutes : ℕ) → hours < 100 → minutes < 100
    → is_real_offset (shift z) (front ++ (sign_text s ++ clock_text hours minutes)) ≡ (nat_lt hours 24 && nat_lt minutes 60)
clock-test z front s hours minutes small less =
    ap (is_real_offset (shift z)) (sym (append_assoc front (sign_text s) (clock_text hours minutes)))
    ∙ ap (λ t. nat_lt (digits_value 10 (take 2 t)) 24 && nat_lt (digits_value 10 (drop 3 t)) 60)
    (clocks-at-ends (front ++ sign_text s) hours minutes)
    ∙ ap (λ n. nat_lt n 24 && nat_lt (digits_value 10 (two_digits minutes)) 60) (two-value hours small)
    ∙ ap (λ n. nat_lt hours 24 && nat_lt n 60) (two-value minutes less)

to-real : (o : Offset) (front t : Text) → SpellsOffset o t → is_real_offset o (front ++ t) ≡ true → SpellsRealOffset o t
to-real zulu front t h g = h
to-real (shift z) front t (s, hours, minutes, signed, small, less, value, text) g =
    let both : (nat_lt hours 24 && nat_lt minutes 60) ≡ true =
    sym (clock-test z front s hours minutes small less) ∙ ap (λ u. is_real_offset (shift z) (front ++ u)) (sym text) ∙ g in (
      s,
      hours,
      minutes,
      signed,
      ltb-true hours 24 (and_left (nat_lt hours 24) (nat_lt minutes 60) both),
      ltb-true minutes 60 (and_right (nat_lt hours 24) (nat_lt minutes 60) both),
      value,
      text,
    )

from-real : (o : Offset) (front t : Text) → SpellsRealOffset o t → is_real_offset o (front ++ t) ≡ true
from-real zulu front t h = refl
from-real (shift z) front t (s, hours, minutes, signed, day, hour, value, text) =
    ap (λ u. is_real_offset (shift z) (front ++ u)) text
    ∙ clock-test z front s hours minutes (omega arith) (omega arith)
    ∙ and_both (nat_lt hours 24) (nat_lt minutes 60) (lt-ltb hours 24 day) (lt-ltb minutes 60 hour)

pub real-offsets : RealOffsets
real-offsets o front t h = (to-real o front t h, from-real o front t)

-- ---- date-times

from-part : (offset : Option Offset) (t front last : Text) → t ≡ front ++ last → SpellsRealPart offset last
    → is_absent_or (λ o. is_real_offset o t) offset ≡ true
from-part None t front last e h = refl
from-part (Some o) t front last e h = ap (is_real_offset o) e ∙ from-real o front last h

to-part : (offset : Option Offset) (t front last : Text) → t ≡ front ++ last → SpellsOffsetPart offset last
    → is_absent_or (λ o. is_real_offset o t) offset ≡ true
    → SpellsRealPart offset last
to-part None t front last e h g = h
to-part (Some o) t front last e h g = to-real o front last h (ap (is_real_offset o) (sym e) ∙ g)

-- a text that spells a date-time ends in its offset
ends-in : (date : Option Date) (time : Option Time) (offset : Option Offset) (t : Text) → SpellsParts date time offset t
    → (front last : Text) × (t ≡ front ++ last) × SpellsOffsetPart offset last
ends-in (Some d) None None t h = (t, [], sym (append-nil t), refl)
ends-in None (Some time) None t h = (t, [], sym (append-nil t), refl)
ends-in (Some d) (Some time) offset t (first, second, third, mark, date, is, clock, behind, parts) =
    (first ++ (mark ∷ second), third, parts, behind)
ends-in _ _ _ t h = absurd h

to-range : (d : Datetime) (t : Text) → SpellsDatetime d t → is_in_range (datetime d) t ≡ true
    → (is_absent_or is_real_date d.date ≡ true) × (is_absent_or is_real_time d.time ≡ true) × (front last : Text) × (t ≡ front ++ last)
    × SpellsRealPart d.offset last
to-range d t h g =
    let date_is = is_absent_or is_real_date d.date in
    let time_is = is_absent_or is_real_time d.time in
    let offset_is = is_absent_or (λ o. is_real_offset o t) d.offset in
    let both = and_left (date_is && time_is) offset_is g in
    let ends = ends-in d.date d.time d.offset t h in (
      and_left date_is time_is both,
      and_right date_is time_is both,
      ends.0,
      ends.1,
      ends.2,
      to-part d.offset t ends.0 ends.1 ends.2 ends.3 (and_right (date_is && time_is) offset_is g),
    )

from-range : (d : Datetime) (t : Text)
    → (is_absent_or is_real_date d.date ≡ true) × (is_absent_or is_real_time d.time ≡ true) × (front last : Text) × (t ≡ front ++ last)
    × SpellsRealPart d.offset last
    → is_in_range (datetime d) t ≡ true
from-range d t (date, time, front, last, e, offset) =
    let date_is = is_absent_or is_real_date d.date in
    let time_is = is_absent_or is_real_time d.time in
    and_both (date_is && time_is) (is_absent_or (λ o. is_real_offset o t) d.offset) (and_both date_is time_is date time)
    (from-part d.offset t front last e offset)

pub real-datetimes : RealDatetimes
real-datetimes d t h = (to-range d t h, from-range d t)
