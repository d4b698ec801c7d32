-- The late part of a scalar is the first of its late places.
use Rattle.std.proofs.Common.{◌≡◌, refl, sym, ap, ◌∙◌, ℕ, ◌+◌, ◌/◌, ◌%◌, ◌<◌, Bool, true, false, ◌==◌, [], ◌∷◌, ◌++◌, append_assoc, length}
use Rattle.std.proofs.Common.{arith, Option, Some, None, inl, inr}
use Rattle.std.specs.Prelude.{is_some, not, nat_lt, slice_index, option_map, if◌then◌else◌}
use Rattle.std.proofs.lemmas.Bool.{cases_Bool}
use Rattle.std.proofs.lemmas.Bool.Decides.{nat_tests}
use Rattle.toml_edit_model.specs.Text.{Text, quote}
use Rattle.toml_edit_model.specs.Scalars.{Time, Date, Offset, zulu, shift, Datetime, Scalar, string, integer, float, boolean, datetime}
use Rattle.toml_edit_model.specs.Spelling.{Spells, SpellsParts, SpellsSeconds, SpellsOffsetPart, plus, minus, unsigned, date_text}
use Rattle.toml_edit_model.specs.Spelling.{clock_text}
use Rattle.toml_edit_model.specs.Version.{is_late_time, late_scalar}
use Rattle.toml_edit_laws.specs.reading.DatetimeReading.{datetime_of}
use Rattle.toml_edit_laws.specs.reading.ScalarReading.{scalar_at}
use Rattle.toml_edit_laws.proofs.common.Tests.{append-nil}
use Rattle.toml_edit_laws.proofs.reading.DatetimeLaws.{datetime_takes, datetime_again}
use Rattle.toml_edit_laws.proofs.reading.TokenLaws.{scalar_again}
use Rattle.toml_edit_syntax.specs.declared.event.Span.{Span}
use Rattle.toml_edit_syntax.specs.LateSpellings.{span_from, late_escape, clock_at, lacks_seconds, late_in_scalar}
use Rattle.toml_edit_syntax.proofs.late.Places.{first_of}
use Rattle.toml_edit_syntax.proofs.late.SpellingLaws.{string_first}

-- a text spells one scalar
reads : (s : Scalar) (t : Text) → Spells s t → scalar_at t ≡ Some (s, [])
reads s t is = ap scalar_at (sym (append-nil t)) ∙ scalar_again s t [] is refl

abbrev pick : Scalar → Option (Scalar × Text) → Scalar
pick s None = s
pick s (Some p) = p.0

same_scalar : (a b : Scalar) → ◌≡◌ {A = Option (Scalar × Text)} (Some (a, [])) (Some (b, [])) → a ≡ b
same_scalar a b e = ap (pick a) e

one_scalar : (a b : Scalar) (t : Text) → Spells a t → Spells b t → a ≡ b
one_scalar a b t ha hb = same_scalar a b (sym (reads a t ha) ∙ reads b t hb)

-- what is no date is read as none
no_date : (s : Scalar) (t : Text) → Spells s t → ((d : Datetime) → s ≡ datetime d → ⊥) → is_some (datetime_of t) ≡ false
no_date s t is other = none_some (datetime_of t) (λ d e. other d (one_scalar s (datetime d) t is (datetime_takes t d e)))
  where
    none_some : (o : Option Datetime) → ((d : Datetime) → o ≡ Some d → ⊥) → is_some o ≡ false
    none_some None h = refl
    none_some (Some d) h = absurd (h d refl)

-- ---- seconds

lacks_of : (t : Text) (n : ℕ) → clock_at t ≡ n → n < length t → lacks_seconds t ≡ not (slice_index t (n + 5) == 0x3A)
lacks_of t n e within = let yes : nat_lt n (length t) ≡ true = grind (arith, nat_tests) in rw (e, yes) refl

-- what follows the hour and the minute begins with `:` just where there is a second
second_first : (time : Time) (rest after u : Text) → SpellsSeconds time.second time.nanosecond rest → (slice_index after 0 == 0x3A) ≡ false
    → u ≡ rest ++ after
    → not (slice_index u 0 == 0x3A) ≡ is_late_time (Some time)
second_first time rest after u is stop e = by time.hour time.minute time.second time.nanosecond rest is e
  where
    by : (h m : ℕ) (second fraction : Option ℕ) (rest : Text) → SpellsSeconds second fraction rest → u ≡ rest ++ after
        → not (slice_index u 0 == 0x3A) ≡ is_late_time (Some (record { hour = h; minute = m; second = second; nanosecond = fraction }))
    by h m None None rest is e =
        let same : u ≡ after = e ∙ ap (λ (x : Text). x ++ after) is in
        ap (λ (x : Text). not (slice_index x 0 == 0x3A)) same ∙ ap not stop
    by h m None (Some n) rest is e = absurd is
    by h m (Some s) fraction rest is e =
        ap (λ (x : Text). not (slice_index x 0 == 0x3A)) (e ∙ ap (λ (x : Text). x ++ after) is.3)

offset_first : (o : Option Offset) (t : Text) → SpellsOffsetPart o t → (slice_index t 0 == 0x3A) ≡ false
offset_first None t is = ap (λ (x : Text). slice_index x 0 == 0x3A) is
offset_first (Some zulu) t (inl is) = ap (λ (x : Text). slice_index x 0 == 0x3A) is
offset_first (Some zulu) t (inr is) = ap (λ (x : Text). slice_index x 0 == 0x3A) is
offset_first (Some (shift z)) t (plus, hours, minutes, signs, a, b, value, is) = ap (λ (x : Text). slice_index x 0 == 0x3A) is
offset_first (Some (shift z)) t (minus, hours, minutes, signs, a, b, value, is) = ap (λ (x : Text). slice_index x 0 == 0x3A) is
offset_first (Some (shift z)) t (unsigned, hours, minutes, signs, a, b, value, is) = absurd (signs refl)

-- the third byte of a date is a digit
digit_here : (year : ℕ) → (48 + year % 100 / 10 == 0x3A) ≡ false
digit_here year = let small : year % 100 / 10 < 10 = omega arith in grind (arith, nat_tests)

date_clock : (d : Date) (u : Text) → clock_at (date_text d ++ u) ≡ 11
date_clock d u = rw (digit_here d.year) refl

parts_first : (date : Option Date) (time : Option Time) (offset : Option Offset) (t : Text) → SpellsParts date time offset t
    → lacks_seconds t ≡ is_late_time time
parts_first (Some d) None None t is = ap lacks_seconds is.3 ∙ rw (digit_here d.year) refl
parts_first (Some d) None (Some o) t is = absurd is
parts_first None None offset t is = absurd is
parts_first None (Some time) (Some o) t is = absurd is
parts_first None (Some time) None t (hours, minutes, rest, seconds, whole) =
    let long : 0 < length t = omega (arith, ap length whole) in
    lacks_of t 0 (ap clock_at whole) long
    ∙ ap (λ (x : Text). not (slice_index x 5 == 0x3A)) whole
    ∙ second_first time rest [] rest seconds refl (sym (append-nil rest))
parts_first (Some d) (Some time) offset t (first, second, third, mark, date, marks, (hours, minutes, rest, seconds, clock), zone, whole) =
    let all : t ≡ date_text d ++ (mark ∷ ((clock_text time.hour time.minute ++ rest) ++ third)) =
    whole ∙ append_assoc first (mark ∷ second) third ∙ ap (λ (x : Text). x ++ (mark ∷ (second ++ third))) date.3
    ∙ ap (λ (x : Text). date_text d ++ (mark ∷ (x ++ third))) clock in
    let long : 11 < length t = omega (arith, ap length all) in
    lacks_of t 11 (ap clock_at all ∙ date_clock d (mark ∷ ((clock_text time.hour time.minute ++ rest) ++ third))) long
    ∙ ap (λ (x : Text). not (slice_index x 16 == 0x3A)) all
    ∙ second_first time rest third (rest ++ third) seconds (offset_first offset third zone) refl

-- ---- scalars

one_place : (i n : ℕ) (b : Bool) → (if b then Some (span_from i n) else None) ≡ first_of (if b then (i, n) ∷ [] else [])
one_place i n true = refl
one_place i n false = refl

date_chosen : (i n : ℕ) (o : Option Span) (a b c : Bool) → a ≡ true → b ≡ c
    → (if a then (if b then Some (span_from i n) else None) else o) ≡ first_of (if c then (i, n) ∷ [] else [])
date_chosen i n o true b c chosen same = ap (λ (x : Bool). if x then Some (span_from i n) else None) same ∙ one_place i n c
date_chosen i n o false b c chosen same = absurd cc

other_chosen : (x y : Option Span) (a : Bool) → a ≡ false → (if a then x else y) ≡ y
other_chosen x y true e = absurd cc
other_chosen x y false e = refl

abbrev is_string : Scalar → Bool
is_string (string v) = true
is_string _ = false

from_map : (o : Option (Text × Text)) (s : Scalar) → ◌≡◌ {A = Option (Scalar × Text)} (option_map (λ p. (string p.0, p.1)) o) (Some (s, []))
    → is_string s ≡ true
from_map None s e = absurd cc
from_map (Some p) s e = ap (λ (x : Option (Scalar × Text)). is_string (pick s x)) (sym e)

quoted_string : (t : Text) (s : Scalar) → scalar_at (quote ∷ t) ≡ Some (s, []) → is_string s ≡ true
unfolding scalar_at
quoted_string t s e = from_map _ s e

no_escape : (s : Scalar) (t : Text) → Spells s t → is_string s ≡ false → (i : ℕ) → late_escape i t ≡ None
no_escape s [] is other i = refl
no_escape s (c ∷ t) is other i =
    elim (cases_Bool (c == quote)) [
      | inl hit ↦
          let same : c ≡ quote = grind (arith, nat_tests) in
          let f = quoted_string t s (ap (λ (x : ℕ). scalar_at (x ∷ t)) (sym same) ∙ reads s (c ∷ t) is) in
          absurd (let clash : true ≡ false = sym f ∙ other in cc)
      | inr no_quote ↦ rw no_quote refl
    ]

none_of : (s : Scalar) (t : Text) → Spells s t → is_string s ≡ false → ((d : Datetime) → s ≡ datetime d → ⊥) → (i : ℕ) → late_in_scalar i t
    ≡ None
none_of s t is other apart i =
    other_chosen (if lacks_seconds t then Some (span_from i (length t))
    else None) (late_escape i t) (is_some (datetime_of t)) (no_date s t is apart)
    ∙ no_escape s t is other i

pub scalar_first : (s : Scalar) (t : Text) → Spells s t → (i : ℕ) → late_in_scalar i t ≡ first_of (late_scalar s t i)
scalar_first (string v) t is i =
    other_chosen (if lacks_seconds t then Some (span_from i (length t))
    else None) (late_escape i t) (is_some (datetime_of t)) (no_date (string v) t is (λ d e. absurd cc))
    ∙ string_first v t is i
scalar_first (integer z) t is i = none_of (integer z) t is refl (λ d e. absurd cc) i
scalar_first (float x) t is i = none_of (float x) t is refl (λ d e. absurd cc) i
scalar_first (boolean b) t is i = none_of (boolean b) t is refl (λ d e. absurd cc) i
scalar_first (datetime d) t is i =
    date_chosen i (length t) (late_escape i t) (is_some (datetime_of t)) (lacks_seconds t) (is_late_time d.time)
    (ap (λ (o : Option Datetime). is_some o) (datetime_again t d is))
    (parts_first d.date d.time d.offset t is)
