-- What is read as a date-time is spelled so, and what is spelled is read again.
use Rattle.std.proofs.Common.{◌≡◌, ℕ, not, ◌/◌, ◌%◌, ◌<◌, ◌≤◌, Bool, true, false, ◌&&◌, ◌==◌, List, [], ◌∷◌, ◌++◌, drop, get_or, Option}
use Rattle.std.proofs.Common.{Some, None, refl, sym, ap, subst, ◌∙◌, inl, inr, arith, append-nil}
use Rattle.std.specs.Prelude.{ℤ}
use Rattle.std.specs.List.{list_all, AllByRecursion}
use Rattle.std.specs.Char.{is_digit}
use Rattle.std.proofs.lemmas.Bool.{and_parts, false≢true}
use Rattle.std.proofs.lemmas.Bool.Decides.{nat_tests}
use Rattle.toml_edit_model.specs.Scalars.{Date, Time, Offset, Datetime, zulu, shift, datetime, is_real_date, is_real_time}
use Rattle.toml_edit_model.specs.Spelling.{Sign, plus, minus, unsigned, sign_text, digit, date_text, clock_text, SpellsOffset, SpellsTime}
use Rattle.toml_edit_model.specs.Spelling.{SpellsParts, SpellsDatetime, is_date_time_mark, is_real_offset, is_in_range, SpellsInteger}
use Rattle.toml_edit_model.specs.Spelling.{truth_text, Digits, digits_text, IsDigits, Base, hexadecimal, octal, binary, base_number}
use Rattle.toml_edit_model.specs.Spelling.{base_prefix}
use Rattle.toml_edit_model.specs.Trivia.{Each}
use Rattle.toml_edit_laws.specs.reading.Tokens.{whole}
use Rattle.toml_edit_laws.specs.reading.DatetimeReading.{Parts, OffsetParts, starts_datetime, date_at, time_at, offset_at, after_time}
use Rattle.toml_edit_laws.specs.reading.DatetimeReading.{after_date, parts_of, parts_datetime, datetime_of, are_real}
use Rattle.toml_edit_laws.specs.reading.Runs.{Read}
use Rattle.toml_edit_laws.proofs.reading.Steps.{chosen}
use Rattle.toml_edit_laws.proofs.common.OptionSteps.{bind_some, map_some, guard_read}
use Rattle.toml_edit_laws.proofs.reading.FieldLaws.{date_takes, date_again}
use Rattle.toml_edit_laws.proofs.reading.TimeLaws.{time_takes, time_again, EndsTime}
use Rattle.toml_edit_laws.proofs.reading.OffsetLaws.{own_range, offset_takes, offset_again, offset_parts, offset_ends}
use Rattle.toml_edit_laws.proofs.spellings.OffsetLaws.{digit-ascii, clock-is}

-- ---- the range of an offset in a whole text

pub range_is : (o : Offset) (d : Date) (mark : ℕ) (time text : List ℕ) → SpellsOffset o text
    → is_real_offset o (date_text d ++ mark ∷ time ++ text) ≡ own_range o text
range_is zulu d mark time text spells = refl
range_is (shift z) d mark time text (plus, h, m, some, lh, lm, value, same) =
    rw same (rw (clock-is d mark 43 time (clock_text h m) refl) refl)
range_is (shift z) d mark time text (minus, h, m, some, lh, lm, value, same) =
    rw same (rw (clock-is d mark 45 time (clock_text h m) refl) refl)
range_is (shift z) d mark time text (unsigned, h, m, some, lh, lm, value, same) = absurd (some refl)

-- ---- reading

some_same : {A : Type 0} (a b : A) → Some a ≡ Some b → a ≡ b
some_same a b e = cc

whole_takes : {A : Type 0} (r : Read A) (a : A) → whole r ≡ Some a → r ≡ Some (a, [])
whole_takes None a e = absurd cc
whole_takes (Some (b, [])) a e = cc
whole_takes (Some (b, c ∷ rest)) a e = absurd cc

-- the text spells these parts, and their range is known
abbrev TakesParts : List ℕ → Parts → Type 0
TakesParts t p = SpellsDatetime (parts_datetime p) t × (is_in_range (datetime (parts_datetime p)) t ≡ are_real p)

time_parts_take : (t : List ℕ) (time : Time) → time_at t ≡ Some (time, [])
    → TakesParts t (record { date = None; time = Some time; offset = None })
time_parts_take t time e =
    let (text, spells, same) = time_takes t time [] e in
    (subst (SpellsTime time) (sym (same ∙ append-nil text)) spells, refl)

date_parts_take : (t : List ℕ) (date : Date) → date_at t ≡ Some (date, [])
    → TakesParts t (record { date = Some date; time = None; offset = None })
date_parts_take t date e = (date_takes t date [] e, refl)

-- with a time, and nothing behind it
timed_take : (t : List ℕ) (date : Date) (mark : ℕ) (time : Time) (more : List ℕ) → date_at t ≡ Some (date, mark ∷ more)
    → is_date_time_mark mark ≡ true → time_at more ≡ Some (time, [])
    → TakesParts t (record { date = Some date; time = Some time; offset = None })
timed_take t date mark time more found marked read =
    let (ly, lm, ld, front) = date_takes t date (mark ∷ more) found in
    let (text, spells, back) = time_takes more time [] read in (
      (
        date_text date,
        text,
        [],
        mark,
        (ly, lm, ld, refl),
        marked,
        spells,
        refl,
        front
            ∙ ap (λ (x : List ℕ). date_text date ++ mark ∷ x) back,
      ),
      refl,
    )

-- with a time and an offset
offset_take : (t : List ℕ) (date : Date) (mark : ℕ) (time : Time) (offset : OffsetParts) (more rest : List ℕ) → date_at t
    ≡ Some (date, mark ∷ more) → is_date_time_mark mark ≡ true
    → time_at more ≡ Some (time, rest) → offset_at rest ≡ Some (offset, [])
    → TakesParts t (record { date = Some date; time = Some time; offset = Some offset })
offset_take t date mark time offset more rest found marked read last =
    let (ly, lm, ld, front) = date_takes t date (mark ∷ more) found in
    let (text, spells, back) = time_takes more time rest read in
    let (third, offset_spells, tail, real) = offset_takes rest offset [] last in
    let whole_text : t ≡ date_text date ++ mark ∷ text ++ third =
    front ∙ ap (λ (x : List ℕ). date_text date ++ mark ∷ x) (back ∙ ap (λ (x : List ℕ). text ++ x) (tail ∙ append-nil third)) in
    let range : is_real_offset offset.offset t ≡ offset.is_real =
    ap (is_real_offset offset.offset) whole_text ∙ range_is offset.offset date mark text third offset_spells ∙ sym real in (
      (date_text date, text, third, mark, (ly, lm, ld, refl), marked, spells, offset_spells, whole_text),
      ap (λ (b : Bool). (is_real_date date && is_real_time time) && b) range,
    )

-- what follows a time
after_time_takes : (t : List ℕ) (date : Date) (mark : ℕ) (time : Time) (more rest : List ℕ) (p : Parts) → date_at t
    ≡ Some (date, mark ∷ more) → is_date_time_mark mark ≡ true
    → time_at more ≡ Some (time, rest) → after_time date time rest ≡ Some p → TakesParts t p
after_time_takes t date mark time more [] p found marked read e =
    subst (TakesParts t) (some_same _ p e) (timed_take t date mark time more found marked read)
after_time_takes t date mark time more (c ∷ cs) p found marked read e =
    let (offset, last, same) = map_some (whole (offset_at (c ∷ cs))) _ p e in
    subst (TakesParts t) same (offset_take t date mark time offset more (c
    ∷ cs) found marked read (whole_takes (offset_at (c ∷ cs)) offset last))

-- what follows a date
after_takes : (t rest : List ℕ) (date : Date) (p : Parts) → date_at t ≡ Some (date, rest) → after_date date rest ≡ Some p → TakesParts t p
unfolding after_date
after_takes t [] date p found e = subst (TakesParts t) (some_same _ p e) (date_parts_take t date found)
after_takes t (c ∷ more) date p found e =
    let (mark, f) = guard_read (is_date_time_mark c) _ p e in
    let (time, read, g) = bind_some (time_at more) _ p f in
    after_time_takes t date c time.0 more time.1 p found mark read g

pub parts_take : (t : List ℕ) (p : Parts) → parts_of t ≡ Some p → TakesParts t p
unfolding parts_of
parts_take t p e =
    elim (chosen (get_or t 2 0 == 58) _ _ (Some p) e) [
      | inl (_, f) ↦
          let (time, found, same) = map_some (whole (time_at t)) _ p f in
          subst (TakesParts t) same (time_parts_take t time (whole_takes (time_at t) time found))
      | inr (_, f) ↦
          let (date, found, g) = bind_some (date_at t) _ p f in
          after_takes t date.1 date.0 p found g
    ]

pub datetime_takes : (t : List ℕ) (d : Datetime) → datetime_of t ≡ Some d → SpellsDatetime d t
unfolding datetime_of
datetime_takes t d e =
    let (p, found, same) = map_some (parts_of t) parts_datetime d e in
    subst (λ (x : Datetime). SpellsDatetime x t) same (parts_take t p found).0

-- ---- reading again

-- a digit is no colon
digit_apart : (d : ℕ) → d < 10 → (digit d == 58) ≡ false
digit_apart d h = grind (arith, nat_tests)

-- a date has no colon behind its first two digits
date_apart : (y : ℕ) → y < 10000 → (digit (y % 100 / 10) == 58) ≡ false
date_apart y h = digit_apart (y % 100 / 10) (omega arith)

-- these parts are read from the text
abbrev ReadsParts : List ℕ → Option Date → Option Time → Option Offset → Type 0
ReadsParts t date time offset =
    (p : Parts) × (parts_of t ≡ Some p) × (parts_datetime p ≡ record { date = date; time = time; offset = offset })

read_timed : (d : Date) (time : Time) (mark : ℕ) (text rest : List ℕ) → d.year < 10000 → d.month < 100 → d.day < 100
    → is_date_time_mark mark ≡ true
    → SpellsTime time text → EndsTime rest → parts_of (date_text d ++ mark ∷ text ++ rest) ≡ after_time d time rest
unfolding parts_of after_date
read_timed d time mark text rest ly lm ld marked spells ends =
    rw (date_apart d.year ly) (rw (date_again d (mark ∷ text ++ rest) ly lm ld) (rw (marked, time_again time text rest spells ends) refl))

-- nothing spells no offset
no_offset : (o : Offset) → SpellsOffset o [] → ⊥
unfolding offset_at
no_offset o spells = let e = offset_again o [] spells in cc

offset_after : (d : Date) (time : Time) (o : Offset) (text : List ℕ) → SpellsOffset o text
    → after_time d time text ≡ Some (record { date = Some d; time = Some time; offset = Some (offset_parts o (own_range o text)) })
offset_after d time o [] spells = absurd (no_offset o spells)
offset_after d time o (c ∷ cs) spells = rw (offset_again o (c ∷ cs) spells) refl

-- a time has a colon behind its hour
time_third : (time : Time) (t : List ℕ) → SpellsTime time t → (get_or t 2 0 == 58) ≡ true
time_third time t (hour, minute, more, seconds, same) = rw same refl

parts_again : (date : Option Date) (time : Option Time) (offset : Option Offset) (t : List ℕ) → SpellsParts date time offset t
    → ReadsParts t date time offset
unfolding parts_of after_date
parts_again (Some d) None None t (ly, lm, ld, same) =
    (record { date = Some d; time = None; offset = None }, rw same (rw (date_apart d.year ly) (rw (date_again d [] ly lm ld) refl)), refl)
parts_again None (Some time) None t spells =
    let read : time_at t ≡ Some (time, []) = ap time_at (sym (append-nil t)) ∙ time_again time t [] spells refl in
    (record { date = None; time = Some time; offset = None }, rw (time_third time t spells, read) refl, refl)
parts_again (Some d) (Some time) None t (first, second, third, mark, (ly, lm, ld, front), marked, spells, none, whole_text) = (
  record { date = Some d; time = Some time; offset = None },
  rw (whole_text, front, none) (read_timed d time mark second [] ly lm ld marked spells refl),
  refl,
)
parts_again (Some d) (Some time) (Some o) t (first, second, third, mark, (ly, lm, ld, front), marked, spells, last, whole_text) = (
  record { date = Some d; time = Some time; offset = Some (offset_parts o (own_range o third)) },
  rw (whole_text, front) (read_timed d time mark second third ly lm ld marked spells (offset_ends o third last)
      ∙ offset_after d time o third last),
  refl,
)
parts_again (Some d) None (Some o) t spells = absurd spells
parts_again None (Some time) (Some o) t spells = absurd spells
parts_again None None o t spells = absurd spells

pub datetime_again : (t : List ℕ) (d : Datetime) → SpellsDatetime d t → datetime_of t ≡ Some d
unfolding datetime_of
datetime_again t d spells =
    let (p, found, same) = parts_again d.date d.time d.offset t spells in
    rw found (ap (λ (x : Datetime). Some x) same)

-- ---- other scalars

begins_date : (d : Date) (rest : List ℕ) → d.year < 10000 → starts_datetime (date_text d ++ rest) ≡ true
begins_date d rest h =
    rw (
      digit-ascii (d.year / 100 / 10) (omega arith),
      digit-ascii (d.year / 100 % 10) (omega arith),
      digit-ascii (d.year % 100 / 10) (omega arith),
      digit-ascii (d.year % 100 % 10) (omega arith),
    ) refl

begins_time : (time : Time) (t : List ℕ) → SpellsTime time t → starts_datetime t ≡ true
begins_time time t (hour, minute, more, seconds, same) =
    rw same (rw (
      digit-ascii (time.hour / 10) (omega arith),
      digit-ascii (time.hour % 10) (omega arith),
      digit-ascii (time.minute / 10) (omega arith),
      digit-ascii (time.minute % 10) (omega arith),
    ) refl)

begins_by : (date : Option Date) (time : Option Time) (offset : Option Offset) (t : List ℕ) → SpellsParts date time offset t
    → starts_datetime t ≡ true
begins_by (Some d) None None t (ly, lm, ld, same) = rw same (begins_date d [] ly)
begins_by None (Some time) None t spells = begins_time time t spells
begins_by (Some d) (Some time) offset t (first, second, third, mark, (ly, lm, ld, front), marked, spells, last, whole_text) =
    rw (whole_text, front) (begins_date d (mark ∷ second ++ third) ly)
begins_by (Some d) None (Some o) t spells = absurd spells
begins_by None (Some time) (Some o) t spells = absurd spells
begins_by None None o t spells = absurd spells

pub datetime-begins : (t : List ℕ) (d : Datetime) → SpellsDatetime d t → starts_datetime t ≡ true
datetime-begins t d spells = begins_by d.date d.time d.offset t spells

-- no `-` and no colon
abbrev is_joined : ℕ → Bool
is_joined c = not (c == 0x2D) && not (c == 0x3A)

-- the bytes of digits
digit_joined : (base c : ℕ) → base ≤ 16 → is_digit c base ≡ true → is_joined c ≡ true
digit_joined base c h is = grind (arith, nat_tests)

digits_joined : (base : ℕ) (ds : Digits) → base ≤ 16 → AllByRecursion (λ x. is_digit x.1 base ≡ true) ds → Each is_joined (digits_text ds)
digits_joined base [] h each = refl
digits_joined base ((true, c) ∷ ds) h (one, each) = rw (digit_joined base c h one) (digits_joined base ds h each)
digits_joined base ((false, c) ∷ ds) h (one, each) = rw (digit_joined base c h one) (digits_joined base ds h each)

is_digits_joined : (base : ℕ) (ds : Digits) → base ≤ 16 → IsDigits base ds → Each is_joined (digits_text ds)
is_digits_joined base [] h is = absurd is
is_digits_joined base (d ∷ ds) h (first, each) = digits_joined base (d ∷ ds) h each

-- without the first byte
Each-behind : (p : ℕ → Bool) (t : List ℕ) → Each p t → Each p (drop 1 t)
Each-behind p [] all = refl
Each-behind p (c ∷ cs) all = (and_parts (p c) (list_all p cs) all).1

decimal_bytes : (s : Sign) (text : List ℕ) → Each is_joined text → Each is_joined (drop 1 (sign_text s ++ text))
decimal_bytes plus text all = all
decimal_bytes minus text all = all
decimal_bytes unsigned text all = Each-behind is_joined text all

prefixed_bytes : (b : Base) (ds : Digits) → IsDigits (base_number b) ds → Each is_joined (drop 1 (base_prefix b ++ digits_text ds))
prefixed_bytes hexadecimal ds is = is_digits_joined 16 ds (omega arith) is
prefixed_bytes octal ds is = is_digits_joined 8 ds (omega arith) is
prefixed_bytes binary ds is = is_digits_joined 2 ds (omega arith) is

-- behind its first byte an integer has no `-` and no colon
integer_bytes : (z : ℤ) (t : List ℕ) → SpellsInteger z t → Each is_joined (drop 1 t)
integer_bytes z t (inl (s, ds, (is, lead, same), value)) =
    rw same (decimal_bytes s (digits_text ds) (is_digits_joined 10 ds (omega arith) is))
integer_bytes z t (inr (b, ds, is, value, same)) = rw same (prefixed_bytes b ds is)

-- a date-time has one
no_both_bytes : (a b c d e : ℕ) (more : Bool) → starts_datetime (a ∷ b ∷ c ∷ d ∷ e ∷ []) ≡ true
    → (is_joined b && (is_joined c && (is_joined d && (is_joined e && more)))) ≡ true → ⊥
no_both_bytes a b c d e more begins joined = grind (arith, nat_tests)

no_both : (t : List ℕ) → starts_datetime t ≡ true → Each is_joined (drop 1 t) → ⊥
no_both [] begins joined = absurd (false≢true begins)
no_both (a ∷ []) begins joined = absurd (false≢true begins)
no_both (a ∷ b ∷ []) begins joined = absurd (false≢true begins)
no_both (a ∷ b ∷ c ∷ []) begins joined = absurd (false≢true begins)
no_both (a ∷ b ∷ c ∷ d ∷ []) begins joined = absurd (false≢true begins)
no_both (a ∷ b ∷ c ∷ d ∷ e ∷ rest) begins joined = no_both_bytes a b c d e (list_all is_joined rest) begins joined

pub datetime-no_integer : (t : List ℕ) (d : Datetime) (z : ℤ) → SpellsDatetime d t → SpellsInteger z t → ⊥
datetime-no_integer t d z spells integer = no_both t (datetime-begins t d spells) (integer_bytes z t integer)

pub datetime-no_truth : (t : List ℕ) (d : Datetime) (b : Bool) → SpellsDatetime d t → t ≡ truth_text b → ⊥
datetime-no_truth t d true spells same = let begins = datetime-begins t d spells in false≢true (ap starts_datetime (sym same) ∙ begins)
datetime-no_truth t d false spells same = let begins = datetime-begins t d spells in false≢true (ap starts_datetime (sym same) ∙ begins)
