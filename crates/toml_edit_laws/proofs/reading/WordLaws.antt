-- Where a word ends, that dates and times are words, and that no float is one of them.
use Rattle.std.proofs.Common.{◌≡◌, ℕ, ◌+◌, ◌/◌, ◌%◌, ◌<◌, Bool, true, false, ◌==◌, ◌&&◌, ◌||◌, [], ◌∷◌, ◌++◌, ◌⊎◌, length, codes, drop}
use Rattle.std.proofs.Common.{get_or, drop_at, IsUtf8, append_assoc, append-nil, Option, Some, None, refl, sym, ap, subst, ◌∙◌, inl, inr}
use Rattle.std.proofs.Common.{arith, eqb-true}
use Rattle.std.specs.List.{prefix_len, list_all, AllByRecursion}
use Rattle.std.specs.Char.{is_digit, is_ascii_digit}
use Rattle.std.proofs.lemmas.Bool.{cases_Bool, and_parts}
use Rattle.std.proofs.lemmas.Bool.Decides.{nat_tests}
use Rattle.std.proofs.lemmas.List.{get_or-append-add}
use Rattle.std.proofs.lemmas.Str.{IsCharBoundary-before_ascii, IsCharBoundary-from_rest, IsUtf8-drop}
use Rattle.std.specs.Str.{IsCharBoundary}
use Rattle.toml_edit_model.specs.Text.{Text}
use Rattle.toml_edit_model.specs.Trivia.{is_blank, Each}
use Rattle.toml_edit_model.specs.Scalars.{Date, Time, Offset, zulu, shift, Datetime}
use Rattle.toml_edit_model.specs.Spelling.{Sign, plus, minus, unsigned, sign_text, two_digits, four_digits, date_text, SpellsDate}
use Rattle.toml_edit_model.specs.Spelling.{clock_text, SpellsFraction, SpellsSeconds, SpellsTime, SpellsOffsetPart, is_date_time_mark}
use Rattle.toml_edit_model.specs.Spelling.{is_exponent_mark, SpellsParts, SpellsDatetime, Digits, IsDigits, digits_text}
use Rattle.toml_edit_model.specs.Spelling.{IsFractionOrExponent, IsFloat}
use Rattle.toml_edit_laws.specs.reading.Runs.{first, is_word_byte}
use Rattle.toml_edit_laws.specs.reading.ScalarReading.{is_stop, ends_scalar, goes_on, word_len}
use Rattle.toml_edit_laws.proofs.common.Each.{each-append}
use Rattle.toml_edit_laws.proofs.reading.RunLaws.{within_from_byte, prefix_len-run, IsCharBoundary-ascii_run}

-- no byte of a word and no quote follows a scalar
pub scalar_stops : (p : ℕ → Bool) → p 0 ≡ false → ((c : ℕ) → is_blank c ≡ true → p c ≡ false) → ((c : ℕ) → is_stop c ≡ true → p c ≡ false)
    → (t : Text) → ends_scalar t ≡ true → p (first t) ≡ false
scalar_stops p none white stop [] h = none
scalar_stops p none white stop (c ∷ cs) h =
    elim (cases_Bool (is_blank c)) [ inl w ↦ white c w | inr other ↦ stop c (rw other at h) ]

pub word_stops : (t : Text) → ends_scalar t ≡ true → is_word_byte (first t) ≡ false
word_stops = scalar_stops is_word_byte refl (λ c h. grind (arith, nat_tests)) (λ c h. grind (arith, nat_tests))

-- nor a space and a digit
digit_stops : (t : Text) → ends_scalar t ≡ true → (get_or t 0 0 == 32 && is_ascii_digit (get_or t 1 0)) ≡ false
digit_stops [] h = refl
digit_stops (c ∷ cs) h =
    elim (cases_Bool (c == 32)) [
      | inl space ↦
          let white : is_blank c ≡ true = grind (arith, nat_tests) in
          rw space (scalar_stops is_ascii_digit refl (λ c h. grind (arith, nat_tests)) (λ c h. grind (arith, nat_tests)) cs (rw white at h))
      | inr other ↦ rw other refl
    ]

-- a test that the second part fails
second_fails : (a b : Bool) → b ≡ false → (a && b) ≡ false
second_fails true b h = h
second_fails false b h = refl

-- what follows a run of ten bytes
beyond : (t rest : Text) → length t ≡ 10 → (get_or (t ++ rest) 10 0 ≡ get_or rest 0 0) × (get_or (t ++ rest) 11 0 ≡ get_or rest 1 0)
beyond t rest len = (
  ap (λ (n : ℕ). get_or (t ++ rest) n 0) (omega (arith, len)) ∙ get_or-append-add t rest 0 0,
  ap (λ (n : ℕ). get_or (t ++ rest) n 0) (omega (arith, len)) ∙ get_or-append-add t rest 1 0,
)

-- a run in front of what ends a scalar is not joined to what follows
goes_not : (t rest : Text) → ends_scalar rest ≡ true → goes_on (length t) (t ++ rest) ≡ false
goes_not t rest h =
    elim (cases_Bool (length t == 10)) [
      | inl ten ↦
          let (at10, at11) = beyond t rest (eqb-true (length t) 10 ten) in
          second_fails (length t == 10 && (get_or (t ++ rest) 4 0 == 45 && get_or (t ++ rest) 7 0 == 45)) (get_or (t ++ rest) 10 0 == 32
          && is_ascii_digit (get_or (t ++ rest) 11 0)) (rw (at10, at11) (digit_stops rest h))
      | inr other ↦ rw other refl
    ]

-- a run in front of what ends a scalar is the word
run_len : (t rest : Text) → Each is_word_byte t → ends_scalar rest ≡ true → word_len (t ++ rest) ≡ length t
unfolding word_len
run_len t rest each h = rw (prefix_len-run is_word_byte t rest each (word_stops rest h), goes_not t rest h) refl

-- the text is the word at the front of what it begins
pub record HasWord (t rest : Text) : Type 0 where
  pub begins : is_word_byte (first (t ++ rest)) ≡ true
  pub len : word_len (t ++ rest) ≡ length t

pub run_word : (t rest : Text) → Each is_word_byte t → (t ≡ [] → ⊥) → ends_scalar rest ≡ true → HasWord t rest
run_word [] rest each some h = absurd (some refl)
run_word (c ∷ cs) rest each some h =
    record { begins = (and_parts (is_word_byte c) (list_all is_word_byte cs) each).0; len = run_len (c ∷ cs) rest each h }

-- a digit is no 0 and ASCII
digit_range : (c : ℕ) → is_ascii_digit c ≡ true → (0 < c) × (c < 128)
digit_range c h = (grind (arith, nat_tests), grind (arith, nat_tests))

-- a run of the bytes of a word ends where a character does
word_run : (bs : Text) → IsUtf8 bs → IsCharBoundary bs (prefix_len is_word_byte bs)
word_run bs utf8 = IsCharBoundary-ascii_run is_word_byte bs utf8 (λ c e. grind (arith, nat_tests))

-- a word ends where a character does
pub IsCharBoundary-word : (bs : Text) → IsUtf8 bs → IsCharBoundary bs (word_len bs)
unfolding word_len
IsCharBoundary-word bs utf8 =
    elim (cases_Bool (goes_on (prefix_len is_word_byte bs) bs)) [
      | inl goes ↦
          let (run, next) = and_parts (prefix_len is_word_byte bs == 10
          && (get_or bs 4 0 == 45 && get_or bs 7 0 == 45)) (get_or bs 10 0 == 32 && is_ascii_digit (get_or bs 11 0)) goes in
          let (some, ascii) = digit_range (get_or bs 11 0) (and_parts (get_or bs 10 0 == 32) (is_ascii_digit (get_or bs 11 0)) next).1 in
          let within : 11 < length bs = within_from_byte bs 11 some in
          let here : IsCharBoundary bs 11 = IsCharBoundary-before_ascii bs 11 within ascii in
          let tail : IsCharBoundary (drop 11 bs) (prefix_len is_word_byte (drop 11 bs)) =
          word_run (drop 11 bs) (IsUtf8-drop bs 11 utf8 here) in
          rw goes (IsCharBoundary-from_rest bs 11 (prefix_len is_word_byte (drop 11 bs)) (omega arith) tail)
      | inr other ↦ rw other (word_run bs utf8)
    ]

-- ---- the bytes of dates and times

pub each_weaken : (p q : ℕ → Bool) → ((c : ℕ) → p c ≡ true → q c ≡ true) → (t : Text) → Each p t → Each q t
each_weaken p q h [] each = refl
each_weaken p q h (c ∷ cs) each =
    let (here, more) = and_parts (p c) (list_all p cs) each in
    rw (h c here) (each_weaken p q h cs more)

digit_byte : (n : ℕ) → n < 10 → is_ascii_digit (48 + n) ≡ true
digit_byte n h = grind (arith, nat_tests)

-- two digits are
two_each : (n : ℕ) → n < 100 → Each is_ascii_digit (two_digits n)
two_each n h = rw (digit_byte (n / 10) (omega arith), digit_byte (n % 10) (omega arith)) refl

four_each : (n : ℕ) → n < 10000 → Each is_ascii_digit (four_digits n)
four_each n h = each-append is_ascii_digit (two_digits (n / 100)) (two_digits (n % 100)) (two_each (n / 100) (omega arith))
    (two_each (n % 100) (omega arith))

digit_word : (t : Text) → Each is_ascii_digit t → Each is_word_byte t
digit_word = each_weaken is_ascii_digit is_word_byte (λ c h. grind (arith, nat_tests))

date_each : (d : Date) → d.year < 10000 → d.month < 100 → d.day < 100 → Each is_word_byte (date_text d)
date_each d year month day =
    each-append is_word_byte (four_digits d.year) (45 ∷ (two_digits d.month ++ (45 ∷ two_digits d.day)))
    (digit_word (four_digits d.year) (four_each d.year year))
    (each-append is_word_byte (two_digits d.month) (45
    ∷ two_digits d.day) (digit_word (two_digits d.month) (two_each d.month month)) (digit_word (two_digits d.day) (two_each d.day day)))

clock_each : (hours minutes : ℕ) → hours < 100 → minutes < 100 → Each is_word_byte (clock_text hours minutes)
clock_each hours minutes a b =
    each-append is_word_byte (two_digits hours) (58 ∷ two_digits minutes) (digit_word (two_digits hours) (two_each hours a))
    (digit_word (two_digits minutes) (two_each minutes b))

fraction_each : (n : Option ℕ) (t : Text) → SpellsFraction n t → Each is_word_byte t
fraction_each None t same = rw same refl
fraction_each (Some n) t (digits, each, some, value, same) = rw same (digit_word digits each)

seconds_each : (s n : Option ℕ) (t : Text) → SpellsSeconds s n t → Each is_word_byte t
seconds_each None None t same = rw same refl
seconds_each None (Some n) t is = absurd is
seconds_each (Some s) n t (below, rest, fraction, same) =
    rw same (each-append is_word_byte (two_digits s) rest (digit_word (two_digits s) (two_each s below)) (fraction_each n rest fraction))

time_each : (time : Time) (t : Text) → SpellsTime time t → Each is_word_byte t
time_each time t (hour, minute, rest, seconds, same) =
    rw same (each-append is_word_byte (clock_text time.hour time.minute) rest (clock_each time.hour time.minute hour minute)
    (seconds_each time.second time.nanosecond rest seconds))

sign_each : (s : Sign) → Each is_word_byte (sign_text s)
sign_each plus = refl
sign_each minus = refl
sign_each unsigned = refl

offset_each : (o : Option Offset) (t : Text) → SpellsOffsetPart o t → Each is_word_byte t
offset_each None t same = rw same refl
offset_each (Some zulu) t (inl same) = rw same refl
offset_each (Some zulu) t (inr same) = rw same refl
offset_each (Some (shift z)) t (s, hours, minutes, has, hour, minute, value, same) =
    rw same (each-append is_word_byte (sign_text s) (clock_text hours minutes) (sign_each s) (clock_each hours minutes hour minute))

-- ---- dates and times as words

-- a date, a space, and a run that begins with a digit
joined_len : (text tail : Text) (n : ℕ) → prefix_len is_word_byte text ≡ 10 → goes_on 10 text ≡ true → drop 11 text ≡ tail
    → prefix_len is_word_byte tail ≡ n → word_len text ≡ 11 + n
unfolding word_len
joined_len text tail n run goes same more = rw (run, goes, same, more) refl

joined_word : (d : Date) (time rest : Text) → SpellsDate d (date_text d) → is_ascii_digit (first time) ≡ true → Each is_word_byte time
    → ends_scalar rest ≡ true
    → HasWord (date_text d ++ (32 ∷ time)) rest
joined_word d [] rest (year, month, day, same) begins each h = absurd cc
joined_word d (c ∷ cs) rest (year, month, day, same) begins each h =
    let date = date_each d year month day in
    let text = (date_text d ++ (32 ∷ (c ∷ cs))) ++ rest in
    let run : prefix_len is_word_byte text ≡ 10 = prefix_len-run is_word_byte (date_text d) (32 ∷ ((c ∷ cs) ++ rest)) date refl in
    let goes : goes_on 10 text ≡ true = begins in
    record {
      begins = (and_parts (is_word_byte (48 + d.year / 100 / 10)) _ date).0;
      len = joined_len text ((c ∷ cs) ++ rest) (length (c ∷ cs)) run goes refl (prefix_len-run is_word_byte (c
          ∷ cs) rest each (word_stops rest h)) ∙ omega arith;
    }

-- a time begins with a digit
time_begins : (time : Time) (t rest : Text) → SpellsTime time t → is_ascii_digit (first (t ++ rest)) ≡ true
time_begins time t rest (hour, minute, more, seconds, same) =
    ap (λ (x : Text). is_ascii_digit (first (x ++ rest))) same ∙ digit_byte (time.hour / 10) (omega arith)

-- a mark that is no space
mark_byte : (c : ℕ) → is_date_time_mark c ≡ true → (c == 32) ≡ false → is_word_byte c ≡ true
mark_byte c a b = grind (arith, nat_tests)

both_word : (d : Date) (time : Time) (offset : Option Offset) (date second third t rest : Text) (mark : ℕ)
    → SpellsDate d date → is_date_time_mark mark ≡ true → SpellsTime time second → SpellsOffsetPart offset third → t ≡ date
    ++ (mark ∷ (second ++ third)) → ends_scalar rest ≡ true → HasWord t rest
both_word d time offset date second third t rest mark (year, month, day, is) marked spelled zone same h =
    let each : Each is_word_byte (second ++ third) =
    each-append is_word_byte second third (time_each time second spelled) (offset_each offset third zone) in
    let whole : t ≡ date_text d ++ (mark ∷ (second ++ third)) = same ∙ ap (λ (x : Text). x ++ (mark ∷ (second ++ third))) is in
    elim (cases_Bool (mark == 32)) [
      | inl space ↦
          let spaced : t ≡ date_text d ++ (32 ∷ (second ++ third)) = whole
          ∙ ap (λ (c : ℕ). date_text d ++ (c ∷ (second ++ third))) (eqb-true mark 32 space) in
          subst (λ (x : Text). HasWord x rest) (sym spaced) (joined_word d (second ++ third) rest (
            year,
            month,
            day,
            refl,
          ) (time_begins time second third spelled) each h)
      | inr letter ↦
          let all : Each is_word_byte (date_text d ++ (mark ∷ (second ++ third))) =
          each-append is_word_byte (date_text d) (mark ∷ (second ++ third)) (date_each d year month day)
          (rw (mark_byte mark marked letter) each) in
          run_word t rest (rw whole all) (λ e. absurd cc) h
    ]

parts_word : (date : Option Date) (time : Option Time) (offset : Option Offset) (t rest : Text) → SpellsParts date time offset t
    → ends_scalar rest ≡ true → HasWord t rest
parts_word (Some d) None None t rest (year, month, day, same) h = run_word t rest (rw same (date_each d year month day)) (λ e. absurd cc) h
parts_word None (Some time) None t rest is h =
    run_word t rest (time_each time t is) (λ e. absurd cc) h
parts_word (Some d) (Some time) offset t rest (date, second, third, mark, is, marked, spelled, zone, same) h =
    both_word d time offset date second third t rest mark is marked spelled zone (same ∙ append_assoc date (mark ∷ second) third) h
parts_word (Some d) None (Some o) t rest is h = absurd is
parts_word None (Some time) (Some o) t rest is h = absurd is
parts_word None None o t rest is h = absurd is

pub datetime_word : (d : Datetime) (t rest : Text) → SpellsDatetime d t → ends_scalar rest ≡ true → HasWord t rest
datetime_word d t rest is h = parts_word d.date d.time d.offset t rest is h

-- ---- no float is a date or a time

-- a digit or an underscore
abbrev is_figure : ℕ → Bool
is_figure c = is_ascii_digit c || c == 95

-- the byte behind the digits at the front
abbrev after_figures : Text → ℕ
after_figures t = first (drop (prefix_len is_figure t) t)

after_run : (t run more : Text) (c : ℕ) → t ≡ run ++ (c ∷ more) → Each is_figure run → is_figure c ≡ false → after_figures t ≡ c
after_run t run more c same each stop =
    ap (λ (x : Text). after_figures x) same ∙ rw (prefix_len-run is_figure run (c ∷ more) each stop, drop_at run (c ∷ more) _ refl) refl

-- the text begins with digits and a dash or a colon
abbrev BeginsDatetime : Text → Type 0
BeginsDatetime t = (is_ascii_digit (first t) ≡ true) × ((after_figures t == 45 || after_figures t == 58) ≡ true)

figures : (t : Text) → Each is_ascii_digit t → Each is_figure t
figures = each_weaken is_ascii_digit is_figure (λ c h. grind (arith, nat_tests))

date_front : (d : Date) (t more : Text) → SpellsDate d t → BeginsDatetime (t ++ more)
date_front d t more (year, month, day, same) =
    let run = four_digits d.year in
    let rest = two_digits d.month ++ (45 ∷ two_digits d.day) in
    let whole : t ++ more ≡ run ++ (45 ∷ (rest ++ more)) = ap (λ (x : Text). x ++ more) same ∙ append_assoc run (45 ∷ rest) more in
    let each = four_each d.year year in
    let after : after_figures (t ++ more) ≡ 45 = after_run (t ++ more) run (rest ++ more) 45 whole (figures run each) refl in
    (ap (λ (x : Text). is_ascii_digit (first x)) whole ∙ digit_byte (d.year / 100 / 10) (omega arith), rw after refl)

time_front : (time : Time) (t : Text) → SpellsTime time t → BeginsDatetime t
time_front time t (hour, minute, more, seconds, same) =
    let run = two_digits time.hour in
    let rest = two_digits time.minute in
    let whole : t ≡ run ++ (58 ∷ (rest ++ more)) = same ∙ append_assoc run (58 ∷ rest) more in
    let each = two_each time.hour hour in
    let after : after_figures t ≡ 58 = after_run t run (rest ++ more) 58 whole (figures run each) refl in
    (ap (λ (x : Text). is_ascii_digit (first x)) whole ∙ digit_byte (time.hour / 10) (omega arith), rw after refl)

parts_front : (date : Option Date) (time : Option Time) (offset : Option Offset) (t : Text) → SpellsParts date time offset t
    → BeginsDatetime t
parts_front (Some d) None None t is = subst (λ (x : Text). BeginsDatetime x) (append-nil t) (date_front d t [] is)
parts_front None (Some time) None t is = time_front time t is
parts_front (Some d) (Some time) offset t (date, second, third, mark, is, marked, spelled, zone, same) =
    subst (λ (x : Text). BeginsDatetime x) (sym (same ∙ append_assoc date (mark ∷ second) third)) (date_front d date (mark
    ∷ (second ++ third)) is)
parts_front (Some d) None (Some o) t is = absurd is
parts_front None (Some time) (Some o) t is = absurd is
parts_front None None o t is = absurd is

-- the text begins with no digit, or with digits and a point or the mark of an exponent
abbrev BeginsFloat : Text → Type 0
BeginsFloat t = (is_ascii_digit (first t) ≡ false) ⊎ ((after_figures t == 46 || is_exponent_mark (after_figures t)) ≡ true)

apart : (t : Text) → BeginsFloat t → BeginsDatetime t → ⊥
apart t (inl none) (digit, after) = absurd (cc (none, digit))
apart t (inr point) (digit, after) = point_apart (after_figures t) point after
  where
    point_apart : (c : ℕ) → (c == 46 || is_exponent_mark c) ≡ true → (c == 45 || c == 58) ≡ true → ⊥
    point_apart c a b = grind (arith, nat_tests)

digit_figure : (c : ℕ) → is_digit c 10 ≡ true → is_figure c ≡ true
digit_figure c h = grind (arith, nat_tests)

digits_figures : (ds : Digits) → AllByRecursion (λ x. is_digit x.1 10 ≡ true) ds → Each is_figure (digits_text ds)
digits_figures [] each = refl
digits_figures ((false, c) ∷ ds) each = rw (digit_figure c each.0) (digits_figures ds each.1)
digits_figures ((true, c) ∷ ds) each = rw (digit_figure c each.0) (digits_figures ds each.1)

digits_all : (ds : Digits) → IsDigits 10 ds → AllByRecursion (λ x. is_digit x.1 10 ≡ true) ds
digits_all [] is = absurd is
digits_all (d ∷ ds) is = is.1

-- a byte that ends the digits of a float
abbrev is_point : ℕ → Bool
is_point c = c == 46 || is_exponent_mark c

abbrev BeginsPoint : Text → Type 0
BeginsPoint t = (c : ℕ) × (more : Text) × (is_point c ≡ true) × (t ≡ c ∷ more)

mark_point : (c : ℕ) → is_exponent_mark c ≡ true → is_point c ≡ true
mark_point c h = grind (arith, nat_tests)

point_stops : (c : ℕ) → is_point c ≡ true → is_figure c ≡ false
point_stops c h = grind (arith, nat_tests)

point_front : (t : Text) → IsFractionOrExponent t → BeginsPoint t
point_front t (inl (ds, is, same)) = (46, digits_text ds, refl, same)
point_front t (inr (inl (mark, s, ds, marked, is, same))) = (mark, sign_text s ++ digits_text ds, mark_point mark marked, same)
point_front t (inr (inr (fraction, exponent, (ds, is, parts), last, same))) =
    (46, digits_text ds ++ exponent, refl, same ∙ ap (λ (x : Text). x ++ exponent) parts)

decimal_front : (s : Sign) (ds : Digits) (t rest : Text) → IsDigits 10 ds → BeginsPoint rest → t ≡ (sign_text s ++ digits_text ds) ++ rest
    → BeginsFloat t
decimal_front plus ds t rest is point same = inl (ap (λ (x : Text). is_ascii_digit (first x)) same)
decimal_front minus ds t rest is point same = inl (ap (λ (x : Text). is_ascii_digit (first x)) same)
decimal_front unsigned ds t rest is (c, more, marked, starts) same =
    let whole : t ≡ digits_text ds ++ (c ∷ more) = same ∙ ap (λ (x : Text). digits_text ds ++ x) starts in
    inr (ap is_point (after_run t (digits_text ds) more c whole (digits_figures ds (digits_all ds is)) (point_stops c marked)) ∙ marked)

special_front : (s : Sign) (t : Text) → (t ≡ sign_text s ++ codes "inf") ⊎ (t ≡ sign_text s ++ codes "nan") → is_ascii_digit (first t)
    ≡ false
special_front plus t (inl same) = ap (λ (x : Text). is_ascii_digit (first x)) same
special_front plus t (inr same) = ap (λ (x : Text). is_ascii_digit (first x)) same
special_front minus t (inl same) = ap (λ (x : Text). is_ascii_digit (first x)) same
special_front minus t (inr same) = ap (λ (x : Text). is_ascii_digit (first x)) same
special_front unsigned t (inl same) = ap (λ (x : Text). is_ascii_digit (first x)) same
special_front unsigned t (inr same) = ap (λ (x : Text). is_ascii_digit (first x)) same

float_front : (t : Text) → IsFloat t → BeginsFloat t
float_front t (inl (s, ds, whole, rest, (is, lead, text), point, same)) =
    decimal_front s ds t rest is (point_front rest point) (same ∙ ap (λ (x : Text). x ++ rest) text)
float_front t (inr (s, is)) = inl (special_front s t is)

-- a date or a time begins with a digit
pub datetime_first : (d : Datetime) (t : Text) → SpellsDatetime d t → is_ascii_digit (first t) ≡ true
datetime_first d t is = (parts_front d.date d.time d.offset t is).0

pub float_no_datetime : (d : Datetime) (t : Text) → IsFloat t → SpellsDatetime d t → ⊥
float_no_datetime d t float is = apart t (float_front t float) (parts_front d.date d.time d.offset t is)
