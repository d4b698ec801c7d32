-- A time that was read is spelled so, and one that is spelled is read again.
use Rattle.std.proofs.Common.{◌≡◌, ℕ, ◌<◌, Bool, false, ◌||◌, ◌==◌, List, [], ◌∷◌, ◌++◌, length, take, drop, get_or, Option, Some, None}
use Rattle.std.proofs.Common.{refl, sym, ap, subst, ◌∙◌, inl, inr, arith, take_at, drop_at}
use Rattle.std.specs.List.{prefix_len}
use Rattle.std.specs.Char.{is_ascii_digit}
use Rattle.std.proofs.lemmas.Bool.{eqb-false, ne_eqb}
use Rattle.std.proofs.lemmas.Bool.Decides.{nat_tests}
use Rattle.std.proofs.lemmas.List.{take-append-drop}
use Rattle.std.proofs.lemmas.Option.{some_pair_parts}
use Rattle.toml_edit_model.specs.Text.{is_empty}
use Rattle.toml_edit_model.specs.Scalars.{Time}
use Rattle.toml_edit_model.specs.Trivia.{Each}
use Rattle.toml_edit_model.specs.Spelling.{two_digits, clock_text, nanoseconds, SpellsFraction, SpellsSeconds, SpellsTime}
use Rattle.toml_edit_laws.specs.reading.DatetimeReading.{optional, two_at, clock_at, fraction_at, seconds_at, time_at}
use Rattle.toml_edit_laws.proofs.reading.Steps.{chosen, same_parts, starts}
use Rattle.toml_edit_laws.proofs.common.OptionSteps.{bind_some, map_some}
use Rattle.toml_edit_laws.proofs.reading.RunLaws.{prefix_len-run, Each-run, run_some}
use Rattle.toml_edit_laws.proofs.reading.FieldLaws.{two_takes, two_again, clock_takes, clock_again}

-- a byte of a time of day
abbrev pub is_time_byte : ℕ → Bool
is_time_byte c = (is_ascii_digit c || c == 0x3A) || c == 0x2E

-- the text does not go on with a byte of a time
abbrev pub EndsTime : List ℕ → Type 0
EndsTime rest = is_time_byte (get_or rest 0 0) ≡ false

-- such a text begins with no digit, colon or point
no_digit : (c : ℕ) → is_time_byte c ≡ false → is_ascii_digit c ≡ false
no_digit c h = grind (arith, nat_tests)

no_colon : (c : ℕ) → is_time_byte c ≡ false → (c == 58) ≡ false
no_colon c h = grind (arith, nat_tests)

no_point : (c : ℕ) → is_time_byte c ≡ false → (c == 46) ≡ false
no_point c h = grind (arith, nat_tests)

-- ---- fractions

-- a list with a byte is not empty
not_empty : (xs : List ℕ) → (length xs ≡ 0 → ⊥) → is_empty xs ≡ false
not_empty [] h = absurd (h refl)
not_empty (x ∷ xs) h = refl

has_some : (xs : List ℕ) → is_empty xs ≡ false → length xs ≡ 0 → ⊥
has_some [] e n = absurd cc
has_some (x ∷ xs) e n = omega arith

fraction_takes : (t : List ℕ) (n : ℕ) (rest : List ℕ) → fraction_at t ≡ Some (n, rest)
    → (digits : List ℕ) × Each is_ascii_digit digits × (is_empty digits ≡ false) × (n ≡ nanoseconds digits) × (t ≡ digits ++ rest)
unfolding fraction_at
fraction_takes t n rest e =
    let len = prefix_len is_ascii_digit t in
    elim (chosen (len == 0) None _ (Some (n, rest)) e) [
      | inl (none, f) ↦ absurd cc
      | inr (some, f) ↦
          let (value, tail) = some_pair_parts (nanoseconds (take len t)) n (drop len t) rest f in (
            take len t,
            Each-run is_ascii_digit t,
            not_empty (take len t) (run_some is_ascii_digit t (eqb-false len 0 some)),
            sym value,
            rw (← tail) (sym (take-append-drop len t)),
          )
    ]

fraction_again : (digits rest : List ℕ) → Each is_ascii_digit digits → is_empty digits ≡ false → EndsTime rest
    → fraction_at (digits ++ rest) ≡ Some (nanoseconds digits, rest)
unfolding fraction_at
fraction_again digits rest all some stop =
    let ends = no_digit (get_or rest 0 0) stop in
    rw (
      prefix_len-run is_ascii_digit digits rest all ends,
      take_at digits rest _ refl,
      drop_at digits rest _ refl,
      ne_eqb (length digits) 0 (has_some digits some),
    ) refl

optional_takes : (t : List ℕ) (o : Option ℕ) (rest : List ℕ) → optional 46 fraction_at t ≡ Some (o, rest) → (text : List ℕ)
    × SpellsFraction o text × (t ≡ text ++ rest)
optional_takes t o rest e =
    elim (chosen (get_or t 0 0 == 46) _ (Some (None, t)) (Some (o, rest)) e) [
      | inl (point, f) ↦
          let (p, found, same) = map_some (fraction_at (drop 1 t)) (λ p. (Some p.0, p.1)) (o, rest) f in
          let (value, tail) = same_parts (Some p.0) o p.1 rest same in
          let (digits, all, some, worth, text) = fraction_takes (drop 1 t) p.0 p.1 found in
          subst (λ (x : Option ℕ). (text : List ℕ) × SpellsFraction x text × (t ≡ text ++ rest)) value (
            46 ∷ digits,
            (digits, all, some, worth, refl),
            starts t 46 point (omega arith)
                ∙ ap (λ (x : List ℕ). 46 ∷ x) (text ∙ ap (λ (x : List ℕ). digits ++ x) tail),
          )
      | inr (none, f) ↦
          let (value, tail) = some_pair_parts {A = Option ℕ} None o t rest f in
          subst (λ (x : Option ℕ). (text : List ℕ) × SpellsFraction x text × (t ≡ text ++ rest)) value ([], refl, tail)
    ]

optional_again : (o : Option ℕ) (text rest : List ℕ) → SpellsFraction o text → EndsTime rest → optional 46 fraction_at (text ++ rest)
    ≡ Some (o, rest)
optional_again None text rest spells stop = rw spells (rw (no_point _ stop) refl)
optional_again (Some n) text rest (digits, all, some, worth, same) stop =
    rw (same, worth) (rw (fraction_again digits rest all some stop) refl)

-- ---- seconds

-- seconds of their fields
seconds_joined : (s n o : Option ℕ) (x : ℕ) (t more rest : List ℕ) → Some x ≡ s → o ≡ n → x < 100 → SpellsFraction o more → t ≡ 58
    ∷ two_digits x ++ more ++ rest
    → (text : List ℕ) × SpellsSeconds s n text × (t ≡ text ++ rest)
seconds_joined s n o x t more rest es en small spells whole =
    subst (λ (y : Option ℕ). (text : List ℕ) × SpellsSeconds y n text × (t ≡ text ++ rest)) es
    (subst (λ (y : Option ℕ). (text : List ℕ) × SpellsSeconds (Some x) y text × (t ≡ text ++ rest)) en (
      58 ∷ two_digits x ++ more,
      (small, more, spells, refl),
      whole,
    ))

-- no seconds
seconds_none : (s n : Option ℕ) (t rest : List ℕ) → None ≡ s → None ≡ n → t ≡ rest → (text : List ℕ) × SpellsSeconds s n text
    × (t ≡ text ++ rest)
seconds_none s n t rest es en whole =
    subst (λ (y : Option ℕ). (text : List ℕ) × SpellsSeconds y n text × (t ≡ text ++ rest)) es
    (subst (λ (y : Option ℕ). (text : List ℕ) × SpellsSeconds None y text × (t ≡ text ++ rest)) en ([], refl, whole))

seconds_takes : (t : List ℕ) (s n : Option ℕ) (rest : List ℕ) → seconds_at t ≡ Some ((s, n), rest) → (text : List ℕ)
    × SpellsSeconds s n text × (t ≡ text ++ rest)
unfolding seconds_at
seconds_takes t s n rest e =
    elim (chosen (get_or t 0 0 == 58) _ (Some ((None, None), t)) (Some ((s, n), rest)) e) [
      | inl (colon, f) ↦
          let (second, found, g) = bind_some (two_at (drop 1 t)) _ ((s, n), rest) f in
          let (fraction, more_found, same) =
          map_some (optional 46 fraction_at second.1) (λ p. ((Some second.0, p.0), p.1)) ((s, n), rest) g in
          let (pair, tail) = same_parts {A = Option ℕ × Option ℕ} (Some second.0, fraction.0) (s, n) fraction.1 rest same in
          let (es, en) = same_parts (Some second.0) s fraction.0 n pair in
          let (small, front) = two_takes (drop 1 t) second.0 second.1 found in
          let (more, spells, back) = optional_takes second.1 fraction.0 fraction.1 more_found in
          seconds_joined s n fraction.0 second.0 t more rest es en small spells
          (starts t 58 colon (omega arith) ∙ ap (λ (x : List ℕ). 58 ∷ x) (front
          ∙ ap (λ (x : List ℕ). two_digits second.0 ++ x) (back ∙ ap (λ (x : List ℕ). more ++ x) tail)))
      | inr (none, f) ↦
          let (pair, tail) = some_pair_parts {A = Option ℕ × Option ℕ} (None, None) (s, n) t rest f in
          let (es, en) = same_parts None s None n pair in
          seconds_none s n t rest es en tail
    ]

seconds_again : (s n : Option ℕ) (text rest : List ℕ) → SpellsSeconds s n text → EndsTime rest → seconds_at (text ++ rest)
    ≡ Some ((s, n), rest)
unfolding seconds_at
seconds_again None None text rest spells stop = rw spells (rw (no_colon _ stop) refl)
seconds_again None (Some n) text rest spells stop = absurd spells
seconds_again (Some s) n text rest (small, more, spells, same) stop =
    rw same (rw (two_again s (more ++ rest) small, optional_again n more rest spells stop) refl)

-- ---- times

abbrev made_time : ℕ → ℕ → Option ℕ → Option ℕ → Time
made_time h m s n = record { hour = h; minute = m; second = s; nanosecond = n }

-- a time of its fields
time_joined : (time : Time) (h m : ℕ) (s n : Option ℕ) (t more rest : List ℕ) → (h < 100) × (m < 100) → SpellsSeconds s n more → t
    ≡ clock_text h m ++ more ++ rest
    → made_time h m s n ≡ time → (text : List ℕ) × SpellsTime time text × (t ≡ text ++ rest)
time_joined time h m s n t more rest (lh, lm) spells whole same =
    subst (λ (x : Time). (text : List ℕ) × SpellsTime x text × (t ≡ text ++ rest)) same (
      clock_text h m ++ more,
      (lh, lm, more, spells, refl),
      whole,
    )

pub time_takes : (t : List ℕ) (time : Time) (rest : List ℕ) → time_at t ≡ Some (time, rest) → (text : List ℕ) × SpellsTime time text
    × (t ≡ text ++ rest)
unfolding time_at
time_takes t time rest e =
    let (clock, found, f) = bind_some (clock_at t) _ (time, rest) e in
    let (more, seconds, g) = bind_some (seconds_at clock.1) _ (time, rest) f in
    let (same, tail) = some_pair_parts (made_time clock.0.0 clock.0.1 more.0.0 more.0.1) time more.1 rest g in
    let (lh, lm, front) = clock_takes t clock.0.0 clock.0.1 clock.1 found in
    let (text, spells, back) = seconds_takes clock.1 more.0.0 more.0.1 more.1 seconds in
    time_joined time clock.0.0 clock.0.1 more.0.0 more.0.1 t text rest (lh, lm) spells
    (front ∙ ap (λ (x : List ℕ). clock_text clock.0.0 clock.0.1 ++ x) (back ∙ ap (λ (x : List ℕ). text ++ x) tail)) same

pub time_again : (time : Time) (text rest : List ℕ) → SpellsTime time text → EndsTime rest → time_at (text ++ rest) ≡ Some (time, rest)
unfolding time_at
time_again time text rest (hour, minute, more, spells, same) stop =
    rw same (rw (
      clock_again time.hour time.minute (more ++ rest) hour minute,
      seconds_again time.second time.nanosecond more rest spells stop,
    ) refl)
