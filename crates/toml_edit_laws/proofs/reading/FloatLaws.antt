-- What passes the test is a float, and a float passes it.
use Rattle.std.proofs.Common.{◌≡◌, ℕ, ◌<◌, Bool, true, false, not, cond, ◌==◌, ◌&&◌, ◌||◌, [], ◌∷◌, ◌++◌, ◌⊎◌, drop, Option, Some, None}
use Rattle.std.proofs.Common.{refl, sym, ap, subst, ◌∙◌, inl, inr, arith, eqb-true, append_assoc, append-nil}
use Rattle.std.specs.Prelude.{ℤ, codes, bytes_eq}
use Rattle.std.specs.List.{AllByRecursion, list_all}
use Rattle.std.specs.Char.{is_digit}
use Rattle.std.proofs.lemmas.Bool.{and_parts, and_right, or_cases, or_left, or_right, or_from, and_from, not-true, not_from_false, ne_eqb}
use Rattle.std.proofs.lemmas.Bool.{eq-eqb, false≢true, cases_Bool}
use Rattle.std.proofs.lemmas.Bool.Decides.{nat_tests}
use Rattle.std.proofs.lemmas.Slice.Eq.{bytes_eq-Decides}
use Rattle.toml_edit_model.specs.Text.{Text, is_empty}
use Rattle.toml_edit_model.specs.Trivia.{Each}
use Rattle.toml_edit_model.specs.Spelling.{Digits, digits_text, IsDigits, HasNoLeadingZero, Sign, plus, minus, unsigned, sign_text, Base}
use Rattle.toml_edit_model.specs.Spelling.{hexadecimal, octal, binary, base_prefix, is_exponent_mark, IsFraction, IsExponent}
use Rattle.toml_edit_model.specs.Spelling.{IsFractionOrExponent, IsFloat, SpellsInteger, truth_text}
use Rattle.toml_edit_laws.specs.reading.FloatReading.{is_float_byte, is_digits_byte, without_sign, after_digits, passes, leads_with_zero}
use Rattle.toml_edit_laws.specs.reading.FloatReading.{is_exponent, is_end_or_exponent, is_fraction_or_exponent, is_decimal_float}
use Rattle.toml_edit_laws.specs.reading.FloatReading.{is_unsigned_float, is_float_text}
use Rattle.toml_edit_laws.specs.reading.Runs.{first}
use Rattle.toml_edit_laws.proofs.reading.Steps.{chosen, starts}

-- what passes is there
passes_some : (p : Text → Bool) (o : Option Text) → passes p o ≡ true → (t : Text) × (o ≡ Some t) × (p t ≡ true)
passes_some p (Some t) e = (t, refl, e)
passes_some p None e = absurd (false≢true e)

-- a text with nothing in it
empty_is : (t : Text) → is_empty t ≡ true → t ≡ []
empty_is [] e = refl
empty_is (c ∷ t) e = absurd (false≢true e)

-- ---- digits

-- digits behind a digit, where `after_digit`, or at the start
abbrev After : Bool → Digits → Type 0
After true ds = AllByRecursion (λ x. is_digit x.1 10 ≡ true) ds
After false ds = IsDigits 10 ds

-- the text is digits, and then the rest
abbrev TakesDigits : Bool → Text → Text → Type 0
TakesDigits after_digit t rest = (ds : Digits) × After after_digit ds × (t ≡ digits_text ds ++ rest)

-- one digit more at the front
digits_more : (after_digit : Bool) (c : ℕ) (cs rest : Text) → is_digit c 10 ≡ true → TakesDigits true cs rest
    → TakesDigits after_digit (c ∷ cs) rest
digits_more true c cs rest h (ds, each, parts) = ((false, c) ∷ ds, (h, each), ap (λ (x : Text). c ∷ x) parts)
digits_more false c cs rest h (ds, each, parts) = ((false, c) ∷ ds, (refl, (h, each)), ap (λ (x : Text). c ∷ x) parts)

-- an underscore more at the front
digits_under : (cs rest : Text) → TakesDigits false cs rest → TakesDigits true (95 ∷ cs) rest
digits_under cs rest ([], each, parts) = absurd each
digits_under cs rest ((false, d) ∷ ds, (has, each), parts) = ((true, d) ∷ ds, each, ap (λ (x : Text). 95 ∷ x) parts)
digits_under cs rest ((true, d) ∷ ds, (has, each), parts) = absurd (false≢true (sym has))

-- a byte that the digits take
digits_step : (after_digit digit : Bool) (c : ℕ) (cs rest : Text) → is_digit c 10 ≡ digit → (digit || (after_digit && c == 95)) ≡ true
    → TakesDigits digit cs rest → TakesDigits after_digit (c ∷ cs) rest
digits_step after_digit true c cs rest is taken more = digits_more after_digit c cs rest is more
digits_step after_digit false c cs rest is taken more =
    let (after, under) = and_parts after_digit (c == 95) taken in
    subst (λ (b : Bool). TakesDigits b (c ∷ cs) rest) (sym after)
    (subst (λ (x : ℕ). TakesDigits true (x ∷ cs) rest) (sym (eqb-true c 95 under)) (digits_under cs rest more))

-- nothing more of the digits
digits_end : (after_digit : Bool) (t rest : Text) → cond after_digit (Some t) None ≡ Some rest → TakesDigits after_digit t rest
digits_end true t rest e = ([], tt, (cc))
digits_end false t rest e = absurd cc

-- what is read as digits is digits
digits_takes : (after_digit : Bool) (t rest : Text) → after_digits after_digit t ≡ Some rest → TakesDigits after_digit t rest
unfolding after_digits
digits_takes after_digit [] rest e = digits_end after_digit [] rest e
digits_takes after_digit (c ∷ cs) rest e =
    elim (chosen (is_digit c 10 || (after_digit && c == 95)) (after_digits (is_digit c 10) cs) _ (Some rest) e) [
      | inl (taken, f) ↦ digits_step after_digit (is_digit c 10) c cs rest refl taken (digits_takes (is_digit c 10) cs rest f)
      | inr (none, f) ↦ digits_end after_digit (c ∷ cs) rest f
    ]

-- no digit and no underscore comes next
abbrev Stops : Text → Type 0
Stops rest = is_digits_byte (first rest) ≡ false

-- the rest is left as it stands
rest_again : (rest : Text) → Stops rest → after_digits true rest ≡ Some rest
unfolding after_digits
rest_again [] stops = refl
rest_again (c ∷ cs) stops = rw stops refl

-- digits behind a digit are read again
digits_again : (ds : Digits) (rest : Text) → After true ds → Stops rest → after_digits true (digits_text ds ++ rest) ≡ Some rest
unfolding after_digits
digits_again [] rest each stops = rest_again rest stops
digits_again ((false, d) ∷ ds) rest each stops = rw each.0 (digits_again ds rest each.1 stops)
digits_again ((true, d) ∷ ds) rest each stops = rw each.0 (digits_again ds rest each.1 stops)

-- digits are read again from their start
digits_start : (ds : Digits) (rest : Text) → IsDigits 10 ds → Stops rest → after_digits false (digits_text ds ++ rest) ≡ Some rest
unfolding after_digits
digits_start [] rest each stops = absurd each
digits_start ((false, d) ∷ ds) rest (has, each) stops = rw each.0 (digits_again ds rest each.1 stops)
digits_start ((true, d) ∷ ds) rest (has, each) stops = absurd (false≢true (sym has))

-- ---- a zero at the front

-- a digit is a byte of digits
digit_byte : (c : ℕ) → is_digit c 10 ≡ true → is_digits_byte c ≡ true
digit_byte c is = or_left (is_digit c 10) (c == 95) is

-- what leads with no zero by the test has no leading zero
zero_takes : (ds : Digits) (rest : Text) → IsDigits 10 ds → leads_with_zero (digits_text ds ++ rest) ≡ false → HasNoLeadingZero ds
zero_takes [] rest is h = absurd is
zero_takes (d ∷ []) rest is h = tt
zero_takes ((true, c) ∷ e ∷ ds) rest (has, each) h = absurd (false≢true (sym has))
zero_takes ((false, c) ∷ (true, d) ∷ ds) rest (has, each) h = λ same. false≢true (sym h ∙ rw (eq-eqb c 48 same) refl)
zero_takes ((false, c) ∷ (false, d) ∷ ds) rest (has, each) h =
    λ same. false≢true (sym h ∙ rw (eq-eqb c 48 same, digit_byte d each.1.0) refl)

-- and the other way round
zero_again : (ds : Digits) (rest : Text) → IsDigits 10 ds → HasNoLeadingZero ds → Stops rest → leads_with_zero (digits_text ds ++ rest)
    ≡ false
zero_again [] rest is lead stops = absurd is
zero_again ((true, c) ∷ ds) rest (has, each) lead stops = absurd (false≢true (sym has))
zero_again ((false, c) ∷ []) rest is lead stops = and_right (c == 48) _ stops
zero_again ((false, c) ∷ e ∷ ds) rest is lead stops = rw (ne_eqb c 48 lead) refl

-- ---- signs

-- what is left of a text without its sign
sign_takes : (t : Text) → (s : Sign) × (t ≡ sign_text s ++ without_sign t)
sign_takes t =
    elim (cases_Bool (first t == 0x2B)) [
      | inl p ↦ (plus, rw p (starts t 0x2B p (omega arith)))
      | inr p ↦ elim (cases_Bool (first t == 0x2D)) [
        | inl m ↦ (minus, rw (p, m) (starts t 0x2D m (omega arith)))
        | inr m ↦ (unsigned, rw (p, m) refl)
      ]
    ]

-- no sign stands at the front
abbrev HasNoSign : Text → Type 0
HasNoSign t = (first t == 0x2B || first t == 0x2D) ≡ false

-- a sign is taken away again
sign_again : (s : Sign) (t : Text) → HasNoSign t → without_sign (sign_text s ++ t) ≡ t
sign_again plus t h = refl
sign_again minus t h = refl
sign_again unsigned t h = rw h refl

-- a digit is no byte before `0`, and no letter
digit_not : (c k : ℕ) → is_digit c 10 ≡ true → (k < 48) ⊎ (57 < k) → (c == k) ≡ false
digit_not c k is (inl below) = grind (arith, nat_tests)
digit_not c k is (inr above) = grind (arith, nat_tests)

-- digits begin with no sign
digits_no_sign : (ds : Digits) (rest : Text) → IsDigits 10 ds → HasNoSign (digits_text ds ++ rest)
digits_no_sign [] rest is = absurd is
digits_no_sign ((true, c) ∷ ds) rest (has, each) = absurd (false≢true (sym has))
digits_no_sign ((false, c) ∷ ds) rest (has, each) =
    or_from (c == 0x2B) (c == 0x2D) (digit_not c 0x2B each.0 (inl (omega arith))) (digit_not c 0x2D each.0 (inl (omega arith)))

-- nor with a letter
digits_no_word : (ds : Digits) (rest : Text) → IsDigits 10 ds
    → (bytes_eq (digits_text ds ++ rest) (codes "inf") || bytes_eq (digits_text ds ++ rest) (codes "nan")) ≡ false
digits_no_word [] rest is = absurd is
digits_no_word ((true, c) ∷ ds) rest (has, each) = absurd (false≢true (sym has))
digits_no_word ((false, c) ∷ ds) rest (has, each) =
    rw (digit_not c 0x69 each.0 (inr (omega arith)), digit_not c 0x6E each.0 (inr (omega arith))) refl

-- ---- fractions and exponents

-- what passes as an exponent is one
exponent_takes : (t : Text) → is_exponent t ≡ true → IsExponent t
exponent_takes [] h = absurd (false≢true h)
exponent_takes (c ∷ t) h =
    let (mark, behind) = and_parts (is_exponent_mark c) _ h in
    let (rest, read, ends) = passes_some is_empty (after_digits false (without_sign t)) behind in
    let (ds, is, parts) = digits_takes false (without_sign t) rest read in
    let (s, signs) = sign_takes t in
    let whole : without_sign t ≡ digits_text ds = parts ∙ ap (λ (x : Text). digits_text ds ++ x) (empty_is rest ends)
    ∙ append-nil (digits_text ds) in
    (c, s, ds, mark, is, ap (λ (x : Text). c ∷ x) (signs ∙ ap (λ (x : Text). sign_text s ++ x) whole))

-- an exponent passes
exponent_again : (t : Text) → IsExponent t → is_exponent t ≡ true
exponent_again t (c, s, ds, mark, is, parts) =
    let whole : digits_text ds ++ [] ≡ digits_text ds = append-nil (digits_text ds) in
    let bare : HasNoSign (digits_text ds) = subst HasNoSign whole (digits_no_sign ds [] is) in
    let read : after_digits false (digits_text ds) ≡ Some [] =
    subst (λ (x : Text). after_digits false x ≡ Some []) whole (digits_start ds [] is refl) in
    let passed : passes is_empty (after_digits false (without_sign (sign_text s ++ digits_text ds))) ≡ true =
    ap (λ (x : Text). passes is_empty (after_digits false x)) (sign_again s (digits_text ds) bare) ∙ ap (passes is_empty) read in
    ap is_exponent parts ∙ and_from (is_exponent_mark c) _ mark passed

-- an exponent's mark is no digit, no underscore and no point
mark_apart : (c : ℕ) → is_exponent_mark c ≡ true → (is_digits_byte c ≡ false) × ((c == 0x2E) ≡ false)
mark_apart c h =
    let P : ℕ → Type 0 = λ x. (is_digits_byte x ≡ false) × ((x == 0x2E) ≡ false) in
    elim (or_cases (c == 0x65) (c == 0x45) h) [
      | inl small ↦ subst P (sym (eqb-true c 0x65 small)) (refl, refl)
      | inr large ↦ subst P (sym (eqb-true c 0x45 large)) (refl, refl)
    ]

-- digits stop at an exponent, which is no fraction
exponent_stops : (t : Text) → IsExponent t → Stops t × ((first t == 0x2E) ≡ false)
exponent_stops t (c, s, ds, mark, is, parts) = subst (λ (x : Text). Stops x × ((first x == 0x2E) ≡ false)) (sym parts) (mark_apart c mark)

-- what passes as a fraction or an exponent is one
tail_takes : (t : Text) → is_fraction_or_exponent t ≡ true → IsFractionOrExponent t
tail_takes t h =
    elim (chosen (first t == 0x2E) (passes is_end_or_exponent (after_digits false (drop 1 t))) _ true h) [
      | inr (other, e) ↦ inr (inl (exponent_takes t e))
      | inl (point, behind) ↦
          let (rest, read, ends) = passes_some is_end_or_exponent (after_digits false (drop 1 t)) behind in
          let (ds, is, parts) = digits_takes false (drop 1 t) rest read in
          let whole : t ≡ 0x2E ∷ (digits_text ds ++ rest) = starts t 0x2E point (omega arith) ∙ ap (λ (x : Text). 0x2E ∷ x) parts in
          elim (or_cases (is_empty rest) (is_exponent rest) ends) [
            | inl none ↦ inl (
              ds,
              is,
              whole ∙ ap (λ (x : Text). 0x2E ∷ (digits_text ds ++ x)) (empty_is rest none)
                  ∙ ap (λ (x : Text). 0x2E ∷ x) (append-nil (digits_text ds)),
            )
            | inr more ↦ inr (inr (0x2E ∷ digits_text ds, rest, (ds, is, refl), exponent_takes rest more, whole))
          ]
    ]

-- a fraction before what ends a float
fraction_again : (ds : Digits) (rest : Text) → IsDigits 10 ds → Stops rest → is_end_or_exponent rest ≡ true
    → is_fraction_or_exponent (0x2E ∷ (digits_text ds ++ rest)) ≡ true
fraction_again ds rest is stops ends = ap (passes is_end_or_exponent) (digits_start ds rest is stops) ∙ ends

-- a fraction, an exponent, or both pass, and digits stop there
tail_again : (t : Text) → IsFractionOrExponent t → (is_fraction_or_exponent t ≡ true) × Stops t
tail_again t (inl (ds, is, parts)) =
    let whole : t ≡ 0x2E ∷ (digits_text ds ++ []) = parts ∙ ap (λ (x : Text). 0x2E ∷ x) (sym (append-nil (digits_text ds))) in
    (ap is_fraction_or_exponent whole ∙ fraction_again ds [] is refl refl, subst Stops (sym whole) refl)
tail_again t (inr (inl e)) =
    let (stops, other) = exponent_stops t e in
    (rw other (exponent_again t e), stops)
tail_again t (inr (inr (fraction, rest, (ds, is, parts), e, both))) =
    let (stops, other) = exponent_stops rest e in
    let whole : t ≡ 0x2E ∷ (digits_text ds ++ rest) = both ∙ ap (λ (x : Text). x ++ rest) parts in (
      ap is_fraction_or_exponent whole ∙ fraction_again ds rest is stops
          (or_right (is_empty rest) (is_exponent rest) (exponent_again rest e)),
      subst Stops (sym whole) refl,
    )

-- ---- floats

-- a word that passes
word_takes : (s : Sign) (t u : Text) → t ≡ sign_text s ++ u → (bytes_eq u (codes "inf") || bytes_eq u (codes "nan")) ≡ true → IsFloat t
word_takes s t u parts h =
    elim (or_cases (bytes_eq u (codes "inf")) (bytes_eq u (codes "nan")) h) [
      | inl e ↦ inr (s, inl (parts ∙ ap (λ (x : Text). sign_text s ++ x) ((bytes_eq-Decides u (codes "inf")).0 e)))
      | inr e ↦ inr (s, inr (parts ∙ ap (λ (x : Text). sign_text s ++ x) ((bytes_eq-Decides u (codes "nan")).0 e)))
    ]

-- a decimal float that passes
decimal_takes : (s : Sign) (t u : Text) → t ≡ sign_text s ++ u → is_decimal_float u ≡ true → IsFloat t
decimal_takes s t u parts h =
    let (zero, behind) = and_parts (not (leads_with_zero u)) _ h in
    let (rest, read, ends) = passes_some is_fraction_or_exponent (after_digits false u) behind in
    let (ds, is, digits) = digits_takes false u rest read in
    let lead : leads_with_zero (digits_text ds ++ rest) ≡ false = ap leads_with_zero (sym digits) ∙ not-true (leads_with_zero u) zero in
    inl (
      s,
      ds,
      sign_text s ++ digits_text ds,
      rest,
      (is, zero_takes ds rest is lead, refl),
      tail_takes rest ends,
      parts
          ∙ ap (λ (x : Text). sign_text s ++ x) digits ∙ sym (append_assoc (sign_text s) (digits_text ds) rest),
    )

-- what passes the test is a float
pub float_takes : (t : Text) → is_float_text t ≡ true → IsFloat t
unfolding is_float_text
float_takes t h =
    let (s, parts) = sign_takes t in
    elim (or_cases (bytes_eq (without_sign t) (codes "inf")
    || bytes_eq (without_sign t) (codes "nan")) (is_decimal_float (without_sign t)) h) [
      | inl word ↦ word_takes s t (without_sign t) parts word
      | inr decimal ↦ decimal_takes s t (without_sign t) parts decimal
    ]

-- a float without its sign passes
unsigned_again : (s : Sign) (t u : Text) → t ≡ sign_text s ++ u → HasNoSign u → is_unsigned_float u ≡ true → is_float_text t ≡ true
unfolding is_float_text
unsigned_again s t u parts bare h = ap is_unsigned_float (ap without_sign parts ∙ sign_again s u bare) ∙ h

-- a float passes the test
pub float_again : (t : Text) → IsFloat t → is_float_text t ≡ true
float_again t (inr (s, inl parts)) = unsigned_again s t (codes "inf") parts refl refl
float_again t (inr (s, inr parts)) = unsigned_again s t (codes "nan") parts refl refl
float_again t (inl (s, ds, whole, rest, (is, lead, parts), tail, both)) =
    let (ends, stops) = tail_again rest tail in
    let joined : t ≡ sign_text s ++ (digits_text ds ++ rest) = both ∙ ap (λ (x : Text). x ++ rest) parts
    ∙ append_assoc (sign_text s) (digits_text ds) rest in
    let zero : not (leads_with_zero (digits_text ds ++ rest)) ≡ true =
    not_from_false (leads_with_zero (digits_text ds ++ rest)) (zero_again ds rest is lead stops) in
    let behind : passes is_fraction_or_exponent (after_digits false (digits_text ds ++ rest)) ≡ true =
    ap (passes is_fraction_or_exponent) (digits_start ds rest is stops) ∙ ends in
    unsigned_again s t (digits_text ds ++ rest) joined (digits_no_sign ds rest is)
    (or_right (bytes_eq (digits_text ds ++ rest) (codes "inf")
    || bytes_eq (digits_text ds ++ rest) (codes "nan")) (is_decimal_float (digits_text ds ++ rest))
    (and_from (not (leads_with_zero (digits_text ds ++ rest)))
    (passes is_fraction_or_exponent (after_digits false (digits_text ds ++ rest))) zero behind))

-- ---- the bytes of a float

-- a digit is a byte of a float
digit_float : (c : ℕ) → is_digit c 10 ≡ true → is_float_byte c ≡ true
digit_float c is = grind (arith, nat_tests)

-- digits are bytes of a float
digits_each : (ds : Digits) (rest : Text) → AllByRecursion (λ x. is_digit x.1 10 ≡ true) ds → Each is_float_byte rest
    → Each is_float_byte (digits_text ds ++ rest)
digits_each [] rest each more = more
digits_each ((false, c) ∷ ds) rest each more = rw (digit_float c each.0) (digits_each ds rest each.1 more)
digits_each ((true, c) ∷ ds) rest each more = rw (digit_float c each.0) (digits_each ds rest each.1 more)

-- all digits are decimal
digits_all : (ds : Digits) → IsDigits 10 ds → AllByRecursion (λ x. is_digit x.1 10 ≡ true) ds
digits_all [] is = absurd is
digits_all (d ∷ ds) is = is.1

-- a sign is a byte of a float
sign_each : (s : Sign) (rest : Text) → Each is_float_byte rest → Each is_float_byte (sign_text s ++ rest)
sign_each plus rest more = more
sign_each minus rest more = more
sign_each unsigned rest more = more

-- the bytes of an exponent
exponent_each : (t : Text) → IsExponent t → Each is_float_byte t
exponent_each t (c, s, ds, mark, is, parts) =
    let behind : Each is_float_byte (sign_text s ++ digits_text ds) =
    sign_each s (digits_text ds) (subst (Each is_float_byte) (append-nil (digits_text ds))
    (digits_each ds [] (digits_all ds is) refl)) in
    let here : is_float_byte c ≡ true = grind (arith, nat_tests) in
    ap (list_all is_float_byte) parts ∙ and_from (is_float_byte c) (list_all is_float_byte (sign_text s ++ digits_text ds)) here behind

-- the bytes of a fraction before other such bytes
fraction_each : (t rest : Text) → IsFraction t → Each is_float_byte rest → Each is_float_byte (t ++ rest)
fraction_each t rest (ds, is, parts) more = ap (λ (x : Text). list_all is_float_byte (x ++ rest)) parts
    ∙ digits_each ds rest (digits_all ds is) more

-- the bytes of a fraction, an exponent, or both
tail_each : (t : Text) → IsFractionOrExponent t → Each is_float_byte t
tail_each t (inl fraction) = subst (Each is_float_byte) (append-nil t) (fraction_each t [] fraction refl)
tail_each t (inr (inl exponent)) = exponent_each t exponent
tail_each t (inr (inr (fraction, exponent, f, e, both))) = ap (list_all is_float_byte) both
    ∙ fraction_each fraction exponent f (exponent_each exponent e)

-- each byte of a float is a letter, a digit, a sign, a point or an underscore
pub float_bytes : (t : Text) → IsFloat t → list_all is_float_byte t ≡ true
float_bytes t (inr (s, inl parts)) = ap (list_all is_float_byte) parts ∙ sign_each s (codes "inf") refl
float_bytes t (inr (s, inr parts)) = ap (list_all is_float_byte) parts ∙ sign_each s (codes "nan") refl
float_bytes t (inl (s, ds, whole, rest, (is, lead, parts), tail, both)) =
    let joined : t ≡ sign_text s ++ (digits_text ds ++ rest) = both ∙ ap (λ (x : Text). x ++ rest) parts
    ∙ append_assoc (sign_text s) (digits_text ds) rest in
    ap (list_all is_float_byte) joined ∙ sign_each s (digits_text ds ++ rest) (digits_each ds rest (digits_all ds is) (tail_each rest tail))

-- ---- what is no float

-- a text that does not pass is no float
refused : (t : Text) → is_float_text t ≡ false → IsFloat t → ⊥
refused t h float = false≢true (sym h ∙ float_again t float)

-- the empty text does not pass
empty_fails : is_float_text [] ≡ false
unfolding is_float_text after_digits
empty_fails = refl

-- a float has a byte
pub float-some : (t : Text) → IsFloat t → t ≡ [] → ⊥
float-some t float none = refused t (ap is_float_text none ∙ empty_fails) float

-- digits alone do not pass
digits_fail : (s : Sign) (ds : Digits) → IsDigits 10 ds → is_float_text (sign_text s ++ digits_text ds) ≡ false
unfolding is_float_text
digits_fail s ds is =
    let bare : HasNoSign (digits_text ds ++ []) = digits_no_sign ds [] is in
    let behind : passes is_fraction_or_exponent (after_digits false (digits_text ds ++ [])) ≡ false =
    ap (passes is_fraction_or_exponent) (digits_start ds [] is refl) in
    let fails : is_unsigned_float (digits_text ds ++ []) ≡ false = or_from _ _ (digits_no_word ds [] is) (and_right _ _ behind) in
    ap (λ (x : Text). is_float_text (sign_text s ++ x)) (sym (append-nil (digits_text ds)))
    ∙ ap is_unsigned_float (sign_again s (digits_text ds ++ []) bare) ∙ fails

-- digits behind a prefix do not pass
prefixed_fails : (b : Base) (t : Text) → is_float_text (base_prefix b ++ t) ≡ false
unfolding is_float_text after_digits
prefixed_fails hexadecimal t = refl
prefixed_fails octal t = refl
prefixed_fails binary t = refl

-- no text is both a float and an integer
pub float-no_integer : (t : Text) (z : ℤ) → IsFloat t → SpellsInteger z t → ⊥
float-no_integer t z float (inl (s, ds, (is, lead, parts), value)) = refused t (ap is_float_text parts ∙ digits_fail s ds is) float
float-no_integer t z float (inr (b, ds, is, value, parts)) = refused t (ap is_float_text parts ∙ prefixed_fails b (digits_text ds)) float

-- a truth value does not pass
truth_fails : (b : Bool) → is_float_text (truth_text b) ≡ false
unfolding is_float_text after_digits
truth_fails true = refl
truth_fails false = refl

-- no text is both a float and a truth value
pub float-no_truth : (t : Text) (b : Bool) → IsFloat t → t ≡ truth_text b → ⊥
float-no_truth t b float same = refused t (ap is_float_text same ∙ truth_fails b) float
