-- What reads as an integer is one, and an integer is read again.
use Rattle.std.proofs.Common.{◌≡◌, ℕ, suc, ◌+◌, ◌*◌, ◌<◌, ◌≤◌, Bool, true, false, ◌==◌, ◌&&◌, List, [], ◌∷◌, ◌++◌, length, map, get_or}
use Rattle.std.proofs.Common.{drop, nat_lt, Some, None, refl, sym, ap, subst, ◌∙◌, inl, inr, arith, eqb-true}
use Rattle.std.specs.Prelude.{ℤ, pos}
use Rattle.std.specs.List.{AllByRecursion}
use Rattle.std.specs.Char.{is_digit, digit_value}
use Rattle.std.specs.Str.Parse.{digits_value_after}
use Rattle.std.proofs.lemmas.Bool.{and_parts, ne_eqb, eq-eqb, false≢true, lt-ltb}
use Rattle.std.proofs.lemmas.Bool.Decides.{nat_tests}
use Rattle.std.proofs.lemmas.List.{length-append}
use Rattle.toml_edit_model.specs.Trivia.{Each}
use Rattle.toml_edit_model.specs.Spelling.{Digits, digit_text, digits_text, IsDigits, number, HasNoLeadingZero, Sign, plus, minus, unsigned}
use Rattle.toml_edit_model.specs.Spelling.{signed, Base, hexadecimal, octal, binary, base_number, SpellsInteger}
use Rattle.toml_edit_laws.specs.reading.Runs.{first, is_word_byte}
use Rattle.toml_edit_laws.specs.reading.Tokens.{digits_at, natural_of, leads_with_zero, decimal_of, prefixed_of, integer_of}
use Rattle.toml_edit_laws.proofs.reading.Steps.{chosen, starts}
use Rattle.toml_edit_laws.proofs.common.OptionSteps.{map_some, guard_read}

-- ---- digits

-- digits behind a digit, where `after_digit`, or at the start
abbrev After : ℕ → Bool → Digits → Type 0
After base true ds = AllByRecursion (λ x. is_digit x.1 base ≡ true) ds
After base false ds = IsDigits base ds

-- the number of digits behind the number n
abbrev value_after : ℕ → ℕ → Digits → ℕ
value_after base n ds = digits_value_after base n (map (λ x. x.1) ds)

-- the text is digits that make n the number m
abbrev TakesDigits : ℕ → Bool → ℕ → List ℕ → ℕ → Type 0
TakesDigits base after_digit n text m = (ds : Digits) × After base after_digit ds × (text ≡ digits_text ds) × (m ≡ value_after base n ds)

-- one digit more at the front
digits_more : (base : ℕ) (after_digit : Bool) (n c m : ℕ) (cs : List ℕ) → is_digit c base ≡ true
    → TakesDigits base true (n * base + digit_value c) cs m → TakesDigits base after_digit n (c ∷ cs) m
digits_more base true n c m cs h (ds, each, parts, value) = ((false, c) ∷ ds, (h, each), ap (λ (x : List ℕ). c ∷ x) parts, value)
digits_more base false n c m cs h (ds, each, parts, value) = ((false, c) ∷ ds, (refl, (h, each)), ap (λ (x : List ℕ). c ∷ x) parts, value)

-- an underscore more at the front
digits_under : (base n m : ℕ) (cs : List ℕ) → TakesDigits base false n cs m → TakesDigits base true n (95 ∷ cs) m
digits_under base n m cs ([], each, parts, value) = absurd each
digits_under base n m cs ((false, d) ∷ ds, (first, each), parts, value) = ((true, d) ∷ ds, each, ap (λ (x : List ℕ). 95 ∷ x) parts, value)
digits_under base n m cs ((true, d) ∷ ds, (first, each), parts, value) = absurd (false≢true (sym first))

-- what reads as digits is digits
digits_takes : (base : ℕ) (after_digit : Bool) (n m : ℕ) (text : List ℕ) → digits_at base after_digit n text ≡ Some m
    → TakesDigits base after_digit n text m
unfolding digits_at
digits_takes base true n m [] e = ([], tt, refl, cc)
digits_takes base false n m [] e = absurd cc
digits_takes base after_digit n m (c ∷ cs) e =
    elim (chosen (is_digit c base) (digits_at base true (n * base + digit_value c) cs) _ (Some m) e) [
      | inl (has, f) ↦ digits_more base after_digit n c m cs has (digits_takes base true (n * base + digit_value c) m cs f)
      | inr (none, f) ↦
          let (both, g) = guard_read (after_digit && c == 95) (digits_at base false n cs) m f in
          let (after, under) = and_parts after_digit (c == 95) both in
          let more = digits_under base n m cs (digits_takes base false n m cs g) in
          subst (λ (b : Bool). TakesDigits base b n (c ∷ cs) m) (sym after)
          (subst (λ (x : ℕ). TakesDigits base true n (x ∷ cs) m) (sym (eqb-true c 95 under)) more)
    ]

-- an underscore is no digit
under_apart : (base : ℕ) → base ≤ 16 → is_digit 95 base ≡ false
under_apart base h = grind (arith, nat_tests)

-- digits behind a digit are read again
digits_again : (base : ℕ) (n : ℕ) (ds : Digits) → base ≤ 16 → After base true ds → digits_at base true n (digits_text ds)
    ≡ Some (value_after base n ds)
unfolding digits_at
digits_again base n [] h each = refl
digits_again base n ((false, d) ∷ ds) h each = rw each.0 (digits_again base (n * base + digit_value d) ds h each.1)
digits_again base n ((true, d) ∷ ds) h each = rw (under_apart base h, each.0) (digits_again base (n * base + digit_value d) ds h each.1)

-- digits are read again from their start
digits_start : (base : ℕ) (ds : Digits) → base ≤ 16 → IsDigits base ds → digits_at base false 0 (digits_text ds) ≡ Some (number base ds)
unfolding digits_at
digits_start base [] h each = absurd each
digits_start base ((false, d) ∷ ds) h (first, each) = rw each.0 (digits_again base (0 * base + digit_value d) ds h each.1)
digits_start base ((true, d) ∷ ds) h (first, each) = absurd (false≢true (sym first))

-- ---- a zero at the front

-- a digit has a byte
digit_some : (d : Bool × ℕ) → 0 < length (digit_text d)
digit_some (true, c) = omega arith
digit_some (false, c) = omega arith

-- what leads with no zero by the test has no leading zero
zero_takes : (ds : Digits) (r : ℕ) → IsDigits r ds → leads_with_zero (digits_text ds) ≡ false → HasNoLeadingZero ds
zero_takes [] r is h = absurd is
zero_takes (d ∷ []) r is h = tt
zero_takes ((true, c) ∷ e ∷ ds) r (first, each) h = absurd (false≢true (sym first))
zero_takes ((false, c) ∷ e ∷ ds) r is h = λ same.
    let long : nat_lt 1 (suc (length (digit_text e ++ digits_text ds))) ≡ true =
    lt-ltb _ _ (omega (arith, length-append (digit_text e) (digits_text ds), digit_some e)) in
    false≢true (sym h ∙ rw (eq-eqb c 48 same, long) refl)

-- and the other way round
zero_again : (ds : Digits) (r : ℕ) → IsDigits r ds → HasNoLeadingZero ds → leads_with_zero (digits_text ds) ≡ false
zero_again [] r is h = absurd is
zero_again ((true, c) ∷ ds) r (first, each) h = absurd (false≢true (sym first))
zero_again ((false, c) ∷ []) r is h = grind (arith, nat_tests)
zero_again ((false, c) ∷ e ∷ ds) r is h = rw (ne_eqb c 48 h) refl

-- ---- signs and prefixes

-- digits behind an optional sign, and what they write with it
abbrev TakesDecimal : Sign → List ℕ → ℤ → Type 0
TakesDecimal s text z = (ds : Digits) × IsDigits 10 ds × HasNoLeadingZero ds × (z ≡ signed s (number 10 ds)) × (text ≡ digits_text ds)

-- what reads as decimal digits is such digits
decimal_takes : (s : Sign) (text : List ℕ) (z : ℤ) → decimal_of s text ≡ Some z → TakesDecimal s text z
unfolding decimal_of
decimal_takes s text z e =
    elim (chosen (leads_with_zero text) None _ (Some z) e) [
      | inl (bad, f) ↦ absurd cc
      | inr (good, f) ↦
          let (n, found, same) = map_some (natural_of 10 text) (signed s) z f in
          let (ds, is, parts, value) = digits_takes 10 false 0 n text found in
          (ds, is, zero_takes ds 10 is (ap leads_with_zero (sym parts) ∙ good), sym same ∙ ap (signed s) value, parts)
    ]

-- decimal digits are read again
decimal_again : (s : Sign) (ds : Digits) → IsDigits 10 ds → HasNoLeadingZero ds → decimal_of s (digits_text ds)
    ≡ Some (signed s (number 10 ds))
unfolding decimal_of
decimal_again s ds is lead = rw (zero_again ds 10 is lead, digits_start 10 ds (omega arith) is) refl

-- digits behind a prefix
abbrev TakesPrefixed : Base → List ℕ → ℤ → Type 0
TakesPrefixed b text z = (ds : Digits) × IsDigits (base_number b) ds × (z ≡ pos (number (base_number b) ds)) × (text ≡ digits_text ds)

-- what reads as digits of a base is such digits
prefixed_takes : (b : Base) (text : List ℕ) (z : ℤ) → prefixed_of b text ≡ Some z → TakesPrefixed b text z
unfolding prefixed_of
prefixed_takes b text z e =
    let (n, found, same) = map_some (natural_of (base_number b) text) pos z e in
    let (ds, is, parts, value) = digits_takes (base_number b) false 0 n text found in
    (ds, is, sym same ∙ ap pos value, parts)

-- a digit of a base is a hexadecimal digit
base_small : (b : Base) → base_number b ≤ 16
base_small hexadecimal = omega arith
base_small octal = omega arith
base_small binary = omega arith

-- digits of a base are read again
prefixed_again : (b : Base) (ds : Digits) → IsDigits (base_number b) ds → prefixed_of b (digits_text ds)
    ≡ Some (pos (number (base_number b) ds))
unfolding prefixed_of
prefixed_again b ds is = rw (digits_start (base_number b) ds (base_small b) is) refl

-- the letter of a prefix
abbrev base_letter : Base → ℕ
base_letter hexadecimal = 0x78
base_letter octal = 0x6F
base_letter binary = 0x62

-- a word that begins with 0 and the letter of a base
starts_base : (word : List ℕ) (b : Base) → (first word == 0x30 && get_or word 1 0 == base_letter b) ≡ true → word ≡ 0x30 ∷ base_letter b
    ∷ drop 2 word
starts_base [] b h = absurd cc
starts_base (x ∷ []) hexadecimal h = absurd (grind (arith, nat_tests))
starts_base (x ∷ []) octal h = absurd (grind (arith, nat_tests))
starts_base (x ∷ []) binary h = absurd (grind (arith, nat_tests))
starts_base (x ∷ y ∷ rest) b h =
    let (zero_first, letter_next) = and_parts (x == 0x30) (y == base_letter b) h in
    ap (λ (c : ℕ). c ∷ y ∷ rest) (eqb-true x 0x30 zero_first) ∙ ap (λ (c : ℕ). 0x30 ∷ c ∷ rest) (eqb-true y (base_letter b) letter_next)

-- a word with a prefix is an integer
base_integer : (b : Base) (word : List ℕ) (z : ℤ) → (first word == 0x30 && get_or word 1 0 == base_letter b) ≡ true
    → prefixed_of b (drop 2 word) ≡ Some z → SpellsInteger z word
base_integer hexadecimal word z h e =
    let (ds, is, value, parts) = prefixed_takes hexadecimal (drop 2 word) z e in
    inr (hexadecimal, ds, is, value, starts_base word hexadecimal h ∙ ap (λ (x : List ℕ). 0x30 ∷ 0x78 ∷ x) parts)
base_integer octal word z h e =
    let (ds, is, value, parts) = prefixed_takes octal (drop 2 word) z e in
    inr (octal, ds, is, value, starts_base word octal h ∙ ap (λ (x : List ℕ). 0x30 ∷ 0x6F ∷ x) parts)
base_integer binary word z h e =
    let (ds, is, value, parts) = prefixed_takes binary (drop 2 word) z e in
    inr (binary, ds, is, value, starts_base word binary h ∙ ap (λ (x : List ℕ). 0x30 ∷ 0x62 ∷ x) parts)

-- what reads as an integer is one
pub integer_takes : (word : List ℕ) (z : ℤ) → integer_of word ≡ Some z → SpellsInteger z word
unfolding integer_of
integer_takes word z e =
    elim (chosen (first word == 0x30 && get_or word 1 0 == 0x78) (prefixed_of hexadecimal (drop 2 word)) _ (Some z) e) [
      | inl (h, f) ↦ base_integer hexadecimal word z h f
      | inr (h, e1) ↦ elim (chosen (first word == 0x30 && get_or word 1 0 == 0x6F) (prefixed_of octal (drop 2 word)) _ (Some z) e1) [
        | inl (h1, f) ↦ base_integer octal word z h1 f
        | inr (h1, e2) ↦ elim (chosen (first word == 0x30 && get_or word 1 0 == 0x62) (prefixed_of binary (drop 2 word)) _ (Some z) e2) [
          | inl (h2, f) ↦ base_integer binary word z h2 f
          | inr (h2, e3) ↦ elim (chosen (first word == 0x2B) (decimal_of plus (drop 1 word)) _ (Some z) e3) [
            | inl (h3, f) ↦
                let (ds, is, lead, value, parts) = decimal_takes plus (drop 1 word) z f in
                inl (plus, ds, (is, lead, starts word 0x2B h3 (omega arith) ∙ ap (λ (x : List ℕ). 0x2B ∷ x) parts), value)
            | inr (h3, e4) ↦ elim (chosen (first word == 0x2D) (decimal_of minus (drop 1 word)) _ (Some z) e4) [
              | inl (h4, f) ↦
                  let (ds, is, lead, value, parts) = decimal_takes minus (drop 1 word) z f in
                  inl (minus, ds, (is, lead, starts word 0x2D h4 (omega arith) ∙ ap (λ (x : List ℕ). 0x2D ∷ x) parts), value)
              | inr (h4, f) ↦
                  let (ds, is, lead, value, parts) = decimal_takes unsigned word z f in
                  inl (unsigned, ds, (is, lead, parts), value)
            ]
          ]
        ]
      ]
    ]

-- a digit is no byte before `0`
digit_not : (c k : ℕ) → is_digit c 10 ≡ true → k < 48 → (c == k) ≡ false
digit_not c k is below = grind (arith, nat_tests)

-- what plain digits begin with
abbrev Plain : List ℕ → Type 0
Plain t = ((first t == 48 && get_or t 1 0 == 120) ≡ false) × ((first t == 48 && get_or t 1 0 == 111) ≡ false)
    × ((first t == 48 && get_or t 1 0 == 98) ≡ false)
    × ((first t == 43) ≡ false) × ((first t == 45) ≡ false)

-- decimal digits begin with no prefix and no sign
plain_digits : (ds : Digits) → IsDigits 10 ds → HasNoLeadingZero ds → Plain (digits_text ds)
plain_digits [] is lead = absurd is
plain_digits ((true, c) ∷ ds) (has, each) lead = absurd (false≢true (sym has))
plain_digits ((false, c) ∷ []) (has, each) lead = (
  grind (arith, nat_tests),
  grind (arith, nat_tests),
  grind (arith, nat_tests),
  digit_not c 43 each.0 (omega arith),
  digit_not c 45 each.0 (omega arith),
)
plain_digits ((false, c) ∷ e ∷ ds) (has, each) lead =
    let none : (c == 48) ≡ false = ne_eqb c 48 lead in
    (rw none refl, rw none refl, rw none refl, digit_not c 43 each.0 (omega arith), digit_not c 45 each.0 (omega arith))

-- an integer is read again
pub integer_again : (word : List ℕ) (z : ℤ) → SpellsInteger z word → integer_of word ≡ Some z
unfolding integer_of
integer_again word z (inl (plus, ds, (is, lead, parts), value)) = ap integer_of parts ∙ decimal_again plus ds is lead ∙ ap Some (sym value)
integer_again word z (inl (minus, ds, (is, lead, parts), value)) = ap integer_of parts ∙ decimal_again minus ds is lead
    ∙ ap Some (sym value)
integer_again word z (inl (unsigned, ds, (is, lead, parts), value)) =
    let (a, b, c, d, e) = plain_digits ds is lead in
    ap integer_of parts ∙ rw (a, b, c, d, e) (decimal_again unsigned ds is lead) ∙ ap Some (sym value)
integer_again word z (inr (hexadecimal, ds, is, value, parts)) = ap integer_of parts ∙ prefixed_again hexadecimal ds is
    ∙ ap Some (sym value)
integer_again word z (inr (octal, ds, is, value, parts)) = ap integer_of parts ∙ prefixed_again octal ds is ∙ ap Some (sym value)
integer_again word z (inr (binary, ds, is, value, parts)) = ap integer_of parts ∙ prefixed_again binary ds is ∙ ap Some (sym value)

-- ---- the bytes of an integer_of

-- a digit is a byte of a word
digit_word : (c r : ℕ) → r ≤ 16 → is_digit c r ≡ true → is_word_byte c ≡ true
digit_word c r h is = grind (arith, nat_tests)

-- digits are bytes of a word
digits_each : (r : ℕ) (ds : Digits) → r ≤ 16 → AllByRecursion (λ x. is_digit x.1 r ≡ true) ds → Each is_word_byte (digits_text ds)
digits_each r [] h each = refl
digits_each r ((false, c) ∷ ds) h each = rw (digit_word c r h each.0) (digits_each r ds h each.1)
digits_each r ((true, c) ∷ ds) h each = rw (digit_word c r h each.0) (digits_each r ds h each.1)

-- all digits are of the base
digits_all : (r : ℕ) (ds : Digits) → IsDigits r ds → AllByRecursion (λ x. is_digit x.1 r ≡ true) ds
digits_all r [] is = absurd is
digits_all r (d ∷ ds) is = is.1

-- an integer is a word
pub integer_each : (word : List ℕ) (z : ℤ) → SpellsInteger z word → Each is_word_byte word
integer_each word z (inl (plus, ds, (is, lead, parts), value)) = rw parts (digits_each 10 ds (omega arith) (digits_all 10 ds is))
integer_each word z (inl (minus, ds, (is, lead, parts), value)) = rw parts (digits_each 10 ds (omega arith) (digits_all 10 ds is))
integer_each word z (inl (unsigned, ds, (is, lead, parts), value)) = rw parts (digits_each 10 ds (omega arith) (digits_all 10 ds is))
integer_each word z (inr (hexadecimal, ds, is, value, parts)) = rw parts (digits_each 16 ds (omega arith) (digits_all 16 ds is))
integer_each word z (inr (octal, ds, is, value, parts)) = rw parts (digits_each 8 ds (omega arith) (digits_all 8 ds is))
integer_each word z (inr (binary, ds, is, value, parts)) = rw parts (digits_each 2 ds (omega arith) (digits_all 2 ds is))

-- it begins with a byte of a word, and not with a letter of a truth value
abbrev pub BeginsNumber : List ℕ → Type 0
BeginsNumber t = (c : ℕ) × (cs : List ℕ) × (t ≡ c ∷ cs) × (is_word_byte c ≡ true) × (c < 58)

-- decimal digits begin so
begins_digits : (ds : Digits) → IsDigits 10 ds → BeginsNumber (digits_text ds)
begins_digits [] is = absurd is
begins_digits ((true, c) ∷ ds) (has, each) = absurd (false≢true (sym has))
begins_digits ((false, c) ∷ ds) (has, each) = (c, digits_text ds, refl, digit_word c 10 (omega arith) each.0, grind (arith, nat_tests))

-- an integer begins so
pub integer_begins : (word : List ℕ) (z : ℤ) → SpellsInteger z word → BeginsNumber word
integer_begins word z (inl (plus, ds, (is, lead, parts), value)) = (43, _, parts, refl, omega arith)
integer_begins word z (inl (minus, ds, (is, lead, parts), value)) = (45, _, parts, refl, omega arith)
integer_begins word z (inl (unsigned, ds, (is, lead, parts), value)) = let (c, cs, e, w, l) = begins_digits ds is in
    (c, cs, parts ∙ e, w, l)
integer_begins word z (inr (hexadecimal, ds, is, value, parts)) = (48, _, parts, refl, omega arith)
integer_begins word z (inr (octal, ds, is, value, parts)) = (48, _, parts, refl, omega arith)
integer_begins word z (inr (binary, ds, is, value, parts)) = (48, _, parts, refl, omega arith)
