-- The numbers of a tree are numbers of JSON.
use Rattle.std.proofs.Common.{◌≡◌, ℕ, suc, ◌<◌, ◌⊎◌, true, false, ◌==◌, [], ◌∷◌, ◌++◌, length, drop, map, Some, option_and_then, codes, ℤ, pos, negsuc}
use Rattle.std.proofs.Common.{refl, sym, ap, ap₂, subst, ◌∙◌, inl, inr, arith, append-nil, append_assoc}
use Rattle.std.specs.Char.{is_ascii_digit, is_digit}
use Rattle.std.specs.List.{AllByRecursion, prefix_len}
use Rattle.std.proofs.lemmas.Bool.{cases_Bool, false≢true, ne_eqb}
use Rattle.std.proofs.lemmas.Bool.Decides.{nat_tests}
use Rattle.std.proofs.lemmas.Grind.{flat_map-append}
use Rattle.json.specs.Word.{after_digits, after_exponent, after_fraction, after_minus, after_number, after_sign, after_whole, head}
use Rattle.json.specs.Print.{IsNumber}
use Rattle.json.specs.Tree.{HasNumbers, ItemsHaveNumbers, MembersHaveNumbers}
use Rattle.json.proofs.Printed.Decimals.{IsNumber-signed_decimal}
use Rattle.toml_edit_model.specs.Text.{Text, has_byte}
use Rattle.toml_edit_model.specs.Scalars.{Scalar, string, integer, float, boolean, datetime, fits_integer}
use Rattle.toml_edit_model.specs.Tree.{Node, nothing, leaf, list, inline, table, tables, Items, no_items, item, Slots, no_slots, slot, IsRealScalar, IsWellMade, ItemsAreWellMade, SlotsAreWellMade}
use Rattle.toml_edit_model.specs.Lists.{is_item}
use Rattle.toml_edit_model.specs.Spelling.{Digits, HasNoLeadingZero, IsDigits, IsDecimalFloat, IsExponent, IsFloat, IsFraction, IsFractionOrExponent, Sign, digits_text, is_exponent_mark, minus, plus, sign_text, unsigned}
use Rattle.toml_edit_json.specs.Texts.{is_kept, written, written_byte}
use Rattle.toml_edit_json.specs.Values.{float_value, json_items, json_members, json_value, scalar_value}
use Rattle.toml_edit_json.specs.declared.runs.Form.TheVariants.{Number}

-- the digits without their underscores
abbrev plain : Digits → Text
plain ds = map (λ d. d.1) ds

abbrev AreDigits : Digits → Type 0
AreDigits ds = AllByRecursion (λ d. is_digit d.1 10 ≡ true) ds

is_ascii : (c : ℕ) → is_digit c 10 ≡ true → is_ascii_digit c ≡ true
is_ascii c is = grind (arith, nat_tests)

-- a digit is no byte before `0`, and no letter
digit_not : (c k : ℕ) → is_digit c 10 ≡ true → (k < 48) ⊎ (57 < k) → (c == k) ≡ false
digit_not c k is (inl below) = grind (arith, nat_tests)
digit_not c k is (inr above) = grind (arith, nat_tests)

all_digits : (ds : Digits) → IsDigits 10 ds → AreDigits ds
all_digits [] is = absurd is
all_digits (d ∷ ds) is = is.1

-- ---- what is written for the parts of a float

digit_kept : (c : ℕ) → is_digit c 10 ≡ true → is_kept Number c ≡ true
digit_kept c is = grind (arith, nat_tests)

mark_kept : (c : ℕ) → is_exponent_mark c ≡ true → is_kept Number c ≡ true
mark_kept c is = grind (arith, nat_tests)

written-digits : (ds : Digits) → AreDigits ds → written Number (digits_text ds) ≡ plain ds
written-digits [] all = refl
written-digits ((false, c) ∷ ds) all = rw (digit_kept c all.0) (ap (λ (t : Text). c ∷ t) (written-digits ds all.1))
written-digits ((true, c) ∷ ds) all = rw (digit_kept c all.0) (ap (λ (t : Text). c ∷ t) (written-digits ds all.1))

abbrev minus_text : Sign → Text
minus_text plus = []
minus_text minus = 45 ∷ []
minus_text unsigned = []

written-sign : (s : Sign) (t : Text) → written Number (sign_text s ++ t) ≡ minus_text s ++ written Number t
written-sign plus t = refl
written-sign minus t = refl
written-sign unsigned t = refl

written-append : (t u : Text) → written Number (t ++ u) ≡ written Number t ++ written Number u
written-append t u = flat_map-append (written_byte Number) t u

-- ---- what the grammar takes

taken : (ds : Digits) (rest : Text) → AreDigits ds → is_ascii_digit (head rest) ≡ false
    → (prefix_len is_ascii_digit (plain ds ++ rest) ≡ length ds) × (drop (length ds) (plain ds ++ rest) ≡ rest)
taken [] [] all stops = (refl, refl)
taken [] (c ∷ rest) all stops = (rw stops refl, refl)
taken ((b, c) ∷ ds) rest all stops =
    let more = taken ds rest all.1 stops in
    (rw (is_ascii c all.0) (omega (arith, more.0)), more.1)

after_digits-plain : (ds : Digits) (rest : Text) → IsDigits 10 ds → is_ascii_digit (head rest) ≡ false → after_digits (plain ds ++ rest) ≡ Some rest
after_digits-plain [] rest is stops = absurd is
after_digits-plain (d ∷ ds) rest is stops =
    let both = taken (d ∷ ds) rest is.1 stops in
    rw (both.0, ne_eqb (suc (length ds)) 0 (λ e. omega (arith, e))) (ap Some both.1)

after_digits-alone : (ds : Digits) → IsDigits 10 ds → after_digits (plain ds) ≡ Some []
after_digits-alone ds is = ap after_digits (sym (append-nil (plain ds))) ∙ after_digits-plain ds [] is refl

after_whole-plain : (ds : Digits) (rest : Text) → IsDigits 10 ds → HasNoLeadingZero ds → is_ascii_digit (head rest) ≡ false
    → after_whole (plain ds ++ rest) ≡ Some rest
after_whole-plain [] rest is lead stops = absurd is
after_whole-plain ((b, c) ∷ []) rest is lead stops =
    elim (cases_Bool (c == 48)) [
      | inl has ↦ rw has refl
      | inr other ↦ rw other (after_digits-plain ((b, c) ∷ []) rest is stops)
    ]
after_whole-plain ((b, c) ∷ d ∷ ds) rest is lead stops =
    rw (ne_eqb c 48 lead) (after_digits-plain ((b, c) ∷ d ∷ ds) rest is stops)

after_minus-sign : (s : Sign) (ds : Digits) (rest : Text) → IsDigits 10 ds → after_minus (minus_text s ++ (plain ds ++ rest)) ≡ plain ds ++ rest
after_minus-sign s [] rest is = absurd is
after_minus-sign minus (d ∷ ds) rest is = refl
after_minus-sign plus ((b, c) ∷ ds) rest is = rw (digit_not c 45 is.1.0 (inl (omega arith))) refl
after_minus-sign unsigned ((b, c) ∷ ds) rest is = rw (digit_not c 45 is.1.0 (inl (omega arith))) refl

after_sign-sign : (s : Sign) (ds : Digits) → IsDigits 10 ds → after_sign (minus_text s ++ plain ds) ≡ plain ds
after_sign-sign s [] is = absurd is
after_sign-sign minus (d ∷ ds) is = refl
after_sign-sign plus ((b, c) ∷ ds) is = rw (digit_not c 45 is.1.0 (inl (omega arith)), digit_not c 43 is.1.0 (inl (omega arith))) refl
after_sign-sign unsigned ((b, c) ∷ ds) is = rw (digit_not c 45 is.1.0 (inl (omega arith)), digit_not c 43 is.1.0 (inl (omega arith))) refl

-- ---- fractions and exponents

-- the text is a fraction, an exponent or both
record Ends (t : Text) : Type 0 where
  whole : option_and_then after_exponent (after_fraction t) ≡ Some []
  stops : is_ascii_digit (head t) ≡ false

mark_no_digit : (c : ℕ) → is_exponent_mark c ≡ true → is_ascii_digit c ≡ false
mark_no_digit c is = grind (arith, nat_tests)

mark_no_dot : (c : ℕ) → is_exponent_mark c ≡ true → (c == 46) ≡ false
mark_no_dot c is = grind (arith, nat_tests)

-- what is written for an exponent
written-exponent : (mark : ℕ) (s : Sign) (ds : Digits) → is_exponent_mark mark ≡ true → IsDigits 10 ds
    → written Number (mark ∷ sign_text s ++ digits_text ds) ≡ mark ∷ (minus_text s ++ plain ds)
written-exponent mark s ds is digits =
    rw (mark_kept mark is)
    (ap (λ (t : Text). mark ∷ t)
    (written-sign s (digits_text ds) ∙ ap (λ (t : Text). minus_text s ++ t) (written-digits ds (all_digits ds digits))))

after_exponent-whole : (mark : ℕ) (s : Sign) (ds : Digits) → is_exponent_mark mark ≡ true → IsDigits 10 ds
    → after_exponent (mark ∷ (minus_text s ++ plain ds)) ≡ Some []
after_exponent-whole mark s ds is digits =
    rw is (ap after_digits (after_sign-sign s ds digits) ∙ after_digits-alone ds digits)

ends-fraction : (t : Text) → IsFraction t → Ends (written Number t)
ends-fraction t (ds, digits, same) =
    subst Ends (sym (ap (written Number) same ∙ ap (λ (u : Text). 46 ∷ u) (written-digits ds (all_digits ds digits))))
    (record { whole = ap (option_and_then after_exponent) (after_digits-alone ds digits); stops = refl })

ends-exponent : (t : Text) → IsExponent t → Ends (written Number t)
ends-exponent t (mark, s, ds, is, digits, same) =
    subst Ends (sym (ap (written Number) same ∙ written-exponent mark s ds is digits))
    (record {
      whole = rw (mark_no_dot mark is) (after_exponent-whole mark s ds is digits);
      stops = mark_no_digit mark is;
    })

ends-both : (t u : Text) → IsFraction t → IsExponent u → Ends (written Number (t ++ u))
ends-both t u (ds, digits, same) (mark, s, es, is, more, other) =
    let e = minus_text s ++ plain es in
    subst Ends
    (sym (written-append t u
    ∙ ap₂ (λ (x y : Text). x ++ y) (ap (written Number) same ∙ ap (λ (v : Text). 46 ∷ v) (written-digits ds (all_digits ds digits)))
    (ap (written Number) other ∙ written-exponent mark s es is more)))
    (record {
      whole = ap (option_and_then after_exponent) (after_digits-plain ds (mark ∷ e) digits (mark_no_digit mark is))
          ∙ after_exponent-whole mark s es is more;
      stops = refl;
    })

ends-rest : (t : Text) → IsFractionOrExponent t → Ends (written Number t)
ends-rest t (inl is) = ends-fraction t is
ends-rest t (inr (inl is)) = ends-exponent t is
ends-rest t (inr (inr (fraction, exponent, one, other, same))) =
    subst (λ (x : Text). Ends (written Number x)) (sym same) (ends-both fraction exponent one other)

-- ---- numbers

number-parts : (s : Sign) (ds : Digits) (rest : Text) → IsDigits 10 ds → HasNoLeadingZero ds → Ends rest
    → IsNumber (minus_text s ++ (plain ds ++ rest))
unfolding after_number
number-parts s ds rest is lead ends =
    ap (λ o. option_and_then after_exponent (option_and_then after_fraction o))
    (ap after_whole (after_minus-sign s ds rest is) ∙ after_whole-plain ds rest is lead ends.stops)
    ∙ ends.whole

number-decimal : (t : Text) → IsDecimalFloat t → IsNumber (written Number t)
number-decimal t (s, ds, front, rest, (digits, lead, front_is), more, same) =
    subst IsNumber
    (sym (ap (written Number) same ∙ written-append front rest
    ∙ ap (λ (x : Text). x ++ written Number rest)
    (ap (written Number) front_is ∙ written-sign s (digits_text ds) ∙ ap (λ (x : Text). minus_text s ++ x) (written-digits ds (all_digits ds digits)))
    ∙ append_assoc (minus_text s) (plain ds) (written Number rest)))
    (number-parts s ds (written Number rest) digits lead (ends-rest rest more))

-- infinity and what is not a number have an `n`
special-n : (s : Sign) (t : Text) → (t ≡ sign_text s ++ codes "inf") ⊎ (t ≡ sign_text s ++ codes "nan") → has_byte 0x6E t ≡ true
special-n plus t (inl is) = ap (has_byte 0x6E) is
special-n minus t (inl is) = ap (has_byte 0x6E) is
special-n unsigned t (inl is) = ap (has_byte 0x6E) is
special-n plus t (inr is) = ap (has_byte 0x6E) is
special-n minus t (inr is) = ap (has_byte 0x6E) is
special-n unsigned t (inr is) = ap (has_byte 0x6E) is

number-float : (t : Text) → IsFloat t → has_byte 0x6E t ≡ false → IsNumber (written Number t)
number-float t (inl is) none = number-decimal t is
number-float t (inr (s, is)) none = absurd (false≢true (sym none ∙ special-n s t is))

float-numbers : (t : Text) → IsFloat t → HasNumbers (float_value t)
float-numbers t is =
    elim (cases_Bool (has_byte 0x6E t)) [
      | inl has ↦ rw has tt
      | inr other ↦ rw other (number-float t is other)
    ]

integer-numbers : (z : ℤ) → fits_integer z ≡ true → HasNumbers (scalar_value (integer z))
integer-numbers (pos n) fits = IsNumber-signed_decimal (pos n) (grind (arith, nat_tests))
integer-numbers (negsuc n) fits = IsNumber-signed_decimal (negsuc n) (grind (arith, nat_tests))

scalar-numbers : (s : Scalar) → IsRealScalar s → HasNumbers (scalar_value s)
scalar-numbers (string t) real = tt
scalar-numbers (integer z) real = integer-numbers z real
scalar-numbers (float t) real = float-numbers t real
scalar-numbers (boolean b) real = tt
scalar-numbers (datetime d) real = tt

mutual
  pub numbers : (n : Node) → IsWellMade n → HasNumbers (json_value n)
  numbers nothing made = tt
  numbers (leaf s r d) made = scalar-numbers s made.1
  numbers (list f xs) made = items-numbers xs made
  numbers (tables e xs) made = items-numbers xs made
  numbers (inline f ss) made = slots-numbers ss made
  numbers (table f ss) made = slots-numbers ss made

  items-numbers : (xs : Items) → ItemsAreWellMade xs → ItemsHaveNumbers (json_items xs)
  items-numbers no_items made = tt
  items-numbers (item n xs) made =
      elim (cases_Bool (is_item n)) [
        | inl has ↦ rw has (numbers n made.0, items-numbers xs made.1)
        | inr other ↦ rw other (items-numbers xs made.1)
      ]

  slots-numbers : (ss : Slots) → SlotsAreWellMade ss → MembersHaveNumbers (json_members ss)
  slots-numbers no_slots made = tt
  slots-numbers (slot k n ss) made =
      elim (cases_Bool (is_item n)) [
        | inl has ↦ rw has (numbers n made.2, slots-numbers ss made.3)
        | inr other ↦ rw other (slots-numbers ss made.3)
      ]
