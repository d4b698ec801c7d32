-- With which bytes the parts of a line begin.
use Rattle.std.proofs.Common.{◌≡◌, ℕ, Bool, true, false, ◌==◌, ◌||◌, [], ◌∷◌, ◌++◌, refl, sym, ap, ◌∙◌, inl, inr, arith}
use Rattle.std.specs.List.{list_all}
use Rattle.std.specs.Char.{is_ascii_digit}
use Rattle.std.proofs.lemmas.Bool.{and_parts, false≢true}
use Rattle.std.proofs.lemmas.Bool.Decides.{nat_tests}
use Rattle.toml_edit_model.specs.Text.{Text, is_empty}
use Rattle.toml_edit_model.specs.Trivia.{Each}
use Rattle.toml_edit_model.specs.Scalars.{Scalar, string, integer, float, boolean, datetime}
use Rattle.toml_edit_model.specs.Spelling.{is_bare_byte, SpellsKey, Digits, IsDigits, digits_text, plus, minus, unsigned, hexadecimal}
use Rattle.toml_edit_model.specs.Spelling.{octal, binary, Spells, SpellsInteger, IsFloat}
pub use Rattle.toml_edit_laws.proofs.common.Edges.{StartsAscii, ascii_blank, ascii_newline, ascii_trivia, ascii_line_end, ascii_final}
use Rattle.toml_edit_laws.specs.reading.FloatReading.{is_float_byte}
use Rattle.toml_edit_laws.proofs.reading.FloatLaws.{float_bytes, float-some}
use Rattle.toml_edit_laws.proofs.reading.StringLaws.{IsOneLineString}
use Rattle.toml_edit_laws.proofs.reading.WordLaws.{each_weaken, datetime_first}
use Rattle.toml_edit_laws.specs.reading.Runs.{first, is_word_byte}

-- a byte with which a key or a scalar begins
abbrev pub is_opening : ℕ → Bool
is_opening c = is_word_byte c || (c == 34 || c == 39)

abbrev pub Begins : Text → Type 0
Begins t = (c : ℕ) × (cs : Text) × (t ≡ c ∷ cs) × (is_opening c ≡ true)

begins_bare : (t : Text) → Each is_bare_byte t → is_empty t ≡ false → Begins t
begins_bare [] each some = absurd (false≢true (sym some))
begins_bare (c ∷ cs) each some =
    let bare : is_bare_byte c ≡ true = (and_parts (is_bare_byte c) (list_all is_bare_byte cs) each).0 in
    (c, cs, refl, grind (arith, nat_tests))

begins_string : (v t : Text) → IsOneLineString v t → Begins t
begins_string v t (inl (parts, each, value, whole)) = (34, _, whole, refl)
begins_string v t (inr (each, whole)) = (39, _, whole, refl)

pub key_begins : (k t : Text) → SpellsKey k t → Begins t
key_begins k t (inl ((each, some), same)) = begins_bare t each some
key_begins k t (inr quoted) = begins_string k t quoted

begins_digits : (ds : Digits) → IsDigits 10 ds → Begins (digits_text ds)
begins_digits [] is = absurd is
begins_digits ((true, c) ∷ ds) (has, each) = absurd (false≢true (sym has))
begins_digits ((false, c) ∷ ds) (has, each) = (c, digits_text ds, refl, grind (arith, nat_tests, each.0))

begins_integer : (z : _) (t : Text) → SpellsInteger z t → Begins t
begins_integer z t (inl (plus, ds, (is, lead, parts), value)) = (43, _, parts, refl)
begins_integer z t (inl (minus, ds, (is, lead, parts), value)) = (45, _, parts, refl)
begins_integer z t (inl (unsigned, ds, (is, lead, parts), value)) = let (c, cs, e, opening) = begins_digits ds is in
    (c, cs, parts ∙ e, opening)
begins_integer z t (inr (hexadecimal, ds, is, value, parts)) = (48, _, parts, refl)
begins_integer z t (inr (octal, ds, is, value, parts)) = (48, _, parts, refl)
begins_integer z t (inr (binary, ds, is, value, parts)) = (48, _, parts, refl)

begins_word : (t : Text) → Each is_word_byte t → (t ≡ [] → ⊥) → Begins t
begins_word [] each some = absurd (some refl)
begins_word (c ∷ cs) each some = (c, cs, refl, rw (and_parts (is_word_byte c) (list_all is_word_byte cs) each).0 refl)

begins_digit : (t : Text) → is_ascii_digit (first t) ≡ true → Begins t
begins_digit [] digit = absurd cc
begins_digit (c ∷ cs) digit = (c, cs, refl, grind (arith, nat_tests))

-- a float is a word
pub float_each : (t : Text) → IsFloat t → Each is_word_byte t
float_each t is = each_weaken is_float_byte is_word_byte (λ c h. grind (arith, nat_tests)) t (float_bytes t is)

pub scalar_begins : (s : Scalar) (t : Text) → Spells s t → Begins t
scalar_begins (string v) t (inl line) = begins_string v t line
scalar_begins (string v) t (inr (inl (first_line, parts, each, follows, newline, value, whole))) = (34, _, whole, refl)
scalar_begins (string v) t (inr (inr (first_line, parts, each, follows, newline, value, whole))) = (39, _, whole, refl)
scalar_begins (integer z) t is = begins_integer z t is
scalar_begins (boolean true) t is = (116, _, is, refl)
scalar_begins (boolean false) t is = (102, _, is, refl)
scalar_begins (float x) t (is, same) = begins_word t (float_each t is) (float-some t is)
scalar_begins (datetime d) t is = begins_digit t (datetime_first d t is)

-- a byte that fails where no key or scalar can begin
pub begins_not : (p : ℕ → Bool) (t rest : Text) → ((c : ℕ) → is_opening c ≡ true → p c ≡ false) → Begins t → p (first (t ++ rest)) ≡ false
begins_not p t rest apart (c, cs, e, opening) = ap (λ (x : Text). p (first (x ++ rest))) e ∙ apart c opening

-- ---- ASCII

pub ascii_begins : (t rest : Text) → Begins t → StartsAscii (t ++ rest)
ascii_begins t rest (c, cs, e, opening) =
    let here : first (t ++ rest) ≡ c = ap (λ (x : Text). first (x ++ rest)) e in
    grind (arith, nat_tests)
