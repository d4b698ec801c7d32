-- What is written for a byte between double quotes is a part that writes the byte, and texts so written spell strings and keys.
use Rattle.std.proofs.Common.{◌≡◌, refl, sym, ◌∙◌, ap, subst, ℕ, ◌/◌, ◌%◌, ◌<◌, Bool, true, false, List, [], ◌∷◌, ◌++◌, arith, inl, inr}
use Rattle.std.specs.Prelude.{not, ◌==◌, if◌then◌else◌, encode_utf8, flat_map, Some}
use Rattle.std.specs.List.{AllByRecursion}
use Rattle.std.specs.Char.{digit_value, is_digit}
use Rattle.std.specs.Str.Parse.{digits_value}
use Rattle.std.proofs.lemmas.Bool.{lt-ltb, eqb-true}
use Rattle.std.proofs.lemmas.Bool.Decides.{nat_tests}
use Rattle.std.proofs.lemmas.Str.{encode_ascii}
use Rattle.toml_edit_model.specs.Text.{Text, line_feed, quote, apostrophe, backslash, is_empty, one, has_byte, newline}
use Rattle.toml_edit_model.specs.Trivia.{is_visible, lf}
use Rattle.toml_edit_model.specs.Spelling.{is_plain, is_scalar_value, Part, plain, letter, numbered, part_text, part_value, IsPart}
use Rattle.toml_edit_model.specs.Spelling.{SpellsBasic, SpellsLiteral, BlockPart, in_line, next_line, quotes, joint, block_text}
use Rattle.toml_edit_model.specs.Spelling.{block_value, IsBlockPart, IsJoint, is_dropped_part, each_may_follow, three, SpellsMultilineBasic}
use Rattle.toml_edit_model.specs.Spelling.{SpellsString, SpellsKey}
use Rattle.toml_edit_model.specs.DefaultSpelling.{capital_digit, numbered_escape, escaped_byte, escaped, is_plain_in_basic}
use Rattle.toml_edit_model.specs.DefaultSpelling.{is_plain_in_literal, is_bare_key, between, string_spelling, key_spelling}
use Rattle.toml_edit_laws.proofs.common.Tests.{and_left, and_right, and_both, not-true}

-- what holds on both sides of a test holds of the choice
choose : {A : Type 0} (P : A → Type 0) (b : Bool) (x y : A) → (b ≡ true → P x) → (b ≡ false → P y) → P (if b then x else y)
choose P true x y h g = h refl
choose P false x y h g = g refl

-- ---- a byte as a part

-- the text is a part that writes the byte
record Escapes (c : ℕ) (t : Text) : Type 0 where
  part : Part
  is : IsPart part
  value : part_value part ≡ c ∷ []
  text : part_text part ≡ t

-- an escape by a letter
escapes-letter : (c by : ℕ) → IsPart (letter by) → part_value (letter by) ≡ c ∷ [] → Escapes c (backslash ∷ by ∷ [])
escapes-letter c by is value = record { part = letter by; is = is; value = value; text = refl }

-- what a capital hexadecimal digit is
capital-value : (n : ℕ) → n < 16 → digit_value (capital_digit n) ≡ n
capital-value n h = grind (arith, nat_tests)

-- it is one
capital-digit : (n : ℕ) → n < 16 → is_digit (capital_digit n) 16 ≡ true
capital-digit n h = rw (capital-value n h) (lt-ltb n 16 h)

-- an escape by hexadecimal digits
escapes-numbered : (c : ℕ) → c < 128 → Escapes c (numbered_escape c)
escapes-numbered c h =
    let digits : Text = 0x30 ∷ 0x30 ∷ capital_digit (c / 16) ∷ capital_digit (c % 16) ∷ [] in
    let value : digits_value 16 digits ≡ c =
    rw (capital-value (c / 16) (omega arith)) (rw (capital-value (c % 16) (omega arith)) (omega arith)) in
    record {
      part = numbered 0x75 digits;
      is = (
        omega arith,
        refl,
        and_both (is_digit (capital_digit (c / 16)) 16) _ (capital-digit (c / 16) (omega arith))
            (and_both (is_digit (capital_digit (c % 16)) 16) true (capital-digit (c % 16) (omega arith)) refl),
        ap is_scalar_value value ∙ scalar c h,
      );
      value = ap encode_utf8 value ∙ encode_ascii c h;
      text = refl;
    }
  where
    scalar : (c : ℕ) → c < 128 → is_scalar_value c ≡ true
    scalar c h = grind (arith, nat_tests)

-- a control character is ASCII
control-ascii : (c : ℕ) → is_visible c ≡ false → c < 128
control-ascii c h = grind (arith, nat_tests)

-- a byte that stands for itself
escapes-plain : (c : ℕ) → is_plain c ≡ true → Escapes c (one c)
escapes-plain c h = record { part = plain c; is = h; value = refl; text = refl }

-- a visible byte does, but a backslash and a quote
visible-plain : (c : ℕ) → (c == backslash) ≡ false → (c == quote) ≡ false → is_visible c ≡ true → is_plain c ≡ true
visible-plain c h g v = rw v (rw g (rw h refl))

-- the byte is known
escapes-known : (c k : ℕ) (t : Text) → (c == k) ≡ true → Escapes k t → Escapes c t
escapes-known c k t e h = subst (λ b. Escapes b t) (sym (eqb-true c k e)) h

-- what is written for a byte in one line
escapes : (c : ℕ) → Escapes c (escaped_byte false c)
escapes c =
    choose (Escapes c) (c == backslash) _ _ (λ e. escapes-known c backslash _ e
    (escapes-letter backslash backslash refl (encode_ascii backslash (omega arith)))) (λ h.
    choose (Escapes c) (c == quote) _ _ (λ e. escapes-known c quote _ e
    (escapes-letter quote quote refl (encode_ascii quote (omega arith)))) (λ g.
    choose (Escapes c) (is_visible c) _ _ (λ v. escapes-plain c (visible-plain c h g v)) (λ v.
    choose (Escapes c) (c == 0x08) _ _ (λ e. escapes-known c 0x08 _ e (escapes-letter 0x08 0x62 refl (encode_ascii 0x08 (omega arith))))
    (λ n.
    choose (Escapes c) (c == 0x0C) _ _ (λ e. escapes-known c 0x0C _ e (escapes-letter 0x0C 0x66 refl (encode_ascii 0x0C (omega arith))))
    (λ n.
    choose (Escapes c) (c == 0x0D) _ _ (λ e. escapes-known c 0x0D _ e (escapes-letter 0x0D 0x72 refl (encode_ascii 0x0D (omega arith))))
    (λ n.
    choose (Escapes c) (c == line_feed) _ _ (λ e. escapes-known c line_feed _ e
    (escapes-letter line_feed 0x6E refl (encode_ascii line_feed (omega arith)))) (λ n.
    escapes-numbered c (control-ascii c v))))))))

-- ---- one line

-- the text is parts that write v
record Parts (v t : Text) : Type 0 where
  parts : List Part
  each : AllByRecursion IsPart parts
  value : v ≡ flat_map part_value parts
  text : t ≡ flat_map part_text parts

-- one byte more at the front
parts-more : (c : ℕ) (v s t : Text) → Escapes c s → Parts v t → Parts (c ∷ v) (s ++ t)
parts-more c v s t h g =
    record {
      parts = h.part ∷ g.parts;
      each = (h.is, g.each);
      value = ap (λ u. c ∷ u) g.value ∙ ap (λ u. u ++ flat_map part_value g.parts) (sym h.value);
      text = ap (λ u. u ++ t) (sym h.text) ∙ ap (λ u. part_text h.part ++ u) g.text;
    }

-- the escaped text is such parts
escaped-parts : (v : Text) → Parts v (escaped false v)
escaped-parts [] = record { parts = []; each = tt; value = refl; text = refl }
escaped-parts (c ∷ v) = parts-more c v (escaped_byte false c) (escaped false v) (escapes c) (escaped-parts v)

-- so is a plain text
plain-parts : (v : Text) → is_plain_in_basic v ≡ true → Parts v v
plain-parts [] h = record { parts = []; each = tt; value = refl; text = refl }
plain-parts (c ∷ v) h =
    parts-more c v (one c) v (escapes-plain c (and_left (is_plain c) _ h)) (plain-parts v (and_right (is_plain c) _ h))

-- such parts between double quotes
basic-spells : (v t : Text) → Parts v t → SpellsBasic v (between (one quote) t)
basic-spells v t h = (h.parts, h.each, h.value, ap (between (one quote)) h.text)

-- a plain text between single quotes
literal-spells : (v : Text) → is_plain_in_literal v ≡ true → SpellsLiteral v (between (one apostrophe) v)
literal-spells v h = (h, refl)

-- ---- several lines

-- neither quotes nor a joint
abbrev is_steady : BlockPart Part → Bool
is_steady (in_line p) = true
is_steady (next_line n) = true
is_steady (quotes q) = false
is_steady (joint t) = false

-- the text is such a part that writes the byte
record BlockEscapes (c : ℕ) (t : Text) : Type 0 where
  part : BlockPart Part
  is : IsBlockPart IsPart IsJoint part
  steady : is_steady part ≡ true
  value : block_value part_value quote part ≡ c ∷ []
  text : block_text part_text quote part ≡ t

-- a part of one line
block-line : (c : ℕ) (t : Text) → Escapes c t → BlockEscapes c t
block-line c t h = record { part = in_line h.part; is = h.is; steady = refl; value = h.value; text = h.text }

-- what is written for another byte is what is written in one line
same-escape : (c : ℕ) → (c == line_feed) ≡ false → escaped_byte true c ≡ escaped_byte false c
same-escape c h = rw h refl

-- what is written for a byte in several lines
block-escapes : (c : ℕ) → BlockEscapes c (escaped_byte true c)
block-escapes c = by_test (c == line_feed) refl
  where
    by_test : (b : Bool) → (c == line_feed) ≡ b → BlockEscapes c (escaped_byte true c)
    by_test true e =
        subst (λ k. BlockEscapes k (escaped_byte true k)) (sym (eqb-true c line_feed e))
        (record { part = next_line lf; is = tt; steady = refl; value = refl; text = refl })
    by_test false e = subst (BlockEscapes c) (sym (same-escape c e)) (block-line c (escaped_byte false c) (escapes c))

-- the text is such parts that write v
record BlockParts (v t : Text) : Type 0 where
  parts : List (BlockPart Part)
  each : AllByRecursion (IsBlockPart IsPart IsJoint) parts
  follow : each_may_follow is_dropped_part parts ≡ true
  value : v ≡ flat_map (block_value part_value quote) parts
  text : t ≡ flat_map (block_text part_text quote) parts

-- a part before others
steady-follows : (p : BlockPart Part) (ps : List (BlockPart Part)) → is_steady p ≡ true → each_may_follow is_dropped_part ps ≡ true
    → each_may_follow is_dropped_part (p ∷ ps) ≡ true
steady-follows p [] h g = refl
steady-follows (in_line p) (q ∷ ps) h g = g
steady-follows (next_line n) (q ∷ ps) h g = g
steady-follows (quotes r) (q ∷ ps) h g = cc
steady-follows (joint t) (q ∷ ps) h g = cc

-- the escaped text is such parts
escaped-block : (v : Text) → BlockParts v (escaped true v)
escaped-block [] = record { parts = []; each = tt; follow = refl; value = refl; text = refl }
escaped-block (c ∷ v) =
    let h = block-escapes c in
    let g = escaped-block v in
    record {
      parts = h.part ∷ g.parts;
      each = (h.is, g.each);
      follow = steady-follows h.part g.parts h.steady g.follow;
      value = ap (λ u. c ∷ u) g.value ∙ ap (λ u. u ++ flat_map (block_value part_value quote) g.parts) (sym h.value);
      text = ap (λ u. u ++ escaped true v) (sym h.text) ∙ ap (λ u. block_text part_text quote h.part ++ u) g.text;
    }

-- such parts between their delimiters
multiline-spells : (v : Text) → SpellsMultilineBasic v (three quote ++ (newline ++ (escaped true v ++ three quote)))
multiline-spells v =
    let h = escaped-block v in
    (Some lf, h.parts, h.each, h.follow, λ e. absurd cc, h.value, ap (λ u. three quote ++ (newline ++ (u ++ three quote))) h.text)

-- ---- strings and keys

-- the default spelling of a string
pub string-spells : (v : Text) → SpellsString v (string_spelling v)
string-spells v =
    choose (SpellsString v) (is_plain_in_basic v) _ _ (λ e. inl (inl (basic-spells v v (plain-parts v e)))) (λ h.
    choose (SpellsString v) (is_plain_in_literal v) _ _ (λ e. inl (inr (literal-spells v e))) (λ g.
    choose (SpellsString v) (has_byte line_feed v) _ _ (λ e. inr (inl (multiline-spells v))) (λ n.
    inl (inl (basic-spells v (escaped false v) (escaped-parts v))))))

-- the default spelling of a key
pub key-spells : (k : Text) → SpellsKey k (key_spelling k)
key-spells k =
    choose (SpellsKey k) (is_bare_key k) _ _
    (λ e. inl ((and_right (not (is_empty k)) _ e, not-true (is_empty k) (and_left (not (is_empty k)) _ e)), refl)) (λ f.
    choose (SpellsKey k) (is_plain_in_basic k) _ _ (λ e. inr (inl (basic-spells k k (plain-parts k e)))) (λ h.
    choose (SpellsKey k) (is_plain_in_literal k) _ _ (λ e. inr (inr (literal-spells k e))) (λ g.
    inr (inl (basic-spells k (escaped false k) (escaped-parts k))))))
