-- The first late escape of what is spelled is the first of its late places.
use Rattle.std.proofs.Common.{◌≡◌, refl, sym, subst, ℕ, ◌+◌, ◌<◌, Bool, true, false, ◌==◌, ◌&&◌, List, [], ◌∷◌, ◌++◌, append_assoc, length}
use Rattle.std.proofs.Common.{arith, Option, Some, None, inl, inr}
use Rattle.std.specs.Prelude.{nat_lt, is_some, flat_map}
use Rattle.std.specs.Char.{is_digit}
use Rattle.std.specs.List.{list_all, AllByRecursion}
use Rattle.std.proofs.lemmas.Bool.{cases_Bool, and_parts}
use Rattle.std.proofs.lemmas.Bool.Decides.{nat_tests}
use Rattle.toml_edit_model.specs.Text.{Text, line_feed, quote, backslash, has_byte}
use Rattle.toml_edit_model.specs.Trivia.{Each, is_blank, Newline, lf, crlf, newline_text}
use Rattle.toml_edit_model.specs.Spelling.{Part, plain, letter, numbered, part_text, IsPart, is_plain, short_escape, hex_digits}
use Rattle.toml_edit_model.specs.Spelling.{SpellsBasic, SpellsLiteral, SpellsMultilineBasic, SpellsMultilineLiteral, SpellsString}
use Rattle.toml_edit_model.specs.Spelling.{SpellsKey, is_bare_byte, Quotes, one_quote, two_quotes, quotes_text, BlockPart, in_line}
use Rattle.toml_edit_model.specs.Spelling.{next_line, quotes, joint, block_text, JointPiece, white, line_break, joint_piece_text}
use Rattle.toml_edit_model.specs.Spelling.{IsJointPiece, IsJoint, IsBlockPart, first_newline, three}
use Rattle.toml_edit_model.specs.Version.{late_escapes, late_spelling}
use Rattle.toml_edit_syntax.specs.LateSpellings.{ends_digits, first_escape, late_escape}
use Rattle.toml_edit_syntax.proofs.late.Places.{first_of}

abbrev Same : ℕ → Text → Type 0
Same i t = first_escape i t ≡ first_of (late_escapes i t)

-- so, wherever the text begins
abbrev Agrees : Text → Type 0
Agrees t = (i : ℕ) → Same i t

plain_on : (c : ℕ) (t : Text) → (c == backslash) ≡ false → Agrees t → Agrees (c ∷ t)
plain_on c [] other h i = refl
plain_on c (d ∷ t) other h i = rw other (h (i + 1))

run_on : (p : ℕ → Bool) → ((c : ℕ) → p c ≡ true → (c == backslash) ≡ false) → (t rest : Text) → Each p t → Agrees rest → Agrees (t ++ rest)
run_on p apart [] rest each h = h
run_on p apart (c ∷ t) rest each h =
    let both = and_parts (p c) (list_all p t) each in
    plain_on c (t ++ rest) (apart c both.0) (run_on p apart t rest both.1 h)

escape_on : (d : ℕ) (t : Text) → (d == 0x65) ≡ false → (d == 0x78) ≡ false → Agrees t → Agrees (backslash ∷ d ∷ t)
escape_on d t a b h i = rw (a, b) (h (i + 2))

-- ---- parts

letter_on : (d : ℕ) (t : Text) → is_some (short_escape d) ≡ true → Agrees t → Agrees (backslash ∷ d ∷ t)
letter_on d t known h i =
    elim (cases_Bool (d == 0x65)) [
      | inl is ↦ rw is refl
      | inr a ↦ elim (cases_Bool (d == 0x78)) [
        | inl is ↦
            let same : d ≡ 0x78 = grind (arith, nat_tests) in
            let f : false ≡ true = subst (λ (x : ℕ). is_some (short_escape x) ≡ true) same known in
            absurd cc
        | inr b ↦ escape_on d t a b h i
      ]
    ]

digit_apart : (c : ℕ) → is_digit c 16 ≡ true → (c == backslash) ≡ false
digit_apart c is = grind (arith, nat_tests)

digit_low : (c : ℕ) → is_digit c 16 ≡ true → nat_lt c 128 ≡ true
digit_low c is = grind (arith, nat_tests)

two_digits_end : (digits t : Text) → length digits ≡ 2 → Each (λ d. is_digit d 16) digits → ends_digits (digits ++ t) ≡ true
two_digits_end [] t len each = absurd (omega arith)
two_digits_end (a ∷ []) t len each = absurd (omega arith)
two_digits_end (a ∷ b ∷ []) t len each =
    digit_low b (and_parts (is_digit b 16) true (and_parts (is_digit a 16) (is_digit b 16 && true) each).1).0
two_digits_end (a ∷ b ∷ c ∷ more) t len each = absurd (omega arith)

numbered_on : (d : ℕ) (digits t : Text) → 0 < length digits → length digits ≡ hex_digits d → Each (λ x. is_digit x 16) digits → Agrees t
    → Agrees (backslash ∷ d ∷ (digits ++ t))
numbered_on d digits t some len each h i =
    elim (cases_Bool (d == 0x65)) [
      | inl is ↦
          let same : d ≡ 0x65 = grind (arith, nat_tests) in
          let f : length digits ≡ 0 = subst (λ (x : ℕ). length digits ≡ hex_digits x) same len in
          absurd (omega arith)
      | inr a ↦ elim (cases_Bool (d == 0x78)) [
        | inl is ↦
            let same : d ≡ 0x78 = grind (arith, nat_tests) in
            let f : length digits ≡ 2 = subst (λ (x : ℕ). length digits ≡ hex_digits x) same len in
            rw (a, is, two_digits_end digits t f each) refl
        | inr b ↦ escape_on d (digits ++ t) a b (run_on (λ x. is_digit x 16) digit_apart digits t each h) i
      ]
    ]

plain_apart : (c : ℕ) → is_plain c ≡ true → (c == backslash) ≡ false
plain_apart c is = grind (arith, nat_tests)

part_on : (p : Part) (t : Text) → IsPart p → Agrees t → Agrees (part_text p ++ t)
part_on (plain c) t is h = plain_on c t (plain_apart c is) h
part_on (letter c) t is h = letter_on c t is h
part_on (numbered c digits) t is h = numbered_on c digits t is.0 is.1 is.2 h

again : (a b t : Text) → Agrees (a ++ (b ++ t)) → Agrees ((a ++ b) ++ t)
again a b t h = subst Agrees (sym (append_assoc a b t)) h

parts_on : (ps : List Part) (t : Text) → AllByRecursion IsPart ps → Agrees t → Agrees (flat_map part_text ps ++ t)
parts_on [] t all h = h
parts_on (p ∷ ps) t all h =
    again (part_text p) (flat_map part_text ps) t (part_on p (flat_map part_text ps ++ t) all.0 (parts_on ps t all.1 h))

-- ---- strings of several lines

-- white space, a newline's byte or a quote
abbrev is_gap : ℕ → Bool
is_gap c = nat_lt c 35

gap_apart : (c : ℕ) → is_gap c ≡ true → (c == backslash) ≡ false
gap_apart c is = grind (arith, nat_tests)

blank_gap : (c : ℕ) → is_blank c ≡ true → nat_lt c 35 ≡ true
blank_gap c is = grind (arith, nat_tests)

newline_on : (n : Newline) (t : Text) → Agrees t → Agrees (newline_text n ++ t)
newline_on lf t h = run_on is_gap gap_apart (newline_text lf) t refl h
newline_on crlf t h = run_on is_gap gap_apart (newline_text crlf) t refl h

quotes_on : (q : Quotes) (t : Text) → Agrees t → Agrees (quotes_text quote q ++ t)
quotes_on one_quote t h = run_on is_gap gap_apart (quotes_text quote one_quote) t refl h
quotes_on two_quotes t h = run_on is_gap gap_apart (quotes_text quote two_quotes) t refl h

gaps_on : (gs : List JointPiece) (t : Text) → AllByRecursion IsJointPiece gs → Agrees t → Agrees (flat_map joint_piece_text gs ++ t)
gaps_on [] t all h = h
gaps_on (white c ∷ gs) t all h = plain_on c (flat_map joint_piece_text gs ++ t) (gap_apart c (blank_gap c all.0)) (gaps_on gs t all.1 h)
gaps_on (line_break n ∷ gs) t all h =
    again (newline_text n) (flat_map joint_piece_text gs) t (newline_on n (flat_map joint_piece_text gs ++ t) (gaps_on gs t all.1 h))

low_escape : (d : ℕ) (t : Text) → d < 35 → Agrees t → Agrees (backslash ∷ d ∷ t)
low_escape d t low h = escape_on d t (grind (arith, nat_tests)) (grind (arith, nat_tests)) h

joint_on : (gs : List JointPiece) (t : Text) → AllByRecursion IsJointPiece gs → has_byte line_feed (flat_map joint_piece_text gs) ≡ true
    → Agrees t
    → Agrees (backslash ∷ (flat_map joint_piece_text gs ++ t))
joint_on [] t all some h = absurd cc
joint_on (white c ∷ gs) t all some h =
    low_escape c (flat_map joint_piece_text gs ++ t) (let low = blank_gap c all.0 in grind (arith, nat_tests)) (gaps_on gs t all.1 h)
joint_on (line_break lf ∷ gs) t all some h = low_escape 10 (flat_map joint_piece_text gs ++ t) (omega arith) (gaps_on gs t all.1 h)
joint_on (line_break crlf ∷ gs) t all some h =
    low_escape 13 (10 ∷ (flat_map joint_piece_text gs ++ t)) (omega arith) (plain_on 10 (flat_map joint_piece_text gs
    ++ t) refl (gaps_on gs t all.1 h))

block_on : (p : BlockPart Part) (t : Text) → IsBlockPart IsPart IsJoint p → Agrees t → Agrees (block_text part_text quote p ++ t)
block_on (in_line p) t is h = part_on p t is h
block_on (next_line n) t is h = newline_on n t h
block_on (quotes q) t is h = quotes_on q t h
block_on (joint u) t is h =
    subst (λ (x : Text). Agrees (backslash ∷ (x ++ t))) (sym is.2)
    (joint_on is.0 t is.1 (subst (λ (x : Text). has_byte line_feed x ≡ true) is.2 is.3) h)

blocks_on : (ps : List (BlockPart Part)) (t : Text) → AllByRecursion (IsBlockPart IsPart IsJoint) ps → Agrees t
    → Agrees (flat_map (block_text part_text quote) ps ++ t)
blocks_on [] t all h = h
blocks_on (p ∷ ps) t all h =
    again (block_text part_text quote p) (flat_map (block_text part_text quote) ps) t
    (block_on p (flat_map (block_text part_text quote) ps ++ t) all.0 (blocks_on ps t all.1 h))

first_line_on : (n : Option Newline) (t : Text) → Agrees t → Agrees (first_newline n ++ t)
first_line_on None t h = h
first_line_on (Some n) t h = newline_on n t h

-- ---- keys and strings

abbrev IsFirst : Text → Type 0
IsFirst t = (i : ℕ) → late_escape i t ≡ first_of (late_spelling i t)

quoted : (t : Text) → Agrees t → IsFirst (quote ∷ t)
quoted t h i = h (i + 1)

unquoted : (c : ℕ) (t : Text) → (c == quote) ≡ false → IsFirst (c ∷ t)
unquoted c t other i = rw other refl

one_end : Agrees (quote ∷ [])
one_end i = refl

three_end : Agrees (three quote)
three_end i = refl

basic_first : (v t : Text) → SpellsBasic v t → IsFirst t
basic_first v t is = subst IsFirst (sym is.3) (quoted (flat_map part_text is.0 ++ (quote ∷ [])) (parts_on is.0 (quote ∷ []) is.1 one_end))

literal_first : (v t : Text) → SpellsLiteral v t → IsFirst t
literal_first v t is = subst IsFirst (sym is.1) (λ i. refl)

block_first : (v t : Text) → SpellsMultilineBasic v t → IsFirst t
block_first v t (first, parts, all, follows, begins, value, whole) =
    let body = flat_map (block_text part_text quote) parts ++ three quote in
    subst IsFirst (sym whole)
    (quoted (quote ∷ quote ∷ (first_newline first ++ body))
    (plain_on quote (quote ∷ (first_newline first ++ body)) refl
    (plain_on quote (first_newline first ++ body) refl (first_line_on first body (blocks_on parts (three quote) all three_end)))))

block_literal_first : (v t : Text) → SpellsMultilineLiteral v t → IsFirst t
block_literal_first v t (first, parts, all, follows, begins, value, whole) = subst IsFirst (sym whole) (λ i. refl)

pub string_first : (v t : Text) → SpellsString v t → (i : ℕ) → late_escape i t ≡ first_of (late_spelling i t)
string_first v t (inl (inl is)) = basic_first v t is
string_first v t (inl (inr is)) = literal_first v t is
string_first v t (inr (inl is)) = block_first v t is
string_first v t (inr (inr is)) = block_literal_first v t is

bare_apart : (c : ℕ) → is_bare_byte c ≡ true → (c == quote) ≡ false
bare_apart c is = grind (arith, nat_tests)

bare_first : (t : Text) → Each is_bare_byte t → IsFirst t
bare_first [] each = λ i. refl
bare_first (c ∷ t) each = unquoted c t (bare_apart c (and_parts (is_bare_byte c) (list_all is_bare_byte t) each).0)

pub key_first : (k t : Text) → SpellsKey k t → (i : ℕ) → late_escape i t ≡ first_of (late_spelling i t)
key_first k t (inl is) = bare_first t is.0.0
key_first k t (inr (inl is)) = basic_first k t is
key_first k t (inr (inr is)) = literal_first k t is
