-- What reads as a key or a scalar is one, and each is read again.
use Rattle.std.proofs.Common.{◌≡◌, ℕ, ◌<◌, Bool, true, false, not, cond, ◌==◌, List, [], ◌∷◌, ◌++◌, ◌⊎◌, length, drop, take, Option, Some}
use Rattle.std.proofs.Common.{None, is_some, refl, sym, ap, subst, ◌∙◌, inl, inr, arith, take_at, drop_at, codes}
use Rattle.std.specs.Prelude.{option_map, ℤ, bytes_eq}
use Rattle.std.specs.List.{prefix_len, list_all}
use Rattle.std.proofs.lemmas.Bool.{and_parts, false_from_ne_true}
use Rattle.std.proofs.lemmas.Bool.Decides.{nat_tests}
use Rattle.std.proofs.lemmas.List.{length-take, take-append-drop}
use Rattle.std.specs.Cmp.Lexicographic.{bytes_decides}
use Rattle.toml_edit_model.specs.Text.{Text, is_empty}
use Rattle.toml_edit_model.specs.Trivia.{Each}
use Rattle.toml_edit_model.specs.Scalars.{Datetime, Scalar, string, integer, float, boolean, datetime}
use Rattle.toml_edit_model.specs.Spelling.{SpellsKey, Spells, SpellsString, SpellsInteger, IsFloat, SpellsDatetime, truth_text}
use Rattle.toml_edit_model.specs.Spelling.{is_bare_byte, SpellsMultilineBasic, SpellsMultilineLiteral}
use Rattle.toml_edit_laws.specs.reading.FloatReading.{is_float_text}
use Rattle.toml_edit_laws.specs.reading.DatetimeReading.{datetime_of}
use Rattle.toml_edit_laws.specs.reading.BlockReading.{block_at, opens_block, ends_block}
use Rattle.toml_edit_laws.specs.reading.Runs.{first, is_word_byte, split_while}
use Rattle.toml_edit_laws.specs.reading.Tokens.{ends_key, string_at, integer_of, key_at}
use Rattle.toml_edit_laws.specs.reading.ScalarReading.{ends_scalar, word_len, word_scalar, scalar_at}
use Rattle.toml_edit_laws.proofs.reading.RunLaws.{Each-run, prefix_len-run}
use Rattle.toml_edit_laws.proofs.reading.Steps.{chosen, same_parts, split_parts}
use Rattle.toml_edit_laws.proofs.common.OptionSteps.{map_some}
use Rattle.toml_edit_laws.proofs.reading.StringLaws.{IsOneLineString, string_takes, string_again}
use Rattle.toml_edit_laws.proofs.reading.BlockLaws.{block_takes, block_again, block-opens_before, line-opens_none}
use Rattle.toml_edit_laws.proofs.reading.NumberLaws.{integer_takes, integer_again, integer_each, integer_begins}
use Rattle.toml_edit_laws.proofs.reading.FloatLaws.{float_takes, float_again, float-some, float-no_integer, float-no_truth}
use Rattle.toml_edit_laws.proofs.reading.DatetimeLaws.{datetime_takes, datetime_again, datetime-no_integer, datetime-no_truth}
use Rattle.toml_edit_laws.proofs.reading.WordLaws.{scalar_stops, HasWord, run_word, datetime_word, float_no_datetime}
use Rattle.toml_edit_laws.proofs.reading.Begins.{scalar_begins, float_each}

-- a test that is turned round
fails_from_not : (b : Bool) → not b ≡ true → b ≡ false
fails_from_not true h = sym h
fails_from_not false h = refl

-- ---- keys

-- the run at a bare byte is not empty
bare_some : (c : ℕ) (cs v : List ℕ) → is_bare_byte c ≡ true → take (prefix_len is_bare_byte (c ∷ cs)) (c ∷ cs) ≡ v → is_empty v ≡ false
bare_some c cs [] bare e =
    let some : 0 < prefix_len is_bare_byte (c ∷ cs) = rw bare (omega arith) in
    absurd (omega (arith, some, ap length e, length-take (prefix_len is_bare_byte (c ∷ cs)) (c ∷ cs)))
bare_some c cs (d ∷ v) bare e = refl

-- what reads as a key is one
pub key_takes : (t rest k : Text) → key_at t ≡ Some (k, rest) → (spelled : Text) × SpellsKey k spelled × (t ≡ spelled ++ rest)
unfolding key_at
key_takes [] rest k e = let (t, spells, parts) = string_takes [] k rest e in (t, inr spells, parts)
key_takes (c ∷ cs) rest k e =
    elim (chosen (is_bare_byte c) (Some (split_while is_bare_byte (c ∷ cs))) (string_at (c ∷ cs)) (Some (k, rest)) e) [
      | inl (bare, h) ↦
          let n = prefix_len is_bare_byte (c ∷ cs) in
          let same : split_while is_bare_byte (c ∷ cs) ≡ (k, rest) = cc in
          let (value, after) = same_parts (take n (c ∷ cs)) k (drop n (c ∷ cs)) rest same in
          let whole : c ∷ cs ≡ k ++ rest = split_parts is_bare_byte (c ∷ cs) ∙ rw (value, after) refl in
          (k, inl ((subst (Each is_bare_byte) value (Each-run is_bare_byte (c ∷ cs)), bare_some c cs k bare value), refl), whole)
      | inr (other, h) ↦ let (t, spells, parts) = string_takes (c ∷ cs) k rest h in (t, inr spells, parts)
    ]

-- a quote opens no bare key and no word
quote_first : (v t rest : List ℕ) → IsOneLineString v t → (first (t ++ rest) ≡ 34) ⊎ (first (t ++ rest) ≡ 39)
quote_first v t rest (inl (parts, each, value, whole)) = inl (rw whole refl)
quote_first v t rest (inr (each, whole)) = inr (rw whole refl)

-- a test that no quote passes
not_in_quote : (p : ℕ → Bool) (v t rest : List ℕ) → p 34 ≡ false → p 39 ≡ false → IsOneLineString v t → p (first (t ++ rest)) ≡ false
not_in_quote p v t rest a b q = elim (quote_first v t rest q) [ inl e ↦ rw e a | inr e ↦ rw e b ]

-- a bare key begins with a bare byte
bare_first : (t rest : List ℕ) → Each is_bare_byte t → is_empty t ≡ false → is_bare_byte (first (t ++ rest)) ≡ true
bare_first [] rest each some = absurd cc
bare_first (c ∷ cs) rest each some = (and_parts (is_bare_byte c) (list_all is_bare_byte cs) each).0

-- a key is read again in front of a byte that ends it
pub key_again : (k spelled rest : Text) → SpellsKey k spelled → ends_key rest ≡ true → key_at (spelled ++ rest) ≡ Some (k, rest)
unfolding key_at
key_again k t rest (inl ((each, some), same)) stop =
    rw (
      bare_first t rest each some,
      prefix_len-run is_bare_byte t rest each (fails_from_not _ stop),
      take_at t rest _ refl,
      drop_at t rest _ refl,
      same,
    ) refl
key_again k t rest (inr spells) stop = rw (not_in_quote is_bare_byte k t rest refl refl spells) (string_again k t rest spells)

-- ---- words

-- a truth value is read again
truth_word : (b : Bool) → word_scalar (truth_text b) ≡ Some (boolean b)
unfolding word_scalar
truth_word true = refl
truth_word false = refl

-- a truth value is a word
truth_each : (b : Bool) → Each is_word_byte (truth_text b)
truth_each true = refl
truth_each false = refl

-- what begins with a digit or a sign is no truth value
not_begins : (c : ℕ) (cs : List ℕ) (b : Bool) → c < 58 → c ∷ cs ≡ truth_text b → ⊥
not_begins c cs true below e = let same : c ≡ 116 = cc in omega arith
not_begins c cs false below e = let same : c ≡ 102 = cc in omega arith

-- what is none of these is no such word
no_truth : (word : Text) → ((b : Bool) → word ≡ truth_text b → ⊥) → (b : Bool) → bytes_eq word (truth_text b) ≡ false
no_truth word none b = false_from_ne_true (bytes_eq word (truth_text b)) (λ same. none b ((bytes_decides word (truth_text b)).0 same))

no_integer : (word : Text) → ((z : ℤ) → SpellsInteger z word → ⊥) → is_some (integer_of word) ≡ false
no_integer word none = none_some (integer_of word) (λ z e. none z (integer_takes word z e))
  where
    none_some : (o : Option ℤ) → ((z : ℤ) → o ≡ Some z → ⊥) → is_some o ≡ false
    none_some None h = refl
    none_some (Some z) h = absurd (h z refl)

no_float : (word : Text) → (IsFloat word → ⊥) → is_float_text word ≡ false
no_float word none = false_from_ne_true (is_float_text word) (λ h. none (float_takes word h))

-- what reads as a word of a scalar spells it
pub word_takes : (word : Text) (s : Scalar) → word_scalar word ≡ Some s → Spells s word
unfolding word_scalar
word_takes word s e =
    elim (chosen (bytes_eq word (codes "true")) (Some (boolean true)) _ (Some s) e) [
      | inl (same, h) ↦
          let value : boolean true ≡ s = cc in
          subst (λ (x : Scalar). Spells x word) value ((bytes_decides word (codes "true")).0 same)
      | inr (other, e1) ↦ elim (chosen (bytes_eq word (codes "false")) (Some (boolean false)) _ (Some s) e1) [
        | inl (same, h) ↦
            let value : boolean false ≡ s = cc in
            subst (λ (x : Scalar). Spells x word) value ((bytes_decides word (codes "false")).0 same)
        | inr (neither, e2) ↦
            elim (chosen (is_some (integer_of word)) (option_map (λ (z : ℤ). integer z) (integer_of word)) _ (Some s) e2) [
              | inl (number, h) ↦
                  let (z, found, value) = map_some (integer_of word) (λ (z : ℤ). integer z) s h in
                  subst (λ (x : Scalar). Spells x word) value (integer_takes word z found)
              | inr (none, e3) ↦ elim (chosen (is_float_text word) (Some (float word)) _ (Some s) e3) [
                | inl (is, h) ↦
                    let value : float word ≡ s = cc in
                    subst (λ (x : Scalar). Spells x word) value (float_takes word is, refl)
                | inr (no_point, h) ↦
                    let (d, found, value) = map_some (datetime_of word) (λ (d : Datetime). datetime d) s h in
                    subst (λ (x : Scalar). Spells x word) value (datetime_takes word d found)
              ]
            ]
      ]
    ]

-- no number is a truth value
integer_no_truth : (word : Text) (z : ℤ) → SpellsInteger z word → (b : Bool) → word ≡ truth_text b → ⊥
integer_no_truth word z is b same = let (c, cs, e, w, below) = integer_begins word z is in not_begins c cs b below (sym e ∙ same)

-- an integer is read again as a word
number_word : (word : Text) (z : ℤ) → SpellsInteger z word → word_scalar word ≡ Some (integer z)
unfolding word_scalar
number_word word z is =
    let none = no_truth word (integer_no_truth word z is) in
    rw (none true, none false, integer_again word z is) refl

-- a float too
pub float_word : (word : Text) → IsFloat word → word_scalar word ≡ Some (float word)
unfolding word_scalar
float_word word is =
    let none = no_truth word (λ b same. float-no_truth word b is same) in
    rw (none true, none false, no_integer word (λ z number. float-no_integer word z is number), float_again word is) refl

-- and a date or a time
pub date_word : (word : Text) (d : Datetime) → SpellsDatetime d word → word_scalar word ≡ Some (datetime d)
unfolding word_scalar
date_word word d is =
    let none = no_truth word (λ b same. datetime-no_truth word d b is same) in
    rw (
      none true,
      none false,
      no_integer word (λ z number. datetime-no_integer word d z is number),
      no_float word (λ number. float_no_datetime d word number is),
      datetime_again word d is,
    ) refl

-- ---- scalars

-- no scalar is spelled by nothing
pub scalar-some : (s : Scalar) (t : Text) → Spells s t → t ≡ [] → ⊥
scalar-some s t is none = let (c, cs, begins, opening) = scalar_begins s t is in absurd cc

-- what reads as a string is one
any_string_takes : (t v rest : Text) → cond (opens_block t) (block_at t) (string_at t) ≡ Some (v, rest) → (spelled : Text)
    × SpellsString v spelled × (t ≡ spelled ++ rest)
any_string_takes t v rest e =
    elim (chosen (opens_block t) (block_at t) (string_at t) (Some (v, rest)) e) [
      | inl (opens, h) ↦ let (spelled, spells, parts) = block_takes t rest v h in (spelled, inr spells, parts)
      | inr (line, h) ↦ let (spelled, spells, parts) = string_takes t v rest h in (spelled, inl spells, parts)
    ]

-- what reads as a scalar is one
pub scalar_takes : (t rest : Text) (s : Scalar) → scalar_at t ≡ Some (s, rest) → (spelled : Text) × Spells s spelled × (t ≡ spelled ++ rest)
unfolding scalar_at
scalar_takes text rest s e =
    let n = word_len text in
    elim (chosen (is_word_byte (first text)) (option_map (λ (w : Scalar). (w, drop n text)) (word_scalar (take n text))) _ (Some (s, rest))
    e) [
      | inl (word, h) ↦
          let (w, found, same) = map_some (word_scalar (take n text)) (λ (w : Scalar). (w, drop n text)) (s, rest) h in
          let (value, after) = same_parts w s (drop n text) rest same in
          let spells = subst (λ (x : Scalar). Spells x (take n text)) value (word_takes (take n text) w found) in
          (take n text, spells, sym (take-append-drop n text) ∙ ap (λ (x : Text). take n text ++ x) after)
      | inr (other, h) ↦
          let (p, found, same) =
          map_some (cond (opens_block text) (block_at text) (string_at text)) (λ (p : Text × Text). (string p.0, p.1)) (s, rest) h in
          let (value, after) = same_parts (string p.0) s p.1 rest same in
          let (t, spells, parts) = any_string_takes text p.0 p.1 found in
          let spelled = subst (λ (x : Scalar). Spells x t) value spells in
          (t, spelled, parts ∙ ap (λ (x : Text). t ++ x) after)
    ]

-- a word is read again
word_again : (s : Scalar) (t rest : Text) → HasWord t rest → word_scalar t ≡ Some s → scalar_at (t ++ rest) ≡ Some (s, rest)
unfolding scalar_at
word_again s t rest word found = rw (word.begins, word.len, take_at t rest _ refl, drop_at t rest _ refl, found) refl

-- no quote follows a scalar
double_stops : (t : Text) → ends_scalar t ≡ true → (first t == 34) ≡ false
double_stops = scalar_stops (λ c. c == 34) refl (λ c h. grind (arith, nat_tests)) (λ c h. grind (arith, nat_tests))

single_stops : (t : Text) → ends_scalar t ≡ true → (first t == 39) ≡ false
single_stops = scalar_stops (λ c. c == 39) refl (λ c h. grind (arith, nat_tests)) (λ c h. grind (arith, nat_tests))

-- a string of several lines begins no word
block_no_word : (v t rest : Text) → SpellsMultilineBasic v t ⊎ SpellsMultilineLiteral v t → is_word_byte (first (t ++ rest)) ≡ false
block_no_word v t rest (inl (first_line, parts, each, follows, newline, value, whole)) =
    ap (λ (x : Text). is_word_byte (first (x ++ rest))) whole
block_no_word v t rest (inr (first_line, parts, each, follows, newline, value, whole)) =
    ap (λ (x : Text). is_word_byte (first (x ++ rest))) whole

block_ends : (t : Text) → ends_scalar t ≡ true → ends_block t ≡ true
block_ends t stop = rw (double_stops t stop, single_stops t stop) refl

-- a scalar is read again in front of a byte that ends it
pub scalar_again : (s : Scalar) (spelled rest : Text) → Spells s spelled → ends_scalar rest ≡ true → scalar_at (spelled ++ rest)
    ≡ Some (s, rest)
unfolding scalar_at
scalar_again (boolean b) t rest is stop =
    word_again (boolean b) t rest (run_word t rest (rw is (truth_each b)) (scalar-some (boolean b) t is) stop) (ap word_scalar is
    ∙ truth_word b)
scalar_again (integer z) t rest is stop =
    word_again (integer z) t rest (run_word t rest (integer_each t z is) (scalar-some (integer z) t is) stop) (number_word t z is)
scalar_again (float x) t rest (is, same) stop =
    word_again (float x) t rest (run_word t rest (float_each t is) (float-some t is) stop) (float_word t is
    ∙ ap (λ (y : Text). Some (float y)) (sym same))
scalar_again (datetime d) t rest is stop = word_again (datetime d) t rest (datetime_word d t rest is stop) (date_word t d is)
scalar_again (string v) t rest (inl line) stop =
    rw (
      not_in_quote is_word_byte v t rest refl refl line,
      line-opens_none v t rest line (block_ends rest stop),
      string_again v t rest line,
    ) refl
scalar_again (string v) t rest (inr block) stop =
    rw (block_no_word v t rest block, block-opens_before v t rest block, block_again v t rest block (block_ends rest stop)) refl
