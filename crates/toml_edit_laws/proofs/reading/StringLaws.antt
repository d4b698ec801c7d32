-- What reads as a string of one line is one, and such a string is read again.
use Rattle.std.proofs.Common.{◌⊎◌, ◌≡◌, ℕ, zero, suc, ◌<◌, true, ◌==◌, ◌&&◌, List, [], ◌∷◌, ◌++◌, length, drop, take, Option, Some, None}
use Rattle.std.proofs.Common.{is_some, unwrap_or, refl, sym, ap, subst, ◌∙◌, inl, inr, arith, append_assoc, encode_utf8, take_at, drop_at}
use Rattle.std.proofs.Common.{eqb-true, nat_lt, nat_le}
use Rattle.std.specs.Prelude.{option_map}
use Rattle.std.specs.List.{prefix_len, flat_map, AllByRecursion, list_all}
use Rattle.std.specs.Char.{is_digit}
use Rattle.std.specs.Str.Parse.{digits_value}
use Rattle.std.proofs.lemmas.Bool.{and_parts, leb-true, le-leb, ltb-true, lt-ltb, false≢true}
use Rattle.std.proofs.lemmas.Bool.Decides.{nat_tests}
use Rattle.std.proofs.lemmas.List.{take-append-drop, length-append, length-take-le}
use Rattle.toml_edit_model.specs.Trivia.{Each}
use Rattle.toml_edit_model.specs.Spelling.{SpellsBasic, SpellsLiteral, Part, plain, letter, numbered, part_text, part_value, IsPart}
use Rattle.toml_edit_model.specs.Spelling.{short_escape, hex_digits, is_scalar_value, is_plain, is_literal}
use Rattle.toml_edit_laws.specs.reading.Runs.{first, Read}
use Rattle.toml_edit_laws.specs.reading.Tokens.{prepend, hex_at, escape_at, literal_at, basic_at, string_at}
use Rattle.toml_edit_laws.proofs.reading.RunLaws.{Each-run, prefix_len-run}
use Rattle.toml_edit_laws.proofs.reading.Steps.{chosen, guard_some, same_parts, starts}
use Rattle.toml_edit_laws.proofs.common.OptionSteps.{bind_some, map_some, guard_read}

-- ---- literal strings

-- what reads as a literal string is one
pub literal_takes : (text v rest : List ℕ) → literal_at text ≡ Some (v, rest) → Each is_literal v × (text ≡ v ++ 39 ∷ rest)
unfolding literal_at
literal_takes text v rest e =
    let n = prefix_len is_literal text in
    let (stop, same) = guard_some (first (drop n text) == 39) (take n text, drop 1 (drop n text)) (v, rest) e in
    let (value, after) = same_parts (take n text) v (drop 1 (drop n text)) rest same in
    let whole : text ≡ take n text ++ (39 ∷ drop 1 (drop n text)) = sym (take-append-drop n text)
    ∙ ap (λ (t : List ℕ). take n text ++ t) (starts (drop n text) 39 stop (omega arith)) in
    (subst (Each is_literal) value (Each-run is_literal text), whole ∙ rw (value, after) refl)

-- a literal string is read again
pub literal_again : (v rest : List ℕ) → Each is_literal v → literal_at (v ++ 39 ∷ rest) ≡ Some (v, rest)
unfolding literal_at
literal_again v rest h =
    rw (prefix_len-run is_literal v (39 ∷ rest) h refl, take_at v (39 ∷ rest) _ refl, drop_at v (39 ∷ rest) _ refl) refl

-- ---- escapes

-- one part of a basic string stands at the front
abbrev pub TakesPart : ℕ → List ℕ → List ℕ → Type 0
TakesPart c text rest = (p : Part) × IsPart p × (encode_utf8 c ≡ part_value p) × (92 ∷ text ≡ part_text p ++ rest)

-- what reads as an escape is one
pub escape_takes : (text rest : List ℕ) (c : ℕ) → escape_at text ≡ Some (c, rest) → TakesPart c text rest
unfolding escape_at hex_at
escape_takes [] rest c e = absurd cc
escape_takes (x ∷ xs) rest c e =
    elim (chosen (nat_lt 0 (hex_digits x)) (hex_at (hex_digits x) xs) _ (Some (c, rest)) e) [
      | inl (long, h) ↦
          let n = hex_digits x in
          let (tests, same) = guard_some _ (digits_value 16 (take n xs), drop n xs) (c, rest) h in
          let (digits, scalar) =
          and_parts (nat_le n (length xs) && list_all (λ d. is_digit d 16) (take n xs)) (is_scalar_value (digits_value 16 (take n xs)))
          tests in
          let (room, each) = and_parts (nat_le n (length xs)) (list_all (λ d. is_digit d 16) (take n xs)) digits in
          let len : length (take n xs) ≡ n = length-take-le n xs (leb-true _ _ room) in
          let some : 0 < length (take n xs) = omega (arith, ltb-true _ _ long) in
          let (value, after) = same_parts (digits_value 16 (take n xs)) c (drop n xs) rest same in (
            numbered x (take n xs),
            (some, len, each, scalar),
            ap encode_utf8 (sym value),
            ap (λ (t : List ℕ). 92 ∷ x ∷ t) (sym (take-append-drop n xs) ∙ ap (λ (t : List ℕ). take n xs ++ t) after),
          )
      | inr (short, h) ↦
          let (d, known, same) = map_some (short_escape x) (λ d. (d, xs)) (c, rest) h in
          let (value, after) = same_parts d c xs rest same in
          (letter x, rw known refl, rw known (ap encode_utf8 (sym value)), ap (λ (t : List ℕ). 92 ∷ x ∷ t) after)
    ]

-- a length that a letter has
hex_some : (c : ℕ) (n : ℕ) → 0 < n → n ≡ hex_digits c → nat_lt 0 (hex_digits c) ≡ true
hex_some c n some e = lt-ltb 0 (hex_digits c) (omega (arith, e))

letters_apart : (c : ℕ) → is_some (short_escape c) ≡ true → hex_digits c ≡ 0
letters_apart c h = grind (arith, nat_tests)

-- the value of what is something
known : (o : Option ℕ) → is_some o ≡ true → o ≡ Some (unwrap_or o 0)
known None h = absurd (false≢true h)
known (Some x) h = refl

pub letter_again : (c : ℕ) (rest : List ℕ) → is_some (short_escape c) ≡ true → escape_at (c ∷ rest)
    ≡ Some (unwrap_or (short_escape c) 0, rest)
unfolding escape_at
letter_again c rest h = rw (letters_apart c h) (ap (option_map (λ d. (d, rest))) (known (short_escape c) h))

-- an escape by digits is read again
pub numbered_again : (c : ℕ) (digits rest : List ℕ) → IsPart (numbered c digits) → escape_at (c ∷ (digits ++ rest))
    ≡ Some (digits_value 16 digits, rest)
unfolding escape_at hex_at
numbered_again c digits rest (some, len, each, scalar) =
    let room : nat_le (hex_digits c) (length (digits ++ rest)) ≡ true = le-leb _ _ (omega (arith, len, length-append digits rest)) in
    rw (
      hex_some c (length digits) some len,
      room,
      take_at digits rest (hex_digits c) len,
      drop_at digits rest (hex_digits c) len,
      each,
      scalar,
    ) refl

-- ---- basic strings

-- the parts up to the closing quote
abbrev pub TakesParts : List ℕ → List ℕ → List ℕ → Type 0
TakesParts text v rest = (parts : List Part) × AllByRecursion IsPart parts × (v ≡ flat_map part_value parts)
    × (text ≡ flat_map part_text parts ++ 34 ∷ rest)

-- one part more at the front
takes_more : (p : Part) (text v rest u bytes : List ℕ) → IsPart p → bytes ≡ part_value p → text ≡ part_text p ++ u → TakesParts u v rest
    → TakesParts text (bytes ++ v) rest
takes_more p text v rest u bytes h same front (parts, each, value, whole) = (
  p ∷ parts,
  (h, each),
  rw (same, value) refl,
  front ∙ ap (λ (t : List ℕ). part_text p ++ t) whole
      ∙ sym (append_assoc (part_text p) (flat_map part_text parts) (34 ∷ rest)),
)

-- what stood before was read before it
pub prepend_some : (bytes : List ℕ) (r : Read (List ℕ)) (v rest : List ℕ) → prepend bytes r ≡ Some (v, rest) → (u : List ℕ)
    × (r ≡ Some (u, rest)) × (bytes ++ u ≡ v)
prepend_some bytes r v rest e =
    let (p, found, same) = map_some r (λ (p : List ℕ × List ℕ). (bytes ++ p.0, p.1)) (v, rest) e in
    let (value, after) = same_parts (bytes ++ p.0) v p.1 rest same in
    (p.0, found ∙ ap (λ (t : List ℕ). Some (p.0, t)) after, value)

-- what reads as a basic string is one
pub basic_takes : (n : ℕ) (text v rest : List ℕ) → basic_at n text ≡ Some (v, rest) → TakesParts text v rest
unfolding basic_at
basic_takes zero text v rest e = absurd cc
basic_takes (suc n) [] v rest e = absurd cc
basic_takes (suc n) (c ∷ cs) v rest e =
    elim (chosen (is_plain c) (prepend (c ∷ []) (basic_at n cs)) _ (Some (v, rest)) e) [
      | inl (itself, h) ↦
          let (u, found, value) = prepend_some (c ∷ []) (basic_at n cs) v rest h in
          subst (λ (x : List ℕ). TakesParts (c ∷ cs) x rest) value (takes_more (plain c) (c ∷ cs) u rest cs (c
          ∷ []) itself refl refl (basic_takes n cs u rest found))
      | inr (other, h) ↦ elim (chosen (c == 34) (Some ([], cs)) _ (Some (v, rest)) h) [
        | inl (quote, same) ↦
            let both : ◌≡◌ {A = List ℕ × List ℕ} ([], cs) (v, rest) = cc in
            let (value, after) = same_parts [] v cs rest both in
            ([], tt, sym value, rw (eqb-true c 34 quote, after) refl)
        | inr (inside, g) ↦
            let (escape, f) = guard_read (c == 92) _ (v, rest) g in
            let (x, found, more) = bind_some (escape_at cs) (λ x. prepend (encode_utf8 x.0) (basic_at n x.1)) (v, rest) f in
            let (p, valid, means, stands) = escape_takes cs x.1 x.0 (found ∙ refl) in
            let (u, later, value) = prepend_some (encode_utf8 x.0) (basic_at n x.1) v rest more in
            let front : c ∷ cs ≡ part_text p ++ x.1 = ap (λ (y : ℕ). y ∷ cs) (eqb-true c 92 escape) ∙ stands in
            subst (λ (y : List ℕ). TakesParts (c ∷ cs) y rest) value (takes_more p (c
            ∷ cs) u rest x.1 (encode_utf8 x.0) valid means front (basic_takes n x.1 u rest later))
      ]
    ]

-- a plain byte is taken as it is
pub basic_plain : (n c : ℕ) (cs : List ℕ) → is_plain c ≡ true → basic_at (suc n) (c ∷ cs) ≡ prepend (c ∷ []) (basic_at n cs)
unfolding basic_at
basic_plain n c cs h = rw h

-- an escape is taken as its character
basic_escape : (n : ℕ) (text rest : List ℕ) (c : ℕ) → escape_at text ≡ Some (c, rest) → basic_at (suc n) (92 ∷ text)
    ≡ prepend (encode_utf8 c) (basic_at n rest)
unfolding basic_at
basic_escape n text rest c e = rw e refl

-- a basic string is read again
pub basic_again : (parts : List Part) (rest : List ℕ) (n : ℕ) → AllByRecursion IsPart parts
    → length (flat_map part_text parts ++ 34 ∷ rest) < n
    → basic_at n (flat_map part_text parts ++ 34 ∷ rest) ≡ Some (flat_map part_value parts, rest)
unfolding basic_at
basic_again parts rest zero each room = absurd (omega arith)
basic_again [] rest (suc n) each room = refl
basic_again (plain c ∷ parts) rest (suc n) each room =
    basic_plain n c (flat_map part_text parts ++ 34 ∷ rest) each.0 ∙ ap (prepend (c ∷ [])) (basic_again parts rest n each.1 (omega arith))
basic_again (letter c ∷ parts) rest (suc n) each room =
    basic_escape n _ _ _ (letter_again c (flat_map part_text parts ++ 34 ∷ rest) each.0)
    ∙ ap (prepend (encode_utf8 (unwrap_or (short_escape c) 0))) (basic_again parts rest n each.1 (omega arith))
basic_again (numbered c digits ∷ parts) rest (suc n) each room =
    let later = flat_map part_text parts ++ 34 ∷ rest in
    let grouped : (digits ++ flat_map part_text parts) ++ 34 ∷ rest ≡ digits ++ later =
    append_assoc digits (flat_map part_text parts) (34 ∷ rest) in
    let fits : length later < n = omega (arith, ap length grouped, length-append digits later) in
    ap (λ (t : List ℕ). basic_at (suc n) (92 ∷ c ∷ t)) grouped
    ∙ basic_escape n _ _ _ (numbered_again c digits later each.0)
    ∙ ap (prepend (encode_utf8 (digits_value 16 digits))) (basic_again parts rest n each.1 fits)

-- ---- strings of one line

abbrev pub IsOneLineString : List ℕ → List ℕ → Type 0
IsOneLineString v t = SpellsBasic v t ⊎ SpellsLiteral v t

-- what reads as a string is one
pub string_takes : (text v rest : List ℕ) → string_at text ≡ Some (v, rest) → (t : List ℕ) × IsOneLineString v t × (text ≡ t ++ rest)
unfolding string_at
string_takes [] v rest e = absurd cc
string_takes (c ∷ cs) v rest e =
    elim (chosen (c == 39) (literal_at cs) _ (Some (v, rest)) e) [
      | inl (quote, h) ↦
          let (each, parts) = literal_takes cs v rest h in (
            39 ∷ v ++ 39 ∷ [],
            inr (each, refl),
            ap (λ (x : ℕ). x ∷ cs) (eqb-true c 39 quote)
                ∙ ap (λ (x : List ℕ). 39 ∷ x) (parts ∙ sym (append_assoc v (39 ∷ []) rest)),
          )
      | inr (other, h) ↦
          let (quote, g) = guard_read (c == 34) (basic_at (suc (length cs)) cs) (v, rest) h in
          let (parts, each, value, whole) = basic_takes (suc (length cs)) cs v rest g in (
            34 ∷ flat_map part_text parts ++ 34 ∷ [],
            inl (parts, each, value, refl),
            ap (λ (x : ℕ). x ∷ cs) (eqb-true c 34 quote)
                ∙ ap (λ (x : List ℕ). 34 ∷ x) (whole ∙ sym (append_assoc (flat_map part_text parts) (34 ∷ []) rest)),
          )
    ]

-- a string is read again
pub string_again : (v t rest : List ℕ) → IsOneLineString v t → string_at (t ++ rest) ≡ Some (v, rest)
unfolding string_at
string_again v t rest (inl (parts, each, value, whole)) =
    let body = flat_map part_text parts in
    let grouped : (body ++ 34 ∷ []) ++ rest ≡ body ++ 34 ∷ rest = append_assoc body (34 ∷ []) rest in
    let at : string_at (34 ∷ ((body ++ 34 ∷ []) ++ rest))
    ≡ basic_at (suc (length ((body ++ 34 ∷ []) ++ rest))) ((body ++ 34 ∷ []) ++ rest) = refl in
    ap (λ (x : List ℕ). string_at (x ++ rest)) whole ∙ at ∙ ap (λ (x : List ℕ). basic_at (suc (length x)) x) grouped
    ∙ basic_again parts rest (suc (length (body ++ 34 ∷ rest))) each (omega arith) ∙ ap (λ (x : List ℕ). Some (x, rest)) (sym value)
string_again v t rest (inr (each, whole)) =
    let grouped : (v ++ 39 ∷ []) ++ rest ≡ v ++ 39 ∷ rest = append_assoc v (39 ∷ []) rest in
    ap (λ (x : List ℕ). string_at (x ++ rest)) whole ∙ ap literal_at grouped ∙ literal_again v rest each
