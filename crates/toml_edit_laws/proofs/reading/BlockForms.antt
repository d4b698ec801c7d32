-- The parts of the literal and of the basic form.
use Rattle.std.proofs.Common.{◌≡◌, ℕ, ◌<◌, true, false, not, ◌==◌, [], ◌∷◌, ◌++◌, length, drop, take, Some, is_some, refl, sym, ap, ◌∙◌}
use Rattle.std.proofs.Common.{inl, inr, arith, encode_utf8, take_at, drop_at, eqb-true}
use Rattle.std.proofs.lemmas.Bool.{cases_Bool}
use Rattle.std.proofs.lemmas.Bool.Decides.{nat_tests}
use Rattle.std.proofs.lemmas.List.{take-append-drop}
use Rattle.toml_edit_model.specs.Text.{Text, has_byte}
use Rattle.toml_edit_model.specs.Trivia.{is_blank, lf, crlf}
use Rattle.toml_edit_model.specs.Spelling.{Part, plain, letter, numbered, part_text, part_value, IsPart, short_escape, hex_digits, is_plain}
use Rattle.toml_edit_model.specs.Spelling.{is_literal, one_quote, two_quotes, BlockPart, in_line, next_line, quotes, joint, block_text}
use Rattle.toml_edit_model.specs.Spelling.{block_value, IsJoint, IsBlockPart, is_dropped_part, may_follow}
use Rattle.toml_edit_laws.specs.reading.Runs.{first}
use Rattle.toml_edit_laws.specs.reading.Tokens.{escape_at}
use Rattle.toml_edit_laws.specs.reading.BlockReading.{newline_len, is_gap_byte, gap_len, literal_part_at, escaped_at, basic_part_at}
use Rattle.toml_edit_laws.proofs.reading.Steps.{chosen, guard_some, same_parts}
use Rattle.toml_edit_laws.proofs.common.OptionSteps.{map_some, guard_read}
use Rattle.toml_edit_laws.proofs.reading.StringLaws.{escape_takes, letter_again, numbered_again}
use Rattle.toml_edit_laws.proofs.reading.BlockSteps.{no_newline, gap_on, gap_off, gap_takes, gap_rest, gap_again}
use Rattle.toml_edit_laws.proofs.reading.BlockParts.{PartLaw}

-- ---- the literal form

-- the bytes of a literal string are none that opens, closes or ends a line
pub literal_apart : (x : ℕ) → is_literal x ≡ true → ((x == 39) ≡ false) × ((x == 10) ≡ false) × ((x == 13) ≡ false)
literal_apart x h = (grind (arith, nat_tests), grind (arith, nat_tests), grind (arith, nat_tests))

-- what reads as a part of a literal string is one
literal_part_takes : (t v rest : Text) → literal_part_at t ≡ Some (v, rest)
    → (p : BlockPart ℕ) × IsBlockPart (λ x. is_literal x ≡ true) (λ j. ⊥) p × (v ≡ block_value (λ x. x ∷ []) 39 p)
    × (t ≡ block_text (λ x. x ∷ []) 39 p ++ rest)
    × ((q : BlockPart ℕ) (u : Text) → IsBlockPart (λ x. is_literal x ≡ true) (λ j. ⊥) q → rest ≡ block_text (λ x. x ∷ []) 39 q ++ u
    → may_follow (λ r. false) p q ≡ true)
unfolding literal_part_at
literal_part_takes [] v rest e = absurd cc
literal_part_takes (x ∷ t) v rest e =
    let (itself, same) = guard_some (is_literal x) (x ∷ [], t) (v, rest) e in
    let (says, after) = same_parts (x ∷ []) v t rest same in
    (in_line x, itself, sym says, ap (λ (u : Text). x ∷ u) after, λ q u is f. refl)

-- the literal form is read by its parts
pub literal_law : PartLaw {P = ℕ} (λ x. is_literal x ≡ true) (λ t. ⊥) (λ p. false) (λ x. x ∷ []) (λ x. x ∷ []) 39 literal_part_at
literal_law =
    record {
      some = omega arith;
      no_feed = refl;
      no_return = refl;
      no_slash = refl;
      no_gap = λ u. gap_off 39 u refl;
      takes = literal_part_takes;
      again = λ p u is. unfold literal_part_at in rw is refl;
      joint_again = λ t u join stop. absurd join;
      begins = λ p u is. (literal_apart p is).0;
      no_line = λ p u is. no_newline p u (literal_apart p is).1 (literal_apart p is).2;
      longer = λ p is. omega arith;
      stops = λ t join q u is dropped. absurd join;
    }

-- ---- the basic form

-- the bytes that stand for themselves in a basic string are none that opens, closes or ends a line
pub plain_apart : (x : ℕ) → is_plain x ≡ true → ((x == 34) ≡ false) × ((x == 10) ≡ false) × ((x == 13) ≡ false)
plain_apart x h = (grind (arith, nat_tests), grind (arith, nat_tests), grind (arith, nat_tests))

-- behind what a joint dropped stands nothing that it would drop
joint_leaves : (rest : Text) → gap_len rest ≡ 0 → (q : BlockPart Part) (u : Text) → IsBlockPart IsPart IsJoint q → rest
    ≡ block_text part_text 34 q ++ u → not (is_dropped_part q) ≡ true
joint_leaves rest none (in_line (plain x)) u is e =
    elim (cases_Bool (is_blank x)) [
      | inl blank ↦
          let on : is_gap_byte x (first u) ≡ true = rw blank refl in
          absurd (omega (arith, none, ap gap_len e, gap_on x u on))
      | inr other ↦ rw other refl
    ]
joint_leaves rest none (in_line (letter x)) u is e = refl
joint_leaves rest none (in_line (numbered x digits)) u is e = refl
joint_leaves rest none (next_line lf) u is e = absurd (omega (arith, none, ap gap_len e, gap_on 10 u refl))
joint_leaves rest none (next_line crlf) u is e = absurd (omega (arith, none, ap gap_len e, gap_on 13 (10 ∷ u) refl))
joint_leaves rest none (quotes q) u is e = refl
joint_leaves rest none (joint t) u is e = refl

-- what reads as a part of a basic string is one
basic_part_takes : (t v rest : Text) → basic_part_at t ≡ Some (v, rest)
    → (p : BlockPart Part) × IsBlockPart IsPart IsJoint p × (v ≡ block_value part_value 34 p) × (t ≡ block_text part_text 34 p ++ rest)
    × ((q : BlockPart Part) (u : Text) → IsBlockPart IsPart IsJoint q → rest ≡ block_text part_text 34 q ++ u
    → may_follow is_dropped_part p q ≡ true)
unfolding basic_part_at escaped_at
basic_part_takes [] v rest e = absurd cc
basic_part_takes (x ∷ t) v rest e =
    elim (chosen (is_plain x) (Some (x ∷ [], t)) _ (Some (v, rest)) e) [
      | inl (itself, h) ↦
          let both : ◌≡◌ {A = Text × Text} (x ∷ [], t) (v, rest) = cc in
          let (says, after) = same_parts (x ∷ []) v t rest both in
          (in_line (plain x), itself, sym says, ap (λ (u : Text). x ∷ u) after, λ q u is f. refl)
      | inr (other, h) ↦
          let (slash, g) = guard_read (x == 92) _ (v, rest) h in
          let front : x ∷ t ≡ 92 ∷ t = ap (λ (y : ℕ). y ∷ t) (eqb-true x 92 slash) in
          let n = gap_len t in
          elim (chosen (has_byte 10 (take n t)) (Some ([], drop n t)) _ (Some (v, rest)) g) [
            | inl (feed, f) ↦
                let both : ◌≡◌ {A = Text × Text} ([], drop n t) (v, rest) = cc in
                let (says, after) = same_parts [] v (drop n t) rest both in
                let (gaps, each, whole) = gap_takes t in (
                  joint (take n t),
                  (gaps, each, whole, feed),
                  sym says,
                  front
                      ∙ ap (λ (u : Text). 92 ∷ u) (sym (take-append-drop n t) ∙ ap (λ (u : Text). take n t ++ u) after),
                  joint_leaves rest (ap gap_len (sym after) ∙ gap_rest t),
                )
            | inr (escape, f) ↦
                let (y, found, same) = map_some (escape_at t) (λ y. (encode_utf8 y.0, y.1)) (v, rest) f in
                let (says, after) = same_parts (encode_utf8 y.0) v y.1 rest same in
                let (p, is, means, stands) = escape_takes t y.1 y.0 (found ∙ refl) in
                (in_line p, is, sym says ∙ means, front ∙ stands ∙ ap (λ (u : Text). part_text p ++ u) after, λ q u valid f. refl)
          ]
    ]

-- what names an escape is no white space
letter_no_gap : (x y : ℕ) → is_some (short_escape x) ≡ true → is_gap_byte x y ≡ false
letter_no_gap x y h = grind (arith, nat_tests)

-- nor is what marks an escape by digits
mark_no_gap : (x y : ℕ) → 0 < hex_digits x → is_gap_byte x y ≡ false
mark_no_gap x y h = grind (arith, nat_tests)

-- nor a byte for itself that is not blank
plain_no_gap : (x y : ℕ) → is_plain x ≡ true → not (is_blank x) ≡ true → is_gap_byte x y ≡ false
plain_no_gap x y h other = grind (arith, nat_tests)

-- an escape is read as one behind its backslash
escaped_again : (x : ℕ) (t v rest : Text) (e : ℕ) → is_gap_byte x (first t) ≡ false → escape_at (x ∷ t) ≡ Some (e, rest)
    → escaped_at (x ∷ t) ≡ Some (encode_utf8 e, rest)
unfolding escaped_at
escaped_again x t v rest e none found = rw (gap_off x t none, found) refl

-- a part of a basic string is read again
basic_part_again : (p : Part) (u : Text) → IsPart p → basic_part_at (part_text p ++ u) ≡ Some (part_value p, u)
unfolding basic_part_at
basic_part_again (plain x) u is = rw is refl
basic_part_again (letter x) u is = escaped_again x u [] u _ (letter_no_gap x (first u) is) (letter_again x u is)
basic_part_again (numbered x digits) u is =
    escaped_again x (digits ++ u) [] u _ (mark_no_gap x (first (digits ++ u)) (omega (arith, is.0, is.1))) (numbered_again x digits u is)

-- a joint is read again in front of what it does not drop
basic_joint_again : (t u : Text) → IsJoint t → gap_len u ≡ 0 → basic_part_at (92 ∷ (t ++ u)) ≡ Some ([], u)
unfolding basic_part_at escaped_at
basic_joint_again t u (gaps, each, whole, feed) stop =
    let n : gap_len (t ++ u) ≡ length t = ap (λ (x : Text). gap_len (x ++ u)) whole ∙ gap_again gaps u each stop ∙ ap length (sym whole) in
    rw (n, take_at t u (length t) refl, drop_at t u (length t) refl, feed) refl

-- no part begins with a quote
basic_begins : (p : Part) (u : Text) → IsPart p → (first (part_text p ++ u) == 34) ≡ false
basic_begins (plain x) u is = (plain_apart x is).0
basic_begins (letter x) u is = refl
basic_begins (numbered x digits) u is = refl

-- no part begins with a newline
basic_no_line : (p : Part) (u : Text) → IsPart p → newline_len (part_text p ++ u) ≡ 0
basic_no_line (plain x) u is = no_newline x u (plain_apart x is).1 (plain_apart x is).2
basic_no_line (letter x) u is = no_newline 92 (x ∷ u) refl refl
basic_no_line (numbered x digits) u is = no_newline 92 (x ∷ (digits ++ u)) refl refl

-- no part is empty
basic_longer : (p : Part) → IsPart p → 0 < length (part_text p)
basic_longer (plain x) is = omega arith
basic_longer (letter x) is = omega arith
basic_longer (numbered x digits) is = omega arith

-- what is not dropped begins with no gap
basic_stops : (t : Text) → IsJoint t → (q : BlockPart Part) (u : Text) → IsBlockPart IsPart IsJoint q → not (is_dropped_part q) ≡ true
    → gap_len (block_text part_text 34 q ++ u) ≡ 0
basic_stops t join (in_line (plain x)) u is dropped = gap_off x u (plain_no_gap x (first u) is dropped)
basic_stops t join (in_line (letter x)) u is dropped = gap_off 92 (x ∷ u) refl
basic_stops t join (in_line (numbered x digits)) u is dropped = gap_off 92 (x ∷ (digits ++ u)) refl
basic_stops t join (next_line m) u is dropped = absurd cc
basic_stops t join (quotes one_quote) u is dropped = gap_off 34 u refl
basic_stops t join (quotes two_quotes) u is dropped = gap_off 34 (34 ∷ u) refl
basic_stops t join (joint s) u is dropped = gap_off 92 (s ++ u) refl

-- the basic form is read by its parts
pub basic_law : PartLaw IsPart IsJoint is_dropped_part part_value part_text 34 basic_part_at
basic_law =
    record {
      some = omega arith;
      no_feed = refl;
      no_return = refl;
      no_slash = refl;
      no_gap = λ u. gap_off 34 u refl;
      takes = basic_part_takes;
      again = basic_part_again;
      joint_again = basic_joint_again;
      begins = basic_begins;
      no_line = basic_no_line;
      longer = basic_longer;
      stops = basic_stops;
    }
