-- What reads as a string of several lines is one, and such a string is read again.
use Rattle.std.proofs.Common.{◌≡◌, ◌⊎◌, ℕ, true, false, not, ◌==◌, ◌&&◌, ◌||◌, List, [], ◌∷◌, ◌++◌, length, slice_index, Some, refl, ap}
use Rattle.std.proofs.Common.{◌∙◌, inl, inr, arith, eqb-true}
use Rattle.std.specs.List.{flat_map, AllByRecursion, list_all}
use Rattle.std.proofs.lemmas.Bool.{and_parts, ne_eqb}
use Rattle.std.proofs.lemmas.Bool.Decides.{nat_tests}
use Rattle.toml_edit_model.specs.Text.{Text}
use Rattle.toml_edit_model.specs.Trivia.{Each}
use Rattle.toml_edit_model.specs.Spelling.{Part, plain, letter, numbered, part_text, part_value, IsPart, is_literal, IsJoint}
use Rattle.toml_edit_model.specs.Spelling.{is_dropped_part, SpellsMultilineBasic, SpellsMultilineLiteral, SpellsBasic, SpellsLiteral}
use Rattle.toml_edit_laws.specs.reading.Runs.{first}
use Rattle.toml_edit_laws.specs.reading.BlockReading.{has_three, opens_block, ends_block, literal_part_at, basic_part_at, parts_at, inside}
use Rattle.toml_edit_laws.specs.reading.BlockReading.{block_at}
use Rattle.toml_edit_laws.proofs.reading.Steps.{chosen}
use Rattle.toml_edit_laws.proofs.common.OptionSteps.{guard_read}
use Rattle.toml_edit_laws.proofs.reading.BlockParts.{form_takes, form_opens, form_again}
use Rattle.toml_edit_laws.proofs.reading.BlockForms.{literal_apart, literal_law, plain_apart, basic_law}

-- ---- strings of several lines

-- what reads as a string of several lines is one
pub block_takes : (t rest v : Text) → block_at t ≡ Some (v, rest) → (spelled : Text)
    × (SpellsMultilineBasic v spelled ⊎ SpellsMultilineLiteral v spelled) × (t ≡ spelled ++ rest)
unfolding block_at
block_takes t rest v e =
    elim (chosen (has_three 34 t) (parts_at basic_part_at 34 (length t) (inside t)) _ (Some (v, rest)) e) [
      | inl (basic, h) ↦
          let (spelled, is, whole) =
          form_takes Part IsPart IsJoint is_dropped_part part_value part_text 34 basic_part_at basic_law (length t) t v rest basic h in
          (spelled, inl is, whole)
      | inr (other, h) ↦
          let (literal, g) = guard_read (has_three 39 t) (parts_at literal_part_at 39 (length t) (inside t)) (v, rest) h in
          let (spelled, is, whole) =
          form_takes ℕ (λ x. is_literal x ≡ true) (λ j. ⊥) (λ p. false) (λ x. x ∷ []) (λ x. x
          ∷ []) 39 literal_part_at literal_law (length t) t v rest literal g in
          (spelled, inr is, whole)
    ]

-- a byte that is neither quote
neither_quote : (x : ℕ) → not (x == 34 || x == 39) ≡ true → ((x == 34) ≡ false) × ((x == 39) ≡ false)
neither_quote x h = (grind (arith, nat_tests), grind (arith, nat_tests))

-- what ends a string of several lines is neither quote
no_quotes : (t : Text) → ends_block t ≡ true → ((first t == 34) ≡ false) × ((first t == 39) ≡ false)
no_quotes t h = neither_quote (first t) h

-- three of one quote are not three of the other
one_kind : (t : Text) → has_three 39 t ≡ true → has_three 34 t ≡ false
one_kind t h =
    let (two, third) = and_parts (first t == 39 && slice_index t 1 == 39) (slice_index t 2 == 39) h in
    let (one, second) = and_parts (first t == 39) (slice_index t 1 == 39) two in
    let apart : (first t == 34) ≡ false = ne_eqb (first t) 34 (omega (arith, eqb-true (first t) 39 one)) in
    rw apart refl

-- such a string opens with three quotes
pub block-opens_before : (v spelled rest : Text) → SpellsMultilineBasic v spelled ⊎ SpellsMultilineLiteral v spelled
    → opens_block (spelled ++ rest) ≡ true
block-opens_before v spelled rest (inl is) =
    rw (form_opens Part IsPart IsJoint is_dropped_part part_value part_text 34 basic_part_at basic_law v spelled rest is) refl
block-opens_before v spelled rest (inr is) =
    let e = form_opens ℕ (λ x. is_literal x ≡ true) (λ j. ⊥) (λ p. false) (λ x. x ∷ []) (λ x. x
    ∷ []) 39 literal_part_at literal_law v spelled rest is in
    rw (one_kind (spelled ++ rest) e, e) refl

-- such a string is read again in front of no quote
pub block_again : (v spelled rest : Text) → SpellsMultilineBasic v spelled ⊎ SpellsMultilineLiteral v spelled → ends_block rest ≡ true
    → block_at (spelled ++ rest) ≡ Some (v, rest)
unfolding block_at
block_again v spelled rest (inl is) stop =
    rw (form_opens Part IsPart IsJoint is_dropped_part part_value part_text 34 basic_part_at basic_law v spelled rest is)
    (form_again Part IsPart IsJoint is_dropped_part part_value part_text 34 basic_part_at basic_law v spelled rest is
    (no_quotes rest stop).0)
block_again v spelled rest (inr is) stop =
    let e = form_opens ℕ (λ x. is_literal x ≡ true) (λ j. ⊥) (λ p. false) (λ x. x ∷ []) (λ x. x
    ∷ []) 39 literal_part_at literal_law v spelled rest is in
    rw (one_kind (spelled ++ rest) e, e)
    (form_again ℕ (λ x. is_literal x ≡ true) (λ j. ⊥) (λ p. false) (λ x. x ∷ []) (λ x. x
    ∷ []) 39 literal_part_at literal_law v spelled rest is (no_quotes rest stop).1)

-- a basic string of one line does not open so
basic_opens_none : (parts : List Part) (rest : Text) → AllByRecursion IsPart parts → ends_block rest ≡ true
    → opens_block ((34 ∷ flat_map part_text parts ++ 34 ∷ []) ++ rest) ≡ false
basic_opens_none [] rest each stop = rw (no_quotes rest stop).0 refl
basic_opens_none (plain x ∷ parts) rest each stop = rw (plain_apart x each.0).0 refl
basic_opens_none (letter x ∷ parts) rest each stop = refl
basic_opens_none (numbered x digits ∷ parts) rest each stop = refl

-- nor does a literal one
literal_opens_none : (w rest : Text) → Each is_literal w → ends_block rest ≡ true → opens_block ((39 ∷ w ++ 39 ∷ []) ++ rest) ≡ false
literal_opens_none [] rest each stop = rw (no_quotes rest stop).1 refl
literal_opens_none (x ∷ w) rest each stop =
    let (here, later) = and_parts (is_literal x) (list_all is_literal w) each in
    rw (literal_apart x here).0 refl

-- a string of one line does not open so
pub line-opens_none : (w t rest : Text) → SpellsBasic w t ⊎ SpellsLiteral w t → ends_block rest ≡ true → opens_block (t ++ rest) ≡ false
line-opens_none w t rest (inl (parts, each, says, whole)) stop = ap (λ (x : Text). opens_block (x ++ rest)) whole
    ∙ basic_opens_none parts rest each stop
line-opens_none w t rest (inr (each, whole)) stop = ap (λ (x : Text). opens_block (x ++ rest)) whole ∙ literal_opens_none w rest each stop
