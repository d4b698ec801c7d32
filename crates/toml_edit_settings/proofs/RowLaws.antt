-- Rows of answers for what is left of a text.
use Rattle.std.proofs.Common.{◌≡◌, ℕ, ◌+◌, ◌<◌, ◌≤◌, Bool, true, false, ◌==◌, ◌&&◌, ◌||◌, not, List, [], ◌∷◌, length, get_or, drop, set, sym, ap, ◌∙◌, arith, inl, inr}
use Rattle.std.proofs.lemmas.Bool.{cases_eq}
use Rattle.std.proofs.lemmas.List.{at_drop_more, at_drop_all, get_or-set_same, get_or-set_other}
use Rattle.std.specs.Prelude.{if◌then◌else◌}
use Rattle.toml_edit_model.specs.Excerpt.{is_continuation}
use Rattle.toml_edit_model.specs.Text.{Text}
use Rattle.toml_edit_settings.specs.Patterns.{AreRests, Test, after_character, any_rest, itself, one_character, slash}

-- below this byte the row has what the one test says, from it on what the other one says
pub record AreRestsAt (below above : Test) (t : Text) (row : List Bool) (at : ℕ) : Type 0 where
  pub before : (k : ℕ) → k < at → get_or row k false ≡ below (drop k t)
  pub after : (k : ℕ) → at ≤ k → k ≤ length t → get_or row k false ≡ above (drop k t)

-- ---- one byte more

-- from the right
pub put_below : {below above : Test} {t : Text} {row : List Bool} (at i : ℕ) (b : Bool) → at ≡ i + 1 → i < length row
    → AreRestsAt below above t row at → b ≡ above (drop i t) → AreRestsAt below above t (set row i b) i
put_below {row = row} at i b e h rests is = record {
  before = λ k lt. get_or-set_other row i k b false (λ same. omega arith) ∙ rests.before k (omega arith);
  after = λ k lo hi. elim (cases_eq k i) [
    | inl same ↦ rw same (get_or-set_same row i b false h ∙ is)
    | inr other ↦ get_or-set_other row i k b false other ∙ rests.after k (omega arith) hi
  ];
}

-- from the left
pub put_above : {below above : Test} {t : Text} {row : List Bool} (i : ℕ) (b : Bool) → i < length row
    → AreRestsAt below above t row i → b ≡ below (drop i t) → AreRestsAt below above t (set row i b) (i + 1)
put_above {row = row} i b h rests is = record {
  before = λ k lt. elim (cases_eq k i) [
    | inl same ↦ rw same (get_or-set_same row i b false h ∙ is)
    | inr other ↦ get_or-set_other row i k b false other ∙ rests.before k (omega arith)
  ];
  after = λ k lo hi. get_or-set_other row i k b false (λ same. omega arith) ∙ rests.after k (omega arith) hi;
}

-- the end, where the row is written: it is no such text
pub end_put : {below above : Test} {t : Text} {row : List Bool} (at : ℕ) → at ≡ length t → length t < length row → AreRestsAt below above t row at
    → below [] ≡ false → AreRests below t (set row (length t) false)
end_put {below} {above} {t} {row} at is h rests e k hi = elim (cases_eq k (length t)) [
  | inl same ↦ rw same (get_or-set_same row (length t) false false h ∙ sym (at_drop_all below t (length t) (omega arith) ∙ e))
  | inr other ↦ get_or-set_other row (length t) k false false other ∙ rests.before k (omega arith)
]

-- ---- what is at a byte

module _ (is_such : Test) (t : Text) (i : ℕ) (h : i < length t) where
  pub any_there : (crosses here next b : Bool) → here ≡ is_such (drop i t) → next ≡ any_rest crosses is_such (drop (i + 1) t)
      → b ≡ here || ((crosses || not (get_or t i 0 == slash)) && next) → b ≡ any_rest crosses is_such (drop i t)
  any_there crosses here next b here-is next-is is =
      let whole : any_rest crosses is_such (drop i t) ≡ (is_such (get_or t i 0 ∷ drop (i + 1) t) || ((crosses || not (get_or t i 0 == slash)) && any_rest crosses is_such (drop (i + 1) t)))
      = at_drop_more (any_rest crosses is_such) t i 0 h in
      let this : is_such (drop i t) ≡ is_such (get_or t i 0 ∷ drop (i + 1) t) = at_drop_more is_such t i 0 h in
      is ∙ ap (λ x. x || ((crosses || not (get_or t i 0 == slash)) && next)) (here-is ∙ this)
      ∙ ap (λ x. is_such (get_or t i 0 ∷ drop (i + 1) t) || ((crosses || not (get_or t i 0 == slash)) && x)) next-is
      ∙ sym whole

  pub one_there : (after b : Bool) → after ≡ is_such (after_character (drop (i + 1) t))
      → b ≡ not (get_or t i 0 == slash) && after → b ≡ one_character is_such (drop i t)
  one_there after b after-is is =
      let whole : one_character is_such (drop i t) ≡ (not (get_or t i 0 == slash) && is_such (after_character (drop (i + 1) t)))
      = at_drop_more (one_character is_such) t i 0 h in
      is ∙ ap (λ x. not (get_or t i 0 == slash) && x) after-is ∙ sym whole

  pub after_there : (here after b : Bool) → here ≡ is_such (drop i t) → after ≡ is_such (after_character (drop (i + 1) t))
      → b ≡ (if is_continuation (get_or t i 0) then after else here) → b ≡ is_such (after_character (drop i t))
  after_there here after b here-is after-is is =
      let whole : is_such (after_character (drop i t)) ≡ is_such (if is_continuation (get_or t i 0) then after_character (drop (i + 1) t) else (get_or t i 0 ∷ drop (i + 1) t))
      = at_drop_more (λ u. is_such (after_character u)) t i 0 h in
      is ∙ chosen (is_continuation (get_or t i 0)) ∙ sym whole
    where
      chosen : (c : Bool) → (if c then after else here) ≡ is_such (if c then after_character (drop (i + 1) t) else (get_or t i 0 ∷ drop (i + 1) t))
      chosen true = after-is
      chosen false = here-is ∙ at_drop_more is_such t i 0 h

  pub itself_there : (byte : ℕ) (next b : Bool) → next ≡ is_such (drop (i + 1) t) → b ≡ (get_or t i 0 == byte) && next → b ≡ itself byte is_such (drop i t)
  itself_there byte next b next-is is =
      let whole : itself byte is_such (drop i t) ≡ ((get_or t i 0 == byte) && is_such (drop (i + 1) t)) = at_drop_more (itself byte is_such) t i 0 h in
      is ∙ ap (λ x. (get_or t i 0 == byte) && x) next-is ∙ sym whole
