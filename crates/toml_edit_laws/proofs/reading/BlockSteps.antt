-- Quotes, newlines and gaps of a string of several lines, and the steps in which it is read.
use Rattle.std.proofs.Common.{◌≡◌, ◌⊎◌, ℕ, zero, suc, ◌+◌, ◌<◌, ◌≤◌, true, false, ◌==◌, ◌&&◌, List, [], ◌∷◌, ◌++◌, length, drop, take}
use Rattle.std.proofs.Common.{slice_index, nat_lt, Some, replicate, refl, sym, ap, ◌∙◌, inl, inr, arith, append_assoc, eqb-true, one-add}
use Rattle.std.specs.List.{flat_map, AllByRecursion}
use Rattle.std.proofs.lemmas.Bool.{cases_Bool, and_parts, ne_eqb, eq-eqb, false≢true}
use Rattle.std.proofs.lemmas.Bool.Decides.{nat_tests}
use Rattle.toml_edit_model.specs.Text.{Text}
use Rattle.toml_edit_model.specs.Trivia.{is_blank, Newline, lf, crlf, newline_text}
use Rattle.toml_edit_model.specs.Spelling.{Quotes, one_quote, two_quotes, quotes_text, JointPiece, white, line_break, joint_piece_text}
use Rattle.toml_edit_model.specs.Spelling.{IsJointPiece, three}
use Rattle.toml_edit_laws.specs.reading.Runs.{first, Read}
use Rattle.toml_edit_laws.specs.reading.Tokens.{prepend}
use Rattle.toml_edit_laws.specs.reading.BlockReading.{run_of, newline_len, is_gap_byte, gap_len, parts_at}
use Rattle.toml_edit_laws.proofs.reading.Steps.{starts}

-- ---- runs of quotes

-- no quote stands at the front
run_of-other : (c : ℕ) (t : Text) → (first t == c) ≡ false → run_of c t ≡ 0
run_of-other c [] h = refl
run_of-other c (x ∷ t) h = rw h refl

-- behind a run of quotes stands none
pub run_rest : (c : ℕ) (t : Text) → 0 < c → (first (drop (run_of c t) t) == c) ≡ false
run_rest c [] some = ne_eqb 0 c (omega arith)
run_rest c (x ∷ t) some =
    elim (cases_Bool (x == c)) [
      | inl quote ↦ rw (quote, one-add) (run_rest c t some)
      | inr other ↦ rw other other
    ]

-- the quotes at the front
pub own_front : (c k : ℕ) (t : Text) → k ≤ run_of c t → t ≡ replicate k c ++ drop k t
own_front c zero t h = refl
own_front c (suc k) [] h = absurd (omega arith)
own_front c (suc k) (x ∷ t) h =
    elim (cases_Bool (x == c)) [
      | inl quote ↦
          let more : 1 + run_of c t ≡ run_of c (x ∷ t) = rw quote refl in
          ap (λ (y : ℕ). y ∷ t) (eqb-true x c quote) ∙ ap (λ (u : Text). c ∷ u) (own_front c k t (omega arith))
      | inr other ↦
          let none : run_of c (x ∷ t) ≡ 0 = rw other refl in
          absurd (omega arith)
    ]

-- ---- newlines

-- a carriage return and a line feed
return_feed : (t : Text) → (first t == 13) ≡ true → (slice_index t 1 == 10) ≡ true → take 2 t ≡ 13 ∷ 10 ∷ []
return_feed [] a b = absurd cc
return_feed (x ∷ []) a b = absurd cc
return_feed (x ∷ y ∷ t) a b = ap (λ (c : ℕ). c ∷ y ∷ []) (eqb-true x 13 a) ∙ ap (λ (c : ℕ). 13 ∷ c ∷ []) (eqb-true y 10 b)

-- a newline at the front
pub newline_takes : (t : Text) → nat_lt 0 (newline_len t) ≡ true → (m : Newline) × (take (newline_len t) t ≡ newline_text m)
unfolding newline_len
newline_takes [] h = absurd cc
newline_takes (x ∷ t) h =
    elim (cases_Bool (x == 10)) [
      | inl feed ↦ (lf, rw feed (ap (λ (y : ℕ). y ∷ []) (eqb-true x 10 feed)))
      | inr other ↦ elim (cases_Bool (x == 13 && first t == 10)) [
        | inl both ↦
            let (return, feed) = and_parts (x == 13) (first t == 10) both in
            (crlf, rw (other, both) (return_feed (x ∷ t) return feed))
        | inr neither ↦
            let none : newline_len (x ∷ t) ≡ 0 = rw (other, neither) refl in
            absurd (false≢true (sym (ap (nat_lt 0) none) ∙ h))
      ]
    ]

-- and its length
pub newline_again : (m : Newline) (t : Text) → newline_len (newline_text m ++ t) ≡ length (newline_text m)
unfolding newline_len
newline_again lf t = refl
newline_again crlf t = refl

-- a newline is not empty
pub newline_some : (m : Newline) → 0 < length (newline_text m)
newline_some lf = omega arith
newline_some crlf = omega arith

-- no newline begins with another byte
pub no_newline : (x : ℕ) (t : Text) → (x == 10) ≡ false → (x == 13) ≡ false → newline_len (x ∷ t) ≡ 0
unfolding newline_len
no_newline x t feed return = rw (feed, return) refl

-- ---- white space and newlines

-- the gaps at the front
abbrev pub TakesGaps : Text → Type 0
TakesGaps t = (gaps : List JointPiece) × AllByRecursion IsJointPiece gaps × (take (gap_len t) t ≡ flat_map joint_piece_text gaps)

-- a byte of a gap
pub gap_on : (x : ℕ) (t : Text) → is_gap_byte x (first t) ≡ true → gap_len (x ∷ t) ≡ suc (gap_len t)
unfolding gap_len
gap_on x t h = rw h refl

-- a byte of none
pub gap_off : (x : ℕ) (t : Text) → is_gap_byte x (first t) ≡ false → gap_len (x ∷ t) ≡ 0
unfolding gap_len
gap_off x t h = rw h refl

-- which byte of a gap it is
gap_cases : (x y : ℕ) → is_gap_byte x y ≡ true → (is_blank x ≡ true) ⊎ ((x ≡ 10) ⊎ ((x ≡ 13) × (y ≡ 10)))
gap_cases x y h = elim (cases_Bool (is_blank x)) [
  | inl blank ↦ inl blank
  | inr other ↦ elim (cases_Bool (x == 10)) [
    | inl feed ↦ inr (inl (eqb-true x 10 feed))
    | inr none ↦
        let both : (x == 13 && y == 10) ≡ true = sym (rw (other, none) refl) ∙ h in
        let (return, feed) = and_parts (x == 13) (y == 10) both in
        inr (inr (eqb-true x 13 return, eqb-true y 10 feed))
  ]
]

-- one byte of a gap more
gap_step : (x : ℕ) (t : Text) → is_gap_byte x (first t) ≡ true → TakesGaps t → TakesGaps (drop 1 t)
    → (gaps : List JointPiece) × AllByRecursion IsJointPiece gaps × (x ∷ take (gap_len t) t ≡ flat_map joint_piece_text gaps)
gap_step x t on (gaps, each, whole) (later, valid, rest) =
    elim (gap_cases x (first t) on) [
      | inl blank ↦ (white x ∷ gaps, (blank, each), ap (λ (u : Text). x ∷ u) whole)
      | inr (inl feed) ↦ (line_break lf ∷ gaps, (tt, each), ap (λ (y : ℕ). y ∷ take (gap_len t) t) feed ∙ ap (λ (u : Text). 10 ∷ u) whole)
      | inr (inr (return, feed)) ↦
          let u = drop 1 t in
          let e : t ≡ 10 ∷ u = starts t 10 (eq-eqb (first t) 10 feed) (omega arith) in
          let two : take (gap_len (10 ∷ u)) (10 ∷ u) ≡ 10 ∷ take (gap_len u) u = rw (gap_on 10 u refl) refl in (
            line_break crlf ∷ later,
            (tt, valid),
            ap (λ (y : ℕ). y ∷ take (gap_len t) t) return ∙ ap (λ (v : Text). 13 ∷ take (gap_len v) v) e
                ∙ ap (λ (v : Text). 13 ∷ v) two ∙ ap (λ (v : Text). 13 ∷ 10 ∷ v) rest,
          )
    ]

-- what is dropped is white space and newlines
pub gap_takes : (t : Text) → TakesGaps t
unfolding gap_len
gap_takes [] = ([], tt, refl)
gap_takes (x ∷ []) =
    elim (cases_Bool (is_gap_byte x 0)) [
      | inl on ↦ rw (gap_on x [] on) (gap_step x [] on (gap_takes []) (gap_takes []))
      | inr off ↦ rw (gap_off x [] off) ([], tt, refl)
    ]
gap_takes (x ∷ y ∷ t) =
    elim (cases_Bool (is_gap_byte x y)) [
      | inl on ↦ rw (gap_on x (y ∷ t) on) (gap_step x (y ∷ t) on (gap_takes (y ∷ t)) (gap_takes t))
      | inr off ↦ rw (gap_off x (y ∷ t) off) ([], tt, refl)
    ]

-- behind the gaps stands none
pub gap_rest : (t : Text) → gap_len (drop (gap_len t) t) ≡ 0
gap_rest [] = unfold gap_len in refl
gap_rest (x ∷ t) =
    elim (cases_Bool (is_gap_byte x (first t))) [
      | inl on ↦ rw (gap_on x t on) (gap_rest t)
      | inr off ↦ rw (gap_off x t off) (gap_off x t off)
    ]

-- gaps are found again
pub gap_again : (gaps : List JointPiece) (u : Text) → AllByRecursion IsJointPiece gaps → gap_len u ≡ 0
    → gap_len (flat_map joint_piece_text gaps ++ u) ≡ length (flat_map joint_piece_text gaps)
gap_again [] u each stop = stop
gap_again (white x ∷ gaps) u each stop =
    let on : is_gap_byte x (first (flat_map joint_piece_text gaps ++ u)) ≡ true = rw each.0 refl in
    gap_on x (flat_map joint_piece_text gaps ++ u) on ∙ ap suc (gap_again gaps u each.1 stop)
gap_again (line_break lf ∷ gaps) u each stop = gap_on 10 (flat_map joint_piece_text gaps ++ u) refl ∙ ap suc (gap_again gaps u each.1 stop)
gap_again (line_break crlf ∷ gaps) u each stop =
    gap_on 13 (10 ∷ (flat_map joint_piece_text gaps ++ u)) refl
    ∙ ap suc (gap_on 10 (flat_map joint_piece_text gaps ++ u) refl ∙ ap suc (gap_again gaps u each.1 stop))

-- ---- small steps

-- a test, the other way round
pub other_way : (a b : ℕ) → (a == b) ≡ false → (b == a) ≡ false
other_way a b h = grind (arith, nat_tests)

-- four texts, grouped to the right
pub regroup : (a b end rest : Text) → (a ++ (b ++ end)) ++ rest ≡ a ++ (b ++ (end ++ rest))
regroup a b end rest = append_assoc a (b ++ end) rest ∙ ap (λ (x : Text). a ++ x) (append_assoc b end rest)

-- ---- steps of the reading

module _ (part_at : Text → Read Text) (c : ℕ) where
  -- quotes that close nothing
  pub step_quotes : (q : Quotes) (n : ℕ) (t : Text) → (first t == c) ≡ false → parts_at part_at c (suc n) (quotes_text c q ++ t)
      ≡ prepend (quotes_text c q) (parts_at part_at c n t)
  unfolding parts_at
  step_quotes one_quote n t h = rw (eq-eqb c c refl, run_of-other c t h) refl
  step_quotes two_quotes n t h = rw (eq-eqb c c refl, run_of-other c t h) refl

  -- the closing quotes
  pub step_close : (n : ℕ) (t : Text) → (first t == c) ≡ false → parts_at part_at c (suc n) (three c ++ t) ≡ Some ([], t)
  unfolding parts_at
  step_close n t h = rw (eq-eqb c c refl, run_of-other c t h) refl

  -- the closing quotes behind quotes of the string
  pub step_last : (q : Quotes) (n : ℕ) (t : Text) → (first t == c) ≡ false → parts_at part_at c (suc n) (quotes_text c q ++ (three c ++ t))
      ≡ Some (quotes_text c q, t)
  unfolding parts_at
  step_last one_quote n t h = rw (eq-eqb c c refl, run_of-other c t h) refl
  step_last two_quotes n t h = rw (eq-eqb c c refl, run_of-other c t h) refl

  -- a newline
  pub step_line : (m : Newline) (n : ℕ) (t : Text) → (10 == c) ≡ false → (13 == c) ≡ false
      → parts_at part_at c (suc n) (newline_text m ++ t) ≡ prepend (newline_text m) (parts_at part_at c n t)
  unfolding parts_at newline_len
  step_line lf n t feed return = rw feed refl
  step_line crlf n t feed return = rw return refl

  -- a part of a line
  pub step_part : (n : ℕ) (t v u : Text) → (first t == c) ≡ false → newline_len t ≡ 0 → part_at t ≡ Some (v, u)
      → parts_at part_at c (suc n) t ≡ prepend v (parts_at part_at c n u)
  unfolding parts_at
  step_part n t v u h line found = rw (run_of-other c t h, line, found) refl
