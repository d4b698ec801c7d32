-- The first newline or comment of trivia is the first of its late places.
use Rattle.std.proofs.Common.{◌≡◌, refl, sym, ap, ◌∙◌, subst, ℕ, suc, ◌+◌, ◌-◌, true, false, ◌==◌, List, [], ◌∷◌, ◌++◌, append_assoc}
use Rattle.std.proofs.Common.{length, arith, Some, inl, inr}
use Rattle.std.specs.Prelude.{flat_map}
use Rattle.std.specs.List.{list_all, AllByRecursion, prefix_len}
use Rattle.std.proofs.lemmas.Bool.{cases_Bool, and_parts}
use Rattle.std.proofs.lemmas.Bool.Decides.{nat_tests}
use Rattle.toml_edit_model.specs.Text.{Text, line_feed, carriage_return, hash}
use Rattle.toml_edit_model.specs.Trivia.{Each, is_blank, is_visible, Newline, lf, crlf, newline_text, Piece, blank, break, remark}
use Rattle.toml_edit_model.specs.Trivia.{piece_text, IsPiece, IsWholeTrivia}
use Rattle.toml_edit_model.specs.Version.{late_trivia, nothing_yet, comment_from}
use Rattle.toml_edit_laws.proofs.reading.RunLaws.{prefix_len-run}
use Rattle.toml_edit_syntax.specs.LateSpellings.{span_from}
use Rattle.toml_edit_syntax.specs.LateTrivia.{is_in_line, late_in_trivia}
use Rattle.toml_edit_syntax.proofs.late.Places.{first_of}

abbrev Agrees : Text → Type 0
Agrees t = (i : ℕ) → late_in_trivia i t ≡ first_of (late_trivia nothing_yet i t)

blank_on : (c : ℕ) (t : Text) → (c == line_feed) ≡ false → (c == carriage_return) ≡ false → (c == hash) ≡ false → Agrees t → Agrees (c ∷ t)
blank_on c t a b d h i =
    let next : i + 1 ≡ suc i = omega arith in
    rw (a, b, d) (ap (λ (j : ℕ). late_in_trivia j t) next ∙ h (suc i))

newline_on : (n : Newline) (t : Text) → Agrees (newline_text n ++ t)
newline_on lf t i = refl
newline_on crlf t i = refl

-- ---- a comment

visible_in_line : (c : ℕ) → is_visible c ≡ true → is_in_line c ≡ true
visible_in_line c is = grind (arith, nat_tests)

not_feed : (c : ℕ) → is_visible c ≡ true → (c == line_feed) ≡ false
not_feed c is = grind (arith, nat_tests)

not_return : (c : ℕ) → is_visible c ≡ true → (c == carriage_return) ≡ false
not_return c is = grind (arith, nat_tests)

all_in_line : (body : Text) → Each is_visible body → Each is_in_line body
all_in_line [] each = refl
all_in_line (c ∷ body) each =
    let both = and_parts (is_visible c) (list_all is_visible body) each in
    rw (visible_in_line c both.0) (all_in_line body both.1)

-- up to the newline, the comment that began at `j` is open
open_to : (j : ℕ) (body : Text) (n : Newline) (t : Text) → Each is_visible body → (k : ℕ)
    → first_of (late_trivia (comment_from j) k (body ++ (newline_text n ++ t))) ≡ Some (span_from j (k + length body - j))
open_to j [] lf t each k = let same : k - j ≡ k + 0 - j = omega arith in ap (λ (m : ℕ). Some (span_from j m)) same
open_to j [] crlf t each k = let same : k - j ≡ k + 0 - j = omega arith in ap (λ (m : ℕ). Some (span_from j m)) same
open_to j (c ∷ body) n t each k =
    let both = and_parts (is_visible c) (list_all is_visible body) each in
    let same : suc k + length body - j ≡ k + length (c ∷ body) - j = omega arith in
    let later = open_to j body n t both.1 (suc k) ∙ ap (λ (m : ℕ). Some (span_from j m)) same in
    elim (cases_Bool (c == hash)) [
      | inl is ↦ rw (not_feed c both.0, not_return c both.0, is) later
      | inr other ↦ rw (not_feed c both.0, not_return c both.0, other) later
    ]

body_len : (body : Text) (n : Newline) (t : Text) → Each is_visible body → prefix_len is_in_line (body ++ (newline_text n ++ t))
    ≡ length body
body_len body lf t each = prefix_len-run is_in_line body (newline_text lf ++ t) (all_in_line body each) refl
body_len body crlf t each = prefix_len-run is_in_line body (newline_text crlf ++ t) (all_in_line body each) refl

comment_on : (body : Text) (n : Newline) (t : Text) → Each is_visible body → Agrees (hash ∷ (body ++ (newline_text n ++ t)))
comment_on body n t each i =
    let size : 1 + prefix_len is_in_line (body ++ (newline_text n ++ t)) ≡ suc i + length body - i =
    omega (arith, body_len body n t each) in
    ap (λ (m : ℕ). Some (span_from i m)) size ∙ sym (open_to i body n t each (suc i))

-- ---- pieces

blank_feed : (c : ℕ) → is_blank c ≡ true → (c == line_feed) ≡ false
blank_feed c is = grind (arith, nat_tests)

blank_return : (c : ℕ) → is_blank c ≡ true → (c == carriage_return) ≡ false
blank_return c is = grind (arith, nat_tests)

blank_hash : (c : ℕ) → is_blank c ≡ true → (c == hash) ≡ false
blank_hash c is = grind (arith, nat_tests)

pieces_on : (ps : List Piece) → AllByRecursion IsPiece ps → Agrees (flat_map piece_text ps)
pieces_on [] all = λ i. refl
pieces_on (blank c ∷ ps) all =
    blank_on c (flat_map piece_text ps) (blank_feed c all.0) (blank_return c all.0) (blank_hash c all.0) (pieces_on ps all.1)
pieces_on (break n ∷ ps) all = newline_on n (flat_map piece_text ps)
pieces_on (remark body n ∷ ps) all =
    subst Agrees (ap (λ (x : Text). hash ∷ x) (sym (append_assoc body (newline_text n) (flat_map piece_text ps))))
    (comment_on body n (flat_map piece_text ps) all.0)

pub trivia_first : (t : Text) → IsWholeTrivia t → (i : ℕ) → late_in_trivia i t ≡ first_of (late_trivia nothing_yet i t)
trivia_first t is = subst Agrees (sym is.2) (pieces_on is.0 is.1)
