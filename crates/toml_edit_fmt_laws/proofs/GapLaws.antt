-- What is laid out between brackets, by the rows of its text: the comments stay, it is whole trivia, and laid out again it stays.
use Rattle.std.proofs.Common.{◌≡◌, refl, sym, ap, subst, ◌∙◌, ℕ, Bool, true, false, List, [], ◌∷◌, ◌++◌, drop, inl, inr}
use Rattle.std.proofs.Common.{Option, Some, None, append_assoc, append-nil}
use Rattle.std.specs.Prelude.{◌==◌, if◌then◌else◌, take, is_some}
use Rattle.std.specs.List.{AllByRecursion, before_first, flat_map, cons_option}
use Rattle.std.proofs.lemmas.Bool.{cases_Bool}
use Rattle.toml_edit_model.specs.Comments.{lines, first_line, first_comment, words, comments}
use Rattle.toml_edit_model.specs.Mode.{exact, line_newline}
use Rattle.toml_edit_model.specs.Text.{Text, line_feed, one, is_empty, joined}
use Rattle.toml_edit_model.specs.Trivia.{IsWhiteSpace, newline_text, IsWholeTrivia}
use Rattle.toml_edit_laws.proofs.common.Trivia.{empty-trivia}
use Rattle.toml_edit_fmt_laws.specs.Rules.{Rules, Comments, as_they_are, apart, aligned, spaces, units, made_newline}
use Rattle.toml_edit_fmt_laws.specs.Laying.{rest_as, line_rest, usual_pad, line_break, beside, gap, before_comma, laid_lines}
use Rattle.toml_edit_fmt_laws.specs.Remarks.{bodies_in}
use Rattle.toml_edit_fmt_laws.proofs.Rows.{Row, row_text, IsRow, rows_text, view, rows-whole, lines-row, lines-rows, last_lines, joined-lines}
use Rattle.toml_edit_fmt_laws.proofs.Rows.{first_line-row, newline-row, broken-row, white-unbroken, line_part, words-part, body_text}
use Rattle.toml_edit_fmt_laws.proofs.Rows.{first_comment-row, first_comment-part, first_comment-alone, first_comment-white, row_bodies, bodies-lines, comments-rows}
use Rattle.toml_edit_fmt_laws.proofs.SpacedRows.{white-units, white_beside, beside-white, beside-again, laid_rows, all-laid, bodies-laid, laid-again, moved-form}
use Rattle.toml_edit_fmt_laws.proofs.SpacedRows.{none-laid, made_end, made-text}

-- ---- the lines of rows

pub first-lines : (rs : List Row) (l : Text) → AllByRecursion IsRow rs → IsWhiteSpace l
    → bodies_in (take 1 (lines (rows_text rs l))) ≡ row_bodies (take 1 rs)
first-lines [] l h g = ap (λ ls. bodies_in (take 1 ls)) (lines-rows [] l h g) ∙ none l g
  where
    none : (m : Text) → IsWhiteSpace m → bodies_in (take 1 (last_lines m)) ≡ []
    none [] k = refl
    none (c ∷ m) k = ap (λ o. cons_option o []) (first_comment-white (c ∷ m) k)
first-lines (x ∷ xs) l h g =
    ap (λ ls. bodies_in (take 1 ls)) (lines-rows (x ∷ xs) l h g)
    ∙ ap (λ o. cons_option o []) (first_comment-alone x h.0)

pub below-lines : (rs : List Row) (l : Text) → AllByRecursion IsRow rs → IsWhiteSpace l
    → bodies_in (drop 1 (lines (rows_text rs l))) ≡ row_bodies (drop 1 rs)
below-lines [] l h g = ap (λ ls. bodies_in (drop 1 ls)) (lines-rows [] l h g) ∙ none l
  where
    none : (m : Text) → bodies_in (drop 1 (last_lines m)) ≡ []
    none [] = refl
    none (c ∷ m) = refl
below-lines (x ∷ xs) l h g = ap (λ ls. bodies_in (drop 1 ls)) (lines-rows (x ∷ xs) l h g) ∙ bodies-lines xs l h.1 g

-- the end of a line, after so many spaces
pub spaced-part : (n : ℕ) (x : Row) → IsRow x
    → (if is_some (first_comment (line_part x)) then spaces n else []) ++ words (line_part x)
    ≡ (if is_some x.body then spaces n else []) ++ body_text x.body
spaced-part n x h =
    ap (λ o. (if is_some o then spaces n else []) ++ words (line_part x)) (first_comment-part x h)
    ∙ ap (λ w. (if is_some x.body then spaces n else []) ++ w) (words-part x h)

module _ (r : Rules) where
  -- ---- between brackets

  head_row : ℕ → Row → Row
  head_row pad x = record x { white = white_beside r.comments pad x.body x.white }

  gap_rows : ℕ → Bool → Bool → ℕ → List Row → List Row
  gap_rows pad s e depth [] = one (record { white = []; body = None; end = made_end r })
  gap_rows pad s e depth (x ∷ xs) = head_row pad x ∷ laid_rows r s e (Some depth) xs

  all-gap : (pad : ℕ) (s e : Bool) (depth : ℕ) (rs : List Row) → AllByRecursion IsRow rs → AllByRecursion IsRow (gap_rows pad s e depth rs)
  unfolding gap_rows head_row
  all-gap pad s e depth [] h = ((refl, tt), tt)
  all-gap pad s e depth (x ∷ xs) h = (
    (beside-white r.comments pad x.body x.white h.0.0, h.0.1),
    all-laid r s e (Some depth) xs h.1,
  )

  gap-rows-again : (pad other : ℕ) (s e : Bool) (depth : ℕ) (rs : List Row) → AllByRecursion IsRow rs
      → gap_rows pad s e depth (gap_rows other s e depth rs) ≡ gap_rows pad s e depth rs
  unfolding gap_rows head_row
  gap-rows-again pad other s e depth [] h =
      ap (λ ys. record { white = []; body = None; end = made_end r } ∷ ys) (none-laid r s e (Some depth))
  gap-rows-again pad other s e depth (x ∷ xs) h =
      ap (λ w. record x { white = w } ∷ laid_rows r s e (Some depth) (laid_rows r s e (Some depth) xs))
      (beside-again r.comments pad other x.body x.white)
      ∙ ap (λ ys. head_row pad x ∷ ys) (laid-again r s e (Some depth) xs h.1)

  rest-part : (c : Comments) (pad : ℕ) (x : Row) → IsRow x → is_some x.body ≡ true
      → rest_as c pad (line_part x) ≡ white_beside c pad x.body x.white ++ body_text x.body
  rest-part as_they_are pad x h some = by_body x.body some
    where
      by_body : (o : Option Text) → is_some o ≡ true → x.white ++ body_text o ≡ white_beside as_they_are pad o x.white ++ body_text o
      by_body (Some b) g = refl
      by_body None g = cc
  rest-part (apart n) pad x h some = spaced-part n x h ∙ by_body x.body some
    where
      by_body : (o : Option Text) → is_some o ≡ true
          → (if is_some o then spaces n else []) ++ body_text o ≡ white_beside (apart n) pad o x.white ++ body_text o
      by_body (Some b) g = refl
      by_body None g = cc
  rest-part (aligned n) pad x h some = spaced-part pad x h ∙ by_body x.body some
    where
      by_body : (o : Option Text) → is_some o ≡ true
          → (if is_some o then spaces pad else []) ++ body_text o ≡ white_beside (aligned n) pad o x.white ++ body_text o
      by_body (Some b) g = refl
      by_body None g = cc

  beside-row : (pad : ℕ) (x : Row) (t : Text) → IsRow x
      → beside r pad (row_text x ++ t) ≡ white_beside r.comments pad x.body x.white ++ body_text x.body
  beside-row pad x t h =
      ap (λ o. if is_some o then line_rest r pad (first_line (row_text x ++ t)) else []) (first_comment-row x t h)
      ∙ ap (λ l. if is_some x.body then line_rest r pad l else []) (first_line-row x t h)
      ∙ elim (cases_Bool (is_some x.body)) [
        | inl e ↦ ap (λ b. if b then line_rest r pad (line_part x) else []) e ∙ rest-part r.comments pad x h e
        | inr e ↦ ap (λ b. if b then line_rest r pad (line_part x) else []) e ∙ none r.comments x.body e
      ]
    where
      none : (c : Comments) (o : Option Text) → is_some o ≡ false → [] ≡ white_beside c pad o x.white ++ body_text o
      none c None g = refl
      none c (Some b) g = cc

  break-row : (x : Row) (t : Text) → IsRow x → line_break r (row_text x ++ t) ≡ newline_text x.end
  break-row x t h =
      ap (λ b. if b then line_newline exact (before_first (λ c. c == line_feed) (row_text x ++ t)) else made_newline r) (broken-row x t)
      ∙ newline-row x t h

  -- the text of a gap, by its rows
  regroup : (a b c d e : Text) → (a ++ b) ++ (c ++ (d ++ e)) ≡ ((a ++ (b ++ c)) ++ d) ++ e
  regroup a b c d e = simp append_assoc

  gap-form : (pad : ℕ) (s e : Bool) (depth last : ℕ) (rs : List Row) (l : Text) → AllByRecursion IsRow rs → IsWhiteSpace l
      → gap r pad s e depth last (rows_text rs l) ≡ rows_text (gap_rows pad s e depth rs) (units r last)
  unfolding gap_rows head_row
  gap-form pad s e depth last [] l h g =
      ap (λ o. (if is_some o then line_rest r pad (first_line l) else []) ++ (line_break r l ++ (lower (lines l) ++ units r last)))
      (first_comment-white l g)
      ∙ ap (λ b. (if b then line_newline exact (before_first (λ c. c == line_feed) l) else made_newline r) ++ (lower (lines l) ++ units r last))
      (white-unbroken l g)
      ∙ ap (λ ls. made_newline r ++ (lower ls ++ units r last)) (lines-rows [] l tt g)
      ∙ ap (λ u. made_newline r ++ (u ++ units r last)) (no-lines l)
      ∙ ap (λ u. u ++ units r last) (sym (made-text r) ∙ sym (append-nil (newline_text (made_end r))))
    where
      lower : List Text → Text
      lower ls = laid_lines r s e (Some depth) (joined (drop 1 ls))

      empty : laid_lines r s e (Some depth) [] ≡ []
      empty = moved-form r s e depth [] [] tt refl ∙ ap (flat_map row_text) (none-laid r s e (Some depth))

      no-lines : (m : Text) → lower (last_lines m) ≡ []
      no-lines [] = empty
      no-lines (c ∷ m) = empty
  gap-form pad s e depth last (x ∷ xs) l h g =
      let rest = rows_text xs l in
      let first = white_beside r.comments pad x.body x.white ++ body_text x.body in
      ap (gap r pad s e depth last) (append_assoc (row_text x) (flat_map row_text xs) l)
      ∙ ap (λ u. u ++ (line_break r (row_text x ++ rest) ++ (laid_lines r s e (Some depth) (joined (drop 1 (lines (row_text x ++ rest)))) ++ units r last)))
      (beside-row pad x rest h.0)
      ∙ ap (λ u. first ++ (u ++ (laid_lines r s e (Some depth) (joined (drop 1 (lines (row_text x ++ rest)))) ++ units r last)))
      (break-row x rest h.0)
      ∙ ap (λ ls. first ++ (newline_text x.end ++ (laid_lines r s e (Some depth) (joined (drop 1 ls)) ++ units r last)))
      (lines-row x rest h.0)
      ∙ ap (λ u. first ++ (newline_text x.end ++ (laid_lines r s e (Some depth) u ++ units r last))) (joined-lines rest)
      ∙ ap (λ u. first ++ (newline_text x.end ++ (u ++ units r last))) (moved-form r s e depth xs l h.1 g)
      ∙ regroup (white_beside r.comments pad x.body x.white) (body_text x.body) (newline_text x.end)
      (flat_map row_text (laid_rows r s e (Some depth) xs)) (units r last)

  -- by the rows of the text
  record GapOf (pad : ℕ) (s e : Bool) (depth last : ℕ) (t : Text) : Type 0 where
    rows : List Row
    white : Text
    all : AllByRecursion IsRow rows
    is_white : IsWhiteSpace white
    is : t ≡ rows_text rows white
    laid : gap r pad s e depth last t ≡ rows_text (gap_rows pad s e depth rows) (units r last)

  gap_of : (pad : ℕ) (s e : Bool) (depth last : ℕ) (t : Text) → IsWholeTrivia t → GapOf pad s e depth last t
  gap_of pad s e depth last t h =
      let v = view t h in
      record {
        rows = v.rows;
        white = v.last;
        all = v.all;
        is_white = v.white;
        is = v.is;
        laid = ap (gap r pad s e depth last) v.is ∙ gap-form pad s e depth last v.rows v.last v.all v.white;
      }

  pub gap-whole : (pad : ℕ) (s e : Bool) (depth last : ℕ) (t : Text) → IsWholeTrivia t → IsWholeTrivia (gap r pad s e depth last t)
  gap-whole pad s e depth last t h =
      let v = gap_of pad s e depth last t h in
      subst IsWholeTrivia (sym v.laid)
      (rows-whole (gap_rows pad s e depth v.rows) (units r last) (all-gap pad s e depth v.rows v.all) (white-units r last))

  pub gap-again : (pad other : ℕ) (s e : Bool) (depth last : ℕ) (t : Text) → IsWholeTrivia t
      → gap r pad s e depth last (gap r other s e depth last t) ≡ gap r pad s e depth last t
  gap-again pad other s e depth last t h =
      let v = gap_of other s e depth last t h in
      let w = gap_of pad s e depth last t h in
      ap (gap r pad s e depth last) v.laid
      ∙ gap-form pad s e depth last (gap_rows other s e depth v.rows) (units r last) (all-gap other s e depth v.rows v.all) (white-units r last)
      ∙ ap (λ rs. rows_text rs (units r last)) (gap-rows-again pad other s e depth v.rows v.all)
      ∙ sym (ap (gap r pad s e depth last) v.is ∙ gap-form pad s e depth last v.rows v.white v.all v.is_white)

  -- ---- the comments of a gap: on the first line and below

  pub gap-first : (pad : ℕ) (s e : Bool) (depth last : ℕ) (t : Text) → IsWholeTrivia t
      → bodies_in (take 1 (lines (gap r pad s e depth last t))) ≡ bodies_in (take 1 (lines t))
  unfolding gap_rows head_row
  gap-first pad s e depth last t h =
      let v = gap_of pad s e depth last t h in
      ap (λ u. bodies_in (take 1 (lines u))) v.laid
      ∙ first-lines (gap_rows pad s e depth v.rows) (units r last) (all-gap pad s e depth v.rows v.all) (white-units r last)
      ∙ by_rows v.rows
      ∙ sym (ap (λ u. bodies_in (take 1 (lines u))) v.is ∙ first-lines v.rows v.white v.all v.is_white)
    where
      by_rows : (rs : List Row) → row_bodies (take 1 (gap_rows pad s e depth rs)) ≡ row_bodies (take 1 rs)
      by_rows [] = refl
      by_rows (x ∷ xs) = refl

  pub gap-below : (pad : ℕ) (s e : Bool) (depth last : ℕ) (t : Text) → IsWholeTrivia t
      → bodies_in (drop 1 (lines (gap r pad s e depth last t))) ≡ bodies_in (drop 1 (lines t))
  unfolding gap_rows head_row
  gap-below pad s e depth last t h =
      let v = gap_of pad s e depth last t h in
      ap (λ u. bodies_in (drop 1 (lines u))) v.laid
      ∙ below-lines (gap_rows pad s e depth v.rows) (units r last) (all-gap pad s e depth v.rows v.all) (white-units r last)
      ∙ by_rows v.rows
      ∙ sym (ap (λ u. bodies_in (drop 1 (lines u))) v.is ∙ below-lines v.rows v.white v.all v.is_white)
    where
      by_rows : (rs : List Row) → row_bodies (drop 1 (gap_rows pad s e depth rs)) ≡ row_bodies (drop 1 rs)
      by_rows [] = refl
      by_rows (x ∷ xs) = bodies-laid r s e (Some depth) xs

  pub gap-comments : (pad : ℕ) (s e : Bool) (depth last : ℕ) (t : Text) → IsWholeTrivia t
      → comments (gap r pad s e depth last t) ≡ comments t
  unfolding gap_rows head_row
  gap-comments pad s e depth last t h =
      let v = gap_of pad s e depth last t h in
      ap comments v.laid
      ∙ comments-rows (gap_rows pad s e depth v.rows) (units r last) (all-gap pad s e depth v.rows v.all) (white-units r last)
      ∙ by_rows v.rows
      ∙ sym (ap comments v.is ∙ comments-rows v.rows v.white v.all v.is_white)
    where
      by_rows : (rs : List Row) → row_bodies (gap_rows pad s e depth rs) ≡ row_bodies rs
      by_rows [] = refl
      by_rows (x ∷ xs) = ap (λ bs. cons_option x.body bs) (bodies-laid r s e (Some depth) xs)

  -- ---- before a comma

  pub comma-comments : (depth : ℕ) (t : Text) → IsWholeTrivia t → comments (before_comma r depth t) ≡ comments t
  comma-comments depth t h = by_comments (comments t) refl
    where
      by_comments : (cs : List Text) → comments t ≡ cs
          → comments (if is_empty cs then [] else gap r (usual_pad r.comments) false false depth depth t) ≡ comments t
      by_comments [] e = sym e
      by_comments (c ∷ cs) e = gap-comments (usual_pad r.comments) false false depth depth t h

  pub comma-whole : (depth : ℕ) (t : Text) → IsWholeTrivia t → IsWholeTrivia (before_comma r depth t)
  comma-whole depth t h = by_test (is_empty (comments t))
    where
      by_test : (b : Bool) → IsWholeTrivia (if b then [] else gap r (usual_pad r.comments) false false depth depth t)
      by_test true = empty-trivia
      by_test false = gap-whole (usual_pad r.comments) false false depth depth t h

  pub comma-again : (depth : ℕ) (t : Text) → IsWholeTrivia t
      → before_comma r depth (before_comma r depth t) ≡ before_comma r depth t
  comma-again depth t h = by_test (is_empty (comments t)) refl
    where
      laid : Text
      laid = gap r (usual_pad r.comments) false false depth depth t

      by_test : (b : Bool) → is_empty (comments t) ≡ b
          → before_comma r depth (if b then [] else laid) ≡ (if b then [] else laid)
      by_test true e = refl
      by_test false e =
          ap (λ cs. if is_empty cs then [] else gap r (usual_pad r.comments) false false depth depth laid)
          (gap-comments (usual_pad r.comments) false false depth depth t h)
          ∙ ap (λ b. if b then [] else gap r (usual_pad r.comments) false false depth depth laid) e
          ∙ gap-again (usual_pad r.comments) (usual_pad r.comments) false false depth depth t h
