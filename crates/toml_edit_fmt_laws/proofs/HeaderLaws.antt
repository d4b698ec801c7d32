-- What is laid out before a header: as before other statements, below an empty line where nothing is before it.
use Rattle.std.proofs.Common.{◌≡◌, refl, sym, ap, subst, ◌∙◌, ℕ, zero, suc, Bool, true, false, not, List, [], ◌∷◌, ◌++◌, append_assoc, inl, inr}
use Rattle.std.proofs.Common.{Option, Some, None}
use Rattle.std.specs.Prelude.{◌&&◌, ◌||◌, if◌then◌else◌, map}
use Rattle.std.specs.List.{AllByRecursion, flat_map}
use Rattle.std.proofs.lemmas.Bool.{cases_Bool}
use Rattle.toml_edit_model.specs.Comments.{comments}
use Rattle.toml_edit_model.specs.Text.{Text, is_empty}
use Rattle.toml_edit_model.specs.Trivia.{IsWhiteSpace, newline_text, IsWholeTrivia}
use Rattle.toml_edit_laws.proofs.common.Tests.{and_left, and_right, not-true, or-left, or-right, or-true}
use Rattle.toml_edit_fmt_laws.specs.Rules.{Indentation, as_it_is, flush, by_depth, Rules, units, made_newline}
use Rattle.toml_edit_fmt_laws.specs.Laying.{is_broken, squeezed, may_be_empty, leading, header_leading, spaced_by}
use Rattle.toml_edit_fmt_laws.proofs.Spacing.{squeezed-pass, squeezed-other}
use Rattle.toml_edit_fmt_laws.proofs.Rows.{Row, row_text, IsRow, rows_text, view, rows-whole, row_bodies, comments-rows, moved, is_none_body, broken-row, white-unbroken}
use Rattle.toml_edit_fmt_laws.proofs.SpacedRows.{all-laid, none-laid, bodies-laid, laid-again, made_end, made-text}
use Rattle.toml_edit_fmt_laws.proofs.LeadingLaws.{lead_depth, lead_last, lead_rows, lead-form, white-lead, lead-last-again}

-- rows have a newline if there are any
broken-rows : (rs : List Row) (l : Text) → IsWhiteSpace l → is_broken (rows_text rs l) ≡ not (is_empty rs)
broken-rows [] l h = white-unbroken l h
broken-rows (x ∷ xs) l h =
    ap is_broken (append_assoc (row_text x) (flat_map row_text xs) l) ∙ broken-row x (rows_text xs l)

-- the first of rows that are spaced stays, where empty ones may be there
some-spaced : (o : Option ℕ) (s : Bool) (x : Row) (xs : List Row) → may_be_empty o ≡ true → s ≡ false
    → is_empty (spaced_by is_none_body o s false (x ∷ xs)) ≡ false
some-spaced None s x xs may start = refl
some-spaced (Some zero) s x xs may start = absurd (let clash : false ≡ true = may in cc)
some-spaced (Some (suc most)) s x xs may start =
    ap (λ b. is_empty (squeezed is_none_body (suc most) (if b then 0 else suc most) (x ∷ xs))) start
    ∙ elim (cases_Bool (is_none_body x)) [
      | inl e ↦ ap is_empty (squeezed-pass is_none_body (suc most) most x xs e)
      | inr e ↦ ap is_empty (squeezed-other is_none_body (suc most) (suc most) x xs e)
    ]

-- an empty row alone stays there
alone-spaced : (o : Option ℕ) (s : Bool) (x : Row) → may_be_empty o ≡ true → s ≡ false → is_none_body x ≡ true
    → spaced_by is_none_body o s false (x ∷ []) ≡ x ∷ []
alone-spaced None s x may start none = refl
alone-spaced (Some zero) s x may start none = absurd (let clash : false ≡ true = may in cc)
alone-spaced (Some (suc most)) s x may start none =
    ap (λ b. squeezed is_none_body (suc most) (if b then 0 else suc most) (x ∷ [])) start
    ∙ squeezed-pass is_none_body (suc most) most x [] none

empty-map : {A B : Type 0} (f : A → B) (xs : List A) → is_empty (map f xs) ≡ is_empty xs
empty-map f [] = refl
empty-map f (x ∷ xs) = refl

module _ (r : Rules) where
  made_row : Row
  made_row = record { white = []; body = None; end = made_end r }

  -- whether an empty line is made
  abbrev needs_line : Bool → List Row → Bool
  needs_line s rs = may_be_empty r.blank_lines && not (s || not (is_empty rs))

  head_rows : Bool → ℕ → List Row → List Row
  head_rows s depth rs =
      if needs_line s rs then made_row ∷ lead_rows r r.indentation s depth rs else lead_rows r r.indentation s depth rs

  all-head : (s : Bool) (depth : ℕ) (rs : List Row) → AllByRecursion IsRow rs → AllByRecursion IsRow (head_rows s depth rs)
  unfolding head_rows made_row
  all-head s depth rs h = by_test (needs_line s rs)
    where
      by_test : (b : Bool) → AllByRecursion IsRow
          (if b then made_row ∷ lead_rows r r.indentation s depth rs else lead_rows r r.indentation s depth rs)
      by_test true = ((refl, tt), all-laid r s false (lead_depth r.indentation depth) rs h)
      by_test false = all-laid r s false (lead_depth r.indentation depth) rs h

  bodies-head : (s : Bool) (depth : ℕ) (rs : List Row) → row_bodies (head_rows s depth rs) ≡ row_bodies rs
  unfolding head_rows made_row
  bodies-head s depth rs = by_test (needs_line s rs)
    where
      by_test : (b : Bool) → row_bodies (if b then made_row ∷ lead_rows r r.indentation s depth rs else lead_rows r r.indentation s depth rs)
          ≡ row_bodies rs
      by_test true = bodies-laid r s false (lead_depth r.indentation depth) rs
      by_test false = bodies-laid r s false (lead_depth r.indentation depth) rs

  head-form : (s : Bool) (depth : ℕ) (rs : List Row) (l : Text) → AllByRecursion IsRow rs → IsWhiteSpace l
      → header_leading r s depth (rows_text rs l) ≡ rows_text (head_rows s depth rs) (lead_last r r.indentation depth l)
  unfolding head_rows made_row
  head-form s depth rs l h g =
      ap (λ b. (if may_be_empty r.blank_lines && not (s || b) then made_newline r else []) ++ leading r s depth (rows_text rs l))
      (broken-rows rs l g)
      ∙ ap (λ u. (if needs_line s rs then made_newline r else []) ++ u) (lead-form r r.indentation s depth rs l h g)
      ∙ by_test (needs_line s rs)
    where
      last : Text
      last = lead_last r r.indentation depth l

      by_test : (b : Bool) → (if b then made_newline r else []) ++ rows_text (lead_rows r r.indentation s depth rs) last
          ≡ rows_text (if b then made_row ∷ lead_rows r r.indentation s depth rs else lead_rows r r.indentation s depth rs) last
      by_test true =
          ap (λ u. u ++ rows_text (lead_rows r r.indentation s depth rs) last) (sym (made-text r))
          ∙ sym (append_assoc (newline_text (made_end r)) (flat_map row_text (lead_rows r r.indentation s depth rs)) last)
      by_test false = refl

  -- rows are laid out as they are where no line is needed, and else the one that was made
  head-other : (s : Bool) (depth : ℕ) (rs : List Row) → needs_line s rs ≡ false → head_rows s depth rs ≡ lead_rows r r.indentation s depth rs
  unfolding head_rows
  head-other s depth rs e =
      ap (λ b. if b then made_row ∷ lead_rows r r.indentation s depth rs else lead_rows r r.indentation s depth rs) e

  some-laid : (k : Indentation) (s : Bool) (depth : ℕ) (x : Row) (xs : List Row) → may_be_empty r.blank_lines ≡ true → s ≡ false
      → is_empty (lead_rows r k s depth (x ∷ xs)) ≡ false
  some-laid as_it_is s depth x xs may start = some-spaced r.blank_lines s x xs may start
  some-laid flush s depth x xs may start =
      empty-map (moved (units r depth)) (spaced_by is_none_body r.blank_lines s false (x ∷ xs)) ∙ some-spaced r.blank_lines s x xs may start
  some-laid by_depth s depth x xs may start =
      empty-map (moved (units r depth)) (spaced_by is_none_body r.blank_lines s false (x ∷ xs)) ∙ some-spaced r.blank_lines s x xs may start

  alone-laid : (k : Indentation) (s : Bool) (depth : ℕ) → may_be_empty r.blank_lines ≡ true → s ≡ false
      → lead_rows r k s depth (made_row ∷ []) ≡ made_row ∷ []
  unfolding made_row
  alone-laid as_it_is s depth may start = alone-spaced r.blank_lines s made_row may start refl
  alone-laid flush s depth may start = ap (map (moved (units r depth))) (alone-spaced r.blank_lines s made_row may start refl)
  alone-laid by_depth s depth may start = ap (map (moved (units r depth))) (alone-spaced r.blank_lines s made_row may start refl)

  none-needed : (s : Bool) (depth : ℕ) (rs : List Row) → needs_line s rs ≡ false → needs_line s (lead_rows r r.indentation s depth rs) ≡ false
  none-needed s depth rs e = by_tests (may_be_empty r.blank_lines) s rs refl refl e
    where
      by_tests : (m b : Bool) (xs : List Row) → may_be_empty r.blank_lines ≡ m → s ≡ b → (m && not (b || not (is_empty xs))) ≡ false
          → (may_be_empty r.blank_lines && not (s || not (is_empty (lead_rows r r.indentation s depth xs)))) ≡ false
      by_tests false b xs may start g = ap (λ m. m && not (s || not (is_empty (lead_rows r r.indentation s depth xs)))) may
      by_tests true true xs may start g =
          ap (λ b. may_be_empty r.blank_lines && not (b || not (is_empty (lead_rows r r.indentation s depth xs)))) start
          ∙ ap (λ m. m && false) may
      by_tests true false [] may start g = cc
      by_tests true false (x ∷ xs) may start g =
          ap (λ b. may_be_empty r.blank_lines && not (s || not b)) (some-laid r.indentation s depth x xs may start)
          ∙ ap (λ b. may_be_empty r.blank_lines && not b) (or-true s) ∙ ap (λ m. m && false) may

  head-rows-again : (s : Bool) (depth : ℕ) (rs : List Row) → AllByRecursion IsRow rs
      → head_rows s depth (head_rows s depth rs) ≡ head_rows s depth rs
  unfolding head_rows
  head-rows-again s depth rs h =
      elim (cases_Bool (needs_line s rs)) [
        | inl e ↦ needed e rs e
        | inr e ↦ ap (head_rows s depth) (head-other s depth rs e)
            ∙ head-other s depth (lead_rows r r.indentation s depth rs) (none-needed s depth rs e)
            ∙ laid-again r s false (lead_depth r.indentation depth) rs h ∙ sym (head-other s depth rs e)
      ]
    where
      needed : needs_line s rs ≡ true → (xs : List Row) → needs_line s xs ≡ true → head_rows s depth (head_rows s depth xs) ≡ head_rows s depth xs
      needed e xs g =
          let may : may_be_empty r.blank_lines ≡ true = and_left (may_be_empty r.blank_lines) _ g in
          let rest : (s || not (is_empty xs)) ≡ false = not-true _ (and_right (may_be_empty r.blank_lines) _ g) in
          let start : s ≡ false = or-left s _ rest in
          let once : head_rows s depth xs ≡ made_row ∷ [] =
          ap (λ b. if b then made_row ∷ lead_rows r r.indentation s depth xs else lead_rows r r.indentation s depth xs) g
          ∙ ap (λ ys. made_row ∷ ys) (no-rows xs (or-right s _ rest)) in
          ap (head_rows s depth) once
          ∙ head-other s depth (made_row ∷ []) (ap (λ b. may_be_empty r.blank_lines && not b) (or-true s) ∙ and-false (may_be_empty r.blank_lines))
          ∙ alone-laid r.indentation s depth may start ∙ sym once
        where
          and-false : (b : Bool) → (b && false) ≡ false
          and-false true = refl
          and-false false = refl

          no-rows : (ys : List Row) → not (is_empty ys) ≡ false → lead_rows r r.indentation s depth ys ≡ []
          no-rows [] k = none-laid r s false (lead_depth r.indentation depth)
          no-rows (y ∷ ys) k = cc

  pub header-whole : (s : Bool) (depth : ℕ) (t : Text) → IsWholeTrivia t → IsWholeTrivia (header_leading r s depth t)
  header-whole s depth t h =
      let rows = view t h in
      subst IsWholeTrivia (sym (ap (header_leading r s depth) rows.is ∙ head-form s depth rows.rows rows.last rows.all rows.white))
      (rows-whole (head_rows s depth rows.rows) (lead_last r r.indentation depth rows.last)
      (all-head s depth rows.rows rows.all) (white-lead r r.indentation depth rows.last rows.white))

  pub header-again : (s : Bool) (depth : ℕ) (t : Text) → IsWholeTrivia t
      → header_leading r s depth (header_leading r s depth t) ≡ header_leading r s depth t
  header-again s depth t h =
      let rows = view t h in
      let k = r.indentation in
      let once = ap (header_leading r s depth) rows.is ∙ head-form s depth rows.rows rows.last rows.all rows.white in
      ap (header_leading r s depth) once
      ∙ head-form s depth (head_rows s depth rows.rows) (lead_last r k depth rows.last)
      (all-head s depth rows.rows rows.all) (white-lead r k depth rows.last rows.white)
      ∙ ap (λ rs. rows_text rs (lead_last r k depth (lead_last r k depth rows.last))) (head-rows-again s depth rows.rows rows.all)
      ∙ ap (rows_text (head_rows s depth rows.rows)) (lead-last-again r k depth rows.last)
      ∙ sym once

  pub header-comments : (s : Bool) (depth : ℕ) (t : Text) → IsWholeTrivia t → comments (header_leading r s depth t) ≡ comments t
  header-comments s depth t h =
      let rows = view t h in
      ap comments (ap (header_leading r s depth) rows.is ∙ head-form s depth rows.rows rows.last rows.all rows.white)
      ∙ comments-rows (head_rows s depth rows.rows) (lead_last r r.indentation depth rows.last)
      (all-head s depth rows.rows rows.all) (white-lead r r.indentation depth rows.last rows.white)
      ∙ bodies-head s depth rows.rows
      ∙ sym (ap comments rows.is ∙ comments-rows rows.rows rows.last rows.all rows.white)
