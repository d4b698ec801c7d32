-- The end of the text laid out, by its rows: the comments stay, it is final trivia, and laid out again it stays.
use Rattle.std.proofs.Common.{◌≡◌, refl, sym, ap, subst, ◌∙◌, ℕ, Bool, true, false, List, [], ◌∷◌, ◌++◌, inl, inr, Option, Some, None}
use Rattle.std.proofs.Common.{append_assoc, append-nil}
use Rattle.std.specs.Prelude.{◌&&◌, ◌||◌, not, if◌then◌else◌, map, is_none}
use Rattle.std.specs.List.{AllByRecursion, flat_map, filter_map, cons_option}
use Rattle.std.proofs.lemmas.Grind.{flat_map-append}
use Rattle.std.proofs.lemmas.List.Elements.{filter_map-append, filter-append}
use Rattle.toml_edit_model.specs.Comments.{words, first_comment, comments}
use Rattle.toml_edit_model.specs.Text.{Text, one, is_empty, joined}
use Rattle.toml_edit_model.specs.Trivia.{IsWhiteSpace, lf, comment, IsFinalTrivia, IsOpenComment}
use Rattle.toml_edit_laws.proofs.common.Tests.{or-true}
use Rattle.toml_edit_fmt_laws.specs.Rules.{Indentation, as_it_is, flush, by_depth, Rules}
use Rattle.toml_edit_fmt_laws.specs.Laying.{is_broken, line_words, is_empty_line, is_whole_line, whole_lines, indented, spaced, laid_lines, final_as, final_text}
use Rattle.toml_edit_fmt_laws.proofs.Spacing.{spaced-end}
use Rattle.toml_edit_fmt_laws.proofs.Rows.{Row, row_text, IsRow, IsBody, body_text, line_part, rows_text, Rows, view, rows-whole, NoFeed, part-feed}
use Rattle.toml_edit_fmt_laws.proofs.Rows.{lines-any, lines-rows, whole-rows, moved, indented-rows}
use Rattle.toml_edit_fmt_laws.proofs.Rows.{row_bodies, bodies-rows, first_comment-part, words-part}
use Rattle.toml_edit_fmt_laws.proofs.Rows.{line_words-part, unbroken-part}
use Rattle.toml_edit_fmt_laws.proofs.SpacedRows.{spaced_rows, all-spaced-rows, map-spaced, joined-rows, laid_rows, all-laid, none-laid, bodies-laid, laid-again, moved-form}

-- rows, and after the last newline white space and perhaps a comment
pub record Closing (t : Text) : Type 0 where
  pub rows : List Row
  pub white : Text
  pub body : Option Text
  pub all : AllByRecursion IsRow rows
  pub is_white : IsWhiteSpace white
  pub is_body : IsBody body
  pub is : t ≡ rows_text rows (white ++ body_text body)

pub closing : (t : Text) → IsFinalTrivia t → Closing t
closing t (whole, rest, h, g, e) = by_rest (view whole h) g
  where
    by_rest : Rows whole → IsOpenComment rest → Closing t
    by_rest v (inl none) =
        record {
          rows = v.rows;
          white = v.last;
          body = None;
          all = v.all;
          is_white = v.white;
          is_body = tt;
          is = e ∙ ap (λ u. u ++ rest) v.is ∙ ap (λ u. rows_text v.rows v.last ++ u) none ∙ append_assoc (flat_map row_text v.rows) v.last [];
        }
    by_rest v (inr (b, vis, is)) =
        record {
          rows = v.rows;
          white = v.last;
          body = Some b;
          all = v.all;
          is_white = v.white;
          is_body = vis;
          is = e ∙ ap (λ u. u ++ rest) v.is ∙ ap (λ u. rows_text v.rows v.last ++ u) is ∙ append_assoc (flat_map row_text v.rows) v.last (comment b);
        }

closed : (rs : List Row) (w : Text) (o : Option Text) → AllByRecursion IsRow rs → IsWhiteSpace w → IsBody o
    → IsFinalTrivia (rows_text rs (w ++ body_text o))
closed rs w o h g k =
    (rows_text rs w, body_text o, rows-whole rs w h g, by_body o k, sym (append_assoc (flat_map row_text rs) w (body_text o)))
  where
    by_body : (o : Option Text) → IsBody o → IsOpenComment (body_text o)
    by_body (Some b) k = inr (b, k, refl)
    by_body None k = inl refl

-- the last line as a row without its newline
abbrev pub last_row : Text → Option Text → Row
last_row w o = record { white = w; body = o; end = lf }

pub comment-some : (w b : Text) → is_empty (w ++ comment b) ≡ false
comment-some [] b = refl
comment-some (c ∷ w) b = refl

module _ (r : Rules) where
  -- whether empty rows at the end go
  abbrev pub end_flag : Indentation → Text → Option Text → Bool
  end_flag as_it_is w o = is_none o && is_empty w
  end_flag flush w o = is_none o
  end_flag by_depth w o = is_none o

  abbrev pub final_white : Indentation → Text → Text
  final_white as_it_is w = w
  final_white flush w = []
  final_white by_depth w = []

  abbrev pub final_depth : Indentation → Option ℕ
  final_depth as_it_is = None
  final_depth flush = Some 0
  final_depth by_depth = Some 0

  abbrev pub final_rows : Bool → Text → Option Text → List Row → List Row
  final_rows s w o rs = laid_rows r s (end_flag r.indentation w o) (final_depth r.indentation) rs

  joined-one : (xs : List Row) (y : Text) → joined (map row_text xs ++ one y) ≡ rows_text xs y
  joined-one [] y = append-nil y
  joined-one (x ∷ xs) y = ap (λ u. row_text x ++ u) (joined-one xs y) ∙ sym (append_assoc (row_text x) (flat_map row_text xs) y)

  -- an open line stays where lines are not moved
  kept-end : (s : Bool) (rs : List Row) (y : Text) → AllByRecursion IsRow rs → NoFeed y → is_empty y ≡ false → is_empty_line y ≡ false
      → laid_lines r s true None (rows_text rs y) ≡ rows_text (spaced_rows r s false rs) y
  kept-end s rs y h g some other =
      ap (λ ls. joined (spaced r.blank_lines s true ls)) (lines-any rs y h g some)
      ∙ ap joined (spaced-end is_empty_line r.blank_lines s (map row_text rs) y other)
      ∙ ap (λ ls. joined (ls ++ one y)) (map-spaced r s false rs h)
      ∙ joined-one (spaced_rows r s false rs) y

  -- and a comment where they are
  open-form : (s : Bool) (rs : List Row) (w b : Text) → AllByRecursion IsRow rs → IsRow (last_row w (Some b))
      → laid_lines r s true (Some 0) (rows_text rs (w ++ comment b)) ≡ rows_text (laid_rows r s false (Some 0) rs) (comment b)
  open-form s rs w b h g =
      let z = last_row w (Some b) in
      let y = w ++ comment b in
      let o = r.blank_lines in
      let other : is_empty_line y ≡ false = ap (λ x. x && is_empty (line_words y)) (unbroken-part z g) in
      let said : line_words y ≡ comment b = line_words-part z g in
      ap (λ ls. flat_map (indented []) (spaced o s true (whole_lines ls))) (lines-any rs y h (part-feed z g) (comment-some w b))
      ∙ ap (λ ls. flat_map (indented []) (spaced o s true ls))
      (filter-append is_whole_line (map row_text rs) (one y)
      ∙ ap (λ x. whole_lines (map row_text rs) ++ (if is_broken y || not (is_empty x) then one y else [])) said
      ∙ ap (λ x. whole_lines (map row_text rs) ++ (if x then one y else [])) (or-true (is_broken y))
      ∙ ap (λ ls. ls ++ one y) (sym (ap whole_lines (append-nil (map row_text rs))) ∙ whole-rows rs [] refl))
      ∙ ap (flat_map (indented [])) (spaced-end is_empty_line o s (map row_text rs) y other ∙ ap (λ ls. ls ++ one y) (map-spaced r s false rs h))
      ∙ flat_map-append (indented []) (map row_text (spaced_rows r s false rs)) (one y)
      ∙ ap (λ u. u ++ (indented [] y ++ [])) (indented-rows [] (spaced_rows r s false rs) (all-spaced-rows r s false rs h))
      ∙ ap (λ u. flat_map row_text (map (moved []) (spaced_rows r s false rs)) ++ u)
      (append-nil (indented [] y)
      ∙ ap (λ x. (if is_empty x then [] else []) ++ words y) said ∙ words-part z g)

  -- moved in, with a comment on an open line or none
  moved-end : (s : Bool) (rs : List Row) (w : Text) (o : Option Text) → AllByRecursion IsRow rs → IsWhiteSpace w → IsBody o
      → laid_lines r s true (Some 0) (rows_text rs (w ++ body_text o)) ≡ rows_text (laid_rows r s (is_none o) (Some 0) rs) (body_text o)
  moved-end s rs w None h g b =
      ap (λ u. laid_lines r s true (Some 0) (rows_text rs u)) (append-nil w)
      ∙ moved-form r s true 0 rs w h g ∙ sym (append-nil (flat_map row_text (laid_rows r s true (Some 0) rs)))
  moved-end s rs w (Some b) h g k = open-form s rs w b h (g, k)

  -- where lines are not moved
  pub kept-final : (s : Bool) (rs : List Row) (w : Text) (o : Option Text) → AllByRecursion IsRow rs → IsWhiteSpace w → IsBody o
      → laid_lines r s true None (rows_text rs (w ++ body_text o)) ≡ rows_text (spaced_rows r s (is_none o && is_empty w) rs) (w ++ body_text o)
  kept-final s rs [] None h g b =
      ap (λ ls. joined (spaced r.blank_lines s true ls)) (lines-rows rs [] h refl ∙ append-nil (map row_text rs))
      ∙ ap joined (map-spaced r s true rs h ∙ sym (append-nil (map row_text (spaced_rows r s true rs))))
      ∙ joined-rows r (spaced_rows r s true rs) []
  kept-final s rs (c ∷ w) None h g b =
      let z = last_row (c ∷ w) None in
      kept-end s rs (line_part z) h (part-feed z (g, tt)) refl
      (ap (λ x. x && is_empty (line_words (line_part z))) (unbroken-part z (g, tt)))
  kept-final s rs w (Some d) h g b =
      let z = last_row w (Some d) in
      kept-end s rs (line_part z) h (part-feed z (g, b)) (comment-some w d)
      (ap (λ x. x && is_empty (line_words (line_part z))) (unbroken-part z (g, b)))

  pub final-form : (s : Bool) (rs : List Row) (w : Text) (o : Option Text) → AllByRecursion IsRow rs → IsWhiteSpace w → IsBody o
      → final_text r s (rows_text rs (w ++ body_text o)) ≡ rows_text (final_rows s w o rs) (final_white r.indentation w ++ body_text o)
  final-form s rs w o h g b = by_kind r.indentation
    where
      by_kind : (k : Indentation) → final_as k r s (rows_text rs (w ++ body_text o))
          ≡ rows_text (laid_rows r s (end_flag k w o) (final_depth k) rs) (final_white k w ++ body_text o)
      by_kind as_it_is = kept-final s rs w o h g b
      by_kind flush = moved-end s rs w o h g b
      by_kind by_depth = moved-end s rs w o h g b

  pub all-final : (s : Bool) (w : Text) (o : Option Text) (rs : List Row) → AllByRecursion IsRow rs → AllByRecursion IsRow (final_rows s w o rs)
  all-final s w o rs h = all-laid r s (end_flag r.indentation w o) (final_depth r.indentation) rs h

  pub white-final : (k : Indentation) (w : Text) → IsWhiteSpace w → IsWhiteSpace (final_white k w)
  white-final as_it_is w h = h
  white-final flush w h = refl
  white-final by_depth w h = refl

  final-rows-again : (s : Bool) (w : Text) (o : Option Text) (rs : List Row) → AllByRecursion IsRow rs
      → final_rows s (final_white r.indentation w) o (final_rows s w o rs) ≡ final_rows s w o rs
  final-rows-again s w o rs h =
      ap (λ b. laid_rows r s b (final_depth r.indentation) (laid_rows r s (end_flag r.indentation w o) (final_depth r.indentation) rs))
      (by_kind r.indentation)
      ∙ laid-again r s (end_flag r.indentation w o) (final_depth r.indentation) rs h
    where
      by_kind : (k : Indentation) → end_flag k (final_white k w) o ≡ end_flag k w o
      by_kind as_it_is = refl
      by_kind flush = refl
      by_kind by_depth = refl

  white-again : (k : Indentation) (w : Text) → final_white k (final_white k w) ≡ final_white k w
  white-again as_it_is w = refl
  white-again flush w = refl
  white-again by_depth w = refl

  bodies-final : (s : Bool) (w : Text) (o : Option Text) (rs : List Row) → row_bodies (final_rows s w o rs) ≡ row_bodies rs
  bodies-final s w o rs = bodies-laid r s (end_flag r.indentation w o) (final_depth r.indentation) rs

  -- the comments of rows and an open one
  comments-closing : (rs : List Row) (w : Text) (o : Option Text) → AllByRecursion IsRow rs → IsWhiteSpace w → IsBody o
      → comments (rows_text rs (w ++ body_text o)) ≡ row_bodies rs ++ cons_option o []
  comments-closing rs [] None h g k =
      ap (filter_map first_comment) (lines-rows rs [] h refl ∙ append-nil (map row_text rs))
      ∙ bodies-rows rs h ∙ sym (append-nil (row_bodies rs))
  comments-closing rs (c ∷ w) None h g k =
      let z = last_row (c ∷ w) None in
      ap (filter_map first_comment) (lines-any rs (line_part z) h (part-feed z (g, k)) refl)
      ∙ filter_map-append first_comment (map row_text rs) (one (line_part z))
      ∙ ap (λ bs. bs ++ cons_option (first_comment (line_part z)) []) (bodies-rows rs h)
      ∙ ap (λ x. row_bodies rs ++ cons_option x []) (first_comment-part z (g, k))
  comments-closing rs w (Some b) h g k =
      let z = last_row w (Some b) in
      ap (filter_map first_comment) (lines-any rs (line_part z) h (part-feed z (g, k)) (comment-some w b))
      ∙ filter_map-append first_comment (map row_text rs) (one (line_part z))
      ∙ ap (λ bs. bs ++ cons_option (first_comment (line_part z)) []) (bodies-rows rs h)
      ∙ ap (λ x. row_bodies rs ++ cons_option x []) (first_comment-part z (g, k))

  pub final-trivia : (s : Bool) (t : Text) → IsFinalTrivia t → IsFinalTrivia (final_text r s t)
  final-trivia s t h =
      let v = closing t h in
      subst IsFinalTrivia
      (sym (ap (final_text r s) v.is ∙ final-form s v.rows v.white v.body v.all v.is_white v.is_body))
      (closed (final_rows s v.white v.body v.rows) (final_white r.indentation v.white) v.body
      (all-final s v.white v.body v.rows v.all) (white-final r.indentation v.white v.is_white) v.is_body)

  pub final-again : (s : Bool) (t : Text) → IsFinalTrivia t → final_text r s (final_text r s t) ≡ final_text r s t
  final-again s t h =
      let v = closing t h in
      let k = r.indentation in
      let once = ap (final_text r s) v.is ∙ final-form s v.rows v.white v.body v.all v.is_white v.is_body in
      ap (final_text r s) once
      ∙ final-form s (final_rows s v.white v.body v.rows) (final_white k v.white) v.body (all-final s v.white v.body v.rows v.all)
      (white-final k v.white v.is_white) v.is_body
      ∙ ap (λ rs. rows_text rs (final_white k (final_white k v.white) ++ body_text v.body)) (final-rows-again s v.white v.body v.rows v.all)
      ∙ ap (λ w. rows_text (final_rows s v.white v.body v.rows) (w ++ body_text v.body)) (white-again k v.white)
      ∙ sym once

  pub final-comments : (s : Bool) (t : Text) → IsFinalTrivia t → comments (final_text r s t) ≡ comments t
  final-comments s t h =
      let v = closing t h in
      ap comments (ap (final_text r s) v.is ∙ final-form s v.rows v.white v.body v.all v.is_white v.is_body)
      ∙ comments-closing (final_rows s v.white v.body v.rows) (final_white r.indentation v.white) v.body
      (all-final s v.white v.body v.rows v.all) (white-final r.indentation v.white v.is_white) v.is_body
      ∙ ap (λ bs. bs ++ cons_option v.body []) (bodies-final s v.white v.body v.rows)
      ∙ sym (ap comments v.is ∙ comments-closing v.rows v.white v.body v.all v.is_white v.is_body)

  -- nothing is laid out as nothing
  pub final-none : (s : Bool) → final_text r s [] ≡ []
  final-none s =
      final-form s [] [] None tt refl tt ∙ ap (λ rs. rows_text rs (final_white r.indentation [] ++ [])) (none-final s)
      ∙ by_kind r.indentation
    where
      none-final : (b : Bool) → final_rows b [] None [] ≡ []
      none-final b = none-laid r b (end_flag r.indentation [] None) (final_depth r.indentation)

      by_kind : (k : Indentation) → final_white k [] ++ [] ≡ []
      by_kind as_it_is = refl
      by_kind flush = refl
      by_kind by_depth = refl
