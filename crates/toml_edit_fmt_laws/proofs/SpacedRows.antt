-- The rows of a text with their empty lines spaced, and moved in.
use Rattle.std.proofs.Common.{◌≡◌, refl, sym, ap, ◌∙◌, ℕ, zero, suc, Bool, true, false, List, [], ◌∷◌, ◌++◌}
use Rattle.std.proofs.Common.{Option, Some, None, append_assoc, append-nil}
use Rattle.std.specs.Prelude.{if◌then◌else◌, map, is_none}
use Rattle.std.specs.List.{AllByRecursion, flat_map}
use Rattle.toml_edit_model.specs.Text.{Text, newline, joined}
use Rattle.toml_edit_model.specs.Trivia.{is_blank, IsWhiteSpace, Newline, lf, crlf, newline_text}
use Rattle.toml_edit_laws.proofs.common.Each.{each-append}
use Rattle.toml_edit_fmt_laws.specs.Rules.{Rules, Comments, as_they_are, apart, aligned, spaces, units, made_newline}
use Rattle.toml_edit_fmt_laws.specs.Laying.{is_empty_line, indented, spaced_by, spaced, laid_lines}
use Rattle.toml_edit_fmt_laws.proofs.Spacing.{spaced-again, all-spaced, spaced-found, spaced-map, spaced-more}
use Rattle.toml_edit_fmt_laws.proofs.Rows.{Row, row_text, IsRow, rows_text, last_lines, lines-rows, white-no-line}
use Rattle.toml_edit_fmt_laws.proofs.Rows.{empty-row, whole-lines, is_none_body, row_bodies, moved, all-moved, bodies-moved}
use Rattle.toml_edit_fmt_laws.proofs.Rows.{indented-rows, moved-again}

-- ---- white space

pub white-spaces : (n : ℕ) → IsWhiteSpace (spaces n)
white-spaces zero = refl
white-spaces (suc n) = white-spaces n

pub white-units : (r : Rules) (n : ℕ) → IsWhiteSpace (units r n)
white-units r zero = refl
white-units r (suc n) = each-append is_blank (spaces r.unit) (units r n) (white-spaces r.unit) (white-units r n)

-- before the comment of a row, where so many spaces are asked for
abbrev pub white_beside : Comments → ℕ → Option Text → Text → Text
white_beside c pad None w = []
white_beside as_they_are pad (Some b) w = w
white_beside (apart n) pad (Some b) w = spaces n
white_beside (aligned n) pad (Some b) w = spaces pad

pub beside-white : (c : Comments) (pad : ℕ) (o : Option Text) (w : Text) → IsWhiteSpace w → IsWhiteSpace (white_beside c pad o w)
beside-white c pad None w h = refl
beside-white as_they_are pad (Some b) w h = h
beside-white (apart n) pad (Some b) w h = white-spaces n
beside-white (aligned n) pad (Some b) w h = white-spaces pad

pub beside-again : (c : Comments) (pad other : ℕ) (o : Option Text) (w : Text)
    → white_beside c pad o (white_beside c other o w) ≡ white_beside c pad o w
beside-again c pad other None w = refl
beside-again as_they_are pad other (Some b) w = refl
beside-again (apart n) pad other (Some b) w = refl
beside-again (aligned n) pad other (Some b) w = refl

-- ---- rows spaced

module _ (r : Rules) where
  abbrev pub spaced_rows : Bool → Bool → List Row → List Row
  spaced_rows s e rs = spaced_by is_none_body r.blank_lines s e rs

  no-body : (x : Row) → is_none_body x ≡ true → x.body ≡ None
  no-body x h = by_body x.body h
    where
      by_body : (o : Option Text) → is_none o ≡ true → o ≡ None
      by_body None g = refl
      by_body (Some b) g = cc

  pub all-spaced-rows : (s e : Bool) (rs : List Row) → AllByRecursion IsRow rs → AllByRecursion IsRow (spaced_rows s e rs)
  all-spaced-rows s e rs h = all-spaced is_none_body IsRow r.blank_lines s e rs h

  bodies-spaced : (s e : Bool) (rs : List Row) → row_bodies (spaced_rows s e rs) ≡ row_bodies rs
  bodies-spaced s e rs = spaced-found is_none_body (λ x. x.body) no-body r.blank_lines s e rs

  -- moving rows in keeps which are empty
  spaced-moved : (s e : Bool) (indent : Text) (rs : List Row) → AllByRecursion IsRow rs
      → spaced_rows s e (map (moved indent) rs) ≡ map (moved indent) (spaced_rows s e rs)
  spaced-moved s e indent rs h = spaced-map (moved indent) is_none_body is_none_body IsRow (λ x g. refl) r.blank_lines s e rs h

  pub map-spaced : (s e : Bool) (rs : List Row) → AllByRecursion IsRow rs
      → spaced r.blank_lines s e (map row_text rs) ≡ map row_text (spaced_rows s e rs)
  map-spaced s e rs h = spaced-map row_text is_empty_line is_none_body IsRow (λ x k. empty-row x k) r.blank_lines s e rs h

  pub joined-rows : (rs : List Row) (l : Text) → joined (map row_text rs ++ last_lines l) ≡ rows_text rs l
  joined-rows [] [] = refl
  joined-rows [] (c ∷ l) = append-nil (c ∷ l)
  joined-rows (x ∷ xs) l =
      ap (λ u. row_text x ++ u) (joined-rows xs l) ∙ sym (append_assoc (row_text x) (flat_map row_text xs) l)

  -- ---- lines laid out are rows, as they are or moved in

  abbrev pub laid_rows : Bool → Bool → Option ℕ → List Row → List Row
  laid_rows s e None rs = spaced_rows s e rs
  laid_rows s e (Some depth) rs = map (moved (units r depth)) (spaced_rows s e rs)

  pub all-laid : (s e : Bool) (o : Option ℕ) (rs : List Row) → AllByRecursion IsRow rs → AllByRecursion IsRow (laid_rows s e o rs)
  all-laid s e None rs h = all-spaced-rows s e rs h
  all-laid s e (Some depth) rs h = all-moved (units r depth) (spaced_rows s e rs) (white-units r depth) (all-spaced-rows s e rs h)

  pub none-laid : (s e : Bool) (o : Option ℕ) → laid_rows s e o [] ≡ []
  none-laid s e o = by_depth o
    where
      none : (b : Option ℕ) (e : Bool) → spaced_by is_none_body b s e [] ≡ []
      none None e = refl
      none (Some most) true = refl
      none (Some most) false = refl

      by_depth : (o : Option ℕ) → laid_rows s e o [] ≡ []
      by_depth None = none r.blank_lines e
      by_depth (Some depth) = ap (map (moved (units r depth))) (none r.blank_lines e)

  pub bodies-laid : (s e : Bool) (o : Option ℕ) (rs : List Row) → row_bodies (laid_rows s e o rs) ≡ row_bodies rs
  bodies-laid s e None rs = bodies-spaced s e rs
  bodies-laid s e (Some depth) rs = bodies-moved (units r depth) (spaced_rows s e rs) ∙ bodies-spaced s e rs

  pub laid-again : (s e : Bool) (o : Option ℕ) (rs : List Row) → AllByRecursion IsRow rs
      → laid_rows s e o (laid_rows s e o rs) ≡ laid_rows s e o rs
  laid-again s e None rs h = spaced-again is_none_body r.blank_lines s e rs
  laid-again s e (Some depth) rs h =
      let indent = units r depth in
      ap (map (moved indent)) (spaced-moved s e indent (spaced_rows s e rs) (all-spaced-rows s e rs h))
      ∙ moved-again indent (spaced_rows s e (spaced_rows s e rs))
      ∙ ap (map (moved indent)) (spaced-again is_none_body r.blank_lines s e rs)

  -- moved in, the white space after the last newline goes
  pub moved-form : (s e : Bool) (depth : ℕ) (rs : List Row) (l : Text) → AllByRecursion IsRow rs → IsWhiteSpace l
      → laid_lines r s e (Some depth) (rows_text rs l) ≡ flat_map row_text (laid_rows s e (Some depth) rs)
  moved-form s e depth rs l h g =
      let indent = units r depth in
      ap (λ ls. flat_map (indented indent) (spaced r.blank_lines s e ls)) (whole-lines rs l h g)
      ∙ ap (flat_map (indented indent)) (map-spaced s e rs h)
      ∙ indented-rows indent (spaced_rows s e rs) (all-spaced-rows s e rs h)

  -- as they are, it stays, where the end of the text is not there
  pub kept-form : (s : Bool) (rs : List Row) (l : Text) → AllByRecursion IsRow rs → IsWhiteSpace l
      → laid_lines r s false None (rows_text rs l) ≡ rows_text (laid_rows s false None rs) l
  kept-form s rs l h g =
      ap (λ ls. joined (spaced r.blank_lines s false ls)) (lines-rows rs l h g)
      ∙ ap joined (by_last l g) ∙ joined-rows (spaced_rows s false rs) l
    where
      by_last : (m : Text) → IsWhiteSpace m
          → spaced r.blank_lines s false (map row_text rs ++ last_lines m) ≡ map row_text (spaced_rows s false rs) ++ last_lines m
      by_last [] k =
          ap (spaced r.blank_lines s false) (append-nil (map row_text rs)) ∙ map-spaced s false rs h
          ∙ sym (append-nil (map row_text (spaced_rows s false rs)))
      by_last (c ∷ m) k =
          spaced-more is_empty_line r.blank_lines s (map row_text rs) (c ∷ m) (white-no-line (c ∷ m) k)
          ∙ ap (λ ls. ls ++ ((c ∷ m) ∷ [])) (map-spaced s false rs h)

  -- ---- a newline that is made

  unfoldable pub made_end : Newline
  made_end = if r.returns then crlf else lf

  pub made-text : newline_text made_end ≡ made_newline r
  unfolding made_end
  made-text = by_test r.returns
    where
      by_test : (b : Bool) → newline_text (if b then crlf else lf) ≡ (if b then 13 ∷ newline else newline)
      by_test true = refl
      by_test false = refl
