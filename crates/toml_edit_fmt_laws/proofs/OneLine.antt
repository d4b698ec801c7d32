-- Where no line is too wide, a value on one line stays on one line.
use Rattle.std.proofs.Common.{◌≡◌, refl, sym, ap, ◌∙◌, ℕ, suc, Bool, true, false, not, List, [], ◌∷◌, ◌++◌, ◌+◌, Option, Some, None, append_assoc}
use Rattle.std.specs.Prelude.{◌&&◌, ◌||◌, ◌==◌, if◌then◌else◌, codes, flat_map}
use Rattle.std.specs.List.{list_all}
use Rattle.std.proofs.lemmas.List.Folds.{list_all-append, list_any-append}
use Rattle.toml_edit_model.specs.Comments.{comments}
use Rattle.toml_edit_model.specs.Paths.{Path, to_element}
use Rattle.toml_edit_model.specs.Print.{one_space}
use Rattle.toml_edit_model.specs.Syntax.{Segment, Frame, Value, scalar, array, inline_table, Elements, no_elements, element, Pairs}
use Rattle.toml_edit_model.specs.Syntax.{no_pairs, pair, has_elements, has_pairs, comma_text, IsValue, AreElements, ArePairs}
use Rattle.toml_edit_model.specs.Text.{Text, is_empty, line_feed}
use Rattle.toml_edit_model.specs.Trivia.{IsWholeTrivia}
use Rattle.toml_edit_laws.proofs.common.Tests.{and_left, and_right, and_both, not-true, or-left, or-right, true-false}
use Rattle.toml_edit_laws.proofs.common.Trivia.{close-trivia}
use Rattle.toml_edit_fmt_laws.specs.Rules.{Rules, Arrays, arrays_stay, kept, collapsed}
use Rattle.toml_edit_fmt_laws.specs.Laying.{is_broken, usual_pad}
use Rattle.toml_edit_fmt_laws.specs.Formatted.{Layout, untouched, on_one_line, line_by_line, in_rows, is_over, is_too_wide, flat_width, open_if, rows_if, is_in_rows}
use Rattle.toml_edit_fmt_laws.specs.Formatted.{array_layout_as, array_layout, inline_layout, has_broken_elements, has_broken_pairs, has_comments, elements_have_comments}
use Rattle.toml_edit_fmt_laws.specs.Formatted.{before_part, after_part, Inside, inside, in_array, in_inline, inner_depth, inner_room}
use Rattle.toml_edit_fmt_laws.specs.Formatted.{last_after, last_trailing, last_pad, elements_count, pairs_count, laid_frame, laid_value, laid_elements, laid_pairs}
use Rattle.toml_edit_fmt_laws.specs.Places.{Place, punctuation, at_equals, in_arrays, in_inline_tables, PlacedText}
use Rattle.toml_edit_fmt_laws.specs.Places.{placed, segment_texts, path_texts, frame_texts, value_texts, elements_texts, pairs_texts, is_inside, StaysOnOneLine}
use Rattle.toml_edit_fmt_laws.proofs.Rows.{Row, rows_text, row_text, Rows, view, row_bodies, broken-row, comments-rows}

abbrev fits_line : PlacedText → Bool
fits_line p = not (is_inside p.place && is_broken p.text)

-- No line ends in these.
record Flat (xs : List PlacedText) : Type 0 where
  is : list_all fits_line xs ≡ true

both : {xs ys : List PlacedText} → Flat xs → Flat ys → Flat (xs ++ ys)
both {xs} {ys} p q = record { is = list_all-append fits_line xs ys ∙ and_both (list_all fits_line xs) (list_all fits_line ys) p.is q.is }

front : (xs ys : List PlacedText) → Flat (xs ++ ys) → Flat xs
front xs ys p = record { is = and_left (list_all fits_line xs) (list_all fits_line ys) (sym (list_all-append fits_line xs ys) ∙ p.is) }

back : (xs ys : List PlacedText) → Flat (xs ++ ys) → Flat ys
back xs ys p = record { is = and_right (list_all fits_line xs) (list_all fits_line ys) (sym (list_all-append fits_line xs ys) ∙ p.is) }

-- a text at a place outside brackets, or without a newline
apart : (p : Place) (t : Text) → is_inside p ≡ false → Flat (placed p t)
apart p t e = record { is = ap (λ b. not (b && is_broken t) && true) e }

within : (p : Place) (t : Text) → is_broken t ≡ false → Flat (placed p t)
within p t e = record { is = ap (λ b. not (is_inside p && b) && true) e ∙ ap (λ b. not b && true) (and-false (is_inside p)) }
  where
    and-false : (b : Bool) → (b && false) ≡ false
    and-false true = refl
    and-false false = refl

unbroken : (p : Place) (t : Text) → is_inside p ≡ true → Flat (placed p t) → is_broken t ≡ false
unbroken p t e f = not-true (is_broken t) (sym (ap (λ b. not (b && is_broken t)) e) ∙ and_left (not (is_inside p && is_broken t)) true f.is)

comma-unbroken : (b : Bool) → is_broken (comma_text b) ≡ false
comma-unbroken true = refl
comma-unbroken false = refl

-- ---- layouts

abbrev is_lines : Layout → Bool
is_lines line_by_line = true
is_lines in_rows = true
is_lines untouched = false
is_lines on_one_line = false

open-lines : (has asked : Bool) (t : Text) → asked ≡ false → has_comments t ≡ false → is_lines (open_if has asked t) ≡ false
open-lines has asked t e g =
    ap (λ b. is_lines (if (if has then b else has_comments t) then line_by_line else on_one_line)) e
    ∙ ap (λ b. is_lines (if (if has then false else b) then line_by_line else on_one_line)) g ∙ by_test has
  where
    by_test : (b : Bool) → is_lines (if (if b then false else false) then line_by_line else on_one_line) ≡ false
    by_test true = refl
    by_test false = refl

rows-lines : (asked : Bool) (l : Layout) → is_lines l ≡ false → is_lines (rows_if asked l) ≡ false
rows-lines asked line_by_line e = cc
rows-lines asked in_rows e = e
rows-lines asked untouched e = e
rows-lines asked on_one_line e = e

-- trivia without a newline has no comment
no-comments : (t : Text) → IsWholeTrivia t → is_broken t ≡ false → is_empty (comments t) ≡ true
no-comments t h e = by_rows (view t h)
  where
    by_rows : Rows t → is_empty (comments t) ≡ true
    by_rows v = of_rows v.rows refl
      where
        of_rows : (rs : List Row) → v.rows ≡ rs → is_empty (comments t) ≡ true
        of_rows [] g = ap is_empty (ap comments v.is ∙ comments-rows v.rows v.last v.all v.white ∙ ap row_bodies g)
        of_rows (x ∷ xs) g =
            true-false (is_broken t)
            (ap is_broken (v.is ∙ ap (λ rs. rows_text rs v.last) g ∙ append_assoc (row_text x) (flat_map row_text xs) v.last)
            ∙ broken-row x (rows_text xs v.last)) e

-- no comment is in these
comments-unbroken : (t : Text) → IsWholeTrivia t → is_broken t ≡ false → has_comments t ≡ false
comments-unbroken t h e = ap not (no-comments t h e)

if-unbroken : (b : Bool) (s t : Text) → is_broken s ≡ false → is_broken t ≡ false → is_broken (if b then s else t) ≡ false
if-unbroken true s t e g = e
if-unbroken false s t e g = g

before-unbroken : (r : Rules) (l : Layout) (n : ℕ) (first : Bool) (depth : ℕ) (edge t : Text) → is_lines l ≡ false
    → is_broken edge ≡ false → is_broken t ≡ false → is_broken (before_part r l n first depth edge t) ≡ false
before-unbroken r untouched n first depth edge t e f g = g
before-unbroken r on_one_line n first depth edge t e f g = if-unbroken first edge one_space f refl
before-unbroken r line_by_line n first depth edge t e f g = cc
before-unbroken r in_rows n first depth edge t e f g = cc

after-unbroken : (r : Rules) (l : Layout) (comma : Bool) (depth : ℕ) (t : Text) → is_lines l ≡ false → is_broken t ≡ false
    → is_broken (after_part r l comma depth t) ≡ false
after-unbroken r untouched comma depth t e g = g
after-unbroken r on_one_line comma depth t e g = refl
after-unbroken r line_by_line comma depth t e g = cc
after-unbroken r in_rows comma depth t e g = cc

-- No line ends at the edges of what is between these brackets.
record FlatInside (x : Inside) : Type 0 where
  lines : is_lines x.layout ≡ false
  edge : is_broken x.edge ≡ false
  last : is_broken x.last ≡ false
  close : is_broken x.close ≡ false

inside-flat : (r : Rules) (l : Layout) (p : Path) (depth : ℕ) (has space : Bool) (n : ℕ) (comma : Bool) (last t : Text)
    → is_lines l ≡ false → is_broken t ≡ false → FlatInside (inside r l p depth has space n comma last t)
inside-flat r l p depth has space n comma last t e g = by_layout l e
  where
    edge : is_broken (if has && space then one_space else []) ≡ false
    edge = if-unbroken (has && space) one_space [] refl refl

    by_layout : (m : Layout) → is_lines m ≡ false → FlatInside (inside r m p depth has space n comma last t)
    by_layout untouched k = record { lines = refl; edge = edge; last = refl; close = g }
    by_layout on_one_line k =
        record {
          lines = refl;
          edge = edge;
          last = if-unbroken (false || not has) [] _ refl edge;
          close = if-unbroken (false || not has) _ [] edge refl;
        }
    by_layout line_by_line k = cc
    by_layout in_rows k = cc

end-unbroken : (r : Rules) (x : Inside) (has : Bool) (t : Text) → FlatInside x → is_broken t ≡ false
    → is_broken (after_part r x.layout (x.had_comma || has) x.depth t ++ (if has then [] else x.last)) ≡ false
end-unbroken r x has t f g =
    list_any-append (λ c. c == line_feed) (after_part r x.layout (x.had_comma || has) x.depth t) (if has then [] else x.last)
    ∙ ap (λ b. b || is_broken (if has then [] else x.last)) (after-unbroken r x.layout (x.had_comma || has) x.depth t f.lines g)
    ∙ if-unbroken has [] x.last refl f.last

-- ---- keys

path-flat : (p : List Segment) → Flat (path_texts p)
path-flat [] = record { is = refl }
path-flat (s ∷ []) = record { is = refl }
path-flat (s ∷ q ∷ rest) = both {xs = segment_texts s} (record { is = refl }) (both (apart punctuation (codes ".") refl) (path-flat (q ∷ rest)))

frame-flat : (before after : Place) (f : Frame) (vs : List PlacedText) → Flat (placed before f.leading) → Flat vs → Flat (placed after f.trailing)
    → Flat (frame_texts before after f vs)
frame-flat before after f vs b v a =
    both b
    (both (path-flat f.path)
    (both (apart at_equals f.before_equals refl)
    (both (apart punctuation (codes "=") refl) (both (apart at_equals f.after_equals refl) (both v a)))))

-- a pair's leading text, value and trailing text
frame-parts : (f : Frame) (vs : List PlacedText) → Flat (frame_texts in_inline_tables in_inline_tables f vs)
    → (is_broken f.leading ≡ false) × Flat vs × (is_broken f.trailing ≡ false)
frame-parts f vs h =
    let keys = back (placed in_inline_tables f.leading) _ h in
    let value = back (placed at_equals f.after_equals) _
    (back (placed punctuation (codes "=")) _ (back (placed at_equals f.before_equals) _ (back (path_texts f.path) _ keys))) in (
      unbroken in_inline_tables f.leading refl (front (placed in_inline_tables f.leading) _ h),
      front vs _ value,
      unbroken in_inline_tables f.trailing refl (back vs _ value),
    )

-- ---- values

elements-unbroken : (es : Elements) → Flat (elements_texts es) → has_broken_elements es ≡ false
elements-unbroken no_elements h = refl
elements-unbroken (element a v es) h =
    let after = back (value_texts v) _ (back (placed in_arrays a.before) _ h) in
    ap (λ b. (b || is_broken a.after) || has_broken_elements es) (unbroken in_arrays a.before refl (front (placed in_arrays a.before) _ h))
    ∙ ap (λ b. b || has_broken_elements es) (unbroken in_arrays a.after refl (front (placed in_arrays a.after) _ after))
    ∙ elements-unbroken es (back (placed punctuation (comma_text (has_elements es))) _ (back (placed in_arrays a.after) _ after))

elements-plain : (es : Elements) → AreElements es → has_broken_elements es ≡ false → elements_have_comments es ≡ false
elements-plain no_elements h e = refl
elements-plain (element a v es) h e =
    let both = or-left (is_broken a.before || is_broken a.after) (has_broken_elements es) e in
    ap (λ b. (b || has_comments a.after) || elements_have_comments es) (comments-unbroken a.before h.0 (or-left (is_broken a.before) _ both))
    ∙ ap (λ b. b || elements_have_comments es) (comments-unbroken a.after h.1 (or-right (is_broken a.before) _ both))
    ∙ elements-plain es h.3 (or-right _ (has_broken_elements es) e)

pairs-unbroken : (ps : Pairs) → Flat (pairs_texts ps) → has_broken_pairs ps ≡ false
pairs-unbroken no_pairs h = refl
pairs-unbroken (pair f v ps) h =
    let frame = frame_texts in_inline_tables in_inline_tables f (value_texts v) in
    let parts = frame-parts f (value_texts v) (front frame _ h) in
    ap (λ b. (b || is_broken f.trailing) || has_broken_pairs ps) parts.0
    ∙ ap (λ b. b || has_broken_pairs ps) parts.2
    ∙ pairs-unbroken ps (back (placed punctuation (comma_text (has_pairs ps))) _ (back frame _ h))

module _ (r : Rules) (no_width : r.width ≡ None) where
  narrow : (room : Option ℕ) (n : ℕ) → is_too_wide r room n ≡ false
  narrow None n = refl
  narrow (Some used) n = ap (λ o. is_over o (used + n)) no_width

  array-flat : (depth : ℕ) (room : Option ℕ) (es : Elements) (comma : Bool) (t : Text) → AreElements es → IsWholeTrivia t
      → has_broken_elements es ≡ false → is_broken t ≡ false → is_lines (array_layout r depth room es comma t) ≡ false
  array-flat depth room es comma t h w e g = by_kind r.arrays
    where
      no_comments : has_comments t ≡ false
      no_comments = comments-unbroken t w g

      wide : (b : Bool) → b ≡ false → (b || is_too_wide r room (flat_width r (array es comma t))) ≡ false
      wide b k = ap (λ x. x || is_too_wide r room (flat_width r (array es comma t))) k ∙ narrow room (flat_width r (array es comma t))

      by_kind : (a : Arrays) → is_lines (array_layout_as a r depth room es comma t) ≡ false
      by_kind arrays_stay = refl
      by_kind kept =
          rows-lines (is_in_rows r depth comma es) _
          (open-lines (has_elements es) _ t (wide (has_broken_elements es || is_broken t) (ap (λ b. b || is_broken t) e ∙ g)) no_comments)
      by_kind collapsed =
          rows-lines (is_in_rows r depth comma es) _
          (open-lines (has_elements es) _ t
          (wide (elements_have_comments es || has_comments t) (ap (λ b. b || has_comments t) (elements-plain es h e) ∙ no_comments)) no_comments)

  inline-flat : (ps : Pairs) (t : Text) → IsWholeTrivia t → has_broken_pairs ps ≡ false → is_broken t ≡ false
      → is_lines (inline_layout r ps t) ≡ false
  inline-flat ps t w e g = by_test r.inline_tables
    where
      by_test : (b : Bool) → is_lines (if b then open_if (has_pairs ps) (has_broken_pairs ps || is_broken t) t else untouched) ≡ false
      by_test true = open-lines (has_pairs ps) _ t (ap (λ x. x || is_broken t) e ∙ g) (comments-unbroken t w g)
      by_test false = refl

  module _ (pad : Path → ℕ) where
    mutual
      value-flat : (p : Path) (depth : ℕ) (room : Option ℕ) (v : Value) → IsValue v → Flat (value_texts v)
          → Flat (value_texts (laid_value r pad p depth room v))
      value-flat p depth room (scalar s t) h f = f
      value-flat p depth room (array es comma t) h f =
          let x = in_array r pad p depth room es comma t in
          let all = back (placed punctuation (codes "[")) _ f in
          let within_it : Flat (elements_texts es) = front (elements_texts es) _ all in
          let close = back (placed in_arrays (comma_text comma)) _ (back (elements_texts es) _ all) in
          let end : is_broken t ≡ false = unbroken in_arrays t refl (front (placed in_arrays t) _ close) in
          let flat : FlatInside x =
          inside-flat r (array_layout r depth room es comma t) p depth (has_elements es) r.bracket_space (last_pad r pad p (elements_count es))
          comma (last_after es) t
          (array-flat depth room es comma t h.1 (close-trivia (has_elements es) comma t h.0) (elements-unbroken es within_it) end) end in
          both (apart punctuation (codes "[") refl)
          (both (elements-flat x flat 0 (usual_pad r.comments) es h.1 within_it)
          (both (within in_arrays _ (comma-unbroken x.comma))
          (both (within in_arrays x.close flat.close) (apart punctuation (codes "]") refl))))
      value-flat p depth room (inline_table ps comma t) h f =
          let x = in_inline r pad p depth ps comma t in
          let all = back (placed punctuation (codes "{")) _ f in
          let within_it : Flat (pairs_texts ps) = front (pairs_texts ps) _ all in
          let close = back (placed in_inline_tables (comma_text comma)) _ (back (pairs_texts ps) _ all) in
          let end : is_broken t ≡ false = unbroken in_inline_tables t refl (front (placed in_inline_tables t) _ close) in
          let flat : FlatInside x =
          inside-flat r (inline_layout r ps t) p depth (has_pairs ps) r.brace_space (last_pad r pad p (pairs_count ps))
          comma (last_trailing ps) t
          (inline-flat ps t (close-trivia (has_pairs ps) comma t h.0) (pairs-unbroken ps within_it) end) end in
          both (apart punctuation (codes "{") refl)
          (both (pairs-flat x flat 0 (usual_pad r.comments) ps h.1 within_it)
          (both (within in_inline_tables _ (comma-unbroken x.comma))
          (both (within in_inline_tables x.close flat.close) (apart punctuation (codes "}") refl))))

      elements-flat : (x : Inside) → FlatInside x → (i n : ℕ) (es : Elements) → AreElements es
          → Flat (elements_texts es) → Flat (elements_texts (laid_elements r pad x i n es))
      elements-flat x e i n no_elements h f = f
      elements-flat x e i n (element a v es) h f =
          let inner = back (placed in_arrays a.before) _ f in
          let after = back (value_texts v) _ inner in
          let rest = back (placed punctuation (comma_text (has_elements es))) _ (back (placed in_arrays a.after) _ after) in
          both (within in_arrays _ (before-unbroken r x.layout n (i == 0) x.depth x.edge a.before e.lines e.edge
          (unbroken in_arrays a.before refl (front (placed in_arrays a.before) _ f))))
          (both (value-flat (to_element x.path i) (inner_depth x.layout x.depth) (inner_room r x.layout x.depth) v h.2 (front (value_texts v) _ inner))
          (both (within in_arrays _ (end-unbroken r x (has_elements es) a.after e
          (unbroken in_arrays a.after refl (front (placed in_arrays a.after) _ after))))
          (both (apart punctuation (comma_text (has_elements (laid_elements r pad x (suc i) (pad (to_element x.path i)) es))) refl)
          (elements-flat x e (suc i) (pad (to_element x.path i)) es h.3 rest))))

      pairs-flat : (x : Inside) → FlatInside x → (i n : ℕ) (ps : Pairs) → ArePairs ps
          → Flat (pairs_texts ps) → Flat (pairs_texts (laid_pairs r pad x i n ps))
      pairs-flat x e i n no_pairs h f = f
      pairs-flat x e i n (pair g v ps) h f =
          let frame = frame_texts in_inline_tables in_inline_tables g (value_texts v) in
          let parts = frame-parts g (value_texts v) (front frame _ f) in
          let rest = back (placed punctuation (comma_text (has_pairs ps))) _ (back frame _ f) in
          let before : Text = before_part r x.layout n (i == 0) x.depth x.edge g.leading in
          let after : Text = after_part r x.layout (x.had_comma || has_pairs ps) x.depth g.trailing ++ (if has_pairs ps then [] else x.last) in
          both (frame-flat in_inline_tables in_inline_tables (laid_frame r before after g)
          (value_texts (laid_value r pad (to_element x.path i) (inner_depth x.layout x.depth) None v))
          (within in_inline_tables before (before-unbroken r x.layout n (i == 0) x.depth x.edge g.leading e.lines e.edge parts.0))
          (value-flat (to_element x.path i) (inner_depth x.layout x.depth) None v h.1 parts.1)
          (within in_inline_tables after (end-unbroken r x (has_pairs ps) g.trailing e parts.2)))
          (both (apart punctuation (comma_text (has_pairs (laid_pairs r pad x (suc i) (pad (to_element x.path i)) ps))) refl)
          (pairs-flat x e (suc i) (pad (to_element x.path i)) ps h.2 rest))

pub stays_on_one_line : StaysOnOneLine
stays_on_one_line r no_width pad p depth room v h e = (value-flat r no_width pad p depth room v h (record { is = e })).is
