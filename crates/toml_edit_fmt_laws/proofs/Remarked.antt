-- The comments of a formatted document are those of the document, each with what it belongs to and on its side.
use Rattle.std.proofs.Common.{◌≡◌, refl, sym, ap, ◌∙◌, ℕ, suc, Bool, true, false, List, [], ◌∷◌, ◌++◌, drop, Option, Some, None, append_assoc, append-nil, inl, inr}
use Rattle.std.specs.Prelude.{◌⊎◌, ◌==◌, ◌||◌, not, if◌then◌else◌, length, take}
use Rattle.std.specs.List.{AllByRecursion, cons_option, filter_map, flat_map}
use Rattle.toml_edit_model.specs.Comments.{comments, first_comment, lines}
use Rattle.toml_edit_model.specs.Paths.{Path, to_element}
use Rattle.toml_edit_model.specs.Print.{one_space}
use Rattle.toml_edit_model.specs.Syntax.{Value, scalar, array, inline_table, Elements, no_elements, element, Pairs, no_pairs, pair}
use Rattle.toml_edit_model.specs.Syntax.{Statement, key_line, header, has_elements, has_pairs, IsClose, IsValue, AreElements, ArePairs, IsStatement, AreStatements}
use Rattle.toml_edit_model.specs.Text.{Text, is_empty}
use Rattle.toml_edit_model.specs.Trivia.{IsWhiteSpace, IsWholeTrivia, IsFinalTrivia, IsNewline}
use Rattle.toml_edit_laws.proofs.accepted_prints.PrintedValues.{whole-append}
use Rattle.toml_edit_laws.proofs.common.Tests.{or-true, or-left, or-right}
use Rattle.toml_edit_laws.proofs.common.Trivia.{close-trivia}
use Rattle.toml_edit_fmt_laws.specs.Rules.{Rules, Arrays, arrays_stay, kept, collapsed, Commas, commas_stay, always, never, line_depth, header_depth}
use Rattle.toml_edit_fmt_laws.specs.Laying.{is_broken, leading, gap, before_comma, line_rest, final_text, usual_pad}
use Rattle.toml_edit_fmt_laws.specs.Formatted.{Layout, untouched, on_one_line, line_by_line, in_rows, open_if, rows_if, is_in_rows, array_layout_as, array_layout, inline_layout}
use Rattle.toml_edit_fmt_laws.specs.Formatted.{has_comments, elements_have_comments, has_broken_elements, has_broken_pairs, open_comma}
use Rattle.toml_edit_fmt_laws.specs.Formatted.{before_part, after_part, inside, inner_depth, inner_room, last_after, last_trailing}
use Rattle.toml_edit_fmt_laws.specs.Formatted.{elements_count, pairs_count, last_pad, laid_frame, laid_value, laid_elements, laid_pairs, used_before}
use Rattle.toml_edit_fmt_laws.specs.Formatted.{State, start, stays, reached, leading_of, after, laid_statement, lay, laid_statements, state_after, laid_final}
use Rattle.toml_edit_fmt_laws.specs.Remarks.{Remark, Spot, spot, ahead, behind, opening, closing, bodies_in, remarks_at, gap_remarks, value_remarks, element_remarks, pair_remarks}
use Rattle.toml_edit_fmt_laws.specs.Remarks.{statement_remarks, remarks_from}
use Rattle.toml_edit_fmt_laws.specs.Promises.{KeepsRemarks}
use Rattle.toml_edit_fmt_laws.proofs.Ends.{final-comments}
use Rattle.toml_edit_fmt_laws.proofs.Rows.{Row, IsRow, rows_text, row_text, Rows, view, broken-row, white-whole, white-unbroken}
use Rattle.toml_edit_fmt_laws.proofs.GapLaws.{gap-first, gap-below, first-lines, below-lines, comma-comments}
use Rattle.toml_edit_fmt_laws.proofs.LeadingLaws.{leading-comments}
use Rattle.toml_edit_fmt_laws.proofs.HeaderLaws.{header-comments}
use Rattle.toml_edit_fmt_laws.proofs.LineRests.{rest-comments}

-- ---- trivia without a newline has no comments

pub record NoBodies (t : Text) : Type 0 where
  pub first : bodies_in (take 1 (lines t)) ≡ []
  pub below : bodies_in (drop 1 (lines t)) ≡ []

pub no-bodies : (t : Text) → IsWholeTrivia t → is_broken t ≡ false → NoBodies t
no-bodies t h e = by_rows (view t h)
  where
    by_rows : Rows t → NoBodies t
    by_rows v = by_list v.rows v.last v.all v.white v.is
      where
        by_list : (rs : List Row) (l : Text) → AllByRecursion IsRow rs → IsWhiteSpace l → t ≡ rows_text rs l → NoBodies t
        by_list [] l a w is =
            record {
              first = ap (λ u. bodies_in (take 1 (lines u))) is ∙ first-lines [] l a w;
              below = ap (λ u. bodies_in (drop 1 (lines u))) is ∙ below-lines [] l a w;
            }
        by_list (x ∷ xs) l a w is =
            absurd (let clash : true ≡ false = sym (ap is_broken (is ∙ assoc x xs l) ∙ broken-row x (rows_text xs l)) ∙ e in cc)
          where
            assoc : (y : Row) (ys : List Row) (m : Text) → rows_text (y ∷ ys) m ≡ row_text y ++ rows_text ys m
            assoc y ys m = append_assoc (row_text y) (flat_map row_text ys) m

-- the comments of a text are that of the first line and those below it
pub split-bodies : (t : Text) → comments t ≡ bodies_in (take 1 (lines t)) ++ bodies_in (drop 1 (lines t))
split-bodies t = by_lines (lines t)
  where
    by_lines : (ls : List Text) → filter_map first_comment ls ≡ bodies_in (take 1 ls) ++ bodies_in (drop 1 ls)
    by_lines [] = refl
    by_lines (l ∷ ls) = by_first (first_comment l)
      where
        by_first : (o : Option Text) → cons_option o (filter_map first_comment ls) ≡ cons_option o [] ++ filter_map first_comment ls
        by_first None = refl
        by_first (Some b) = refl

pub no-comments : (t : Text) → NoBodies t → comments t ≡ []
no-comments t h = split-bodies t ∙ ap (λ bs. bs ++ bodies_in (drop 1 (lines t))) h.first ∙ h.below

empty-both : (t : Text) → comments t ≡ [] → NoBodies t
empty-both t h =
    record {
      first = left (bodies_in (take 1 (lines t))) (bodies_in (drop 1 (lines t))) all;
      below = right (bodies_in (take 1 (lines t))) (bodies_in (drop 1 (lines t))) all;
    }
  where
    all : bodies_in (take 1 (lines t)) ++ bodies_in (drop 1 (lines t)) ≡ []
    all = sym (split-bodies t) ∙ h

    left : (xs ys : List Text) → xs ++ ys ≡ [] → xs ≡ []
    left [] ys k = refl
    left (x ∷ xs) ys k = absurd (let clash : x ∷ (xs ++ ys) ≡ [] = k in cc)

    right : (xs ys : List Text) → xs ++ ys ≡ [] → ys ≡ []
    right [] ys k = k
    right (x ∷ xs) ys k = absurd (let clash : x ∷ (xs ++ ys) ≡ [] = k in cc)

white-none : (t : Text) → IsWhiteSpace t → NoBodies t
white-none t h = no-bodies t (white-whole t h) (white-unbroken t h)

-- by the tests of layouts
pub silent : (t : Text) → has_comments t ≡ false → NoBodies t
silent t e = empty-both t (by_list (comments t) e)
  where
    by_list : (cs : List Text) → not (is_empty cs) ≡ false → cs ≡ []
    by_list [] k = refl
    by_list (c ∷ cs) k = cc

-- ---- what a layout on one line says

abbrev pub QuietElements : Elements → Type 0
QuietElements no_elements = Unit {0}
QuietElements (element a v es) = NoBodies a.before × NoBodies a.after × QuietElements es

abbrev pub QuietPairs : Pairs → Type 0
QuietPairs no_pairs = Unit {0}
QuietPairs (pair f v ps) = NoBodies f.leading × NoBodies f.trailing × QuietPairs ps

unbroken-quiet : (es : Elements) → AreElements es → has_broken_elements es ≡ false → QuietElements es
unbroken-quiet no_elements h e = tt
unbroken-quiet (element a v es) h e =
    let both = or-left (is_broken a.before || is_broken a.after) (has_broken_elements es) e in (
      no-bodies a.before h.0 (or-left (is_broken a.before) _ both),
      no-bodies a.after h.1 (or-right (is_broken a.before) _ both),
      unbroken-quiet es h.3 (or-right _ (has_broken_elements es) e),
    )

silent-quiet : (es : Elements) → elements_have_comments es ≡ false → QuietElements es
silent-quiet no_elements e = tt
silent-quiet (element a v es) e =
    let both = or-left (has_comments a.before || has_comments a.after) (elements_have_comments es) e in (
      silent a.before (or-left (has_comments a.before) _ both),
      silent a.after (or-right (has_comments a.before) _ both),
      silent-quiet es (or-right _ (elements_have_comments es) e),
    )

pairs-quiet : (ps : Pairs) → ArePairs ps → has_broken_pairs ps ≡ false → QuietPairs ps
pairs-quiet no_pairs h e = tt
pairs-quiet (pair f v ps) h e =
    let both = or-left (is_broken f.leading || is_broken f.trailing) (has_broken_pairs ps) e in (
      no-bodies f.leading h.0.0.leading (or-left (is_broken f.leading) _ both),
      no-bodies f.trailing h.0.0.trailing (or-right (is_broken f.leading) _ both),
      pairs-quiet ps h.2 (or-right _ (has_broken_pairs ps) e),
    )

rows-one : (asked : Bool) (l : Layout) → rows_if asked l ≡ on_one_line → l ≡ on_one_line
rows-one true line_by_line e = cc
rows-one false line_by_line e = cc
rows-one asked in_rows e = e
rows-one asked untouched e = e
rows-one asked on_one_line e = e

open-one : (has asked : Bool) (t : Text) → open_if has asked t ≡ on_one_line → (if has then asked else has_comments t) ≡ false
open-one has asked t e = by_test (if has then asked else has_comments t) e
  where
    by_test : (b : Bool) → (if b then line_by_line else on_one_line) ≡ on_one_line → b ≡ false
    by_test true k = cc
    by_test false k = refl

none-one : (t : Text) → (if has_comments t then line_by_line else on_one_line) ≡ on_one_line → has_comments t ≡ false
none-one t e = open-one false false t e

module _ (r : Rules) where
  array-quiet : (depth : ℕ) (room : Option ℕ) (es : Elements) (comma : Bool) (t : Text) → AreElements es → IsWholeTrivia t
      → array_layout r depth room es comma t ≡ on_one_line → QuietElements es × NoBodies t
  array-quiet depth room no_elements comma t h w e = (tt, by_kind r.arrays e)
    where
      by_kind : (a : Arrays) → array_layout_as a r depth room no_elements comma t ≡ on_one_line → NoBodies t
      by_kind arrays_stay k = absurd (let clash : untouched ≡ on_one_line = k in cc)
      by_kind kept k = silent t (none-one t (rows-one (is_in_rows r depth comma no_elements) _ k))
      by_kind collapsed k = silent t (none-one t (rows-one (is_in_rows r depth comma no_elements) _ k))
  array-quiet depth room (element a v es) comma t h w e = by_kind r.arrays e
    where
      xs : Elements
      xs = element a v es

      by_kind : (k : Arrays) → array_layout_as k r depth room xs comma t ≡ on_one_line → QuietElements xs × NoBodies t
      by_kind arrays_stay k = absurd (let clash : untouched ≡ on_one_line = k in cc)
      by_kind kept k =
          let none = or-left (has_broken_elements xs || is_broken t) _ (open-one true _ t (rows-one _ _ k)) in
          (unbroken-quiet xs h (or-left (has_broken_elements xs) _ none), no-bodies t w (or-right (has_broken_elements xs) _ none))
      by_kind collapsed k =
          let none = or-left (elements_have_comments xs || has_comments t) _ (open-one true _ t (rows-one _ _ k)) in
          (silent-quiet xs (or-left (elements_have_comments xs) _ none), silent t (or-right (elements_have_comments xs) _ none))

  inline-quiet : (ps : Pairs) (t : Text) → ArePairs ps → IsWholeTrivia t → inline_layout r ps t ≡ on_one_line → QuietPairs ps × NoBodies t
  inline-quiet no_pairs t h w e = (tt, by_test r.inline_tables e)
    where
      by_test : (b : Bool) → (if b then open_if false (false || is_broken t) t else untouched) ≡ on_one_line → NoBodies t
      by_test true k = silent t (none-one t k)
      by_test false k = absurd (let clash : untouched ≡ on_one_line = k in cc)
  inline-quiet (pair f v ps) t h w e = by_test r.inline_tables e
    where
      xs : Pairs
      xs = pair f v ps

      by_test : (b : Bool) → (if b then open_if true (has_broken_pairs xs || is_broken t) t else untouched) ≡ on_one_line
          → QuietPairs xs × NoBodies t
      by_test true k =
          let none = open-one true _ t k in
          (pairs-quiet xs h (or-left (has_broken_pairs xs) _ none), no-bodies t w (or-right (has_broken_pairs xs) _ none))
      by_test false k = absurd (let clash : untouched ≡ on_one_line = k in cc)

-- a comma goes only where no comment is before it
pub comma-none : (c : Commas) (after : Text) → open_comma c true true after ≡ false → NoBodies after
comma-none commas_stay after e = cc
comma-none always after e = cc
comma-none never after e = silent after e

module _ (r : Rules) (n : ℕ) where
  at-none : (p : Spot) (t : Text) → NoBodies t → remarks_at n p (comments t) ≡ []
  at-none p t h = ap (remarks_at n p) (no-comments t h)

  gap-none : (p q : Spot) (t : Text) → NoBodies t → gap_remarks n p q t ≡ []
  gap-none p q t h =
      ap (λ bs. remarks_at n p bs ++ remarks_at n q (bodies_in (drop 1 (lines t)))) h.first ∙ ap (remarks_at n q) h.below

  gap-laid : (k : ℕ) (s e : Bool) (depth last : ℕ) (t : Text) (p q : Spot) → IsWholeTrivia t
      → gap_remarks n p q (gap r k s e depth last t) ≡ gap_remarks n p q t
  gap-laid k s e depth last t p q h =
      ap (λ bs. remarks_at n p bs ++ remarks_at n q (bodies_in (drop 1 (lines (gap r k s e depth last t))))) (gap-first r k s e depth last t h)
      ∙ ap (λ bs. remarks_at n p (bodies_in (take 1 (lines t))) ++ remarks_at n q bs) (gap-below r k s e depth last t h)

  -- ---- parts

  if-none : (b : Bool) (s t : Text) → NoBodies s → NoBodies t → NoBodies (if b then s else t)
  if-none true s t h g = h
  if-none false s t h g = g

  before-kept : (l : Layout) (k : ℕ) (first : Bool) (depth : ℕ) (edge t : Text) (p q : Spot) → NoBodies edge → IsWholeTrivia t
      → (l ≡ on_one_line → NoBodies t)
      → gap_remarks n p q (before_part r l k first depth edge t) ≡ gap_remarks n p q t
  before-kept untouched k first depth edge t p q w h f = refl
  before-kept on_one_line k first depth edge t p q w h f =
      gap-none p q _ (if-none first edge one_space w (white-none one_space refl)) ∙ sym (gap-none p q t (f refl))
  before-kept line_by_line k first depth edge t p q w h f = gap-laid k first false (suc depth) (suc depth) t p q h
  before-kept in_rows k first depth edge t p q w h f = by_test (first || is_broken t) refl
    where
      by_test : (b : Bool) → (first || is_broken t) ≡ b
          → gap_remarks n p q (if b then gap r k first false (suc depth) (suc depth) t else one_space) ≡ gap_remarks n p q t
      by_test true e = gap-laid k first false (suc depth) (suc depth) t p q h
      by_test false e =
          gap-none p q one_space (white-none one_space refl) ∙ sym (gap-none p q t (no-bodies t h (or-right first (is_broken t) e)))

  -- where a comma follows
  after-kept : (l : Layout) (depth : ℕ) (t : Text) (p : Spot) → IsWholeTrivia t → (l ≡ on_one_line → NoBodies t)
      → remarks_at n p (comments (after_part r l true depth t)) ≡ remarks_at n p (comments t)
  after-kept untouched depth t p h f = refl
  after-kept on_one_line depth t p h f = sym (at-none p t (f refl))
  after-kept line_by_line depth t p h f = ap (remarks_at n p) (comma-comments r (suc depth) t h)
  after-kept in_rows depth t p h f = ap (remarks_at n p) (comma-comments r (suc depth) t h)

  -- what is after the last member and before the bracket, with a comma between both or none
  abbrev end_remarks : Spot → Spot → Bool → Text → Text → List Remark
  end_remarks p q comma s t =
      if comma || false then remarks_at n p (comments s) ++ gap_remarks n p q t else gap_remarks n p q (s ++ t)

  open-kept : (k depth : ℕ) (p q : Spot) (c d : Bool) (s t : Text) → IsWholeTrivia s → IsWholeTrivia t
      → (c ≡ true → d ≡ false → NoBodies s)
      → let u = gap r k false true (suc depth) depth (if c || false then t else s ++ t) in
      end_remarks p q d ((if c || false then before_comma r (suc depth) s else []) ++ (if d || false then [] else u)) (if d || false then u else [])
      ≡ end_remarks p q c s t
  open-kept k depth p q true true s t h g f =
      ap (λ u. remarks_at n p (comments u) ++ gap_remarks n p q (gap r k false true (suc depth) depth t)) (append-nil (before_comma r (suc depth) s))
      ∙ ap (λ cs. remarks_at n p cs ++ gap_remarks n p q (gap r k false true (suc depth) depth t)) (comma-comments r (suc depth) s h)
      ∙ ap (λ xs. remarks_at n p (comments s) ++ xs) (gap-laid k false true (suc depth) depth t p q g)
  open-kept k depth p q true false s t h g f =
      let none = f refl refl in
      let u = gap r k false true (suc depth) depth t in
      ap (λ cs. gap_remarks n p q (((if is_empty cs then [] else gap r (usual_pad r.comments) false false (suc depth) (suc depth) s) ++ u) ++ [])) (no-comments s none)
      ∙ ap (gap_remarks n p q) (append-nil u)
      ∙ gap-laid k false true (suc depth) depth t p q g
      ∙ sym (ap (λ xs. xs ++ gap_remarks n p q t) (at-none p s none))
  open-kept k depth p q false true s t h g f = gap-laid k false true (suc depth) depth (s ++ t) p q (whole-append s t h g)
  open-kept k depth p q false false s t h g f =
      ap (gap_remarks n p q) (append-nil (gap r k false true (suc depth) depth (s ++ t)))
      ∙ gap-laid k false true (suc depth) depth (s ++ t) p q (whole-append s t h g)

  end-kept : (l : Layout) (o : Path) (depth : ℕ) (space : Bool) (k : ℕ) (comma : Bool) (s t : Text) (p q : Spot) → IsWholeTrivia s
      → IsClose true comma t → (l ≡ on_one_line → NoBodies s × NoBodies t)
      → let x = inside r l o depth true space k comma s t in
      end_remarks p q x.comma (after_part r l (comma || false) depth s ++ x.last) x.close ≡ end_remarks p q comma s t
  end-kept untouched o depth space k comma s t p q h g f = ap (λ u. end_remarks p q comma u t) (append-nil s)
  end-kept on_one_line o depth space k comma s t p q h g f =
      gap-none p q _ (edge-none space) ∙ sym (by_comma comma g (f refl))
    where
      edge-none : (b : Bool) → NoBodies ((if b then one_space else []) ++ [])
      edge-none true = white-none one_space refl
      edge-none false = white-none [] refl

      by_comma : (c : Bool) → IsClose true c t → NoBodies s × NoBodies t → end_remarks p q c s t ≡ []
      by_comma true i e = ap (λ xs. xs ++ gap_remarks n p q t) (at-none p s e.0) ∙ gap-none p q t e.1
      by_comma false (w, inl i) e = absurd (let clash : true ≡ false = i in cc)
      by_comma false (w, inr i) e =
          ap (λ u. gap_remarks n p q (s ++ u)) i ∙ ap (gap_remarks n p q) (append-nil s) ∙ gap-none p q s e.0
  end-kept line_by_line o depth space k comma s t p q h g f =
      open-kept k depth p q comma (open_comma r.commas true comma s) s t h (close-trivia true comma t g)
      (λ e i. comma-none r.commas s (sym (ap (λ c. open_comma r.commas true c s) e) ∙ i))
  end-kept in_rows o depth space k comma s t p q h g f =
      open-kept k depth p q comma (open_comma r.commas true comma s) s t h (close-trivia true comma t g)
      (λ e i. comma-none r.commas s (sym (ap (λ c. open_comma r.commas true c s) e) ∙ i))

  -- nothing is between the brackets
  none-kept : (l : Layout) (o : Path) (depth : ℕ) (space : Bool) (k : ℕ) (comma : Bool) (t : Text) (p q : Spot) → IsClose false comma t
      → (l ≡ on_one_line → NoBodies t) → gap_remarks n p q (inside r l o depth false space k comma [] t).close ≡ gap_remarks n p q t
  none-kept untouched o depth space k comma t p q h f = refl
  none-kept on_one_line o depth space k comma t p q h f = gap-none p q [] (white-none [] refl) ∙ sym (gap-none p q t (f refl))
  none-kept line_by_line o depth space k comma t p q h f =
      ap (λ b. gap_remarks n p q (if b then gap r k true true (suc depth) depth (if comma || true then t else [] ++ t) else []))
      (or-true (open_comma r.commas false comma []))
      ∙ ap (λ b. gap_remarks n p q (gap r k true true (suc depth) depth (if b then t else [] ++ t))) (or-true comma)
      ∙ gap-laid k true true (suc depth) depth t p q (close-trivia false comma t h)
  none-kept in_rows o depth space k comma t p q h f =
      ap (λ b. gap_remarks n p q (if b then gap r k true true (suc depth) depth (if comma || true then t else [] ++ t) else []))
      (or-true (open_comma r.commas false comma []))
      ∙ ap (λ b. gap_remarks n p q (gap r k true true (suc depth) depth (if b then t else [] ++ t))) (or-true comma)
      ∙ gap-laid k true true (suc depth) depth t p q (close-trivia false comma t h)

  edge-none : (b : Bool) → NoBodies (if b then one_space else [])
  edge-none true = white-none one_space refl
  edge-none false = white-none [] refl

  -- ---- values

  module _ (pad : Path → ℕ) where
    mutual
      value-kept : (p : Path) (depth : ℕ) (room : Option ℕ) (v : Value) → IsValue v
          → value_remarks n (laid_value r pad p depth room v) p ≡ value_remarks n v p
      value-kept p depth room (scalar s t) h = refl
      value-kept p depth room (array no_elements comma t) h =
          none-kept (array_layout r depth room no_elements comma t) p depth r.bracket_space (last_pad r pad p 0) comma t _ _ h.0
          (λ e. (array-quiet r depth room no_elements comma t h.1 (close-trivia false comma t h.0) e).1)
      value-kept p depth room (array (element a v es) comma t) h =
          elements-kept (array_layout r depth room (element a v es) comma t) p depth r.bracket_space (last_pad r pad p (suc (elements_count es)))
          comma t (spot opening p) 0 (usual_pad r.comments) (element a v es) h.1 h.0
          (array-quiet r depth room (element a v es) comma t h.1 (close-trivia true comma t h.0)) refl
      value-kept p depth room (inline_table no_pairs comma t) h =
          none-kept (inline_layout r no_pairs t) p depth r.brace_space (last_pad r pad p 0) comma t _ _ h.0
          (λ e. (inline-quiet r no_pairs t h.1 (close-trivia false comma t h.0) e).1)
      value-kept p depth room (inline_table (pair f v ps) comma t) h =
          pairs-kept (inline_layout r (pair f v ps) t) p depth r.brace_space (last_pad r pad p (suc (pairs_count ps)))
          comma t (spot opening p) 0 (usual_pad r.comments) (pair f v ps) h.1 h.0
          (inline-quiet r (pair f v ps) t h.1 (close-trivia true comma t h.0)) refl

      elements-kept : (l : Layout) (p : Path) (depth : ℕ) (space : Bool) (k : ℕ) (comma : Bool) (t : Text) (b : Spot) (i m : ℕ) (es : Elements)
          → AreElements es → IsClose true comma t → (l ≡ on_one_line → QuietElements es × NoBodies t) → has_elements es ≡ true
          → let x = inside r l p depth true space k comma (last_after es) t in
          element_remarks n p b i x.comma x.close (laid_elements r pad x i m es) ≡ element_remarks n p b i comma t es
      elements-kept l p depth space k comma t b i m no_elements h g f some = absurd (let clash : false ≡ true = some in cc)
      elements-kept l p depth space k comma t b i m (element a v no_elements) h g f some =
          let here = to_element p i in
          let x = inside r l p depth true space k comma a.after t in
          let w = laid_value r pad here (inner_depth l depth) (inner_room r l depth) v in
          let end = end_remarks (spot behind here) (spot closing p) x.comma (after_part r l (comma || false) depth a.after ++ x.last) x.close in
          ap (λ xs. xs ++ (value_remarks n w here ++ end))
          (before-kept l m (i == 0) depth x.edge a.before b (spot ahead here) (edge-none space) h.0 (λ e. (f e).0.0))
          ∙ ap (λ xs. gap_remarks n b (spot ahead here) a.before ++ (xs ++ end)) (value-kept here (inner_depth l depth) (inner_room r l depth) v h.2)
          ∙ ap (λ xs. gap_remarks n b (spot ahead here) a.before ++ (value_remarks n v here ++ xs))
          (end-kept l p depth space k comma a.after t (spot behind here) (spot closing p) h.1 g (λ e. ((f e).0.1, (f e).1)))
      elements-kept l p depth space k comma t b i m (element a v (element c u es)) h g f some =
          let here = to_element p i in
          let rest = element c u es in
          let x = inside r l p depth true space k comma (last_after rest) t in
          let w = laid_value r pad here (inner_depth l depth) (inner_room r l depth) v in
          let before = before_part r l m (i == 0) depth x.edge a.before in
          let after_it = λ (z : Bool). after_part r l z depth a.after ++ [] in
          let more = element_remarks n p (spot behind here) (suc i) x.comma x.close (laid_elements r pad x (suc i) (pad here) rest) in
          let other = gap_remarks n (spot behind here) (spot closing p) (after_it (comma || true) ++ x.close) in
          ap (λ z. gap_remarks n b (spot ahead here) before ++ (value_remarks n w here ++ (if z
          then remarks_at n (spot behind here) (comments (after_it (comma || true))) ++ more else other))) (or-true x.comma)
          ∙ ap (λ z. gap_remarks n b (spot ahead here) before ++ (value_remarks n w here
          ++ (remarks_at n (spot behind here) (comments (after_it z)) ++ more))) (or-true comma)
          ∙ ap (λ y. gap_remarks n b (spot ahead here) before ++ (value_remarks n w here
          ++ (remarks_at n (spot behind here) (comments y) ++ more))) (append-nil (after_part r l true depth a.after))
          ∙ ap (λ xs. xs ++ (value_remarks n w here ++ (remarks_at n (spot behind here) (comments (after_part r l true depth a.after)) ++ more)))
          (before-kept l m (i == 0) depth x.edge a.before b (spot ahead here) (edge-none space) h.0 (λ e. (f e).0.0))
          ∙ ap (λ xs. gap_remarks n b (spot ahead here) a.before
          ++ (xs ++ (remarks_at n (spot behind here) (comments (after_part r l true depth a.after)) ++ more)))
          (value-kept here (inner_depth l depth) (inner_room r l depth) v h.2)
          ∙ ap (λ xs. gap_remarks n b (spot ahead here) a.before ++ (value_remarks n v here ++ (xs ++ more)))
          (after-kept l depth a.after (spot behind here) h.1 (λ e. (f e).0.1))
          ∙ ap (λ xs. gap_remarks n b (spot ahead here) a.before ++ (value_remarks n v here ++ (remarks_at n (spot behind here) (comments a.after) ++ xs)))
          (elements-kept l p depth space k comma t (spot behind here) (suc i) (pad here) (element c u es) h.3 g (λ e. ((f e).0.2, (f e).1)) refl)
          ∙ ap (λ z. gap_remarks n b (spot ahead here) a.before ++ (value_remarks n v here ++ (if z
          then remarks_at n (spot behind here) (comments a.after) ++ element_remarks n p (spot behind here) (suc i) comma t rest
          else gap_remarks n (spot behind here) (spot closing p) (a.after ++ t)))) (sym (or-true comma))

      pairs-kept : (l : Layout) (p : Path) (depth : ℕ) (space : Bool) (k : ℕ) (comma : Bool) (t : Text) (b : Spot) (i m : ℕ) (ps : Pairs)
          → ArePairs ps → IsClose true comma t → (l ≡ on_one_line → QuietPairs ps × NoBodies t) → has_pairs ps ≡ true
          → let x = inside r l p depth true space k comma (last_trailing ps) t in
          pair_remarks n p b i x.comma x.close (laid_pairs r pad x i m ps) ≡ pair_remarks n p b i comma t ps
      pairs-kept l p depth space k comma t b i m no_pairs h g f some = absurd (let clash : false ≡ true = some in cc)
      pairs-kept l p depth space k comma t b i m (pair a v no_pairs) h g f some =
          let here = to_element p i in
          let x = inside r l p depth true space k comma a.trailing t in
          let w = laid_value r pad here (inner_depth l depth) None v in
          let end = end_remarks (spot behind here) (spot closing p) x.comma (after_part r l (comma || false) depth a.trailing ++ x.last) x.close in
          ap (λ xs. xs ++ (value_remarks n w here ++ end))
          (before-kept l m (i == 0) depth x.edge a.leading b (spot ahead here) (edge-none space) h.0.0.leading (λ e. (f e).0.0))
          ∙ ap (λ xs. gap_remarks n b (spot ahead here) a.leading ++ (xs ++ end)) (value-kept here (inner_depth l depth) None v h.1)
          ∙ ap (λ xs. gap_remarks n b (spot ahead here) a.leading ++ (value_remarks n v here ++ xs))
          (end-kept l p depth space k comma a.trailing t (spot behind here) (spot closing p) h.0.0.trailing g (λ e. ((f e).0.1, (f e).1)))
      pairs-kept l p depth space k comma t b i m (pair a v (pair c u ps)) h g f some =
          let here = to_element p i in
          let rest = pair c u ps in
          let x = inside r l p depth true space k comma (last_trailing rest) t in
          let w = laid_value r pad here (inner_depth l depth) None v in
          let before = before_part r l m (i == 0) depth x.edge a.leading in
          let after_it = λ (z : Bool). after_part r l z depth a.trailing ++ [] in
          let more = pair_remarks n p (spot behind here) (suc i) x.comma x.close (laid_pairs r pad x (suc i) (pad here) rest) in
          let other = gap_remarks n (spot behind here) (spot closing p) (after_it (comma || true) ++ x.close) in
          ap (λ z. gap_remarks n b (spot ahead here) before ++ (value_remarks n w here ++ (if z
          then remarks_at n (spot behind here) (comments (after_it (comma || true))) ++ more else other))) (or-true x.comma)
          ∙ ap (λ z. gap_remarks n b (spot ahead here) before ++ (value_remarks n w here
          ++ (remarks_at n (spot behind here) (comments (after_it z)) ++ more))) (or-true comma)
          ∙ ap (λ y. gap_remarks n b (spot ahead here) before ++ (value_remarks n w here
          ++ (remarks_at n (spot behind here) (comments y) ++ more))) (append-nil (after_part r l true depth a.trailing))
          ∙ ap (λ xs. xs ++ (value_remarks n w here ++ (remarks_at n (spot behind here) (comments (after_part r l true depth a.trailing)) ++ more)))
          (before-kept l m (i == 0) depth x.edge a.leading b (spot ahead here) (edge-none space) h.0.0.leading (λ e. (f e).0.0))
          ∙ ap (λ xs. gap_remarks n b (spot ahead here) a.leading
          ++ (xs ++ (remarks_at n (spot behind here) (comments (after_part r l true depth a.trailing)) ++ more)))
          (value-kept here (inner_depth l depth) None v h.1)
          ∙ ap (λ xs. gap_remarks n b (spot ahead here) a.leading ++ (value_remarks n v here ++ (xs ++ more)))
          (after-kept l depth a.trailing (spot behind here) h.0.0.trailing (λ e. (f e).0.1))
          ∙ ap (λ xs. gap_remarks n b (spot ahead here) a.leading ++ (value_remarks n v here ++ (remarks_at n (spot behind here) (comments a.trailing) ++ xs)))
          (pairs-kept l p depth space k comma t (spot behind here) (suc i) (pad here) (pair c u ps) h.2 g (λ e. ((f e).0.2, (f e).1)) refl)
          ∙ ap (λ z. gap_remarks n b (spot ahead here) a.leading ++ (value_remarks n v here ++ (if z
          then remarks_at n (spot behind here) (comments a.trailing) ++ pair_remarks n p (spot behind here) (suc i) comma t rest
          else gap_remarks n (spot behind here) (spot closing p) (a.trailing ++ t)))) (sym (or-true comma))

    -- ---- statements

    statement-kept : (End : Text → Type 0) (st : State) (s : Statement) → IsStatement End s
        → statement_remarks n (lay r pad st s) ≡ statement_remarks n s
    statement-kept End st s h = by_test (stays (reached r st (leading_of s))) s h
      where
        by_test : (b : Bool) (s : Statement) → IsStatement End s
            → statement_remarks n (if b then s else laid_statement r pad st s) ≡ statement_remarks n s
        by_test true s h = refl
        by_test false (key_line f v end) h =
            let depth = line_depth r st.keys in
            let frame = laid_frame r (leading r st.is_start depth f.leading) (line_rest r (pad []) f.trailing) f in
            let room = Some (used_before frame) in
            let w = laid_value r pad [] depth room v in
            ap (λ cs. remarks_at n (spot ahead []) cs ++ (value_remarks n w [] ++ remarks_at n (spot behind []) (comments (line_rest r (pad []) f.trailing))))
            (leading-comments r st.is_start depth f.leading h.0.0.leading)
            ∙ ap (λ xs. remarks_at n (spot ahead []) (comments f.leading) ++ (xs ++ remarks_at n (spot behind []) (comments (line_rest r (pad []) f.trailing))))
            (value-kept [] depth room v h.1)
            ∙ ap (λ cs. remarks_at n (spot ahead []) (comments f.leading) ++ (value_remarks n v [] ++ remarks_at n (spot behind []) cs))
            (rest-comments r (pad []) f.trailing h.0.0.trailing)
        by_test false (header x end) h =
            ap (λ cs. remarks_at n (spot ahead []) cs ++ remarks_at n (spot behind []) (comments (line_rest r (usual_pad r.comments) x.trailing)))
            (header-comments r st.is_start (header_depth r (length x.path)) x.leading h.0.0.leading)
            ∙ ap (λ cs. remarks_at n (spot ahead []) (comments x.leading) ++ remarks_at n (spot behind []) cs)
            (rest-comments r (usual_pad r.comments) x.trailing h.0.0.trailing)

module _ (r : Rules) (pad : ℕ → Path → ℕ) where
  statements-kept : (final : Text) (n : ℕ) (st : State) (ss : List Statement) → AreStatements final ss
      → remarks_from n (laid_statements r pad n st ss) ≡ remarks_from n ss
  statements-kept final n st [] h = refl
  statements-kept final n st (s ∷ []) h =
      ap (λ xs. xs ++ []) (statement-kept r n (pad n) (λ end. IsNewline end ⊎ ((end ≡ []) × (final ≡ []))) st s h)
  statements-kept final n st (s ∷ next ∷ rest) h =
      ap (λ xs. xs ++ remarks_from (suc n) (laid_statements r pad (suc n) (after r st s) (next ∷ rest)))
      (statement-kept r n (pad n) IsNewline st s h.0)
      ∙ ap (λ xs. statement_remarks n s ++ xs) (statements-kept final (suc n) (after r st s) (next ∷ rest) h.1)

  count-laid : (n : ℕ) (st : State) (ss : List Statement) → length (laid_statements r pad n st ss) ≡ length ss
  count-laid n st [] = refl
  count-laid n st (s ∷ rest) = ap suc (count-laid (suc n) (after r st s) rest)

final-kept : (r : Rules) (st : State) (t : Text) → IsFinalTrivia t → comments (laid_final r st t) ≡ comments t
final-kept r st t h = by_test (stays (reached r st t))
  where
    by_test : (b : Bool) → comments (if b then t else final_text r st.is_start t) ≡ comments t
    by_test true = refl
    by_test false = final-comments r st.is_start t h

pub keeps_remarks : KeepsRemarks
keeps_remarks r pad d h =
    let st = state_after r start d.statements in
    let end = laid_final r st d.final in
    ap (λ xs. xs ++ remarks_at (length (laid_statements r pad 0 start d.statements)) (spot ahead []) (comments end))
    (statements-kept r pad d.final 0 start d.statements h.0)
    ∙ ap (λ n. remarks_from 0 d.statements ++ remarks_at n (spot ahead []) (comments end)) (count-laid r pad 0 start d.statements)
    ∙ ap (λ cs. remarks_from 0 d.statements ++ remarks_at (length d.statements) (spot ahead []) cs) (final-kept r st d.final h.1)
