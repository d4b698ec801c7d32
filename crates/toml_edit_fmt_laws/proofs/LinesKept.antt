-- Before the statements of a formatted document and at its end: without a rule for empty lines the same lines, but for white space at
-- their start, and without indentation the same lines, but for empty ones.
use Rattle.std.proofs.Common.{◌≡◌, refl, sym, ap, ◌∙◌, ℕ, suc, Bool, true, false, not, List, [], ◌∷◌, ◌++◌, length, Option, Some, None, append_assoc, append-nil}
use Rattle.std.specs.Prelude.{◌&&◌, ◌||◌, if◌then◌else◌, codes, filter, flat_map, map, is_none}
use Rattle.std.specs.List.{AllByRecursion, cons_option, filter_map}
use Rattle.std.proofs.lemmas.List.Elements.{filter-append}
use Rattle.toml_edit_model.specs.Comments.{lines, words}
use Rattle.toml_edit_model.specs.Paths.{Path}
use Rattle.toml_edit_model.specs.Syntax.{Segment, Frame, Value, scalar, array, inline_table, Elements, no_elements, element, Pairs}
use Rattle.toml_edit_model.specs.Syntax.{no_pairs, pair, Header, Statement, key_line, header, Document, has_elements, has_pairs, comma_text}
use Rattle.toml_edit_model.specs.Syntax.{opening_brackets, closing_brackets}
use Rattle.toml_edit_model.specs.Syntax.{IsStatement, AreStatements, IsDocument}
use Rattle.toml_edit_model.specs.Text.{Text, carriage_return, is_empty, newline, one}
use Rattle.toml_edit_model.specs.Trivia.{IsWhiteSpace, IsWholeTrivia, IsFinalTrivia, IsNewline, comment}
use Rattle.toml_edit_fmt_laws.specs.Rules.{as_it_is, Rules, units, line_depth, header_depth, made_newline}
use Rattle.toml_edit_fmt_laws.specs.Laying.{is_broken, is_empty_line, spaced_by, may_be_empty, leading_as, leading, header_leading, final_as, final_text}
use Rattle.toml_edit_fmt_laws.specs.Formatted.{State, start, stays, reached, leading_of, after, laid_statement, lay, laid_statements, state_after, laid_final, laid_document}
use Rattle.toml_edit_fmt_laws.specs.Places.{Place, punctuation, at_equals, at_dots, before_statements, after_statements}
use Rattle.toml_edit_fmt_laws.specs.Places.{line_ends, in_arrays, in_inline_tables, PlacedText, placed, segment_texts, path_texts, value_texts}
use Rattle.toml_edit_fmt_laws.specs.Places.{elements_texts, pairs_texts, brackets_texts, statement_texts, is_before_statements, leading_texts}
use Rattle.toml_edit_fmt_laws.specs.Places.{unindented, full_lines, FormattedKeepsPlaces}
use Rattle.toml_edit_fmt_laws.proofs.Ends.{closing, comment-some, last_row, end_flag, final_depth, final_white, final_rows, final-form, kept-final, all-final, white-final}
use Rattle.toml_edit_fmt_laws.proofs.LeadingLaws.{lead_depth, lead_rows, lead_last, lead-form, white-lead}
use Rattle.toml_edit_fmt_laws.proofs.PlacesKept.{places-kept, keys-kept, values-kept}
use Rattle.toml_edit_fmt_laws.proofs.Rows.{Row, row_text, IsRow, IsBody, body_text, ended_body, rows_text, view, part-feed, last_lines, lines-any, lines-rows}
use Rattle.toml_edit_fmt_laws.proofs.Rows.{words-row, words-part, is_none_body, empty-row, moved}
use Rattle.toml_edit_fmt_laws.proofs.SpacedRows.{spaced_rows, all-spaced-rows, laid_rows, all-laid}
use Rattle.toml_edit_fmt_laws.proofs.Spacing.{spaced-found}

-- ---- which texts these are

abbrev heads : List Statement → Text → List Text
heads [] final = one final
heads (s ∷ ss) final = leading_of s ∷ heads ss final

abbrev found : List PlacedText → List PlacedText
found xs = filter (λ p. is_before_statements p.place) xs

-- None of them is before a statement.
record Inner (xs : List PlacedText) : Type 0 where
  is : found xs ≡ []

both : {xs ys : List PlacedText} → Inner xs → Inner ys → Inner (xs ++ ys)
both {xs} {ys} p q =
    record { is = filter-append (λ p. is_before_statements p.place) xs ys ∙ ap (λ zs. zs ++ found ys) p.is ∙ q.is }

apart : (p : Place) (t : Text) → is_before_statements p ≡ false → Inner (placed p t)
apart p t e = record { is = ap (λ b. if b then record { place = p; text = t } ∷ [] else []) e }

inner-segment : (s : Segment) → Inner (segment_texts s)
inner-segment s = record { is = refl }

inner-path : (p : List Segment) → Inner (path_texts p)
inner-path [] = record { is = refl }
inner-path (s ∷ []) = inner-segment s
inner-path (s ∷ q ∷ rest) = both (inner-segment s) (both (apart punctuation (codes ".") refl) (inner-path (q ∷ rest)))

-- but for what is before it
inner-frame : (after : Place) (f : Frame) (vs : List PlacedText) → is_before_statements after ≡ false → Inner vs
    → Inner (path_texts f.path
    ++ (placed at_equals f.before_equals ++ (placed punctuation (codes "=")
    ++ (placed at_equals f.after_equals ++ (vs ++ placed after f.trailing)))))
inner-frame after f vs e v =
    both (inner-path f.path)
    (both (apart at_equals f.before_equals refl)
    (both (apart punctuation (codes "=") refl)
    (both (apart at_equals f.after_equals refl) (both v (apart after f.trailing e)))))

mutual
  inner-value : (v : Value) → Inner (value_texts v)
  inner-value (scalar s t) = record { is = refl }
  inner-value (array es comma t) =
      both (apart punctuation (codes "[") refl)
      (both (inner-elements es)
      (both (apart in_arrays (comma_text comma) refl) (both (apart in_arrays t refl) (apart punctuation (codes "]") refl))))
  inner-value (inline_table ps comma t) =
      both (apart punctuation (codes "{") refl)
      (both (inner-pairs ps)
      (both (apart in_inline_tables (comma_text comma) refl) (both (apart in_inline_tables t refl) (apart punctuation (codes "}") refl))))

  inner-elements : (es : Elements) → Inner (elements_texts es)
  inner-elements no_elements = record { is = refl }
  inner-elements (element a v es) =
      both (apart in_arrays a.before refl)
      (both (inner-value v)
      (both (apart in_arrays a.after refl) (both (apart punctuation (comma_text (has_elements es)) refl) (inner-elements es))))

  inner-pairs : (ps : Pairs) → Inner (pairs_texts ps)
  inner-pairs no_pairs = record { is = refl }
  inner-pairs (pair f v ps) =
      both (both (apart in_inline_tables f.leading refl) (inner-frame in_inline_tables f (value_texts v) refl (inner-value v)))
      (both (apart punctuation (comma_text (has_pairs ps)) refl) (inner-pairs ps))

inner-brackets : (h : Header) → Inner (brackets_texts h)
inner-brackets h =
    both (apart punctuation (opening_brackets h.is_array) refl)
    (both (apart at_dots h.opening refl)
    (both (inner-path h.path) (both (apart at_dots h.closing refl) (apart punctuation (closing_brackets h.is_array) refl))))

one-lead : (s : Statement) → found (statement_texts s) ≡ placed before_statements (leading_of s)
one-lead (key_line f v end) =
    ap (λ xs. record { place = before_statements; text = f.leading } ∷ xs)
    (both (inner-frame after_statements f (value_texts v) refl (inner-value v)) (apart line_ends end refl)).is
one-lead (header h end) =
    ap (λ xs. record { place = before_statements; text = h.leading } ∷ xs)
    (both (inner-brackets h) (both (apart after_statements h.trailing refl) (apart line_ends end refl))).is

leads : (ss : List Statement) (final : Text)
    → map (λ p. p.text) (found (flat_map statement_texts ss ++ placed before_statements final)) ≡ heads ss final
leads [] final = refl
leads (s ∷ ss) final =
    let rest : List PlacedText = flat_map statement_texts ss ++ placed before_statements final in
    ap (λ xs. map (λ (p : PlacedText). p.text) (found xs)) (append_assoc (statement_texts s) (flat_map statement_texts ss) (placed before_statements final))
    ∙ ap (map (λ (p : PlacedText). p.text)) (filter-append (λ (p : PlacedText). is_before_statements p.place) (statement_texts s) rest)
    ∙ ap (λ xs. map (λ (p : PlacedText). p.text) (xs ++ found rest)) (one-lead s)
    ∙ ap (λ ts. leading_of s ∷ ts) (leads ss final)

leading-texts : (d : Document) → leading_texts d ≡ heads d.statements d.final
leading-texts d = leads d.statements d.final

-- ---- what stays of each stays of all

module _ {A : Type 0} (r : Rules) (pad : ℕ → Path → ℕ) (g : Text → A)
    (line : (s : Bool) (depth : ℕ) (t : Text) → IsWholeTrivia t → g (leading r s depth t) ≡ g t)
    (head : (s : Bool) (depth : ℕ) (t : Text) → IsWholeTrivia t → g (header_leading r s depth t) ≡ g t)
    (last : (s : Bool) (t : Text) → IsFinalTrivia t → g (final_text r s t) ≡ g t) where
  statement-same : (MayEnd : Text → Type 0) (n : ℕ) (st : State) (s : Statement) → IsStatement MayEnd s
      → g (leading_of (lay r (pad n) st s)) ≡ g (leading_of s)
  statement-same MayEnd n st s h = by_test (stays (reached r st (leading_of s))) s h
    where
      by_test : (b : Bool) (s : Statement) → IsStatement MayEnd s
          → g (leading_of (if b then s else laid_statement r (pad n) st s)) ≡ g (leading_of s)
      by_test true s h = refl
      by_test false (key_line f v end) h = line st.is_start (line_depth r st.keys) f.leading h.0.0.leading
      by_test false (header x end) h = head st.is_start (header_depth r (length x.path)) x.leading h.0.0.leading

  heads-same : (n : ℕ) (st : State) (ss : List Statement) (after_all final other : Text) → AreStatements after_all ss → g other ≡ g final
      → map g (heads (laid_statements r pad n st ss) other) ≡ map g (heads ss final)
  heads-same n st [] after_all final other h e = ap (λ x. one x) e
  heads-same n st (s ∷ []) after_all final other h e =
      ap (λ x. x ∷ one (g other)) (statement-same _ n st s h) ∙ ap (λ x. g (leading_of s) ∷ one x) e
  heads-same n st (s ∷ next ∷ rest) after_all final other h e =
      ap (λ x. x ∷ map g (heads (laid_statements r pad (suc n) (after r st s) (next ∷ rest)) other)) (statement-same IsNewline n st s h.0)
      ∙ ap (λ xs. g (leading_of s) ∷ xs) (heads-same (suc n) (after r st s) (next ∷ rest) after_all final other h.1 e)

  final-same : (st : State) (t : Text) → IsFinalTrivia t → g (laid_final r st t) ≡ g t
  final-same st t h = by_test (stays (reached r st t))
    where
      by_test : (b : Bool) → g (if b then t else final_text r st.is_start t) ≡ g t
      by_test true = refl
      by_test false = last st.is_start t h

  leading-same : (d : Document) → IsDocument d → map g (leading_texts (laid_document r pad d)) ≡ map g (leading_texts d)
  leading-same d h =
      let st = state_after r start d.statements in
      ap (map g) (leading-texts (laid_document r pad d))
      ∙ heads-same 0 start d.statements d.final d.final (laid_final r st d.final) h.0 (final-same st d.final h.1)
      ∙ sym (ap (map g) (leading-texts d))

-- ---- the lines of rows

-- rows, and white space and perhaps a comment after the last newline
lines-closing : (rs : List Row) (w : Text) (o : Option Text) → AllByRecursion IsRow rs → IsWhiteSpace w → IsBody o
    → lines (rows_text rs (w ++ body_text o)) ≡ map row_text rs ++ last_lines (w ++ body_text o)
lines-closing rs w None h g k =
    ap (λ u. lines (rows_text rs u)) (append-nil w) ∙ lines-rows rs w h g ∙ ap (λ u. map row_text rs ++ last_lines u) (sym (append-nil w))
lines-closing rs w (Some b) h g k =
    lines-any rs (w ++ comment b) h (part-feed (last_row w (Some b)) (g, k)) (comment-some w b)
    ∙ ap (λ ls. map row_text rs ++ ls) (by_text w)
  where
    by_text : (u : Text) → one (u ++ comment b) ≡ last_lines (u ++ comment b)
    by_text [] = refl
    by_text (c ∷ u) = refl

-- ---- without white space at the start

abbrev row_words : List Row → Text
row_words rs = flat_map (λ x. ended_body x.body x.end) rs

words-rows : (rs : List Row) (ls : List Text) → AllByRecursion IsRow rs → flat_map words (map row_text rs ++ ls) ≡ row_words rs ++ flat_map words ls
words-rows [] ls h = refl
words-rows (x ∷ xs) ls h =
    ap (λ u. u ++ flat_map words (map row_text xs ++ ls)) (words-row x h.0)
    ∙ ap (λ u. ended_body x.body x.end ++ u) (words-rows xs ls h.1)
    ∙ sym (append_assoc (ended_body x.body x.end) (row_words xs) (flat_map words ls))

unindented-closing : (rs : List Row) (w : Text) (o : Option Text) → AllByRecursion IsRow rs → IsWhiteSpace w → IsBody o
    → unindented (rows_text rs (w ++ body_text o)) ≡ row_words rs ++ body_text o
unindented-closing rs w o h g k =
    ap (flat_map words) (lines-closing rs w o h g k)
    ∙ words-rows rs (last_lines (w ++ body_text o)) h
    ∙ ap (λ u. row_words rs ++ u) (by_text (w ++ body_text o) ∙ words-part (last_row w o) (g, k))
  where
    by_text : (u : Text) → flat_map words (last_lines u) ≡ words u
    by_text [] = refl
    by_text (c ∷ u) = append-nil (words (c ∷ u))

unindented-rows : (rs : List Row) (l : Text) → AllByRecursion IsRow rs → IsWhiteSpace l → unindented (rows_text rs l) ≡ row_words rs ++ []
unindented-rows rs l h g = ap (λ u. unindented (rows_text rs u)) (sym (append-nil l)) ∙ unindented-closing rs l None h g tt

words-moved : (indent : Text) (rs : List Row) → row_words (map (moved indent) rs) ≡ row_words rs
words-moved indent [] = refl
words-moved indent (x ∷ xs) = ap (λ u. ended_body x.body x.end ++ u) (words-moved indent xs)

module _ (r : Rules) (off : r.blank_lines ≡ None) where
  words-spaced : (s e : Bool) (rs : List Row) → row_words (spaced_rows r s e rs) ≡ row_words rs
  words-spaced s e rs = ap (λ b. row_words (spaced_by is_none_body b s e rs)) off

  words-laid : (s e : Bool) (o : Option ℕ) (rs : List Row) → row_words (laid_rows r s e o rs) ≡ row_words rs
  words-laid s e None rs = words-spaced s e rs
  words-laid s e (Some depth) rs = words-moved (units r depth) (spaced_rows r s e rs) ∙ words-spaced s e rs

  lines-leading : (s : Bool) (depth : ℕ) (t : Text) → IsWholeTrivia t → unindented (leading r s depth t) ≡ unindented t
  lines-leading s depth t h =
      let rows = view t h in
      let k = r.indentation in
      ap unindented (ap (leading r s depth) rows.is ∙ lead-form r k s depth rows.rows rows.last rows.all rows.white)
      ∙ unindented-rows (lead_rows r k s depth rows.rows) (lead_last r k depth rows.last)
      (all-laid r s false (lead_depth k depth) rows.rows rows.all) (white-lead r k depth rows.last rows.white)
      ∙ ap (λ u. u ++ []) (words-laid s false (lead_depth k depth) rows.rows)
      ∙ sym (ap unindented rows.is ∙ unindented-rows rows.rows rows.last rows.all rows.white)

  lines-header : (s : Bool) (depth : ℕ) (t : Text) → IsWholeTrivia t → unindented (header_leading r s depth t) ≡ unindented t
  lines-header s depth t h =
      ap (λ o. unindented ((if may_be_empty o && not (s || is_broken t) then made_newline r else []) ++ leading r s depth t)) off
      ∙ lines-leading s depth t h

  lines-final : (s : Bool) (t : Text) → IsFinalTrivia t → unindented (final_text r s t) ≡ unindented t
  lines-final s t h =
      let v = closing t h in
      let k = r.indentation in
      ap unindented (ap (final_text r s) v.is ∙ final-form r s v.rows v.white v.body v.all v.is_white v.is_body)
      ∙ unindented-closing (final_rows r s v.white v.body v.rows) (final_white r k v.white) v.body
      (all-final r s v.white v.body v.rows v.all) (white-final r k v.white v.is_white) v.is_body
      ∙ ap (λ u. u ++ body_text v.body) (words-laid s (end_flag r k v.white v.body) (final_depth r k) v.rows)
      ∙ sym (ap unindented v.is ∙ unindented-closing v.rows v.white v.body v.all v.is_white v.is_body)

-- ---- without empty lines

abbrev full_row : Row → Option Row
full_row x = if is_none_body x then None else Some x

no-full : (x : Row) → is_none_body x ≡ true → full_row x ≡ None
no-full x e = ap (λ b. if b then None else Some x) e

abbrev full_of : List Text → List Text
full_of ls = filter (λ l. not (is_empty_line l)) ls

full-rows : (rs : List Row) (ls : List Text) → AllByRecursion IsRow rs → full_of (map row_text rs ++ ls) ≡ map row_text (filter_map full_row rs) ++ full_of ls
full-rows [] ls h = refl
full-rows (x ∷ xs) ls h =
    ap (λ b. if not b then row_text x ∷ full_of (map row_text xs ++ ls) else full_of (map row_text xs ++ ls)) (empty-row x h.0)
    ∙ by_test (is_none_body x) (full-rows xs ls h.1)
  where
    by_test : (b : Bool) → full_of (map row_text xs ++ ls) ≡ map row_text (filter_map full_row xs) ++ full_of ls
        → (if not b then row_text x ∷ full_of (map row_text xs ++ ls) else full_of (map row_text xs ++ ls))
        ≡ map row_text (cons_option (if b then None else Some x) (filter_map full_row xs)) ++ full_of ls
    by_test true ih = ih
    by_test false ih = ap (λ ls. row_text x ∷ ls) ih

-- the same of spaced rows
full-closing : (rs : List Row) (w : Text) (o : Option Text) → AllByRecursion IsRow rs → IsWhiteSpace w → IsBody o
    → full_lines (rows_text rs (w ++ body_text o)) ≡ map row_text (filter_map full_row rs) ++ full_of (last_lines (w ++ body_text o))
full-closing rs w o h g k = ap full_of (lines-closing rs w o h g k) ∙ full-rows rs (last_lines (w ++ body_text o)) h

full-spaced : (r : Rules) (s e : Bool) (rs : List Row) (w : Text) (o : Option Text) → AllByRecursion IsRow rs → IsWhiteSpace w → IsBody o
    → full_lines (rows_text (spaced_rows r s e rs) (w ++ body_text o)) ≡ full_lines (rows_text rs (w ++ body_text o))
full-spaced r s e rs w o h g k =
    full-closing (spaced_rows r s e rs) w o (all-spaced-rows r s e rs h) g k
    ∙ ap (λ xs. map row_text xs ++ full_of (last_lines (w ++ body_text o))) (spaced-found is_none_body full_row no-full r.blank_lines s e rs)
    ∙ sym (full-closing rs w o h g k)

module _ (r : Rules) (stay : r.indentation ≡ as_it_is) where
  white-leading : (s : Bool) (depth : ℕ) (t : Text) → IsWholeTrivia t → full_lines (leading r s depth t) ≡ full_lines t
  white-leading s depth t h =
      let rows = view t h in
      let no_body : rows_text rows.rows rows.last ≡ rows_text rows.rows (rows.last ++ []) = ap (rows_text rows.rows) (sym (append-nil rows.last)) in
      ap (λ k. full_lines (leading_as k r s depth t)) stay
      ∙ ap full_lines (ap (leading_as as_it_is r s depth) rows.is ∙ lead-form r as_it_is s depth rows.rows rows.last rows.all rows.white
      ∙ ap (rows_text (spaced_rows r s false rows.rows)) (sym (append-nil rows.last)))
      ∙ full-spaced r s false rows.rows rows.last None rows.all rows.white tt
      ∙ sym (ap full_lines (rows.is ∙ no_body))

  white-header : (s : Bool) (depth : ℕ) (t : Text) → IsWholeTrivia t → full_lines (header_leading r s depth t) ≡ full_lines t
  white-header s depth t h =
      by_test (may_be_empty r.blank_lines && not (s || is_broken t)) ∙ white-leading s depth t h
    where
      made : (b : Bool) (u : Text) → full_lines ((if b then carriage_return ∷ newline else newline) ++ u) ≡ full_lines u
      made true u = refl
      made false u = refl

      by_test : (b : Bool) → full_lines ((if b then made_newline r else []) ++ leading r s depth t) ≡ full_lines (leading r s depth t)
      by_test true = made r.returns (leading r s depth t)
      by_test false = refl

  white-end : (s : Bool) (t : Text) → IsFinalTrivia t → full_lines (final_text r s t) ≡ full_lines t
  white-end s t h =
      let v = closing t h in
      ap (λ k. full_lines (final_as k r s t)) stay
      ∙ ap full_lines (ap (final_as as_it_is r s) v.is ∙ kept-final r s v.rows v.white v.body v.all v.is_white v.is_body)
      ∙ full-spaced r s (is_none v.body && is_empty v.white) v.rows v.white v.body v.all v.is_white v.is_body
      ∙ sym (ap full_lines v.is)

pub formatted_keeps_places : FormattedKeepsPlaces
formatted_keeps_places r pad d h =
    record {
      values = values-kept r pad d;
      keys = keys-kept r pad d;
      places = places-kept r pad d;
      lines = λ off. leading-same r pad unindented (lines-leading r off) (lines-header r off) (lines-final r off) d h;
      white_space = λ stay. leading-same r pad full_lines (white-leading r stay) (white-header r stay) (white-end r stay) d h;
    }
