-- At each place that no rule asked for is about, a formatted document has the texts that it had.
use Rattle.std.proofs.Common.{◌≡◌, refl, sym, ap, ◌∙◌, ℕ, suc, Bool, true, false, not, List, [], ◌∷◌, ◌++◌, length, Option, Some, None, inl, inr}
use Rattle.std.specs.Prelude.{◌==◌, if◌then◌else◌, codes, filter, flat_map, map, is_none}
use Rattle.std.proofs.lemmas.Bool.{cases_Bool}
use Rattle.std.proofs.lemmas.List.Elements.{filter-append}
use Rattle.toml_edit_model.specs.Paths.{Path, to_element}
use Rattle.toml_edit_model.specs.Syntax.{Segment, Frame, Value, scalar, array, inline_table, Elements, no_elements, element, Pairs}
use Rattle.toml_edit_model.specs.Syntax.{no_pairs, pair, Statement, key_line, header, Document, has_elements, has_pairs, comma_text}
use Rattle.toml_edit_model.specs.Syntax.{opening_brackets, closing_brackets, mark_text}
use Rattle.toml_edit_model.specs.Text.{Text}
use Rattle.toml_edit_laws.proofs.common.Tests.{and_left, and_right, not-true}
use Rattle.toml_edit_fmt_laws.specs.Rules.{Indentation, as_it_is, flush, by_depth, Comments, as_they_are, apart, aligned, Arrays, arrays_stay, kept, collapsed, Rules, line_depth, header_depth}
use Rattle.toml_edit_fmt_laws.specs.Laying.{leading, header_leading, final_text, line_rest, usual_pad}
use Rattle.toml_edit_fmt_laws.specs.Formatted.{untouched, Inside, in_array, in_inline, inner_depth, inner_room, laid_segment, laid_path, laid_frame}
use Rattle.toml_edit_fmt_laws.specs.Formatted.{laid_value, laid_elements, laid_pairs, State, start, stays, reached, leading_of, after, used_before, laid_statement, lay}
use Rattle.toml_edit_fmt_laws.specs.Formatted.{laid_statements, state_after, laid_final, laid_document}
use Rattle.toml_edit_fmt_laws.specs.Places.{Place, punctuation, key_spelling, value_spelling, at_equals, at_dots, before_statements, after_statements}
use Rattle.toml_edit_fmt_laws.specs.Places.{line_ends, in_arrays, in_inline_tables, PlacedText, placed, segment_texts, path_texts, frame_texts, value_texts}
use Rattle.toml_edit_fmt_laws.specs.Places.{elements_texts, pairs_texts, statement_texts, placed_texts, texts_at, is_left, lines_stay, comments_stay, do_arrays_stay}
use Rattle.toml_edit_fmt_laws.specs.Places.{is_key_spelling, is_value_spelling, key_spellings, value_spellings}
use Rattle.toml_edit_fmt_laws.proofs.Grammar.{has-laid, has-laid-pairs}
use Rattle.toml_edit_fmt_laws.proofs.Off.{leading-off, header-off, final-off, rest-off, equals-off, dots-off, keys-off, array-stays, inline-stays, before-off, end-off}

-- ---- rules that are off

none-is : {A : Type 0} (o : Option A) → is_none o ≡ true → o ≡ None
none-is None e = refl
none-is (Some n) e = cc

indentation-is : (k : Indentation) → lines_stay k ≡ true → k ≡ as_it_is
indentation-is as_it_is e = refl
indentation-is flush e = cc
indentation-is by_depth e = cc

comments-are : (c : Comments) → comments_stay c ≡ true → c ≡ as_they_are
comments-are as_they_are e = refl
comments-are (apart n) e = cc
comments-are (aligned n) e = cc

arrays-are : (a : Arrays) → do_arrays_stay a ≡ true → a ≡ arrays_stay
arrays-are arrays_stay e = refl
arrays-are kept e = cc
arrays-are collapsed e = cc

module _ (r : Rules) where
  -- The same texts are left of both.
  record Same (xs ys : List PlacedText) : Type 0 where
    is : filter (λ p. is_left r p.place) xs ≡ filter (λ p. is_left r p.place) ys

  both : {xs us ys vs : List PlacedText} → Same xs us → Same ys vs → Same (xs ++ ys) (us ++ vs)
  both {xs} {us} {ys} {vs} p q =
      record {
        is = filter-append (λ p. is_left r p.place) xs ys
            ∙ ap (λ zs. zs ++ filter (λ p. is_left r p.place) ys) p.is
            ∙ ap (λ zs. filter (λ p. is_left r p.place) us ++ zs) q.is
            ∙ sym (filter-append (λ p. is_left r p.place) us vs);
      }

  all-same : (xs : List PlacedText) → Same xs xs
  all-same xs = record { is = refl }

  same : (p : Place) (t u : Text) → t ≡ u → Same (placed p t) (placed p u)
  same p t u e = record { is = ap (λ x. filter (λ p. is_left r p.place) (placed p x)) e }

  -- a text that is the same if its place is left
  kept-if : (p : Place) (t u : Text) → (is_left r p ≡ true → t ≡ u) → Same (placed p t) (placed p u)
  kept-if p t u f =
      elim (cases_Bool (is_left r p)) [
        | inl e ↦ same p t u (f e)
        | inr e ↦ record {
          is = ap (λ b. if b then record { place = p; text = t } ∷ [] else []) e
              ∙ sym (ap (λ b. if b then record { place = p; text = u } ∷ [] else []) e);
        }
      ]

  -- ---- keys

  segment-kept : (s : Segment) → Same (segment_texts (laid_segment r s)) (segment_texts s)
  segment-kept s =
      both (kept-if at_dots (if r.dots then [] else s.before) s.before (λ e. dots-off r (not-true r.dots e) s.before))
      (both (kept-if key_spelling (laid_segment r s).spelled s.spelled (λ e. keys-off r (not-true r.keys e) s))
      (kept-if at_dots (if r.dots then [] else s.after) s.after (λ e. dots-off r (not-true r.dots e) s.after)))

  path-kept : (p : List Segment) → Same (path_texts (laid_path r p)) (path_texts p)
  path-kept [] = all-same []
  path-kept (s ∷ []) = segment-kept s
  path-kept (s ∷ q ∷ rest) = both (segment-kept s) (both (all-same (placed punctuation (codes "."))) (path-kept (q ∷ rest)))

  frame-kept : (before after : Place) (f : Frame) (b a : Text) {vs ws : List PlacedText}
      → (is_left r before ≡ true → b ≡ f.leading) → (is_left r after ≡ true → a ≡ f.trailing) → Same vs ws
      → Same (frame_texts before after (laid_frame r b a f) vs) (frame_texts before after f ws)
  frame-kept before after f b a first last v =
      both (kept-if before b f.leading first)
      (both (path-kept f.path)
      (both (kept-if at_equals _ f.before_equals (λ e. equals-off r (not-true r.equals e) f.before_equals))
      (both (all-same (placed punctuation (codes "=")))
      (both (kept-if at_equals _ f.after_equals (λ e. equals-off r (not-true r.equals e) f.after_equals))
      (both v (kept-if after a f.trailing last))))))

  -- ---- values

  module _ (pad : Path → ℕ) where
    mutual
      value-kept : (p : Path) (depth : ℕ) (room : Option ℕ) (v : Value) → Same (value_texts (laid_value r pad p depth room v)) (value_texts v)
      value-kept p depth room (scalar s t) = all-same (placed value_spelling t)
      value-kept p depth room (array es comma t) =
          let x = in_array r pad p depth room es comma t in
          let off = λ (e : do_arrays_stay r.arrays ≡ true). array-stays r (arrays-are r.arrays e) pad p depth room es comma t in
          both (all-same (placed punctuation (codes "[")))
          (both (elements-kept x (λ e. (off e).layout) (λ e. (off e).last) 0 (usual_pad r.comments) es)
          (both (kept-if in_arrays (comma_text x.comma) (comma_text comma) (λ e. ap comma_text (off e).comma_is))
          (both (kept-if in_arrays x.close t (λ e. (off e).close)) (all-same (placed punctuation (codes "]"))))))
      value-kept p depth room (inline_table ps comma t) =
          let x = in_inline r pad p depth ps comma t in
          let off = λ (e : not r.inline_tables ≡ true). inline-stays r (not-true r.inline_tables e) pad p depth ps comma t in
          both (all-same (placed punctuation (codes "{")))
          (both (pairs-kept x (λ e. (off e).layout) (λ e. (off e).last) 0 (usual_pad r.comments) ps)
          (both (kept-if in_inline_tables (comma_text x.comma) (comma_text comma) (λ e. ap comma_text (off e).comma_is))
          (both (kept-if in_inline_tables x.close t (λ e. (off e).close)) (all-same (placed punctuation (codes "}"))))))

      elements-kept : (x : Inside) → (do_arrays_stay r.arrays ≡ true → x.layout ≡ untouched) → (do_arrays_stay r.arrays ≡ true → x.last ≡ [])
          → (i n : ℕ) (es : Elements) → Same (elements_texts (laid_elements r pad x i n es)) (elements_texts es)
      elements-kept x off last i n no_elements = all-same []
      elements-kept x off last i n (element a v es) =
          both (kept-if in_arrays _ a.before (λ e. before-off r x (off e) n (i == 0) a.before))
          (both (value-kept (to_element x.path i) (inner_depth x.layout x.depth) (inner_room r x.layout x.depth) v)
          (both (kept-if in_arrays _ a.after (λ e. end-off r x (off e) (last e) (has_elements es) a.after))
          (both (same punctuation _ (comma_text (has_elements es)) (ap comma_text (has-laid r pad x (suc i) (pad (to_element x.path i)) es)))
          (elements-kept x off last (suc i) (pad (to_element x.path i)) es))))

      pairs-kept : (x : Inside) → (not r.inline_tables ≡ true → x.layout ≡ untouched) → (not r.inline_tables ≡ true → x.last ≡ [])
          → (i n : ℕ) (ps : Pairs) → Same (pairs_texts (laid_pairs r pad x i n ps)) (pairs_texts ps)
      pairs-kept x off last i n no_pairs = all-same []
      pairs-kept x off last i n (pair f v ps) =
          both (frame-kept in_inline_tables in_inline_tables f _ _
          (λ e. before-off r x (off e) n (i == 0) f.leading) (λ e. end-off r x (off e) (last e) (has_pairs ps) f.trailing)
          (value-kept (to_element x.path i) (inner_depth x.layout x.depth) None v))
          (both (same punctuation _ (comma_text (has_pairs ps)) (ap comma_text (has-laid-pairs r pad x (suc i) (pad (to_element x.path i)) ps)))
          (pairs-kept x off last (suc i) (pad (to_element x.path i)) ps))

    -- ---- statements

    rest-kept : (n : ℕ) (t : Text) → comments_stay r.comments ≡ true → line_rest r n t ≡ t
    rest-kept n t e = rest-off r (comments-are r.comments e) n t

    statement-kept : (st : State) (s : Statement) → Same (statement_texts (lay r pad st s)) (statement_texts s)
    statement-kept st s = by_test (stays (reached r st (leading_of s))) s
      where
        by_test : (b : Bool) (s : Statement) → Same (statement_texts (if b then s else laid_statement r pad st s)) (statement_texts s)
        by_test true s = all-same (statement_texts s)
        by_test false (key_line f v end) =
            let depth = line_depth r st.keys in
            let frame = laid_frame r (leading r st.is_start depth f.leading) (line_rest r (pad []) f.trailing) f in
            both (frame-kept before_statements after_statements f (leading r st.is_start depth f.leading) (line_rest r (pad []) f.trailing)
            (λ e. leading-off r (none-is r.blank_lines (and_left (is_none r.blank_lines) _ e))
            (indentation-is r.indentation (and_right (is_none r.blank_lines) _ e)) st.is_start depth f.leading)
            (rest-kept (pad []) f.trailing)
            (value-kept [] depth (Some (used_before frame)) v))
            (all-same (placed line_ends end))
        by_test false (header x end) =
            let depth = header_depth r (length x.path) in
            both (kept-if before_statements (header_leading r st.is_start depth x.leading) x.leading
            (λ e. header-off r (none-is r.blank_lines (and_left (is_none r.blank_lines) _ e))
            (indentation-is r.indentation (and_right (is_none r.blank_lines) _ e)) st.is_start depth x.leading))
            (both (both (all-same (placed punctuation (opening_brackets x.is_array)))
            (both (kept-if at_dots _ x.opening (λ e. dots-off r (not-true r.dots e) x.opening))
            (both (path-kept x.path)
            (both (kept-if at_dots _ x.closing (λ e. dots-off r (not-true r.dots e) x.closing))
            (all-same (placed punctuation (closing_brackets x.is_array)))))))
            (both (kept-if after_statements (line_rest r (usual_pad r.comments) x.trailing) x.trailing (rest-kept (usual_pad r.comments) x.trailing))
            (all-same (placed line_ends end))))

  statements-kept : (pad : ℕ → Path → ℕ) (n : ℕ) (st : State) (ss : List Statement)
      → Same (flat_map statement_texts (laid_statements r pad n st ss)) (flat_map statement_texts ss)
  statements-kept pad n st [] = all-same []
  statements-kept pad n st (s ∷ rest) = both (statement-kept (pad n) st s) (statements-kept pad (suc n) (after r st s) rest)

  final-kept : (st : State) (t : Text) → is_left r before_statements ≡ true → laid_final r st t ≡ t
  final-kept st t e = by_test (stays (reached r st t))
    where
      by_test : (b : Bool) → (if b then t else final_text r st.is_start t) ≡ t
      by_test true = refl
      by_test false =
          final-off r (none-is r.blank_lines (and_left (is_none r.blank_lines) _ e))
          (indentation-is r.indentation (and_right (is_none r.blank_lines) _ e)) st.is_start t

  pub places-kept : (pad : ℕ → Path → ℕ) (d : Document) → texts_at (is_left r) (laid_document r pad d) ≡ texts_at (is_left r) d
  places-kept pad d =
      let st = state_after r start d.statements in
      (both (all-same (placed punctuation (mark_text d.has_mark)))
      (both (statements-kept pad 0 start d.statements)
      (kept-if before_statements (laid_final r st d.final) d.final (final-kept st d.final)))).is

-- ---- spellings

-- of those that pass a test, those that pass one that implies it
filter-filter : {A : Type 0} (f g : A → Bool) → ((x : A) → f x ≡ true → g x ≡ true) → (xs : List A) → filter f (filter g xs) ≡ filter f xs
filter-filter f g more [] = refl
filter-filter f g more (x ∷ xs) = by_tests (f x) (g x) refl refl (filter-filter f g more xs)
  where
    by_tests : (b c : Bool) → f x ≡ b → g x ≡ c → filter f (filter g xs) ≡ filter f xs
        → filter f (if c then x ∷ filter g xs else filter g xs) ≡ (if b then x ∷ filter f xs else filter f xs)
    by_tests b true p q ih = ap (λ y. if y then x ∷ filter f (filter g xs) else filter f (filter g xs)) p ∙ ap (λ ys. if b then x ∷ ys else ys) ih
    by_tests true false p q ih = absurd (clash (more x p) q)
      where
        clash : g x ≡ true → g x ≡ false → ⊥
        clash y z = cc
    by_tests false false p q ih = ih

module _ (r : Rules) (pad : ℕ → Path → ℕ) (d : Document) where
  kept-at : (test : Place → Bool) → ((p : Place) → test p ≡ true → is_left r p ≡ true) → texts_at test (laid_document r pad d) ≡ texts_at test d
  kept-at test more =
      sym (filter-filter (λ (x : PlacedText). test x.place) (λ x. is_left r x.place) (λ x e. more x.place e) (placed_texts (laid_document r pad d)))
      ∙ ap (filter (λ (x : PlacedText). test x.place)) (places-kept r pad d)
      ∙ filter-filter (λ (x : PlacedText). test x.place) (λ x. is_left r x.place) (λ x e. more x.place e) (placed_texts d)

  pub keys-kept : r.keys ≡ false → key_spellings (laid_document r pad d) ≡ key_spellings d
  keys-kept off = ap (map (λ (x : PlacedText). x.text)) (kept-at is_key_spelling more)
    where
      more : (p : Place) → is_key_spelling p ≡ true → is_left r p ≡ true
      more key_spelling e = ap not off
      more _ e = cc

  pub values-kept : value_spellings (laid_document r pad d) ≡ value_spellings d
  values-kept = ap (map (λ (x : PlacedText). x.text)) (kept-at is_value_spelling more)
    where
      more : (p : Place) → is_value_spelling p ≡ true → is_left r p ≡ true
      more value_spelling e = refl
      more _ e = cc
