-- The layout of what is laid out is that of what it was: it is as wide, and broken where that says so.
use Rattle.std.proofs.Common.{◌≡◌, refl, sym, ap, ◌∙◌, ℕ, suc, ◌+◌, Bool, true, false, List, [], ◌∷◌, ◌++◌, Option, None, append-nil, length, inl, inr, arith}
use Rattle.std.specs.Prelude.{◌⊎◌, ◌&&◌, ◌||◌, ◌==◌, not, if◌then◌else◌}
use Rattle.std.proofs.lemmas.Bool.Decides.{Decides-eqb}
use Rattle.toml_edit_model.specs.DefaultSpelling.{is_bare_key}
use Rattle.toml_edit_model.specs.Paths.{Path, to_element}
use Rattle.toml_edit_model.specs.Print.{one_space}
use Rattle.toml_edit_model.specs.Syntax.{Segment, Around, Frame, Value, scalar, array, inline_table, Elements, no_elements, element, Pairs, no_pairs, pair}
use Rattle.toml_edit_model.specs.Syntax.{has_elements, has_pairs, IsClose, AreElements}
use Rattle.toml_edit_model.specs.Text.{Text, is_empty}
use Rattle.toml_edit_model.specs.Trivia.{IsWholeTrivia}
use Rattle.toml_edit_laws.proofs.common.Tests.{and_left, and_right, and_both, or-true, or-right, not-true, false-by}
use Rattle.toml_edit_laws.proofs.common.Trivia.{close-trivia}
use Rattle.toml_edit_fmt_laws.specs.Rules.{Rules, Arrays, arrays_stay, kept, collapsed, units}
use Rattle.toml_edit_fmt_laws.specs.Laying.{columns, is_broken, gap, before_comma, usual_pad}
use Rattle.toml_edit_fmt_laws.specs.Formatted.{laid_spelling, laid_segment, laid_path, path_width, flat_width, elements_width, pairs_width, bracket_width}
use Rattle.toml_edit_fmt_laws.specs.Formatted.{is_over, is_too_wide, Layout, untouched, on_one_line, line_by_line, in_rows, has_broken_elements, has_broken_pairs}
use Rattle.toml_edit_fmt_laws.specs.Formatted.{has_comments, elements_have_comments, is_short_scalar, are_short, has_break, has_joint, rows_fit, after_first, is_in_rows}
use Rattle.toml_edit_fmt_laws.specs.Formatted.{open_if, rows_if, array_layout_as, open_comma, before_part, after_part, Inside, inside, in_array, in_inline}
use Rattle.toml_edit_fmt_laws.specs.Formatted.{inner_depth, inner_room, last_after, last_trailing, laid_value, laid_elements, laid_pairs}
use Rattle.toml_edit_fmt_laws.proofs.GapLaws.{comma-comments}
use Rattle.toml_edit_fmt_laws.proofs.Grammar.{has-laid, has-laid-pairs}
use Rattle.toml_edit_fmt_laws.proofs.Remarked.{no-comments, no-bodies}
use Rattle.toml_edit_fmt_laws.proofs.EndsAgain.{gap-broken, gap-has, nothing-before, after_last, ends-has, none-close}

-- no number but the first is zero
later : (i : ℕ) → (suc i == 0) ≡ false
later i = false-by (suc i == 0) (λ e. let clash : suc i ≡ 0 = (Decides-eqb (suc i) 0).0 e in omega arith)

no-and : (b : Bool) → (b && false) ≡ false
no-and true = refl
no-and false = refl

module _ (r : Rules) where
  -- ---- widths

  pub spelling-again : (s : Segment) → laid_spelling r (laid_segment r s) ≡ laid_spelling r s
  spelling-again s = by_test (r.keys && is_bare_key s.key)
    where
      by_test : (b : Bool) → (if b then s.key else (if b then s.key else s.spelled)) ≡ (if b then s.key else s.spelled)
      by_test true = refl
      by_test false = refl

  path-wide : (p : List Segment) → path_width r (laid_path r p) ≡ path_width r p
  path-wide [] = refl
  path-wide (s ∷ []) = ap columns (spelling-again s)
  path-wide (s ∷ t ∷ rest) =
      ap (λ u. columns u + (1 + path_width r (laid_path r (t ∷ rest)))) (spelling-again s)
      ∙ ap (λ n. columns (laid_spelling r s) + (1 + n)) (path-wide (t ∷ rest))

  module _ (pad : Path → ℕ) where
    mutual
      value-wide : (p : Path) (depth : ℕ) (room : Option ℕ) (v : Value) → flat_width r (laid_value r pad p depth room v) ≡ flat_width r v
      value-wide p depth room (scalar s t) = refl
      value-wide p depth room (array es comma t) =
          let x = in_array r pad p depth room es comma t in
          let ys = laid_elements r pad x 0 (usual_pad r.comments) es in
          ap (λ b. bracket_width b r.bracket_space + elements_width r ys) (has-laid r pad x 0 (usual_pad r.comments) es)
          ∙ ap (λ n. bracket_width (has_elements es) r.bracket_space + n) (elements-wide x 0 (usual_pad r.comments) es)
      value-wide p depth room (inline_table ps comma t) =
          let x = in_inline r pad p depth ps comma t in
          let ys = laid_pairs r pad x 0 (usual_pad r.comments) ps in
          ap (λ b. bracket_width b r.brace_space + pairs_width r ys) (has-laid-pairs r pad x 0 (usual_pad r.comments) ps)
          ∙ ap (λ n. bracket_width (has_pairs ps) r.brace_space + n) (pairs-wide x 0 (usual_pad r.comments) ps)

      elements-wide : (x : Inside) (i n : ℕ) (es : Elements) → elements_width r (laid_elements r pad x i n es) ≡ elements_width r es
      elements-wide x i n no_elements = refl
      elements-wide x i n (element a v no_elements) =
          value-wide (to_element x.path i) (inner_depth x.layout x.depth) (inner_room r x.layout x.depth) v
      elements-wide x i n (element a v (element b w es)) =
          ap (λ k. k + (2 + elements_width r (laid_elements r pad x (suc i) (pad (to_element x.path i)) (element b w es))))
          (value-wide (to_element x.path i) (inner_depth x.layout x.depth) (inner_room r x.layout x.depth) v)
          ∙ ap (λ k. flat_width r v + (2 + k)) (elements-wide x (suc i) (pad (to_element x.path i)) (element b w es))

      pairs-wide : (x : Inside) (i n : ℕ) (ps : Pairs) → pairs_width r (laid_pairs r pad x i n ps) ≡ pairs_width r ps
      pairs-wide x i n no_pairs = refl
      pairs-wide x i n (pair f v no_pairs) =
          let w = laid_value r pad (to_element x.path i) (inner_depth x.layout x.depth) None v in
          ap (λ k. k + (3 + flat_width r w)) (path-wide f.path)
          ∙ ap (λ k. path_width r f.path + (3 + k)) (value-wide (to_element x.path i) (inner_depth x.layout x.depth) None v)
      pairs-wide x i n (pair f v (pair g u ps)) =
          let w = laid_value r pad (to_element x.path i) (inner_depth x.layout x.depth) None v in
          let rest = laid_pairs r pad x (suc i) (pad (to_element x.path i)) (pair g u ps) in
          ap (λ k. k + (5 + (flat_width r w + pairs_width r rest))) (path-wide f.path)
          ∙ ap (λ k. path_width r f.path + (5 + (k + pairs_width r rest)))
          (value-wide (to_element x.path i) (inner_depth x.layout x.depth) None v)
          ∙ ap (λ k. path_width r f.path + (5 + (flat_width r v + k)))
          (pairs-wide x (suc i) (pad (to_element x.path i)) (pair g u ps))

    array-wide : (x : Inside) (n : ℕ) (es : Elements) (c d : Bool) (t u : Text)
        → flat_width r (array (laid_elements r pad x 0 n es) c t) ≡ flat_width r (array es d u)
    array-wide x n es c d t u =
        ap (λ b. bracket_width b r.bracket_space + elements_width r (laid_elements r pad x 0 n es)) (has-laid r pad x 0 n es)
        ∙ ap (λ k. bracket_width (has_elements es) r.bracket_space + k) (elements-wide x 0 n es)

    -- ---- on one line

    -- a test that no white space passes
    edge-fails : (f : Text → Bool) → f [] ≡ false → f one_space ≡ false → (first space : Bool)
        → f (if first then (if space then one_space else []) else one_space) ≡ false
    edge-fails f e g true true = g
    edge-fails f e g true false = e
    edge-fails f e g false space = g

    end-fails : (f : Text → Bool) → f [] ≡ false → f one_space ≡ false → (has space : Bool)
        → f ([] ++ (if has then [] else (if space then one_space else []))) ≡ false
    end-fails f e g true space = e
    end-fails f e g false true = g
    end-fails f e g false false = e

    abbrev flat_in : Path → ℕ → Bool → ℕ → Bool → Text → Text → Inside
    flat_in p depth space j comma s t = inside r on_one_line p depth true space j comma s t

    flat-elements : (p : Path) (depth : ℕ) (space : Bool) (j : ℕ) (comma : Bool) (s t : Text) (i n : ℕ) (es : Elements)
        → has_broken_elements (laid_elements r pad (flat_in p depth space j comma s t) i n es) ≡ false
    flat-elements p depth space j comma s t i n no_elements = refl
    flat-elements p depth space j comma s t i n (element a v es) =
        let rest = has_broken_elements (laid_elements r pad (flat_in p depth space j comma s t) (suc i) (pad (to_element p i)) es) in
        let end = [] ++ (if has_elements es then [] else (if space then one_space else [])) in
        ap (λ b. (b || is_broken end) || rest) (edge-fails is_broken refl refl (i == 0) space)
        ∙ ap (λ b. b || rest) (end-fails is_broken refl refl (has_elements es) space)
        ∙ flat-elements p depth space j comma s t (suc i) (pad (to_element p i)) es

    plain-elements : (p : Path) (depth : ℕ) (space : Bool) (j : ℕ) (comma : Bool) (s t : Text) (i n : ℕ) (es : Elements)
        → elements_have_comments (laid_elements r pad (flat_in p depth space j comma s t) i n es) ≡ false
    plain-elements p depth space j comma s t i n no_elements = refl
    plain-elements p depth space j comma s t i n (element a v es) =
        let rest = elements_have_comments (laid_elements r pad (flat_in p depth space j comma s t) (suc i) (pad (to_element p i)) es) in
        let end = [] ++ (if has_elements es then [] else (if space then one_space else [])) in
        ap (λ b. (b || has_comments end) || rest) (edge-fails has_comments refl refl (i == 0) space)
        ∙ ap (λ b. b || rest) (end-fails has_comments refl refl (has_elements es) space)
        ∙ plain-elements p depth space j comma s t (suc i) (pad (to_element p i)) es

    flat-pairs : (p : Path) (depth : ℕ) (space : Bool) (j : ℕ) (comma : Bool) (s t : Text) (i n : ℕ) (ps : Pairs)
        → has_broken_pairs (laid_pairs r pad (flat_in p depth space j comma s t) i n ps) ≡ false
    flat-pairs p depth space j comma s t i n no_pairs = refl
    flat-pairs p depth space j comma s t i n (pair f v ps) =
        let rest = has_broken_pairs (laid_pairs r pad (flat_in p depth space j comma s t) (suc i) (pad (to_element p i)) ps) in
        let end = [] ++ (if has_pairs ps then [] else (if space then one_space else [])) in
        ap (λ b. (b || is_broken end) || rest) (edge-fails is_broken refl refl (i == 0) space)
        ∙ ap (λ b. b || rest) (end-fails is_broken refl refl (has_pairs ps) space)
        ∙ flat-pairs p depth space j comma s t (suc i) (pad (to_element p i)) ps

    -- ---- line by line

    lines-joint : (x : Inside) → x.layout ≡ line_by_line → (i n : ℕ) (es : Elements) → has_joint (laid_elements r pad x i n es) ≡ false
    lines-joint x e i n no_elements = refl
    lines-joint x e i n (element a v es) =
        let rest = has_joint (laid_elements r pad x (suc i) (pad (to_element x.path i)) es) in
        ap (λ l. not (is_broken (before_part r l n (i == 0) x.depth x.edge a.before)) || rest) e
        ∙ ap (λ b. not b || rest) (gap-broken r n (i == 0) false (suc x.depth) (suc x.depth) a.before)
        ∙ lines-joint x e (suc i) (pad (to_element x.path i)) es

    not-rows : (depth : ℕ) (comma : Bool) (es : Elements) → has_joint (after_first es) ≡ false → is_in_rows r depth comma es ≡ false
    not-rows depth comma es e =
        let fit = rows_fit r (length (units r (suc depth))) 0 true es in
        ap (λ b. (r.rows && are_short comma es) && ((has_break (after_first es) && b) && fit)) e
        ∙ ap (λ b. (r.rows && are_short comma es) && (b && fit)) (no-and (has_break (after_first es)))
        ∙ no-and (r.rows && are_short comma es)

    -- ---- in rows

    short-laid : (p : Path) (depth : ℕ) (room : Option ℕ) (v : Value) → is_short_scalar (laid_value r pad p depth room v) ≡ is_short_scalar v
    short-laid p depth room (scalar s t) = refl
    short-laid p depth room (array es comma t) = refl
    short-laid p depth room (inline_table ps comma t) = refl

    nothing-short : (depth : ℕ) (s : Text) → IsWholeTrivia s → is_broken s ≡ false → before_comma r depth s ≡ []
    nothing-short depth s h e = nothing-before r depth s (no-comments s (no-bodies s h e))

    last-short : (depth : ℕ) (c d : Bool) (s u : Text) → IsWholeTrivia s → not ((c || false) && is_broken s) ≡ true
        → not ((d || false) && is_broken ((if c || false then before_comma r (suc depth) s else []) ++ (if d || false then [] else u))) ≡ true
    last-short depth c false s u h e = refl
    last-short depth true true s u h e =
        ap (λ w. not (is_broken (w ++ []))) (nothing-short (suc depth) s h (not-true (is_broken s) e))
    last-short depth false true s u h e = refl

    shorts : (p : Path) (depth : ℕ) (space : Bool) (j : ℕ) (comma : Bool) (t : Text) (i n : ℕ) (es : Elements) → AreElements es
        → are_short comma es ≡ true
        → let x = inside r in_rows p depth true space j comma (last_after es) t in
        are_short x.comma (laid_elements r pad x i n es) ≡ true
    shorts p depth space j comma t i n no_elements h e = refl
    shorts p depth space j comma t i n (element a v no_elements) h e =
        let x = inside r in_rows p depth true space j comma a.after t in
        let w = laid_value r pad (to_element p i) (suc depth) (inner_room r in_rows depth) v in
        and_both (is_short_scalar w) _
        (short-laid (to_element p i) (suc depth) (inner_room r in_rows depth) v ∙ and_left (is_short_scalar v) _ e)
        (and_both _ true
        (last-short depth comma x.comma a.after _ h.1 (and_left _ true (and_right (is_short_scalar v) _ e))) refl)
    shorts p depth space j comma t i n (element a v (element b u es)) h e =
        let rest = element b u es in
        let x = inside r in_rows p depth true space j comma (last_after rest) t in
        let w = laid_value r pad (to_element p i) (suc depth) (inner_room r in_rows depth) v in
        let more = and_right (is_short_scalar v) _ e in
        let unbroken : is_broken a.after ≡ false =
        not-true (is_broken a.after)
        (sym (ap (λ z. not (z && is_broken a.after)) (or-true comma)) ∙ and_left _ (are_short comma rest) more) in
        and_both (is_short_scalar w) _
        (short-laid (to_element p i) (suc depth) (inner_room r in_rows depth) v ∙ and_left (is_short_scalar v) _ e)
        (and_both _ _
        (ap (λ z. not ((x.comma || true) && is_broken ((if z then before_comma r (suc depth) a.after else []) ++ []))) (or-true comma)
        ∙ ap (λ y. not ((x.comma || true) && is_broken (y ++ []))) (nothing-short (suc depth) a.after h.1 unbroken)
        ∙ ap not (no-and (x.comma || true)))
        (shorts p depth space j comma t (suc i) (pad (to_element p i)) (element b u es) h.3 (and_right _ (are_short comma rest) more)))

    -- a later member is on another line where it was
    row-broken : (n depth : ℕ) (first : Bool) (edge t : Text) → first ≡ false
        → is_broken (before_part r in_rows n first depth edge t) ≡ is_broken t
    row-broken n depth first edge t e =
        ap (λ b. is_broken (if b || is_broken t then gap r n first false (suc depth) (suc depth) t else one_space)) e
        ∙ by_test (is_broken t) refl
      where
        by_test : (b : Bool) → is_broken t ≡ b
            → is_broken (if b then gap r n first false (suc depth) (suc depth) t else one_space) ≡ b
        by_test true k = gap-broken r n first false (suc depth) (suc depth) t
        by_test false k = refl

    rows-break : (x : Inside) → x.layout ≡ in_rows → (i n : ℕ) (es : Elements) → has_break (laid_elements r pad x (suc i) n es) ≡ has_break es
    rows-break x e i n no_elements = refl
    rows-break x e i n (element a v es) =
        let rest = has_break (laid_elements r pad x (suc (suc i)) (pad (to_element x.path (suc i))) es) in
        ap (λ l. is_broken (before_part r l n (suc i == 0) x.depth x.edge a.before) || rest) e
        ∙ ap (λ b. b || rest) (row-broken n x.depth (suc i == 0) x.edge a.before (later i))
        ∙ ap (λ b. is_broken a.before || b) (rows-break x e (suc i) (pad (to_element x.path (suc i))) es)

    rows-joint : (x : Inside) → x.layout ≡ in_rows → (i n : ℕ) (es : Elements) → has_joint (laid_elements r pad x (suc i) n es) ≡ has_joint es
    rows-joint x e i n no_elements = refl
    rows-joint x e i n (element a v es) =
        let rest = has_joint (laid_elements r pad x (suc (suc i)) (pad (to_element x.path (suc i))) es) in
        ap (λ l. not (is_broken (before_part r l n (suc i == 0) x.depth x.edge a.before)) || rest) e
        ∙ ap (λ b. not b || rest) (row-broken n x.depth (suc i == 0) x.edge a.before (later i))
        ∙ ap (λ b. not (is_broken a.before) || b) (rows-joint x e (suc i) (pad (to_element x.path (suc i))) es)

    rows-fit : (x : Inside) → x.layout ≡ in_rows → (indent used i n : ℕ) (es : Elements)
        → rows_fit r indent used false (laid_elements r pad x (suc i) n es) ≡ rows_fit r indent used false es
    rows-fit x e indent used i n no_elements = refl
    rows-fit x e indent used i n (element a v es) =
        let w = laid_value r pad (to_element x.path (suc i)) (inner_depth x.layout x.depth) (inner_room r x.layout x.depth) v in
        let rest = laid_elements r pad x (suc (suc i)) (pad (to_element x.path (suc i))) es in
        let here = λ (b : Bool). λ (k : ℕ). (if false || b then indent else used + 1) + k + 1 in
        ap (λ l. let b = is_broken (before_part r l n (suc i == 0) x.depth x.edge a.before) in
        not (is_over r.width (here b (flat_width r w))) && rows_fit r indent (here b (flat_width r w)) false rest) e
        ∙ ap (λ b. not (is_over r.width (here b (flat_width r w))) && rows_fit r indent (here b (flat_width r w)) false rest)
        (row-broken n x.depth (suc i == 0) x.edge a.before (later i))
        ∙ ap (λ k. not (is_over r.width (here (is_broken a.before) k)) && rows_fit r indent (here (is_broken a.before) k) false rest)
        (value-wide (to_element x.path (suc i)) (inner_depth x.layout x.depth) (inner_room r x.layout x.depth) v)
        ∙ ap (λ b. not (is_over r.width (here (is_broken a.before) (flat_width r v))) && b)
        (rows-fit x e indent (here (is_broken a.before) (flat_width r v)) (suc i) (pad (to_element x.path (suc i))) es)

    in-rows-again : (p : Path) (depth : ℕ) (space : Bool) (j : ℕ) (comma : Bool) (t : Text) (n : ℕ) (es : Elements) → AreElements es
        → is_in_rows r depth comma es ≡ true
        → let x = inside r in_rows p depth true space j comma (last_after es) t in
        is_in_rows r depth x.comma (laid_elements r pad x 0 n es) ≡ true
    in-rows-again p depth space j comma t n no_elements h e = cc
    in-rows-again p depth space j comma t n (element a v es) h e =
        let xs = element a v es in
        let x = inside r in_rows p depth true space j comma (last_after xs) t in
        let w = laid_value r pad (to_element p 0) (suc depth) (inner_room r in_rows depth) v in
        let rest = laid_elements r pad x 1 (pad (to_element p 0)) es in
        let indent = length (units r (suc depth)) in
        let first = and_left (r.rows && are_short comma xs) _ e in
        let second = and_right (r.rows && are_short comma xs) _ e in
        let turns = and_left (has_break es && has_joint es) _ second in
        let fits = and_right (has_break es && has_joint es) _ second in
        and_both _ _
        (and_both r.rows _ (and_left r.rows _ first) (shorts p depth space j comma t 0 n xs h (and_right r.rows _ first)))
        (and_both _ _
        (and_both _ _
        (rows-break x refl 0 (pad (to_element p 0)) es ∙ and_left (has_break es) _ turns)
        (rows-joint x refl 0 (pad (to_element p 0)) es ∙ and_right (has_break es) _ turns))
        (ap (λ k. not (is_over r.width (indent + k + 1)) && rows_fit r indent (indent + k + 1) false rest)
        (value-wide (to_element p 0) (suc depth) (inner_room r in_rows depth) v)
        ∙ ap (λ b. not (is_over r.width (indent + flat_width r v + 1)) && b)
        (rows-fit x refl indent (indent + flat_width r v + 1) 0 (pad (to_element p 0)) es)
        ∙ fits))

    -- ---- comments in several lines

    or-end : (p a u : Bool) → (((p || a) || false) || u) ≡ (p || (a || u))
    or-end true a u = refl
    or-end false true u = refl
    or-end false false u = refl

    or-more : (p a e u : Bool) → (((p || a) || e) || u) ≡ ((p || a) || (e || u))
    or-more true a e u = refl
    or-more false true e u = refl
    or-more false false e u = refl

    before-has : (l : Layout) (n : ℕ) (first : Bool) (depth : ℕ) (edge t : Text) → (l ≡ line_by_line) ⊎ (l ≡ in_rows) → IsWholeTrivia t
        → has_comments (before_part r l n first depth edge t) ≡ has_comments t
    before-has untouched n first depth edge t e h = refl
    before-has on_one_line n first depth edge t (inl e) h = absurd (let clash : on_one_line ≡ line_by_line = e in cc)
    before-has on_one_line n first depth edge t (inr e) h = absurd (let clash : on_one_line ≡ in_rows = e in cc)
    before-has line_by_line n first depth edge t e h = gap-has r n first false (suc depth) (suc depth) t h
    before-has in_rows n first depth edge t e h = by_test (first || is_broken t) refl
      where
        by_test : (b : Bool) → (first || is_broken t) ≡ b
            → has_comments (if b then gap r n first false (suc depth) (suc depth) t else one_space) ≡ has_comments t
        by_test true k = gap-has r n first false (suc depth) (suc depth) t h
        by_test false k = sym (ap (λ cs. not (is_empty cs)) (no-comments t (no-bodies t h (or-right first (is_broken t) k))))

    after-has : (l : Layout) (depth : ℕ) (t : Text) → (l ≡ line_by_line) ⊎ (l ≡ in_rows) → IsWholeTrivia t
        → has_comments (after_part r l true depth t ++ []) ≡ has_comments t
    after-has l depth t e h = ap has_comments (append-nil (after_part r l true depth t)) ∙ by_layout l e
      where
        by_layout : (m : Layout) → (m ≡ line_by_line) ⊎ (m ≡ in_rows) → has_comments (after_part r m true depth t) ≡ has_comments t
        by_layout untouched k = refl
        by_layout on_one_line (inl k) = absurd (let clash : on_one_line ≡ line_by_line = k in cc)
        by_layout on_one_line (inr k) = absurd (let clash : on_one_line ≡ in_rows = k in cc)
        by_layout line_by_line k = ap (λ cs. not (is_empty cs)) (comma-comments r (suc depth) t h)
        by_layout in_rows k = ap (λ cs. not (is_empty cs)) (comma-comments r (suc depth) t h)

    comments-again : (l : Layout) (p : Path) (depth : ℕ) (space : Bool) (j : ℕ) (comma : Bool) (t : Text) (i n : ℕ) (es : Elements)
        → (l ≡ line_by_line) ⊎ (l ≡ in_rows) → AreElements es → IsClose true comma t → has_elements es ≡ true
        → let x = inside r l p depth true space j comma (last_after es) t in
        (elements_have_comments (laid_elements r pad x i n es) || has_comments x.close) ≡ (elements_have_comments es || has_comments t)
    comments-again l p depth space j comma t i n no_elements o h g some = absurd (let clash : false ≡ true = some in cc)
    comments-again l p depth space j comma t i n (element a v no_elements) o h g some =
        let x = inside r l p depth true space j comma a.after t in
        let end = has_comments (after_last r l p depth space j comma a.after t) in
        ap (λ b. ((b || end) || false) || has_comments x.close) (before-has l n (i == 0) depth x.edge a.before o h.0)
        ∙ or-end (has_comments a.before) end (has_comments x.close)
        ∙ ap (λ b. has_comments a.before || b) (ends-has r l p depth space j comma a.after t o h.1 g)
        ∙ sym (or-end (has_comments a.before) (has_comments a.after) (has_comments t))
    comments-again l p depth space j comma t i n (element a v (element b u es)) o h g some =
        let rest = element b u es in
        let x = inside r l p depth true space j comma (last_after rest) t in
        let more = elements_have_comments (laid_elements r pad x (suc i) (pad (to_element p i)) rest) in
        ap (λ z. ((z || has_comments (after_part r l (comma || true) depth a.after ++ [])) || more) || has_comments x.close)
        (before-has l n (i == 0) depth x.edge a.before o h.0)
        ∙ ap (λ z. ((has_comments a.before || has_comments (after_part r l z depth a.after ++ [])) || more) || has_comments x.close) (or-true comma)
        ∙ ap (λ z. ((has_comments a.before || z) || more) || has_comments x.close) (after-has l depth a.after o h.1)
        ∙ or-more (has_comments a.before) (has_comments a.after) more (has_comments x.close)
        ∙ ap (λ z. (has_comments a.before || has_comments a.after) || z)
        (comments-again l p depth space j comma t (suc i) (pad (to_element p i)) (element b u es) o h.3 g refl)
        ∙ sym (or-more (has_comments a.before) (has_comments a.after) (elements_have_comments rest) (has_comments t))

    -- ---- layouts

    -- laid out by one of three layouts it has that again
    choose-again : (rows asked : Bool) (now : Layout → Layout) → (asked ≡ false → now on_one_line ≡ on_one_line)
        → (asked ≡ true → rows ≡ false → now line_by_line ≡ line_by_line) → (asked ≡ true → rows ≡ true → now in_rows ≡ in_rows)
        → now (rows_if rows (if asked then line_by_line else on_one_line)) ≡ rows_if rows (if asked then line_by_line else on_one_line)
    choose-again rows false now one line row = one refl
    choose-again false true now one line row = line refl refl
    choose-again true true now one line row = row refl refl

    is-one : (rows asked : Bool) → asked ≡ false → rows_if rows (if asked then line_by_line else on_one_line) ≡ on_one_line
    is-one rows asked e = ap (λ b. rows_if rows (if b then line_by_line else on_one_line)) e

    is-lines : (rows asked : Bool) → asked ≡ true → rows ≡ false → rows_if rows (if asked then line_by_line else on_one_line) ≡ line_by_line
    is-lines rows asked e f =
        ap (λ b. rows_if b (if asked then line_by_line else on_one_line)) f ∙ ap (λ b. rows_if false (if b then line_by_line else on_one_line)) e

    is-rows : (rows asked : Bool) → asked ≡ true → rows ≡ true → rows_if rows (if asked then line_by_line else on_one_line) ≡ in_rows
    is-rows rows asked e f =
        ap (λ b. rows_if b (if asked then line_by_line else on_one_line)) f ∙ ap (λ b. rows_if true (if b then line_by_line else on_one_line)) e

    module _ (p : Path) (depth : ℕ) (space : Bool) (j : ℕ) (comma : Bool) (t : Text) where
      -- an array with members
      module _ (room : Option ℕ) (n : ℕ) (a : Around) (v : Value) (es : Elements) (h : AreElements (element a v es)) (g : IsClose true comma t) where
        abbrev xs : Elements
        xs = element a v es

        abbrev laid_in : Layout → Inside
        laid_in l = inside r l p depth true space j comma (last_after xs) t

        abbrev laid_by : Layout → Elements
        laid_by l = laid_elements r pad (laid_in l) 0 n xs

        -- after the first member
        abbrev end_in : Layout → Text
        end_in l = after_part r l (comma || has_elements es) depth a.after ++ (if has_elements es then [] else (laid_in l).last)

        wide-again : (l : Layout) → is_too_wide r room (flat_width r (array (laid_by l) (laid_in l).comma (laid_in l).close))
            ≡ is_too_wide r room (flat_width r (array xs comma t))
        wide-again l = ap (is_too_wide r room) (array-wide (laid_in l) n xs (laid_in l).comma comma (laid_in l).close t)

        -- the first member is on a line of its own
        first-broken : (l : Layout) → (l ≡ line_by_line) ⊎ (l ≡ in_rows) → has_broken_elements (laid_by l) ≡ true
        first-broken untouched (inl e) = absurd (let clash : untouched ≡ line_by_line = e in cc)
        first-broken untouched (inr e) = absurd (let clash : untouched ≡ in_rows = e in cc)
        first-broken on_one_line (inl e) = absurd (let clash : on_one_line ≡ line_by_line = e in cc)
        first-broken on_one_line (inr e) = absurd (let clash : on_one_line ≡ in_rows = e in cc)
        first-broken line_by_line o =
            ap (λ b. (b || is_broken (end_in line_by_line)) || has_broken_elements (laid_elements r pad (laid_in line_by_line) 1 (pad (to_element p 0)) es))
            (gap-broken r n true false (suc depth) (suc depth) a.before)
        first-broken in_rows o =
            ap (λ b. (b || is_broken (end_in in_rows)) || has_broken_elements (laid_elements r pad (laid_in in_rows) 1 (pad (to_element p 0)) es))
            (gap-broken r n true false (suc depth) (suc depth) a.before)

        joint-none : is_in_rows r depth (laid_in line_by_line).comma (laid_by line_by_line) ≡ false
        joint-none =
            not-rows depth (laid_in line_by_line).comma (laid_by line_by_line)
            (lines-joint (laid_in line_by_line) refl 1 (pad (to_element p 0)) es)

        asked-kept : (l : Layout) → (l ≡ line_by_line) ⊎ (l ≡ in_rows)
            → ((has_broken_elements (laid_by l) || is_broken (laid_in l).close)
            || is_too_wide r room (flat_width r (array (laid_by l) (laid_in l).comma (laid_in l).close))) ≡ true
        asked-kept l o =
            ap (λ b. (b || is_broken (laid_in l).close)
            || is_too_wide r room (flat_width r (array (laid_by l) (laid_in l).comma (laid_in l).close))) (first-broken l o)

        asked-collapsed : (l : Layout) → (l ≡ line_by_line) ⊎ (l ≡ in_rows)
            → ((elements_have_comments (laid_by l) || has_comments (laid_in l).close)
            || is_too_wide r room (flat_width r (array (laid_by l) (laid_in l).comma (laid_in l).close)))
            ≡ ((elements_have_comments xs || has_comments t) || is_too_wide r room (flat_width r (array xs comma t)))
        asked-collapsed l o =
            ap (λ b. b || is_too_wide r room (flat_width r (array (laid_by l) (laid_in l).comma (laid_in l).close)))
            (comments-again l p depth space j comma t 0 n xs o h g refl)
            ∙ ap (λ b. (elements_have_comments xs || has_comments t) || b) (wide-again l)

        pub some-again : (k : Arrays) → let l = array_layout_as k r depth room xs comma t in
            array_layout_as k r depth room (laid_by l) (laid_in l).comma (laid_in l).close ≡ l
        some-again arrays_stay = refl
        some-again kept =
            choose-again (is_in_rows r depth comma xs)
            ((has_broken_elements xs || is_broken t) || is_too_wide r room (flat_width r (array xs comma t)))
            (λ l. array_layout_as kept r depth room (laid_by l) (laid_in l).comma (laid_in l).close)
            (λ e. is-one _ _
            (ap (λ b. (b || false) || is_too_wide r room (flat_width r (array (laid_by on_one_line) false [])))
            (flat-elements p depth space j comma (last_after xs) t 0 n xs)
            ∙ wide-again on_one_line ∙ or-right (has_broken_elements xs || is_broken t) _ e))
            (λ e f. is-lines _ _ (asked-kept line_by_line (inl refl)) joint-none)
            (λ e f. is-rows _ _ (asked-kept in_rows (inr refl)) (in-rows-again p depth space j comma t n xs h f))
        some-again collapsed =
            choose-again (is_in_rows r depth comma xs)
            ((elements_have_comments xs || has_comments t) || is_too_wide r room (flat_width r (array xs comma t)))
            (λ l. array_layout_as collapsed r depth room (laid_by l) (laid_in l).comma (laid_in l).close)
            (λ e. is-one _ _
            (ap (λ b. (b || false) || is_too_wide r room (flat_width r (array (laid_by on_one_line) false [])))
            (plain-elements p depth space j comma (last_after xs) t 0 n xs)
            ∙ wide-again on_one_line ∙ or-right (elements_have_comments xs || has_comments t) _ e))
            (λ e f. is-lines _ _ (asked-collapsed line_by_line (inl refl) ∙ e) joint-none)
            (λ e f. is-rows _ _ (asked-collapsed in_rows (inr refl) ∙ e) (in-rows-again p depth space j comma t n xs h f))

      -- one without
      module _ (room : Option ℕ) (g : IsClose false comma t) where
        abbrev none_in : Layout → Inside
        none_in l = inside r l p depth false space j comma [] t

        none-has : (c d : Bool) → has_comments (if d || true then gap r j true true (suc depth) depth (if c || true then t else t) else []) ≡ has_comments t
        none-has c d =
            ap has_comments (none-close r depth j c d t) ∙ gap-has r j true true (suc depth) depth t (close-trivia false comma t g)

        none-chosen : (q : Bool) → let now = λ (l : Layout). rows_if q (if has_comments (none_in l).close then line_by_line else on_one_line) in
            now (rows_if q (if has_comments t then line_by_line else on_one_line)) ≡ rows_if q (if has_comments t then line_by_line else on_one_line)
        none-chosen q =
            choose-again q (has_comments t) (λ l. rows_if q (if has_comments (none_in l).close then line_by_line else on_one_line))
            (λ e. refl)
            (λ e f. is-lines q _ (none-has comma (open_comma r.commas false comma []) ∙ e) f)
            (λ e f. is-rows q _ (none-has comma (open_comma r.commas false comma []) ∙ e) f)

        pub none-layout-again : (k : Arrays) → let l = array_layout_as k r depth room no_elements comma t in
            array_layout_as k r depth room no_elements (none_in l).comma (none_in l).close ≡ l
        none-layout-again arrays_stay = refl
        none-layout-again kept = none-chosen (is_in_rows r depth comma no_elements)
        none-layout-again collapsed = none-chosen (is_in_rows r depth comma no_elements)

        pub none-pairs-again : (b : Bool) → let l = if b then open_if false (false || is_broken t) t else untouched in
            (if b then open_if false (false || is_broken (none_in l).close) (none_in l).close else untouched) ≡ l
        none-pairs-again false = refl
        none-pairs-again true = by_test (has_comments t) refl
          where
            by_test : (c : Bool) → has_comments t ≡ c
                → (if has_comments (none_in (if c then line_by_line else on_one_line)).close then line_by_line else on_one_line)
                ≡ (if c then line_by_line else on_one_line)
            by_test true e = ap (λ z. if z then line_by_line else on_one_line) (none-has comma (open_comma r.commas false comma []) ∙ e)
            by_test false e = refl

      -- inline tables with members
      pub pairs-layout-again : (n : ℕ) (f : Frame) (v : Value) (ps : Pairs) (b : Bool)
          → let xs = pair f v ps in
          let laid_in = λ (l : Layout). inside r l p depth true space j comma (last_trailing xs) t in
          let l = if b then open_if true (has_broken_pairs xs || is_broken t) t else untouched in
          (if b then open_if true (has_broken_pairs (laid_pairs r pad (laid_in l) 0 n xs) || is_broken (laid_in l).close) (laid_in l).close else untouched) ≡ l
      pairs-layout-again n f v ps false = refl
      pairs-layout-again n f v ps true = by_test (has_broken_pairs (pair f v ps) || is_broken t)
        where
          by_test : (c : Bool)
              → (if has_broken_pairs (laid_pairs r pad (inside r (if c then line_by_line else on_one_line) p depth true space j comma (last_trailing (pair f v ps)) t) 0 n (pair f v ps))
              || is_broken (inside r (if c then line_by_line else on_one_line) p depth true space j comma (last_trailing (pair f v ps)) t).close
              then line_by_line else on_one_line) ≡ (if c then line_by_line else on_one_line)
          by_test true =
              ap (λ z. if ((z || is_broken (after_part r line_by_line (comma || has_pairs ps) depth f.trailing
              ++ (if has_pairs ps then [] else (inside r line_by_line p depth true space j comma (last_trailing (pair f v ps)) t).last)))
              || has_broken_pairs (laid_pairs r pad (inside r line_by_line p depth true space j comma (last_trailing (pair f v ps)) t) 1 (pad (to_element p 0)) ps))
              || is_broken (inside r line_by_line p depth true space j comma (last_trailing (pair f v ps)) t).close
              then line_by_line else on_one_line) (gap-broken r n true false (suc depth) (suc depth) f.leading)
          by_test false =
              ap (λ z. if z || false then line_by_line else on_one_line)
              (flat-pairs p depth space j comma (last_trailing (pair f v ps)) t 0 n (pair f v ps))
