-- Where a rule is off, its places stay; where all are, the document does.
use Rattle.std.proofs.Common.{◌≡◌, refl, ap, ◌∙◌, ℕ, suc, Bool, true, false, List, [], ◌∷◌, ◌++◌, length, Option, Some, None, append-nil}
use Rattle.std.specs.Prelude.{◌&&◌, ◌||◌, ◌==◌, not, if◌then◌else◌}
use Rattle.toml_edit_model.specs.Comments.{lines}
use Rattle.toml_edit_model.specs.DefaultSpelling.{is_bare_key}
use Rattle.toml_edit_model.specs.Paths.{Path, to_element}
use Rattle.toml_edit_model.specs.Print.{one_space}
use Rattle.toml_edit_model.specs.Syntax.{Segment, Frame, Value, scalar, array, inline_table, Elements, no_elements, element, Pairs, no_pairs, pair}
use Rattle.toml_edit_model.specs.Syntax.{Statement, key_line, header, has_elements, has_pairs}
use Rattle.toml_edit_model.specs.Text.{Text, joined}
use Rattle.toml_edit_fmt_laws.specs.Rules.{as_it_is, as_they_are, arrays_stay, Rules, line_depth, header_depth, made_newline}
use Rattle.toml_edit_fmt_laws.specs.Laying.{is_broken, spaced, may_be_empty, leading_as, leading, header_leading, usual_pad}
use Rattle.toml_edit_fmt_laws.specs.Laying.{final_as, final_text, rest_as, line_rest}
use Rattle.toml_edit_fmt_laws.specs.Formatted.{Layout, untouched, open_if, array_layout_as, array_layout, inline_layout, has_broken_pairs, Inside, inside}
use Rattle.toml_edit_fmt_laws.specs.Formatted.{before_part, after_part, inner_depth, inner_room, last_after, last_trailing, last_pad, elements_count, pairs_count}
use Rattle.toml_edit_fmt_laws.specs.Formatted.{laid_spelling, laid_segment, laid_path, beside_equals, laid_frame, in_array, in_inline, laid_value, laid_elements, laid_pairs}
use Rattle.toml_edit_fmt_laws.specs.Formatted.{State, start, stays, reached, leading_of, after, used_before, laid_statement, lay, laid_statements, state_after, laid_final}
use Rattle.toml_edit_fmt_laws.specs.Promises.{IsOff, OffChangesNothing}
use Rattle.toml_edit_fmt_laws.proofs.Rows.{joined-lines}

-- ---- rule by rule

module _ (r : Rules) (empty : r.blank_lines ≡ None) (lines_stay : r.indentation ≡ as_it_is) where
  pub leading-off : (s : Bool) (depth : ℕ) (t : Text) → leading r s depth t ≡ t
  leading-off s depth t =
      ap (λ k. leading_as k r s depth t) lines_stay ∙ ap (λ o. joined (spaced o s false (lines t))) empty ∙ joined-lines t

  pub header-off : (s : Bool) (depth : ℕ) (t : Text) → header_leading r s depth t ≡ t
  header-off s depth t =
      ap (λ o. (if may_be_empty o && not (s || is_broken t) then made_newline r else []) ++ leading r s depth t) empty
      ∙ leading-off s depth t

  pub final-off : (s : Bool) (t : Text) → final_text r s t ≡ t
  final-off s t = ap (λ k. final_as k r s t) lines_stay ∙ ap (λ o. joined (spaced o s true (lines t))) empty ∙ joined-lines t

module _ (r : Rules) where
  pub rest-off : r.comments ≡ as_they_are → (pad : ℕ) (t : Text) → line_rest r pad t ≡ t
  rest-off off pad t = ap (λ c. rest_as c pad t) off

  pub equals-off : r.equals ≡ false → (t : Text) → beside_equals r t ≡ t
  equals-off off t = ap (λ b. if b then one_space else t) off

  pub dots-off : r.dots ≡ false → (t : Text) → (if r.dots then [] else t) ≡ t
  dots-off off t = ap (λ b. if b then [] else t) off

  pub keys-off : r.keys ≡ false → (s : Segment) → laid_spelling r s ≡ s.spelled
  keys-off off s = ap (λ b. if b && is_bare_key s.key then s.key else s.spelled) off

  array-off : r.arrays ≡ arrays_stay → (depth : ℕ) (room : Option ℕ) (es : Elements) (comma : Bool) (t : Text)
      → array_layout r depth room es comma t ≡ untouched
  array-off off depth room es comma t = ap (λ a. array_layout_as a r depth room es comma t) off

  inline-off : r.inline_tables ≡ false → (ps : Pairs) (t : Text) → inline_layout r ps t ≡ untouched
  inline-off off ps t = ap (λ b. if b then open_if (has_pairs ps) (has_broken_pairs ps || is_broken t) t else untouched) off

  -- ---- between brackets

  -- Of what is between these brackets nothing changes but the values.
  pub record Stays (x : Inside) (comma : Bool) (t : Text) : Type 0 where
    pub layout : x.layout ≡ untouched
    pub comma_is : x.comma ≡ comma
    pub last : x.last ≡ []
    pub close : x.close ≡ t

  inside-off : (l : Layout) (p : Path) (depth : ℕ) (has space : Bool) (n : ℕ) (comma : Bool) (last t : Text) → l ≡ untouched
      → Stays (inside r l p depth has space n comma last t) comma t
  inside-off l p depth has space n comma last t e =
      record {
        layout = e;
        comma_is = ap (λ m. (inside r m p depth has space n comma last t).comma) e;
        last = ap (λ m. (inside r m p depth has space n comma last t).last) e;
        close = ap (λ m. (inside r m p depth has space n comma last t).close) e;
      }

  pub array-stays : r.arrays ≡ arrays_stay → (pad : Path → ℕ) (p : Path) (depth : ℕ) (room : Option ℕ) (es : Elements) (comma : Bool) (t : Text)
      → Stays (in_array r pad p depth room es comma t) comma t
  array-stays off pad p depth room es comma t =
      inside-off (array_layout r depth room es comma t) p depth (has_elements es) r.bracket_space
      (last_pad r pad p (elements_count es)) comma (last_after es) t (array-off off depth room es comma t)

  pub inline-stays : r.inline_tables ≡ false → (pad : Path → ℕ) (p : Path) (depth : ℕ) (ps : Pairs) (comma : Bool) (t : Text)
      → Stays (in_inline r pad p depth ps comma t) comma t
  inline-stays off pad p depth ps comma t =
      inside-off (inline_layout r ps t) p depth (has_pairs ps) r.brace_space
      (last_pad r pad p (pairs_count ps)) comma (last_trailing ps) t (inline-off off ps t)

  pub before-off : (x : Inside) → x.layout ≡ untouched → (n : ℕ) (first : Bool) (t : Text)
      → before_part r x.layout n first x.depth x.edge t ≡ t
  before-off x e n first t = ap (λ l. before_part r l n first x.depth x.edge t) e

  pub end-off : (x : Inside) → x.layout ≡ untouched → x.last ≡ [] → (has : Bool) (t : Text)
      → after_part r x.layout (x.had_comma || has) x.depth t ++ (if has then [] else x.last) ≡ t
  end-off x e g has t =
      ap (λ l. after_part r l (x.had_comma || has) x.depth t ++ (if has then [] else x.last)) e
      ∙ ap (λ u. t ++ (if has then [] else u)) g ∙ by_test has ∙ append-nil t
    where
      by_test : (b : Bool) → t ++ (if b then [] else []) ≡ t ++ []
      by_test true = refl
      by_test false = refl

-- ---- no rule

module _ (r : Rules) (off : IsOff r) where
  segment-off : (s : Segment) → laid_segment r s ≡ s
  segment-off s =
      ap (λ u. record { before = u; key = s.key; spelled = laid_spelling r s; after = if r.dots then [] else s.after }) (dots-off r off.dots s.before)
      ∙ ap (λ u. record { before = s.before; key = s.key; spelled = u; after = if r.dots then [] else s.after }) (keys-off r off.keys s)
      ∙ ap (λ u. record { before = s.before; key = s.key; spelled = s.spelled; after = u }) (dots-off r off.dots s.after)

  path-off : (p : List Segment) → laid_path r p ≡ p
  path-off [] = refl
  path-off (s ∷ p) = ap (λ t. t ∷ laid_path r p) (segment-off s) ∙ ap (λ q. s ∷ q) (path-off p)

  frame-off : (f : Frame) (b a : Text) → b ≡ f.leading → a ≡ f.trailing → laid_frame r b a f ≡ f
  frame-off f b a e g =
      ap (λ u. record (laid_frame r b a f) { leading = u }) e
      ∙ ap (λ u. record f {
        path = laid_path r f.path;
        before_equals = beside_equals r f.before_equals;
        after_equals = beside_equals r f.after_equals;
        trailing = u;
      }) g
      ∙ ap (λ u. record f {
        path = u;
        before_equals = beside_equals r f.before_equals;
        after_equals = beside_equals r f.after_equals;
      }) (path-off f.path)
      ∙ ap (λ u. record f { before_equals = u; after_equals = beside_equals r f.after_equals }) (equals-off r off.equals f.before_equals)
      ∙ ap (λ u. record f { after_equals = u }) (equals-off r off.equals f.after_equals)

  module _ (pad : Path → ℕ) where
    mutual
      value-off : (p : Path) (depth : ℕ) (room : Option ℕ) (v : Value) → laid_value r pad p depth room v ≡ v
      value-off p depth room (scalar s t) = refl
      value-off p depth room (array es comma t) =
          let x = in_array r pad p depth room es comma t in
          let k = array-stays r off.arrays pad p depth room es comma t in
          ap (λ xs. array xs x.comma x.close) (elements-off x k.layout k.last 0 (usual_pad r.comments) es)
          ∙ ap (λ b. array es b x.close) k.comma_is ∙ ap (array es comma) k.close
      value-off p depth room (inline_table ps comma t) =
          let x = in_inline r pad p depth ps comma t in
          let k = inline-stays r off.inline_tables pad p depth ps comma t in
          ap (λ xs. inline_table xs x.comma x.close) (pairs-off x k.layout k.last 0 (usual_pad r.comments) ps)
          ∙ ap (λ b. inline_table ps b x.close) k.comma_is ∙ ap (inline_table ps comma) k.close

      elements-off : (x : Inside) → x.layout ≡ untouched → x.last ≡ [] → (i n : ℕ) (es : Elements) → laid_elements r pad x i n es ≡ es
      elements-off x e g i n no_elements = refl
      elements-off x e g i n (element a v es) =
          let w = laid_value r pad (to_element x.path i) (inner_depth x.layout x.depth) (inner_room r x.layout x.depth) v in
          let rest = laid_elements r pad x (suc i) (pad (to_element x.path i)) es in
          let end = after_part r x.layout (x.had_comma || has_elements es) x.depth a.after ++ (if has_elements es then [] else x.last) in
          ap (λ u. element (record { before = u; after = end }) w rest) (before-off r x e n (i == 0) a.before)
          ∙ ap (λ u. element (record { before = a.before; after = u }) w rest) (end-off r x e g (has_elements es) a.after)
          ∙ ap (λ u. element a u rest) (value-off (to_element x.path i) (inner_depth x.layout x.depth) (inner_room r x.layout x.depth) v)
          ∙ ap (element a v) (elements-off x e g (suc i) (pad (to_element x.path i)) es)

      pairs-off : (x : Inside) → x.layout ≡ untouched → x.last ≡ [] → (i n : ℕ) (ps : Pairs) → laid_pairs r pad x i n ps ≡ ps
      pairs-off x e g i n no_pairs = refl
      pairs-off x e g i n (pair f v ps) =
          let w = laid_value r pad (to_element x.path i) (inner_depth x.layout x.depth) None v in
          let rest = laid_pairs r pad x (suc i) (pad (to_element x.path i)) ps in
          ap (λ u. pair u w rest)
          (frame-off f _ _ (before-off r x e n (i == 0) f.leading) (end-off r x e g (has_pairs ps) f.trailing))
          ∙ ap (λ u. pair f u rest) (value-off (to_element x.path i) (inner_depth x.layout x.depth) None v)
          ∙ ap (pair f v) (pairs-off x e g (suc i) (pad (to_element x.path i)) ps)

    statement-off : (st : State) (s : Statement) → lay r pad st s ≡ s
    statement-off st s = by_test (stays (reached r st (leading_of s))) s
      where
        by_test : (b : Bool) (s : Statement) → (if b then s else laid_statement r pad st s) ≡ s
        by_test true s = refl
        by_test false (key_line f v end) =
            let depth = line_depth r st.keys in
            let frame = laid_frame r (leading r st.is_start depth f.leading) (line_rest r (pad []) f.trailing) f in
            ap (λ w. key_line frame w end) (value-off [] depth (Some (used_before frame)) v)
            ∙ ap (λ g. key_line g v end)
            (frame-off f (leading r st.is_start depth f.leading) (line_rest r (pad []) f.trailing)
            (leading-off r off.blank_lines off.indentation st.is_start depth f.leading) (rest-off r off.comments (pad []) f.trailing))
        by_test false (header x end) =
            let depth = header_depth r (length x.path) in
            ap (λ u. header (record {
              leading = u;
              is_array = x.is_array;
              opening = if r.dots then [] else x.opening;
              path = laid_path r x.path;
              closing = if r.dots then [] else x.closing;
              trailing = line_rest r (usual_pad r.comments) x.trailing;
            }) end) (header-off r off.blank_lines off.indentation st.is_start depth x.leading)
            ∙ ap (λ u. header (record x {
              opening = u;
              path = laid_path r x.path;
              closing = if r.dots then [] else x.closing;
              trailing = line_rest r (usual_pad r.comments) x.trailing;
            }) end) (dots-off r off.dots x.opening)
            ∙ ap (λ u. header (record x {
              path = u;
              closing = if r.dots then [] else x.closing;
              trailing = line_rest r (usual_pad r.comments) x.trailing;
            }) end) (path-off x.path)
            ∙ ap (λ u. header (record x { closing = u; trailing = line_rest r (usual_pad r.comments) x.trailing }) end) (dots-off r off.dots x.closing)
            ∙ ap (λ u. header (record x { trailing = u }) end) (rest-off r off.comments (usual_pad r.comments) x.trailing)

  statements-off : (pad : ℕ → Path → ℕ) (n : ℕ) (st : State) (ss : List Statement) → laid_statements r pad n st ss ≡ ss
  statements-off pad n st [] = refl
  statements-off pad n st (s ∷ rest) =
      ap (λ x. x ∷ laid_statements r pad (suc n) (after r st s) rest) (statement-off (pad n) st s)
      ∙ ap (λ xs. s ∷ xs) (statements-off pad (suc n) (after r st s) rest)

  final-stays : (st : State) (t : Text) → laid_final r st t ≡ t
  final-stays st t = by_test (stays (reached r st t))
    where
      by_test : (b : Bool) → (if b then t else final_text r st.is_start t) ≡ t
      by_test true = refl
      by_test false = final-off r off.blank_lines off.indentation st.is_start t

pub off_changes_nothing : OffChangesNothing
off_changes_nothing r off pad d =
    let end = laid_final r (state_after r start d.statements) d.final in
    ap (λ ss. record d { statements = ss; final = end }) (statements-off r off pad 0 start d.statements)
    ∙ ap (λ t. record d { final = t }) (final-stays r off (state_after r start d.statements) d.final)
