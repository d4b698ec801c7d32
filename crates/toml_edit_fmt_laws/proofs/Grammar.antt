-- A formatted document is in the grammar.
use Rattle.std.proofs.Common.{◌≡◌, refl, sym, ap, subst, ◌∙◌, ℕ, suc, Bool, true, false, List, [], ◌∷◌, ◌++◌, length, Option, None, inl, inr}
use Rattle.std.specs.Prelude.{◌⊎◌, ◌||◌, ◌&&◌, ◌==◌, not, if◌then◌else◌}
use Rattle.std.specs.List.{AllByRecursion}
use Rattle.toml_edit_model.specs.DefaultSpelling.{is_bare_key}
use Rattle.toml_edit_model.specs.Paths.{Path, to_element}
use Rattle.toml_edit_model.specs.Print.{one_space}
use Rattle.toml_edit_model.specs.Spelling.{SpellsKey}
use Rattle.toml_edit_model.specs.Syntax.{Segment, Frame, Value, scalar, array, inline_table, Elements, no_elements, element, Pairs}
use Rattle.toml_edit_model.specs.Syntax.{no_pairs, pair, Statement, key_line, header, has_elements, has_pairs, IsClose}
use Rattle.toml_edit_model.specs.Syntax.{IsSpacedSegment, IsSpelledSegment, begins_unspaced, ends_unspaced, IsPath, IsFrame}
use Rattle.toml_edit_model.specs.Syntax.{IsValue, AreElements, ArePairs, IsStatement, AreStatements}
use Rattle.toml_edit_model.specs.Text.{Text, is_empty}
use Rattle.toml_edit_model.specs.Trivia.{IsWhiteSpace, IsWholeTrivia, IsLineEnd, IsFinalTrivia, IsNewline}
use Rattle.toml_edit_laws.proofs.accepted_prints.PrintedValues.{whole-append}
use Rattle.toml_edit_laws.proofs.common.Tests.{and_left, and_right, not-true}
use Rattle.toml_edit_laws.proofs.common.Trivia.{close-trivia, empty-trivia}
use Rattle.toml_edit_fmt_laws.specs.Promises.{StaysDocument}
use Rattle.toml_edit_fmt_laws.specs.Rules.{Rules, Commas, commas_stay, always, never, line_depth, header_depth}
use Rattle.toml_edit_fmt_laws.specs.Laying.{is_broken, leading, line_rest, final_text, usual_pad, gap}
use Rattle.toml_edit_fmt_laws.specs.Formatted.{Layout, untouched, on_one_line, line_by_line, in_rows, open_comma, laid_comma, before_part}
use Rattle.toml_edit_fmt_laws.specs.Formatted.{after_part, before_bracket, inner_depth, inner_room, last_after, last_trailing}
use Rattle.toml_edit_fmt_laws.specs.Formatted.{laid_path, laid_frame, Inside, inside, last_text, close_text, in_array, in_inline, elements_count, pairs_count}
use Rattle.toml_edit_fmt_laws.specs.Formatted.{array_layout, inline_layout, laid_value, laid_elements, laid_pairs, last_pad}
use Rattle.toml_edit_fmt_laws.specs.Formatted.{State, start, stays, reached, leading_of, after, laid_statement, lay, laid_statements, state_after, laid_final}
use Rattle.toml_edit_fmt_laws.proofs.Rows.{white-whole}
use Rattle.toml_edit_fmt_laws.proofs.GapLaws.{gap-whole, comma-whole}
use Rattle.toml_edit_fmt_laws.proofs.LeadingLaws.{leading-whole}
use Rattle.toml_edit_fmt_laws.proofs.HeaderLaws.{header-whole}
use Rattle.toml_edit_fmt_laws.proofs.LineRests.{rest-end}
use Rattle.toml_edit_fmt_laws.proofs.Ends.{final-trivia, final-none}

-- ---- commas

-- a comma is where something is
has-comma : (has comma : Bool) (t : Text) → IsClose has comma t → comma ≡ true → has ≡ true
has-comma has true t h e = h.1
has-comma has false t h e = cc

pub open-comma-has : (c : Commas) (has comma : Bool) (last t : Text) → IsClose has comma t → open_comma c has comma last ≡ true → has ≡ true
open-comma-has commas_stay has comma last t h e = has-comma has comma t h e
open-comma-has always has comma last t h e = e
open-comma-has never has comma last t h e = has-comma has comma t h (and_left comma _ e)

-- what is before the bracket goes to the last member where no comma is
closed : (has comma : Bool) (t : Text) → (comma ≡ true → has ≡ true) → IsWholeTrivia t
    → IsClose has comma (if comma || not has then t else [])
closed has true t h w = (w, h refl)
closed true false t h w = (empty-trivia, inr refl)
closed false false t h w = (w, inl refl)

if-whole : (b : Bool) (s t : Text) → IsWholeTrivia s → IsWholeTrivia t → IsWholeTrivia (if b then s else t)
if-whole true s t h g = h
if-whole false s t h g = g

if-white : (b : Bool) (s t : Text) → IsWhiteSpace s → IsWhiteSpace t → IsWhiteSpace (if b then s else t)
if-white true s t h g = h
if-white false s t h g = g

-- An array or an inline table is laid out within the grammar.
pub record Sound (has : Bool) (x : Inside) : Type 0 where
  pub edge : IsWhiteSpace x.edge
  pub last : IsWholeTrivia x.last
  pub close : IsClose has x.comma x.close

pub last-whole : (es : Elements) → AreElements es → IsWholeTrivia (last_after es)
last-whole no_elements h = empty-trivia
last-whole (element a v no_elements) h = h.1
last-whole (element a v (element b w es)) h = last-whole (element b w es) h.3

pub last-pair-whole : (ps : Pairs) → ArePairs ps → IsWholeTrivia (last_trailing ps)
last-pair-whole no_pairs h = empty-trivia
last-pair-whole (pair f v no_pairs) h = h.0.0.trailing
last-pair-whole (pair f v (pair g w ps)) h = last-pair-whole (pair g w ps) h.2

module _ (r : Rules) where
  -- ---- parts

  pub before-whole : (l : Layout) (n : ℕ) (first : Bool) (depth : ℕ) (edge t : Text) → IsWhiteSpace edge → IsWholeTrivia t
      → IsWholeTrivia (before_part r l n first depth edge t)
  before-whole untouched n first depth edge t w h = h
  before-whole on_one_line n first depth edge t w h = white-whole _ (if-white first edge one_space w refl)
  before-whole line_by_line n first depth edge t w h = gap-whole r n first false (suc depth) (suc depth) t h
  before-whole in_rows n first depth edge t w h =
      if-whole (first || is_broken t) (gap r n first false (suc depth) (suc depth) t) one_space
      (gap-whole r n first false (suc depth) (suc depth) t h) (white-whole one_space refl)

  pub after-whole : (l : Layout) (comma : Bool) (depth : ℕ) (t : Text) → IsWholeTrivia t → IsWholeTrivia (after_part r l comma depth t)
  after-whole untouched comma depth t h = h
  after-whole on_one_line comma depth t h = empty-trivia
  after-whole line_by_line comma depth t h = if-whole comma _ [] (comma-whole r (suc depth) t h) empty-trivia
  after-whole in_rows comma depth t h = if-whole comma _ [] (comma-whole r (suc depth) t h) empty-trivia

  bracket-whole : (l : Layout) (n : ℕ) (has : Bool) (depth : ℕ) (edge : Text) (comma : Bool) (last t : Text) → IsWhiteSpace edge
      → IsWholeTrivia last → IsWholeTrivia t → IsWholeTrivia (before_bracket r l n has depth edge comma last t)
  bracket-whole untouched n has depth edge comma last t w v h = h
  bracket-whole on_one_line n has depth edge comma last t w v h = white-whole edge w
  bracket-whole line_by_line n has depth edge comma last t w v h =
      gap-whole r n (not has) true (suc depth) depth _ (if-whole comma t (last ++ t) h (whole-append last t v h))
  bracket-whole in_rows n has depth edge comma last t w v h =
      gap-whole r n (not has) true (suc depth) depth _ (if-whole comma t (last ++ t) h (whole-append last t v h))

  last-sound : (l : Layout) (b : Bool) (t : Text) → IsWholeTrivia t → IsWholeTrivia (last_text l b t)
  last-sound untouched b t h = empty-trivia
  last-sound on_one_line b t h = if-whole b [] t empty-trivia h
  last-sound line_by_line b t h = if-whole b [] t empty-trivia h
  last-sound in_rows b t h = if-whole b [] t empty-trivia h

  close-sound : (l : Layout) (n : ℕ) (has : Bool) (depth : ℕ) (edge : Text) (comma : Bool) (last t : Text) → IsWhiteSpace edge
      → IsWholeTrivia last → IsClose has comma t
      → IsClose has (laid_comma r l has comma last)
      (close_text l (laid_comma r l has comma last || not has) (before_bracket r l n has depth edge (comma || not has) last t))
  close-sound untouched n has depth edge comma last t w v h = h
  close-sound on_one_line n has depth edge comma last t w v h = closed has false edge (λ e. cc) (white-whole edge w)
  close-sound line_by_line n has depth edge comma last t w v h =
      closed has (open_comma r.commas has comma last) _ (open-comma-has r.commas has comma last t h)
      (bracket-whole line_by_line n has depth edge (comma || not has) last t w v (close-trivia has comma t h))
  close-sound in_rows n has depth edge comma last t w v h =
      closed has (open_comma r.commas has comma last) _ (open-comma-has r.commas has comma last t h)
      (bracket-whole in_rows n has depth edge (comma || not has) last t w v (close-trivia has comma t h))

  inside-sound : (l : Layout) (p : Path) (depth : ℕ) (has space : Bool) (n : ℕ) (comma : Bool) (last t : Text) → IsWholeTrivia last
      → IsClose has comma t → Sound has (inside r l p depth has space n comma last t)
  inside-sound l p depth has space n comma last t v h =
      let edge = if has && space then one_space else [] in
      let w : IsWhiteSpace edge = if-white (has && space) one_space [] refl refl in
      record {
        edge = w;
        last = last-sound l (laid_comma r l has comma last || not has) _
            (bracket-whole l n has depth edge (comma || not has) last t w v (close-trivia has comma t h));
        close = close-sound l n has depth edge comma last t w v h;
      }

  pub array-sound : (pad : Path → ℕ) (p : Path) (depth : ℕ) (room : Option ℕ) (es : Elements) (comma : Bool) (t : Text)
      → IsValue (array es comma t) → Sound (has_elements es) (in_array r pad p depth room es comma t)
  array-sound pad p depth room es comma t h =
      inside-sound (array_layout r depth room es comma t) p depth (has_elements es) r.bracket_space (last_pad r pad p (elements_count es))
      comma (last_after es) t (last-whole es h.1) h.0

  pub inline-sound : (pad : Path → ℕ) (p : Path) (depth : ℕ) (ps : Pairs) (comma : Bool) (t : Text)
      → IsValue (inline_table ps comma t) → Sound (has_pairs ps) (in_inline r pad p depth ps comma t)
  inline-sound pad p depth ps comma t h =
      inside-sound (inline_layout r ps t) p depth (has_pairs ps) r.brace_space (last_pad r pad p (pairs_count ps))
      comma (last_trailing ps) t (last-pair-whole ps h.1) h.0

  -- ---- keys

  dots-white : (t : Text) → IsWhiteSpace t → IsWhiteSpace (if r.dots then [] else t)
  dots-white t h = if-white r.dots [] t refl h

  dots-empty : (t : Text) → is_empty t ≡ true → is_empty (if r.dots then [] else t) ≡ true
  dots-empty t h = by_test r.dots
    where
      by_test : (b : Bool) → is_empty (if b then [] else t) ≡ true
      by_test true = refl
      by_test false = h

  spelled : (k t : Text) → SpellsKey k t → SpellsKey k (if r.keys && is_bare_key k then k else t)
  spelled k t h = by_test (r.keys && is_bare_key k) refl
    where
      by_test : (b : Bool) → (r.keys && is_bare_key k) ≡ b → SpellsKey k (if b then k else t)
      by_test true e =
          let bare = and_right r.keys (is_bare_key k) e in
          inl ((and_right (not (is_empty k)) _ bare, not-true (is_empty k) (and_left (not (is_empty k)) _ bare)), refl)
      by_test false e = h

  path-spaced : (p : List Segment) → AllByRecursion IsSpacedSegment p → AllByRecursion IsSpacedSegment (laid_path r p)
  path-spaced [] h = tt
  path-spaced (s ∷ p) h = ((dots-white s.before h.0.0, dots-white s.after h.0.1), path-spaced p h.1)

  path-spelled : (p : List Segment) → AllByRecursion IsSpelledSegment p → AllByRecursion IsSpelledSegment (laid_path r p)
  path-spelled [] h = tt
  path-spelled (s ∷ p) h = (spelled s.key s.spelled h.0, path-spelled p h.1)

  begins-laid : (p : List Segment) → begins_unspaced p ≡ true → begins_unspaced (laid_path r p) ≡ true
  begins-laid [] h = h
  begins-laid (s ∷ p) h = dots-empty s.before h

  ends-laid : (p : List Segment) → ends_unspaced p ≡ true → ends_unspaced (laid_path r p) ≡ true
  ends-laid [] h = h
  ends-laid (s ∷ []) h = dots-empty s.after h
  ends-laid (s ∷ t ∷ rest) h = ends-laid (t ∷ rest) h

  path-laid-is : (p : List Segment) → IsPath p → IsPath (laid_path r p)
  path-laid-is p h = record {
    begins = begins-laid p h.begins;
    ends = ends-laid p h.ends;
    spelled = path-spelled p h.spelled;
  }

  frame-laid : (May : Text → Type 0) (f : Frame) (b a : Text) → IsFrame May f → IsWholeTrivia b → May a → IsFrame May (laid_frame r b a f)
  frame-laid May f b a h g k = (
    record {
      leading = g;
      segments = path-spaced f.path h.0.segments;
      before_equals = if-white r.equals one_space f.before_equals refl h.0.before_equals;
      after_equals = if-white r.equals one_space f.after_equals refl h.0.after_equals;
      trailing = k;
    },
    path-laid-is f.path h.1,
  )

  -- ---- values

  module _ (pad : Path → ℕ) where
    pub has-laid : (x : Inside) (i n : ℕ) (es : Elements) → has_elements (laid_elements r pad x i n es) ≡ has_elements es
    has-laid x i n no_elements = refl
    has-laid x i n (element a v es) = refl

    pub has-laid-pairs : (x : Inside) (i n : ℕ) (ps : Pairs) → has_pairs (laid_pairs r pad x i n ps) ≡ has_pairs ps
    has-laid-pairs x i n no_pairs = refl
    has-laid-pairs x i n (pair f v ps) = refl

    end-whole : (x : Inside) (has : Bool) (t : Text) → IsWholeTrivia x.last → IsWholeTrivia t
        → IsWholeTrivia (after_part r x.layout (x.had_comma || has) x.depth t ++ (if has then [] else x.last))
    end-whole x has t w h =
        whole-append _ _ (after-whole x.layout (x.had_comma || has) x.depth t h) (if-whole has [] x.last empty-trivia w)

    mutual
      value-laid : (p : Path) (depth : ℕ) (room : Option ℕ) (v : Value) → IsValue v → IsValue (laid_value r pad p depth room v)
      value-laid p depth room (scalar s t) h = h
      value-laid p depth room (array es comma t) h =
          let x = in_array r pad p depth room es comma t in
          let s = array-sound pad p depth room es comma t h in (
            subst (λ b. IsClose b x.comma x.close) (sym (has-laid x 0 (usual_pad r.comments) es)) s.close,
            elements-laid x 0 (usual_pad r.comments) es s.edge s.last h.1,
          )
      value-laid p depth room (inline_table ps comma t) h =
          let x = in_inline r pad p depth ps comma t in
          let s = inline-sound pad p depth ps comma t h in (
            subst (λ b. IsClose b x.comma x.close) (sym (has-laid-pairs x 0 (usual_pad r.comments) ps)) s.close,
            pairs-laid x 0 (usual_pad r.comments) ps s.edge s.last h.1,
          )

      elements-laid : (x : Inside) (i n : ℕ) (es : Elements) → IsWhiteSpace x.edge → IsWholeTrivia x.last → AreElements es
          → AreElements (laid_elements r pad x i n es)
      elements-laid x i n no_elements w v h = tt
      elements-laid x i n (element a u es) w v h = (
        before-whole x.layout n (i == 0) x.depth x.edge a.before w h.0,
        end-whole x (has_elements es) a.after v h.1,
        value-laid (to_element x.path i) (inner_depth x.layout x.depth) (inner_room r x.layout x.depth) u h.2,
        elements-laid x (suc i) (pad (to_element x.path i)) es w v h.3,
      )

      pairs-laid : (x : Inside) (i n : ℕ) (ps : Pairs) → IsWhiteSpace x.edge → IsWholeTrivia x.last → ArePairs ps
          → ArePairs (laid_pairs r pad x i n ps)
      pairs-laid x i n no_pairs w v h = tt
      pairs-laid x i n (pair f u ps) w v h = (
        frame-laid IsWholeTrivia f _ _ h.0 (before-whole x.layout n (i == 0) x.depth x.edge f.leading w h.0.0.leading)
            (end-whole x (has_pairs ps) f.trailing v h.0.0.trailing),
        value-laid (to_element x.path i) (inner_depth x.layout x.depth) None u h.1,
        pairs-laid x (suc i) (pad (to_element x.path i)) ps w v h.2,
      )

    -- ---- statements

    weaker : (End New : Text → Type 0) (s : Statement) → ((e : Text) → End e → New e) → IsStatement End s → IsStatement New s
    weaker End New (key_line f v end) more h = (h.0, h.1, more end h.2)
    weaker End New (header x end) more h = (h.0, more end h.1)

    statement-laid : (End New : Text → Type 0) (st : State) (s : Statement) → ((e : Text) → End e → New e)
        → IsStatement End s → IsStatement New (lay r pad st s)
    statement-laid End New st s more h = by_test (stays (reached r st (leading_of s))) s h
      where
        by_test : (b : Bool) (s : Statement) → IsStatement End s → IsStatement New (if b then s else laid_statement r pad st s)
        by_test true s h = weaker End New s more h
        by_test false (key_line f v end) h =
            let depth = line_depth r st.keys in (
              frame-laid IsLineEnd f (leading r st.is_start depth f.leading) (line_rest r (pad []) f.trailing) h.0
                  (leading-whole r st.is_start depth f.leading h.0.0.leading) (rest-end r (pad []) f.trailing h.0.0.trailing),
              value-laid [] depth _ v h.1,
              more end h.2,
            )
        by_test false (header x end) h = (
          (
            record {
              leading = header-whole r st.is_start (header_depth r (length x.path)) x.leading h.0.0.leading;
              segments = path-spaced x.path h.0.0.segments;
              opening = dots-white x.opening h.0.0.opening;
              closing = dots-white x.closing h.0.0.closing;
              trailing = rest-end r (usual_pad r.comments) x.trailing h.0.0.trailing;
            },
            path-laid-is x.path h.0.1,
          ),
          more end h.1,
        )

  statements-laid : (pad : ℕ → Path → ℕ) (n : ℕ) (final other : Text) (st : State) (ss : List Statement) → (final ≡ [] → other ≡ [])
      → AreStatements final ss → AreStatements other (laid_statements r pad n st ss)
  statements-laid pad n final other st [] none h = tt
  statements-laid pad n final other st (s ∷ []) none h =
      statement-laid (pad n) (λ end. IsNewline end ⊎ ((end ≡ []) × (final ≡ []))) (λ end. IsNewline end ⊎ ((end ≡ []) × (other ≡ [])))
      st s (λ e k. by_end e k) h
    where
      by_end : (e : Text) → IsNewline e ⊎ ((e ≡ []) × (final ≡ [])) → IsNewline e ⊎ ((e ≡ []) × (other ≡ []))
      by_end e (inl k) = inl k
      by_end e (inr k) = inr (k.0, none k.1)
  statements-laid pad n final other st (s ∷ next ∷ rest) none h = (
    statement-laid (pad n) IsNewline IsNewline st s (λ e k. k) h.0,
    statements-laid pad (suc n) final other (after r st s) (next ∷ rest) none h.1,
  )

  final-laid : (st : State) (t : Text) → IsFinalTrivia t → IsFinalTrivia (laid_final r st t)
  final-laid st t h = by_test (stays (reached r st t))
    where
      by_test : (b : Bool) → IsFinalTrivia (if b then t else final_text r st.is_start t)
      by_test true = h
      by_test false = final-trivia r st.is_start t h

  none-final : (st : State) → laid_final r st [] ≡ []
  none-final st = by_test (stays (reached r st []))
    where
      by_test : (b : Bool) → (if b then [] else final_text r st.is_start []) ≡ []
      by_test true = refl
      by_test false = final-none r st.is_start

pub stays_document : StaysDocument
stays_document r pad d h =
    let st = state_after r start d.statements in (
      statements-laid r pad 0 d.final (laid_final r st d.final) start d.statements
          (λ e. ap (laid_final r st) e ∙ none-final r st) h.0,
      final-laid r st d.final h.1,
    )
