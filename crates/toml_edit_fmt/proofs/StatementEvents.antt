-- The events of a statement: the last one, and no other, ends a line.
use Rattle.std.proofs.Common.{◌≡◌, ℕ, suc, ◌+◌, ◌-◌, ◌<◌, Bool, true, false, List, [], ◌∷◌, ◌++◌, length, Option, Some, None, refl, sym, ap, ◌∙◌, append_assoc, take, drop, arith, inl, inr, ◌⊎◌}
use Rattle.std.proofs.lemmas.Bool.Decides.{nat_tests}
use Rattle.std.proofs.lemmas.List.{length-append, nil_from_length}
use Rattle.std.proofs.lemmas.List.Folds.{list_any-append}
use Rattle.std.proofs.Math.Seq.{drop-append_seam, take-append_seam}
use Rattle.std.specs.Prelude.{codes, cond, nat_lt, not, ◌||◌}
use Rattle.std.specs.List.{list_any, position, position_or_len}
use Rattle.toml_edit_model.specs.Comments.{lines}
use Rattle.toml_edit_model.specs.Text.{Text}
use Rattle.toml_edit_model.specs.Trivia.{IsNewline, Newline, lf, crlf, newline_text}
use Rattle.toml_edit_laws.specs.Standing.{Stands}
use Rattle.toml_edit_fmt.specs.TextView.{IsEnded}
use Rattle.toml_edit_model.specs.Syntax.{Segment, Frame, Value, scalar, array, inline_table, Elements, no_elements, element, Pairs}
use Rattle.toml_edit_model.specs.Syntax.{no_pairs, pair, Statement, key_line, header, segment_text, path_text, value_text, frame_text}
use Rattle.toml_edit_model.specs.Syntax.{brackets_text, opening_brackets, closing_brackets, statement_text, newline_after}
use Rattle.toml_edit_syntax.specs.declared.event.Event.{Event}
use Rattle.toml_edit_syntax.specs.declared.event.EventKind.TheVariants.{ArrayClose, InlineTableClose, Leading, BeforeKey, AfterKey, HeaderClose, LineEnd}
use Rattle.toml_edit_syntax.specs.Events.{header_open, statement_events}
use Rattle.toml_edit_syntax.specs.LateEvents.{is_line_end}
use Rattle.toml_edit_syntax.specs.ValueEvents.{event, path_events, frame_events, value_at_byte, close_events, value_events, elements_events, pairs_events}
use Rattle.toml_edit_fmt_laws.specs.Formatted.{leading_of}

abbrev ends_line : Event → Bool
ends_line e = is_line_end e.kind

abbrev NoneEnds : List Event → Type 0
NoneEnds es = list_any ends_line es ≡ false

both : (a b : List Event) → NoneEnds a → NoneEnds b → NoneEnds (a ++ b)
both a b ha hb = list_any-append ends_line a b ∙ ap (λ x. x || list_any ends_line b) ha ∙ hb

-- ---- values

path-ends : (start : ℕ) (p : List Segment) → NoneEnds (path_events start p)
path-ends start [] = refl
path-ends start (s ∷ []) = refl
path-ends start (s ∷ r ∷ rest) = path-ends (start + length (segment_text s) + 1) (r ∷ rest)

frame-ends : (start : ℕ) (f : Frame) → NoneEnds (frame_events start f)
frame-ends start f = both (path_events (start + length f.leading) f.path) _ (path-ends (start + length f.leading) f.path) refl

array-close : (at : ℕ) (comma : Bool) (t : Text) → NoneEnds (close_events ArrayClose (codes "]") at comma t)
array-close at true t = refl
array-close at false t = refl

inline-close : (at : ℕ) (comma : Bool) (t : Text) → NoneEnds (close_events InlineTableClose (codes "}") at comma t)
inline-close at true t = refl
inline-close at false t = refl

mutual
  value-ends : (v : Value) (start : ℕ) → NoneEnds (value_events start v)
  value-ends (scalar s t) start = refl
  value-ends (array es comma t) start =
      both (elements_events (start + 1) es) _ (elements-ends es (start + 1)) (array-close _ comma t)
  value-ends (inline_table ps comma t) start =
      both (pairs_events (start + 1) ps) _ (pairs-ends ps (start + 1)) (inline-close _ comma t)

  elements-ends : (es : Elements) (start : ℕ) → NoneEnds (elements_events start es)
  elements-ends no_elements start = refl
  elements-ends (element a v es) start =
      both (value_events (start + length a.before) v) _ (value-ends v _) (elements-ends es _)

  pairs-ends : (ps : Pairs) (start : ℕ) → NoneEnds (pairs_events start ps)
  pairs-ends no_pairs start = refl
  pairs-ends (pair f v ps) start =
      both (frame_events start f) _ (frame-ends start f) (both (value_events (value_at_byte start f) v) _ (value-ends v _) (pairs-ends ps _))

-- ---- statements

opening-ends : (is_array : Bool) → is_line_end (header_open is_array) ≡ false
opening-ends true = refl
opening-ends false = refl

-- Between the event of what is before it, which is first, and its last one.
pub record Parts (start : ℕ) (s : Statement) : Type 0 where
  pub inner : List Event
  pub last : Event
  pub parts : statement_events start s ≡ event Leading start (leading_of s) ∷ (inner ++ (last ∷ []))
  pub none : NoneEnds inner
  pub kind : last.kind ≡ LineEnd
  pub end : last.span.end ≡ start + (length (statement_text s) - length (newline_after s))

pub parts-of : (start : ℕ) (s : Statement) → Parts start s
parts-of start (key_line f v end) =
    let value = value_at_byte start f in
    let key = path_events (start + length f.leading) f.path in
    let last = event LineEnd (value + length (value_text v)) f.trailing in
    let behind : Text = f.after_equals ++ (value_text v ++ f.trailing) in
    let whole = length-append (frame_text f (value_text v)) end in
    let leading = length-append f.leading (path_text f.path ++ (f.before_equals ++ (codes "=" ++ behind))) in
    let path = length-append (path_text f.path) (f.before_equals ++ (codes "=" ++ behind)) in
    let equals = length-append f.before_equals (codes "=" ++ behind) in
    let spaces = length-append f.after_equals (value_text v ++ f.trailing) in
    let trailing = length-append (value_text v) f.trailing in
    record {
      inner = (key ++ (_ ∷ [])) ++ value_events value v;
      last = last;
      parts = ap (λ (x : List Event). event Leading start f.leading ∷ x) (sym (append_assoc (key ++ (_ ∷ [])) (value_events value v) (last ∷ [])));
      none = both (key ++ (_ ∷ [])) (value_events value v) (frame-ends start f) (value-ends v value);
      kind = refl;
      end = omega (arith, whole, leading, path, equals, spaces, trailing);
    }
parts-of start (header h end) =
    let before = start + length h.leading + length (opening_brackets h.is_array) in
    let key = before + length h.opening in
    let after = key + length (path_text h.path) in
    let close = after + length h.closing in
    let front = event (header_open h.is_array) (start + length h.leading) (opening_brackets h.is_array) ∷ event BeforeKey before h.opening
    ∷ path_events key h.path in
    let closing = event AfterKey after h.closing ∷ event HeaderClose close (closing_brackets h.is_array) ∷ [] in
    let last = event LineEnd (close + length (closing_brackets h.is_array)) h.trailing in
    let behind : Text = h.closing ++ closing_brackets h.is_array in
    let whole = length-append h.leading (brackets_text h ++ (h.trailing ++ end)) in
    let inside = length-append (brackets_text h) (h.trailing ++ end) in
    let opened = length-append (opening_brackets h.is_array) (h.opening ++ (path_text h.path ++ behind)) in
    let spaces = length-append h.opening (path_text h.path ++ behind) in
    let path = length-append (path_text h.path) behind in
    let closed = length-append h.closing (closing_brackets h.is_array) in
    let trailing = length-append h.trailing end in
    record {
      inner = front ++ closing;
      last = last;
      parts = ap (λ (x : List Event). event Leading start h.leading ∷ x) (sym (append_assoc front closing (last ∷ [])));
      none = both front closing (ap (λ x. x || list_any ends_line (path_events key h.path)) (opening-ends h.is_array) ∙ path-ends key h.path) refl;
      kind = refl;
      end = omega (arith, whole, inside, opened, spaces, path, closed, trailing);
    }

-- ---- where the first one ends

before-end : (front : List Event) (e : Event) (more : List Event) → NoneEnds front → ends_line e ≡ true
    → position_or_len ends_line (front ++ (e ∷ more)) ≡ length front
before-end [] e more none is = rw is refl
before-end (x ∷ front) e more none is =
    let here : ends_line x ≡ false = first-none (ends_line x) (list_any ends_line front) none in
    let later = before-end front e more (rest-none (ends_line x) (list_any ends_line front) none) is in
    rw here (omega (arith, later))
  where
    first-none : (a b : Bool) → (a || b) ≡ false → a ≡ false
    first-none true b h = h
    first-none false b h = refl

    rest-none : (a b : Bool) → (a || b) ≡ false → b ≡ false
    rest-none true b h = absurd cc
    rest-none false b h = h

found : (es front : List Event) (e : Event) (more : List Event) → es ≡ front ++ (e ∷ more) → NoneEnds front → ends_line e ≡ true
    → ◌≡◌ {A = Option ℕ} (position ends_line es) (Some (length front))
found es front e more is none end =
    let at : position_or_len ends_line es ≡ length front = ap (position_or_len ends_line) is ∙ before-end front e more none end in
    let size : length es ≡ length front + suc (length more) = ap (λ (x : List Event). length x) is ∙ length-append front (e ∷ more) in
    rw at (within (length front) (length es) (omega (arith, size)))
  where
    within : (n m : ℕ) → n < m → ◌≡◌ {A = Option ℕ} (cond (nat_lt n m) (Some n) None) (Some n)
    within n m h = grind (arith, nat_tests)

pub end-found : (start : ℕ) (s : Statement) (more es : List Event) → es ≡ statement_events start s ++ more
    → ◌≡◌ {A = Option ℕ} (position (λ e. is_line_end e.kind) es) (Some (length (statement_events start s) - 1))
end-found start s more es is =
    let p = parts-of start s in
    let front = event Leading start (leading_of s) ∷ p.inner in
    let whole = is ∙ ap (λ (x : List Event). x ++ more) p.parts ∙ append_assoc front (p.last ∷ []) more in
    let size = ap (λ (x : List Event). length x) p.parts ∙ length-append front (p.last ∷ []) in
    found es front p.last more whole p.none (ap is_line_end p.kind)
    ∙ ap Some (let e : length front ≡ length (statement_events start s) - 1 = omega (arith, size) in e)

-- the first statement is cut off there
pub first-cut : (start : ℕ) (s : Statement) (more es : List Event) (at : ℕ) → es ≡ statement_events start s ++ more
    → ◌≡◌ {A = Option ℕ} (Some at) (position (λ e. is_line_end e.kind) es)
    → (take (at + 1) es ≡ statement_events start s) × (drop (at + 1) es ≡ more)
first-cut start s more es at is told =
    let p = parts-of start s in
    let same = told ∙ end-found start s more es is in
    let here : at ≡ length (statement_events start s) - 1 = cc in
    let size = ap (λ (x : List Event). length x) p.parts ∙ length-append (event Leading start (leading_of s) ∷ p.inner) (p.last ∷ []) in
    let place : at + 1 ≡ length (statement_events start s) = omega (arith, here, size) in (
      ap (take (at + 1)) is ∙ ap (λ n. take n (statement_events start s ++ more)) place ∙ take-append_seam (statement_events start s) more,
      ap (drop (at + 1)) is ∙ ap (λ n. drop n (statement_events start s ++ more)) place ∙ drop-append_seam (statement_events start s) more,
    )

-- ---- its newline

pub before-newline : (s : Statement) → (body : Text) × (statement_text s ≡ body ++ newline_after s)
before-newline (key_line f v end) = (frame_text f (value_text v), refl)
before-newline (header h end) = (
  h.leading ++ (brackets_text h ++ h.trailing),
  ap (λ (x : Text). h.leading ++ x) (sym (append_assoc (brackets_text h) h.trailing end)) ∙ sym (append_assoc h.leading (brackets_text h
      ++ h.trailing) end),
)

first-line : (n : Newline) (after : Text) → lines (newline_text n ++ after) ≡ newline_text n ∷ lines after
first-line lf after = refl
first-line crlf after = refl

-- the text from there on: the newline, or nothing
pub text-behind : (t : Text) (start at : ℕ) (s : Statement) → Stands t start (statement_text s) → IsEnded t start s
    → at ≡ start + (length (statement_text s) - length (newline_after s))
    → ((after : Text) × IsNewline (newline_after s) × (lines (drop at t) ≡ newline_after s ∷ lines after))
    ⊎ ((newline_after s ≡ []) × (lines (drop at t) ≡ []))
text-behind t start at s there ended place =
    let (body, whole) = before-newline s in
    let size = ap (λ (x : Text). length x) whole ∙ length-append body (newline_after s) in
    let front : Text = there.before ++ body in
    let behind : Text = newline_after s ++ there.after in
    let parts : t ≡ front ++ behind =
    there.text ∙ ap (λ (x : Text). there.before ++ (x ++ there.after)) whole
    ∙ ap (λ (x : Text). there.before ++ x) (append_assoc body (newline_after s) there.after) ∙ sym (append_assoc there.before body behind) in
    let here : at ≡ length front = omega (arith, place, size, there.place, length-append there.before body) in
    let rest : drop at t ≡ behind = ap (λ n. drop n t) here ∙ ap (λ (x : Text). drop (length front) x) parts ∙ drop-append_seam front behind in
    elim ended [
      | inl (n, is) ↦ inl (
        there.after,
        (n, is),
        ap lines rest ∙ ap (λ (x : Text). lines (x ++ there.after)) is ∙ first-line n there.after ∙ ap (λ (x : Text). x ∷ lines there.after) (sym is),
      )
      | inr (none, last) ↦
          let all = ap (λ (x : Text). length x) parts ∙ length-append front behind in
          let few = length-append (newline_after s) there.after in
          let gone = ap (λ (x : Text). length x) none in
          let empty = nil_from_length there.after (omega (arith, all, few, gone, last, size, there.place, length-append there.before body)) in
          inr (none, ap lines rest ∙ ap (λ (x : Text). lines (x ++ there.after)) none ∙ ap lines empty)
    ]
