-- The parts of a key line, and of a header.
use Rattle.std.proofs.Common.{◌≡◌, ℕ, ◌+◌, ◌-◌, ◌<◌, ◌≤◌, List, [], ◌∷◌, ◌++◌, get_or, length, take, drop, refl, sym, ap, ◌∙◌, subst, arith}
use Rattle.std.proofs.Common.{Some, None}
use Rattle.std.specs.Borrow.{Bor}
use Rattle.std.specs.Prelude.{IfOk, Result, Ok, Err}
use Rattle.std.proofs.Math.Seq.{drop-append_seam, take-append_seam}
use Rattle.std.proofs.lemmas.List.{length-append, take_rest}
use Rattle.std.proofs.lemmas.List.Elements.{Contains-append_left, Contains-append_right}
use Rattle.toml_edit_model.specs.Mode.{Mode, with_return}
use Rattle.toml_edit_model.specs.Text.{Text}
use Rattle.toml_edit_model.specs.Syntax.{Segment, Frame, Value, Header, key_line, header, IsPath, path_text, value_text, opening_brackets}
use Rattle.toml_edit_model.specs.Syntax.{closing_brackets, brackets_text, statement_text}
use Rattle.toml_edit_model.specs.Faults.{recursion_limit, long_path, value_faults, own_faults}
use Rattle.toml_edit_model.specs.Tree.{Decor, Node, Raw}
use Rattle.toml_edit_model.specs.TreeOf.{spanned_form, span_of, frame_leaf, header_leaf, value_start, IsValueNode}
use Rattle.toml_edit_model.specs.Conversions.{with_decor}
use Rattle.toml_edit_laws.specs.Standing.{Stands}
use Rattle.toml_edit_error.specs.Fault.{IfToml}
use Rattle.toml_edit_error.specs.declared.toml_error.ParseFault.{ParseFault}
use Rattle.toml_edit_syntax.specs.declared.event.Event.{Event}
use Rattle.toml_edit_syntax.specs.declared.event.EventKind.TheVariants.{BeforeKey, AfterKey, HeaderClose, LineEnd}
use Rattle.toml_edit_syntax.specs.declared.event.Span.{Span}
use Rattle.toml_edit_syntax.specs.Events.{IsSpanOf}
use Rattle.toml_edit_syntax.specs.ValueEvents.{event, path_events, shortened, value_at_byte}
use Rattle.toml_edit_tree.specs.Casts.{both_sides}
use Rattle.toml_edit_parser.specs.declared.key.KeyPath.{KeyPath}
use Rattle.toml_edit_parser.specs.declared.document.parts.HeaderSpans.{HeaderSpans}
use Rattle.toml_edit_parser.specs.PairRead.{PathView, frame_parts, path_end, path_of}
use Rattle.toml_edit_parser.specs.PathRead.{IsPathFrom}
use Rattle.toml_edit_parser.specs.StatementParts.{IsEnded, IsHeaderRead, IsLineRead, IsLineValue, header_behind, suffix_span}
use Rattle.toml_edit_parser.specs.ValueRead.{AreIn, IsRead, NamesOne, span_at, spanned_raw, split_first}
use Rattle.toml_edit_parser.proofs.ArrayLaws.{spanned_raw-is}
use Rattle.toml_edit_parser.proofs.PairLaws.{path-begins, path-some, path-too-long, path-whole, path_end-is, short-path, value_place}
use Rattle.toml_edit_parser.proofs.ModeLaws.{header-suffix, value-in-mode}
use Rattle.toml_edit_parser.proofs.ReadLaws.{named, same_parts}

-- ---- a path between two texts

abbrev decor_in : PathView → Decor
decor_in p = both_sides (spanned_raw p.prefix) (spanned_raw p.suffix)

-- a path that begins where the text before it ends
pub path-from : (own : Decor) (start : ℕ) (t : Text) (p : List Segment) (prefix suffix : Span) (events : List Event) (path : KeyPath)
    → IsPath p
    → path_of path ≡ record { prefix = prefix; suffix = suffix; before = record { start = prefix.end; end = prefix.end }; events = events }
    → both_sides (spanned_raw prefix) (spanned_raw suffix) ≡ own → prefix ≡ span_at start t → events ≡ path_events (start + length t) p
    → IsPathFrom own (start + length t) p path
path-from own start t p prefix suffix events path is e decor at from = (
  ap decor_in e ∙ decor,
  ap (λ (v : PathView). v.before) e ∙ path-begins start t p prefix is at,
  ap (λ (v : PathView). v.events) e
      ∙ from,
)

-- ---- a key line

-- a key that is too long is named
pub line-too-long : (source : Text) (f : Frame) (v : Value) (end : Text) (start : ℕ) (e : ParseFault) → IsPath f.path
    → 238 < length (path_events (start + length f.leading) f.path)
    → IfToml e (λ r. r ≡ record { message = recursion_limit; span = None; input = source })
    → IfToml e (NamesOne source (own_faults start (key_line f v end)))
line-too-long source f v end start e is many h =
    named source (long_path f.path) (own_faults start (key_line f v end)) e
    (Contains-append_left (long_path f.path) (value_faults v (value_at_byte start f) 0))
    (path-too-long source f.path (start + length f.leading) e is many h)

-- a value that is refused is named
pub line-refused : (source : Text) (f : Frame) (v : Value) (end : Text) (start : ℕ) (e : ParseFault)
    → IfToml e (NamesOne source (value_faults v (value_at_byte start f) 0))
    → IfToml e (NamesOne source (own_faults start (key_line f v end)))
line-refused source f v end start e h =
    named source (value_faults v (value_at_byte start f) 0) (own_faults start (key_line f v end)) e
    (Contains-append_right (long_path f.path) (value_faults v (value_at_byte start f) 0)) h

after-equals-place : (start : ℕ) (f : Frame) → start + length f.leading + length (path_text f.path) + length f.before_equals + 1 ≡ start
    + value_start spanned_form f
after-equals-place start f = omega arith

-- a line is read where its value is
pub line-read : (mode : Mode) (f : Frame) (v : Value) (end : Text) (start : ℕ) (more : List Event) (n : Node) (before : Span)
    (path : KeyPath) (rest : List Event) → long_path f.path ≡ []
    → before ≡ (frame_parts start f).after_equals → IsLineValue mode v (value_at_byte start f) before (with_return mode f.trailing end) more
    n rest
    → IsPathFrom (frame_leaf spanned_form start f) (start + length f.leading) f.path path → IsLineRead mode f v end start more n path rest
line-read mode f v end start more n before path rest short at h from =
    let place = value_place start f in
    record {
      faultless = ap (λ fs. fs ++ value_faults v (value_at_byte start f) 0) short ∙ h.faultless;
      node = h.node (start + value_start spanned_form f) f.after_equals place (at
          ∙ ap (λ i. span_at i f.after_equals) (after-equals-place start f));
      path_is = from;
      rest_is = h.rest_is;
    }

-- an item that is put between two texts
pub line-value : (mode : Mode) (v : Value) (start : ℕ) (before : Span) (after suffix_text : Text) (more : List Event) (n m : Node)
    (prefix suffix : Raw) (last : Span) (inner rest : List Event)
    → IsRead v start 0 (event LineEnd (start + length (value_text v)) after ∷ more) n inner → prefix ≡ spanned_raw before → suffix
    ≡ spanned_raw last
    → last ≡ span_at (start + length (value_text v)) suffix_text → m ≡ with_decor (both_sides prefix suffix) n → rest ≡ shortened 0 more
    → IsLineValue mode v start before suffix_text more m rest
line-value mode v start before after suffix_text more n m prefix suffix last inner rest h left right last_is is behind =
    let end = start + length (value_text v) in
    record {
      faultless = h.faultless;
      node = λ i b here same.
          let sides = ap (λ r. both_sides r suffix) (left ∙ ap spanned_raw same ∙ spanned_raw-is i b)
          ∙ ap (both_sides (span_of i b)) (right ∙ ap spanned_raw last_is ∙ spanned_raw-is end suffix_text) in
          value-in-mode mode v i b suffix_text m
          (subst (λ x. IsValueNode spanned_form v i b suffix_text x) (sym (is ∙ ap (λ d. with_decor d n) sides))
          (h.node i b suffix_text here));
      rest_is = behind;
    }

-- what is after the value is shorter than all
pub shorter : (t : Text) (inner events : List Event) (result : Result (Bor (List Event)) ParseFault) → length inner < length events
    → IfOk result (λ r. AreIn t r.now × (length r.now < length inner)) → IfOk result (λ r. AreIn t r.now × (length r.now < length events))
shorter t inner events (Ok r) one h = (h.0, let n = h.1 in omega (arith, one, n))
shorter t inner events (Err e) one h = h

-- ---- a header

-- where the parts of a header stand
abbrev pub inside_at : ℕ → Header → ℕ
inside_at start h = start + length h.leading + length (opening_brackets h.is_array)

abbrev pub key_at : ℕ → Header → ℕ
key_at start h = inside_at start h + length h.opening

abbrev pub behind_key : ℕ → Header → ℕ
behind_key start h = key_at start h + length (path_text h.path)

abbrev pub close_at : ℕ → Header → ℕ
close_at start h = behind_key start h + length h.closing

-- the events after its path, and all after its brackets
abbrev pub header_end : ℕ → Header → List Event → List Event
header_end start h more =
    event AfterKey (behind_key start h) h.closing
    ∷ event HeaderClose (close_at start h) (closing_brackets h.is_array)
    ∷ event LineEnd (close_at start h + length (closing_brackets h.is_array)) h.trailing
    ∷ more

header_whole : (start : ℕ) (h : Header) (more : List Event)
    → shortened 0 (header_behind start h more) ≡ event BeforeKey (inside_at start h) h.opening
    ∷ (path_events (key_at start h) h.path ++ header_end start h (shortened 0 more))
header_whole start h more =
    ap (λ (es : List Event). event BeforeKey (inside_at start h) h.opening
    ∷ es) (path-whole 0 (key_at start h) h.path (header_end start h more))

-- the first event of a header, and the others
pub header-first : (start : ℕ) (h : Header) (more events : List Event) (opening : Event) (inside : List Event) → events
    ≡ shortened 0 (header_behind start h more)
    → Some (opening, inside) ≡ split_first events
    → (opening ≡ event BeforeKey (inside_at start h) h.opening)
    × (inside ≡ path_events (key_at start h) h.path ++ header_end start h (shortened 0 more))
header-first start h more events opening inside is first =
    same_parts opening _ inside _ (first ∙ ap split_first (is ∙ header_whole start h more))

pub no-header : (start : ℕ) (h : Header) (more events : List Event) (P : Type 0) → events ≡ shortened 0 (header_behind start h more) → None
    ≡ split_first events → P
no-header start h more events P is none = absurd (let e = none ∙ ap split_first (is ∙ header_whole start h more) in cc)

-- its path, and what comes after that
pub header-path : (start : ℕ) (h : Header) (more inside : List Event) (n : ℕ) → inside ≡ path_events (key_at start h) h.path
    ++ header_end start h more
    → Some n ≡ path_end inside → (take n inside ≡ path_events (key_at start h) h.path) × (drop n inside ≡ header_end start h more)
header-path start h more inside n is ends =
    let path = path_events (key_at start h) h.path in
    let behind = header_end start h more in
    let there : n ≡ length path = let e = ends ∙ ap path_end is ∙ path_end-is h.path (key_at start h) _ _ refl in cc in (
      ap (λ (k : ℕ). take k inside) there ∙ ap (λ (es : List Event). take (length path) es) is ∙ take-append_seam path behind,
      ap (λ (k : ℕ). drop k inside) there ∙ ap (λ (es : List Event). drop (length path) es) is ∙ drop-append_seam path behind,
    )

pub no-path : (start : ℕ) (h : Header) (more inside : List Event) (P : Type 0) → inside ≡ path_events (key_at start h) h.path
    ++ header_end start h more
    → None ≡ path_end inside → P
no-path start h more inside P is none = absurd (let e = none ∙ ap path_end is ∙ path_end-is h.path (key_at start h) _ _ refl in cc)

-- the decor of its last key
pub header-decor : (start : ℕ) (h : Header) (opening closing : Span) → opening ≡ span_at (inside_at start h) h.opening → closing
    ≡ span_at (behind_key start h) h.closing
    → both_sides (spanned_raw opening) (spanned_raw closing) ≡ header_leaf spanned_form (inside_at start h) h
header-decor start h opening closing left right =
    ap (λ r. both_sides r (spanned_raw closing)) (ap spanned_raw left ∙ spanned_raw-is (inside_at start h) h.opening)
    ∙ ap (both_sides (span_of (inside_at start h) h.opening)) (ap spanned_raw right ∙ spanned_raw-is (behind_key start h) h.closing)

-- where its brackets end
pub brackets_end : (start : ℕ) (h : Header) → close_at start h + length (closing_brackets h.is_array) ≡ start + length h.leading
    + length (brackets_text h)
brackets_end start h =
    let closing : Text = closing_brackets h.is_array in
    let behind : Text = h.closing ++ closing in
    let one = length-append (opening_brackets h.is_array) (h.opening ++ (path_text h.path ++ behind)) in
    let two = length-append h.opening (path_text h.path ++ behind) in
    let three = length-append (path_text h.path) behind in
    let four = length-append h.closing closing in
    omega (arith, one, two, three, four)

-- the third event of some that lie in the text lies there
pub third-in : (t : Text) (es : List Event) (d : Event) → 3 ≤ length es → AreIn t es → IsSpanOf t (get_or es 2 d).span
third-in t [] d some all = let n : 3 ≤ 0 = some in absurd (omega (arith, n))
third-in t (a ∷ []) d some all = let n : 3 ≤ 1 = some in absurd (omega (arith, n))
third-in t (a ∷ b ∷ []) d some all = let n : 3 ≤ 2 = some in absurd (omega (arith, n))
third-in t (a ∷ b ∷ e ∷ es) d some all = all.1.1.0

-- so does the first
pub first-of-three : (t : Text) (es : List Event) (d : Event) → 3 ≤ length es → AreIn t es → IsSpanOf t (get_or es 0 d).span
first-of-three t [] d some all = let n : 3 ≤ 0 = some in absurd (omega (arith, n))
first-of-three t (a ∷ es) d some all = all.0

-- a header is read where its path is short
pub header-read : (mode : Mode) (source : Text) (h : Header) (end : Text) (start : ℕ) (more : List Event) (opening d : Event)
    (path behind : List Event) (parts : HeaderSpans) (rest : List Event) → IsPath h.path
    → Stands source start (statement_text (header h end)) → IsEnded source start (header h end)
    → opening ≡ event BeforeKey (inside_at start h) h.opening → path ≡ path_events (key_at start h) h.path → behind
    ≡ header_end start h (shortened 0 more)
    → length path ≤ 238
    → path_of parts.path ≡ record {
      prefix = opening.span;
      suffix = (get_or behind 0 d).span;
      before =
          record { start = opening.span.end; end = opening.span.end };
      events = path;
    }
    → parts.end ≡ (get_or behind 1 d).span.end → parts.trailing ≡ suffix_span mode source (get_or behind 2 d).span → rest
    ≡ take (length behind - 3) (drop 3 behind)
    → IsHeaderRead mode h end start more parts rest
header-read mode source h end start more opening d path behind parts rest is stands ended first from ends few path_is end_is trailing_is
    rest_is =
    let left : opening.span ≡ span_at (inside_at start h) h.opening = ap (λ (e : Event). e.span) first in
    let right : (get_or behind 0 d).span ≡ span_at (behind_key start h) h.closing = ap (λ (es : List Event). (get_or es 0 d).span) ends in
    record {
      short = short-path h.path (key_at start h) (path-some h.path is) (subst (λ (es : List Event). length es ≤ 238) from few);
      path_is = path-from (header_leaf spanned_form (inside_at start h) h) (inside_at start h) h.opening h.path opening.span
          (get_or behind 0 d).span path parts.path is path_is
          (header-decor start h opening.span (get_or behind 0 d).span left right) left from;
      end_is = end_is ∙ ap (λ (es : List Event). (get_or es 1 d).span.end) ends ∙ brackets_end start h;
      trailing =
          trailing_is
          ∙ ap (λ (es : List Event). suffix_span mode source (get_or es 2 d).span) ends
          ∙ ap (λ i. suffix_span mode source (span_at i h.trailing)) (brackets_end start h)
          ∙ header-suffix mode source start h end stands ended;
      rest_is = rest_is ∙ take_rest behind 3 ∙ ap (λ (es : List Event). drop 3 es) ends;
    }
