-- The parts of a cut lie on the boundaries of characters, since each part and what follows it begins with an ASCII byte.
use Rattle.std.proofs.Common.{◌≡◌, ℕ, ◌+◌, ◌-◌, ◌<◌, Bool, true, false, List, [], ◌∷◌, ◌++◌, length, get_or, refl, sym, ap, ◌∙◌, arith}
use Rattle.std.proofs.Common.{append_assoc, codes}
use Rattle.std.specs.List.{AllByRecursion}
use Rattle.std.specs.Str.{IsCharBoundary}
use Rattle.std.proofs.lemmas.Bool.Decides.{nat_tests}
use Rattle.std.proofs.lemmas.List.{length-append, get_or-append_right}
use Rattle.toml_edit_model.specs.Text.{Text}
use Rattle.toml_edit_model.specs.Trivia.{IsWholeTrivia}
use Rattle.toml_edit_model.specs.Syntax.{Segment, Around, Frame, Value, scalar, array, inline_table, Elements, no_elements, element, Pairs}
use Rattle.toml_edit_model.specs.Syntax.{no_pairs, pair, segment_text, path_text, frame_text, comma_text, value_text, elements_text}
use Rattle.toml_edit_model.specs.Syntax.{pairs_text, IsSpacedSegment, IsSpelledSegment, IsFrame, has_elements, has_pairs, IsValue}
use Rattle.toml_edit_model.specs.Syntax.{AreElements, ArePairs}
use Rattle.toml_edit_syntax.specs.declared.event.EventKind.{EventKind}
use Rattle.toml_edit_syntax.specs.declared.event.EventKind.TheVariants.{Leading, Key, BeforeDot, AfterDot, Equals, Scalar, ArrayOpen}
use Rattle.toml_edit_syntax.specs.declared.event.EventKind.TheVariants.{ArrayClose, InlineTableOpen, InlineTableClose, Before, After, Comma}
use Rattle.toml_edit_syntax.specs.declared.event.EventKind.TheVariants.{Inner}
use Rattle.toml_edit_syntax.specs.declared.event.Event.{Event}
use Rattle.toml_edit_syntax.specs.Events.{IsSpanOf}
use Rattle.toml_edit_laws.specs.reading.Runs.{first}
use Rattle.toml_edit_syntax.specs.ValueEvents.{event, path_events, frame_events, value_at_byte, close_events, value_events, elements_events}
use Rattle.toml_edit_syntax.specs.ValueEvents.{pairs_events}
use Rattle.toml_edit_laws.proofs.reading.Begins.{StartsAscii, key_begins, scalar_begins, ascii_begins, ascii_blank, ascii_trivia}
use Rattle.toml_edit_syntax.proofs.PathLaws.{behind_trivia, path_begins}
use Rattle.toml_edit_syntax.proofs.Outcomes.{ValueBegins, value_begins}
use Rattle.toml_edit_syntax.proofs.ValueAgain.{close_trivia, pair_text}

-- a place before an ASCII byte or at the end
boundary : (t xs ys : Text) (n : ℕ) → t ≡ xs ++ ys → StartsAscii ys → length xs ≡ n → IsCharBoundary t n
boundary t xs ys n e ascii len =
    let here : get_or t n 0 ≡ first ys = ap (λ (x : Text). get_or x n 0) e ∙ get_or-append_right xs ys n n 0 len (omega arith)
    ∙ ap (λ (k : ℕ). get_or ys k 0) (omega arith) in
    (omega (arith, ap length e, length-append xs ys), λ within wide. absurd (omega (arith, here)))

-- a boundary after so many bytes of a text, and what follows it
pub record Cut (t : Text) (n : ℕ) (rest : Text) : Type 0 where
  pub before : Text
  pub parts : t ≡ before ++ rest
  pub len : length before ≡ n

-- one part further
pub further : (t part rest : Text) (n : ℕ) → Cut t n (part ++ rest) → Cut t (n + length part) rest
further t part rest n c =
    record {
      before = c.before ++ part;
      parts = c.parts ∙ sym (append_assoc c.before part rest);
      len =
          omega (arith, c.len, length-append c.before part);
    }

-- the same cut, seen so
pub cut_as : (t a b : Text) (m n : ℕ) → a ≡ b → m ≡ n → Cut t m a → Cut t n b
cut_as t a b m n same place c = record { before = c.before; parts = c.parts ∙ ap (λ (x : Text). c.before ++ x) same; len = c.len ∙ place }

-- the byte at a cut
pub byte_at_cut : (t rest : Text) (n : ℕ) → Cut t n rest → get_or t n 0 ≡ first rest
byte_at_cut t rest n c = ap (λ (x : Text). get_or x n 0) c.parts ∙ get_or-append_right c.before rest n n 0 c.len (omega arith)
    ∙ ap (λ (k : ℕ). get_or rest k 0) (omega arith)

pub at_cut : (t rest : Text) (n : ℕ) → Cut t n rest → StartsAscii rest → IsCharBoundary t n
at_cut t rest n c ascii = boundary t c.before rest n c.parts ascii c.len

abbrev pub AreSpans : Text → List Event → Type 0
AreSpans t es = AllByRecursion (λ (e : Event). IsSpanOf t e.span) es

pub both_spans : (t : Text) (xs ys : List Event) → AreSpans t xs → AreSpans t ys → AreSpans t (xs ++ ys)
both_spans t [] ys all more = more
both_spans t (x ∷ xs) ys all more = (all.0, both_spans t xs ys all.1 more)

-- a part at a cut
pub part_span : (t part rest : Text) (n : ℕ) (kind : EventKind) → Cut t n (part ++ rest) → StartsAscii (part ++ rest) → StartsAscii rest
    → IsSpanOf t (event kind n part).span
part_span t part rest n kind c ascii later =
    record {
      start = at_cut t (part ++ rest) n c ascii;
      end = at_cut t rest (n + length part) (further t part rest n c) later;
      order =
          omega arith;
    }

-- ---- keys, and pairs up to their values

first_segment : (a b c d rest : Text) → ((a ++ (b ++ c)) ++ (46 ∷ d)) ++ rest ≡ a ++ (b ++ (c ++ (46 ∷ (d ++ rest))))
first_segment a b c d rest = simp append_assoc

three_parts : (a b c rest : Text) → (a ++ (b ++ c)) ++ rest ≡ a ++ (b ++ (c ++ rest))
three_parts a b c rest = simp append_assoc

path_front : (r : Segment) (p : List Segment) (rest : Text) → (x : Text) × (path_text (r ∷ p) ++ rest ≡ r.before ++ (r.spelled ++ x))
path_front r [] rest = (r.after ++ rest, three_parts r.before r.spelled r.after rest)
path_front r (s ∷ p) rest =
    (r.after ++ (46 ∷ (path_text (s ∷ p) ++ rest)), first_segment r.before r.spelled r.after (path_text (s ∷ p)) rest)

segment_length : (s : Segment) → length (segment_text s) ≡ length s.before + (length s.spelled + length s.after)
segment_length s = omega (arith, length-append s.before (s.spelled ++ s.after), length-append s.spelled s.after)

pub path_spans : (t rest : Text) (at : ℕ) (p : List Segment) → AllByRecursion IsSpelledSegment p → AllByRecursion IsSpacedSegment p
    → StartsAscii rest → Cut t at (path_text p ++ rest) → AreSpans t (path_events at p)
path_spans t rest at [] spelled spaced ascii c = tt
path_spans t rest at (s ∷ []) (spells, none) ((before, after), more) ascii c =
    let c0 = cut_as t (path_text (s ∷ []) ++ rest) (s.before
    ++ (s.spelled ++ (s.after ++ rest))) at at (three_parts s.before s.spelled s.after rest) refl c in
    let c1 = further t s.before (s.spelled ++ (s.after ++ rest)) at c0 in (
      part_span t s.spelled (s.after ++ rest) (at + length s.before) Key c1 (ascii_begins s.spelled (s.after
          ++ rest) (key_begins s.key s.spelled spells)) (ascii_blank s.after rest after ascii),
      tt,
    )
path_spans t rest at (s ∷ r ∷ p) (spells, more_spelled) ((before, after), more_spaced) ascii c =
    let tail = path_text (r ∷ p) ++ rest in
    let c0 = cut_as t (path_text (s ∷ r ∷ p) ++ rest) (s.before
    ++ (s.spelled ++ (s.after ++ (46 ∷ tail)))) at at (first_segment s.before s.spelled s.after (path_text (r ∷ p)) rest) refl c in
    let c1 = further t s.before (s.spelled ++ (s.after ++ (46 ∷ tail))) at c0 in
    let c2 = further t s.spelled (s.after ++ (46 ∷ tail)) _ c1 in
    let c3 = further t s.after (46 ∷ tail) _ c2 in
    let c4 = further t (46 ∷ []) tail _ c3 in
    let place : at + length s.before + length s.spelled + length s.after + 1 ≡ at + length (segment_text s) + 1 =
    omega (arith, segment_length s) in
    let c5 = cut_as t tail tail _ (at + length (segment_text s) + 1) refl place c4 in
    let (x, front) = path_front r p rest in
    let key_ascii = ascii_begins r.spelled x (key_begins r.key r.spelled more_spelled.0) in
    let c6 = cut_as t tail (r.before ++ (r.spelled ++ x)) _ _ front refl c5 in
    let dot_ascii = ascii_blank s.after (46 ∷ tail) after (omega arith) in
    let key = part_span t s.spelled (s.after ++ (46 ∷ tail)) (at
    + length s.before) Key c1 (ascii_begins s.spelled (s.after ++ (46 ∷ tail)) (key_begins s.key s.spelled spells)) dot_ascii in
    let before_dot = part_span t s.after (46 ∷ tail) (at + length s.before + length s.spelled) BeforeDot c2 dot_ascii (omega arith) in
    let after_dot = part_span t r.before (r.spelled ++ x) (at + length (segment_text s)
    + 1) AfterDot c6 (ascii_blank r.before (r.spelled ++ x) more_spaced.0.0 key_ascii) key_ascii in
    (key, (before_dot, (after_dot, path_spans t rest (at + length (segment_text s) + 1) (r ∷ p) more_spelled more_spaced ascii c5)))

-- where the value of a pair begins
pub value_cut : (t rest : Text) (at : ℕ) (f : Frame) → Cut t at (f.leading ++ behind_trivia f rest) → Cut t (value_at_byte at f) rest
value_cut t rest at f c =
    let r3 = f.after_equals ++ rest in
    let r2 = f.before_equals ++ (61 ∷ r3) in
    let c1 = further t f.leading (path_text f.path ++ r2) at c in
    let c2 = further t (path_text f.path) r2 _ c1 in
    let c3 = further t f.before_equals (61 ∷ r3) _ c2 in
    further t f.after_equals rest _ (further t (61 ∷ []) r3 _ c3)

pub frame_spans : (MayFollow : Text → Type 0) (t rest : Text) (at : ℕ) (f : Frame) → IsFrame MayFollow f → StartsAscii rest
    → Cut t at (f.leading ++ behind_trivia f rest) → AreSpans t (frame_events at f)
frame_spans MayFollow t rest at f (spaced, path) ascii c =
    let r3 = f.after_equals ++ rest in
    let r2 = f.before_equals ++ (61 ∷ r3) in
    let r1 = path_text f.path ++ r2 in
    let c1 = further t f.leading r1 at c in
    let c2 = further t (path_text f.path) r2 _ c1 in
    let c3 = further t f.before_equals (61 ∷ r3) _ c2 in
    let a3 = ascii_blank f.after_equals rest spaced.after_equals ascii in
    let a2 = ascii_blank f.before_equals (61 ∷ r3) spaced.before_equals (omega arith) in
    let a1 = ascii_begins (path_text f.path) r2 (path_begins f.path path) in
    let key = at + length f.leading in
    let keys = path_spans t r2 key f.path path.spelled spaced.segments a2 c1 in
    let leading = part_span t f.leading r1 at Leading c (ascii_trivia f.leading r1 spaced.leading a1) a1 in
    let place = key + length (path_text f.path) + length f.before_equals in
    let sign = part_span t (61 ∷ []) r3 place Equals c3 (omega arith) a3 in
    (leading, both_spans t (path_events key f.path) (event Equals place (codes "=") ∷ []) keys (sign, tt))

-- ---- values

close_spans : (t rest : Text) (p at : ℕ) (kind : EventKind) (bracket : ℕ) (comma : Bool) (w : Text)
    → Cut t p (comma_text comma ++ (w ++ (bracket ∷ rest))) → p + length (comma_text comma) + length w ≡ at
    → IsWholeTrivia w → bracket < 128 → StartsAscii rest → AreSpans t (close_events kind (bracket ∷ []) at comma w)
close_spans t rest p at kind bracket true w c place whole low ascii =
    let c1 = further t (44 ∷ []) (w ++ (bracket ∷ rest)) p c in
    let c2 = further t w (bracket ∷ rest) _ c1 in
    let inner = ascii_trivia w (bracket ∷ rest) whole low in
    let comma_cut = cut_as t (44 ∷ (w ++ (bracket ∷ rest))) (44 ∷ (w ++ (bracket ∷ rest))) p (at - length w - 1) refl (omega arith) c in
    let inner_cut = cut_as t (w ++ (bracket ∷ rest)) (w ++ (bracket ∷ rest)) (p + 1) (at - length w) refl (omega arith) c1 in
    let close_cut = cut_as t (bracket ∷ rest) (bracket ∷ rest) (p + 1 + length w) at refl (omega arith) c2 in (
      part_span t (44 ∷ []) (w ++ (bracket ∷ rest)) (at - length w - 1) Comma comma_cut (omega arith) inner,
      (
        part_span t w (bracket ∷ rest) (at - length w) Inner inner_cut inner low,
        (part_span t (bracket ∷ []) rest at kind close_cut low ascii, tt),
      ),
    )
close_spans t rest p at kind bracket false w c place whole low ascii =
    let c2 = further t w (bracket ∷ rest) p c in
    let inner = ascii_trivia w (bracket ∷ rest) whole low in
    let inner_cut = cut_as t (w ++ (bracket ∷ rest)) (w ++ (bracket ∷ rest)) p (at - length w) refl (omega arith) c in
    let close_cut = cut_as t (bracket ∷ rest) (bracket ∷ rest) (p + length w) at refl (omega arith) c2 in (
      part_span t w (bracket ∷ rest) (at - length w) Inner inner_cut inner low,
      (part_span t (bracket ∷ []) rest at kind close_cut low ascii, tt),
    )

list_text : (o : ℕ) (items comma w : Text) (bracket : ℕ) (rest : Text) → (o ∷ (items ++ (comma ++ (w ++ (bracket ∷ []))))) ++ rest ≡ o
    ∷ (items ++ (comma ++ (w ++ (bracket ∷ rest))))
list_text o items comma w bracket rest = simp append_assoc

list_length : (items comma w : Text) (bracket : ℕ) → length (items ++ (comma ++ (w ++ (bracket ∷ [])))) ≡ length items
    + (length comma + (length w + 1))
list_length items comma w bracket =
    omega (
      arith,
      length-append items (comma ++ (w ++ (bracket ∷ []))),
      length-append comma (w ++ (bracket ∷ [])),
      length-append w (bracket ∷ []),
    )

pub ascii_value : (t rest : Text) → ValueBegins t → StartsAscii (t ++ rest)
ascii_value t rest (c, cs, e, opening) =
    let here : first (t ++ rest) ≡ c = ap (λ (x : Text). first (x ++ rest)) e in
    grind (arith, nat_tests)

ascii_comma : (comma : Bool) (w rest : Text) → IsWholeTrivia w → StartsAscii rest → StartsAscii (comma_text comma ++ (w ++ rest))
ascii_comma true w rest whole ascii = omega arith
ascii_comma false w rest whole ascii = ascii_trivia w rest whole ascii

more_text : (a b c d rest : Text) → (a ++ (b ++ (c ++ (44 ∷ d)))) ++ rest ≡ a ++ (b ++ (c ++ (44 ∷ (d ++ rest))))
more_text a b c d rest = simp append_assoc

abbrev SpansOfValue : Value → Type 0
SpansOfValue v = (t rest : Text) (at : ℕ) → IsValue v → StartsAscii rest → Cut t at (value_text v ++ rest) → AreSpans t (value_events at v)

-- an element, before events that lie in the text too
element_here : (a : Around) (v : Value) → SpansOfValue v → (t rest : Text) (at : ℕ) → IsWholeTrivia a.before → IsWholeTrivia a.after
    → IsValue v → StartsAscii rest
    → Cut t at (a.before ++ (value_text v ++ (a.after ++ rest))) → (later : List Event)
    → (Cut t (at + length a.before + length (value_text v) + length a.after) rest → AreSpans t later)
    → AreSpans t (event Before at a.before ∷ (value_events (at + length a.before) v
    ++ (event After (at + length a.before + length (value_text v)) a.after ∷ later)))
element_here a v spans t rest at before after is ascii c later more =
    let start = at + length a.before in
    let r2 = a.after ++ rest in
    let r1 = value_text v ++ r2 in
    let c1 = further t a.before r1 at c in
    let c2 = further t (value_text v) r2 start c1 in
    let a2 = ascii_trivia a.after rest after ascii in
    let a1 = ascii_value (value_text v) r2 (value_begins v is) in
    let trailing = part_span t a.after rest (start + length (value_text v)) After c2 a2 ascii in
    let value = spans t r2 start is a2 c1 in (
      part_span t a.before r1 at Before c (ascii_trivia a.before r1 before a1) a1,
      both_spans t (value_events start v) (event After (start + length (value_text v)) a.after ∷ later) value (
        trailing,
        more (further t a.after rest (start + length (value_text v)) c2),
      ),
    )

pair_here : (f : Frame) (v : Value) → SpansOfValue v → (t rest : Text) (at : ℕ) → IsFrame IsWholeTrivia f → IsValue v → StartsAscii rest
    → Cut t at (f.leading ++ behind_trivia f (value_text v ++ (f.trailing ++ rest))) → (later : List Event)
    → (Cut t (value_at_byte at f + length (value_text v) + length f.trailing) rest → AreSpans t later)
    → AreSpans t (frame_events at f ++ (value_events (value_at_byte at f) v
    ++ (event After (value_at_byte at f + length (value_text v)) f.trailing ∷ later)))
pair_here f v spans t rest at frame is ascii c later more =
    let start = value_at_byte at f in
    let r2 = f.trailing ++ rest in
    let r1 = value_text v ++ r2 in
    let c1 = value_cut t r1 at f c in
    let c2 = further t (value_text v) r2 start c1 in
    let a2 = ascii_trivia f.trailing rest frame.0.trailing ascii in
    let a1 = ascii_value (value_text v) r2 (value_begins v is) in
    let head = frame_spans IsWholeTrivia t r1 at f frame a1 c in
    let trailing = part_span t f.trailing rest (start + length (value_text v)) After c2 a2 ascii in
    let value = spans t r2 start is a2 c1 in
    both_spans t (frame_events at f) (value_events start v ++ (event After (start + length (value_text v)) f.trailing ∷ later)) head
    (both_spans t (value_events start v) (event After (start + length (value_text v)) f.trailing ∷ later) value (
      trailing,
      more (further t f.trailing rest (start + length (value_text v)) c2),
    ))

-- what stands behind an opening bracket
first_ascii : (es : Elements) (rest : Text) → AreElements es → StartsAscii rest → StartsAscii (elements_text es ++ rest)
first_ascii no_elements rest are ascii = ascii
first_ascii (element a v no_elements) rest (before, after, is, none) ascii =
    rw (three_parts a.before (value_text v) a.after rest) (ascii_trivia a.before (value_text v
    ++ (a.after ++ rest)) before (ascii_value (value_text v) (a.after ++ rest) (value_begins v is)))
first_ascii (element a v (element b u es)) rest (before, after, is, more) ascii =
    let later = elements_text (element b u es) in
    rw (more_text a.before (value_text v) a.after later rest) (ascii_trivia a.before (value_text v
    ++ (a.after ++ (44 ∷ (later ++ rest)))) before (ascii_value (value_text v) (a.after ++ (44 ∷ (later ++ rest))) (value_begins v is)))

frame_ascii : (f : Frame) (rest : Text) → IsFrame IsWholeTrivia f → StartsAscii (f.leading ++ behind_trivia f rest)
frame_ascii f rest (spaced, path) =
    ascii_trivia f.leading (behind_trivia f rest) spaced.leading (ascii_begins (path_text f.path) (f.before_equals
    ++ (61 ∷ (f.after_equals ++ rest))) (path_begins f.path path))

first_pair_ascii : (ps : Pairs) (rest : Text) → ArePairs ps → StartsAscii rest → StartsAscii (pairs_text ps ++ rest)
first_pair_ascii no_pairs rest are ascii = ascii
first_pair_ascii (pair f v no_pairs) rest (frame, is, none) ascii =
    rw (pair_text f (value_text v) rest) (frame_ascii f (value_text v ++ (f.trailing ++ rest)) frame)
first_pair_ascii (pair f v (pair g u ps)) rest (frame, is, more) ascii =
    let later = 44 ∷ (pairs_text (pair g u ps) ++ rest) in
    let same = append_assoc (frame_text f (value_text v)) (44 ∷ pairs_text (pair g u ps)) rest ∙ pair_text f (value_text v) later in
    rw same (frame_ascii f (value_text v ++ (f.trailing ++ later)) frame)

mutual
  pub value_spans : (v : Value) (t rest : Text) (at : ℕ) → IsValue v → StartsAscii rest → Cut t at (value_text v ++ rest)
      → AreSpans t (value_events at v)
  value_spans (scalar s x) t rest at is ascii c = (part_span t x rest at Scalar c (ascii_begins x rest (scalar_begins s x is)) ascii, tt)
  value_spans (array es comma w) t rest at (close, are) ascii c =
      let whole = close_trivia (has_elements es) comma w close in
      let inside = elements_text es ++ (comma_text comma ++ (w ++ (93 ∷ rest))) in
      let c0 = cut_as t (value_text (array es comma w) ++ rest) (91
      ∷ inside) at at (list_text 91 (elements_text es) (comma_text comma) w 93 rest) refl c in
      let c1 = further t (91 ∷ []) inside at c0 in
      let after = ascii_comma comma w (93 ∷ rest) whole (omega arith) in
      let end = at + length (value_text (array es comma w)) - 1 in
      let items = elements_spans es t (comma_text comma ++ (w ++ (93 ∷ rest))) (at + 1) are after c1 in
      let last = close_spans t rest (at + 1 + length (elements_text es)) end ArrayClose 93 comma w
      (further t (elements_text es) (comma_text comma ++ (w ++ (93 ∷ rest))) (at + 1) c1)
      (omega (arith, list_length (elements_text es) (comma_text comma) w 93)) whole (omega arith) ascii in (
        part_span t (91 ∷ []) inside at ArrayOpen c0 (omega arith) (first_ascii es (comma_text comma ++ (w ++ (93 ∷ rest))) are after),
        both_spans t (elements_events (at + 1) es) (close_events ArrayClose (codes "]") end comma w) items last,
      )
  value_spans (inline_table ps comma w) t rest at (close, are) ascii c =
      let whole = close_trivia (has_pairs ps) comma w close in
      let inside = pairs_text ps ++ (comma_text comma ++ (w ++ (125 ∷ rest))) in
      let c0 = cut_as t (value_text (inline_table ps comma w) ++ rest) (123
      ∷ inside) at at (list_text 123 (pairs_text ps) (comma_text comma) w 125 rest) refl c in
      let c1 = further t (123 ∷ []) inside at c0 in
      let after = ascii_comma comma w (125 ∷ rest) whole (omega arith) in
      let end = at + length (value_text (inline_table ps comma w)) - 1 in
      let items = pairs_spans ps t (comma_text comma ++ (w ++ (125 ∷ rest))) (at + 1) are after c1 in
      let last = close_spans t rest (at + 1 + length (pairs_text ps)) end InlineTableClose 125 comma w
      (further t (pairs_text ps) (comma_text comma ++ (w ++ (125 ∷ rest))) (at + 1) c1)
      (omega (arith, list_length (pairs_text ps) (comma_text comma) w 125)) whole (omega arith) ascii in (
        part_span t (123 ∷ []) inside at InlineTableOpen c0 (omega arith) (first_pair_ascii ps (comma_text comma
            ++ (w ++ (125 ∷ rest))) are after),
        both_spans t (pairs_events (at + 1) ps)
            (close_events InlineTableClose (codes "}") end comma w) items last,
      )

  elements_spans : (es : Elements) (t rest : Text) (at : ℕ) → AreElements es → StartsAscii rest → Cut t at (elements_text es ++ rest)
      → AreSpans t (elements_events at es)
  elements_spans no_elements t rest at are ascii c = tt
  elements_spans (element a v no_elements) t rest at (before, after, is, none) ascii c =
      element_here a v (value_spans v) t rest at before after is ascii (cut_as t (elements_text (element a v no_elements) ++ rest) (a.before
      ++ (value_text v ++ (a.after ++ rest))) at at (three_parts a.before (value_text v) a.after rest) refl c) [] (λ k. tt)
  elements_spans (element a v (element b u es)) t rest at (before, after, is, more) ascii c =
      let later = elements_text (element b u es) ++ rest in
      element_here a v (value_spans v) t (44 ∷ later) at before after is (omega arith)
      (cut_as t (elements_text (element a v (element b u es)) ++ rest) (a.before
      ++ (value_text v ++ (a.after ++ (44 ∷ later)))) at at
      (more_text a.before (value_text v) a.after (elements_text (element b u es)) rest) refl c)
      (elements_events (at + length a.before + length (value_text v) + length a.after + 1) (element b u es))
      (λ k. elements_spans (element b u es) t rest (at + length a.before + length (value_text v) + length a.after
      + 1) more ascii (further t (44 ∷ []) later (at + length a.before + length (value_text v) + length a.after) k))

  pairs_spans : (ps : Pairs) (t rest : Text) (at : ℕ) → ArePairs ps → StartsAscii rest → Cut t at (pairs_text ps ++ rest)
      → AreSpans t (pairs_events at ps)
  pairs_spans no_pairs t rest at are ascii c = tt
  pairs_spans (pair f v no_pairs) t rest at (frame, is, none) ascii c =
      pair_here f v (value_spans v) t rest at frame is ascii (cut_as t (frame_text f (value_text v) ++ rest) (f.leading
      ++ behind_trivia f (value_text v ++ (f.trailing ++ rest))) at at (pair_text f (value_text v) rest) refl c) [] (λ k. tt)
  pairs_spans (pair f v (pair g u ps)) t rest at (frame, is, more) ascii c =
      let later = pairs_text (pair g u ps) ++ rest in
      let next = value_at_byte at f + length (value_text v) + length f.trailing in
      pair_here f v (value_spans v) t (44 ∷ later) at frame is (omega arith)
      (cut_as t (pairs_text (pair f v (pair g u ps)) ++ rest) (f.leading
      ++ behind_trivia f (value_text v ++ (f.trailing ++ (44 ∷ later)))) at at (append_assoc (frame_text f (value_text v)) (44
      ∷ pairs_text (pair g u ps)) rest ∙ pair_text f (value_text v) (44 ∷ later)) refl c)
      (pairs_events (next + 1) (pair g u ps))
      (λ k. pairs_spans (pair g u ps) t rest (next + 1) more ascii (further t (44 ∷ []) later next k))
