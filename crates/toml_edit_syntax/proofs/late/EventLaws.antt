-- The first late part of a value's events is the first of its late places.
use Rattle.std.proofs.Common.{◌≡◌, refl, sym, ap, ◌∙◌, ℕ, ◌+◌, ◌-◌, Bool, true, false, List, [], ◌∷◌, ◌++◌, append_assoc, length, codes}
use Rattle.std.proofs.Common.{arith, Option, Some}
use Rattle.std.specs.List.{AllByRecursion}
use Rattle.std.specs.Option.{option_or}
use Rattle.std.proofs.lemmas.List.{length-append}
use Rattle.toml_edit_model.specs.Text.{Text}
use Rattle.toml_edit_model.specs.Trivia.{IsWholeTrivia}
use Rattle.toml_edit_model.specs.OwnedForm.{cut_out}
use Rattle.toml_edit_model.specs.Syntax.{Segment, Around, Frame, Value, scalar, array, inline_table, Elements, no_elements, element, Pairs}
use Rattle.toml_edit_model.specs.Syntax.{no_pairs, pair, segment_text, path_text, frame_text, comma_text, value_text, elements_text}
use Rattle.toml_edit_model.specs.Syntax.{pairs_text, IsSpelledSegment, IsClose, has_pairs, IsValue, AreElements, ArePairs}
use Rattle.toml_edit_model.specs.Version.{Place, late_spelling, late_path, late_trivia, nothing_yet, late_comma, late_value, late_elements}
use Rattle.toml_edit_model.specs.Version.{late_pairs}
use Rattle.toml_edit_laws.specs.Standing.{Stands}
use Rattle.toml_edit_laws.proofs.common.StandingLaws.{stands-left, stands-right, cut_out-is}
use Rattle.toml_edit_laws.proofs.common.Tests.{append-nil}
use Rattle.toml_edit_syntax.specs.declared.event.EventKind.TheVariants.{Leading, Equals, ArrayClose, InlineTableClose, After, Inner}
use Rattle.toml_edit_syntax.specs.declared.event.Event.{Event}
use Rattle.toml_edit_syntax.specs.declared.event.Span.{Span}
use Rattle.toml_edit_syntax.specs.ValueEvents.{event, path_events, value_at_byte, close_events, value_events, elements_events, pairs_events}
use Rattle.toml_edit_syntax.specs.LateSpellings.{span_from, late_escape, late_in_scalar}
use Rattle.toml_edit_syntax.specs.LateTrivia.{late_in_trivia}
use Rattle.toml_edit_syntax.specs.LateEvents.{is_in_inline_table, late_in_events}
use Rattle.toml_edit_syntax.proofs.late.Places.{first_of, or_again, first-append}
use Rattle.toml_edit_syntax.proofs.late.SpellingLaws.{key_first}
use Rattle.toml_edit_syntax.proofs.late.TriviaLaws.{trivia_first}
use Rattle.toml_edit_syntax.proofs.late.ScalarLaws.{scalar_first}

-- what is found in two parts, one after the other
pub chain : (k l m : Option Span) (xs ys : List Place) → k ≡ option_or (first_of xs) l → l ≡ option_or (first_of ys) m → k
    ≡ option_or (first_of (xs ++ ys)) m
chain k l m xs ys one two =
    one ∙ ap (λ (o : Option Span). option_or (first_of xs) o) two ∙ sym (or_again (first_of xs) (first_of ys) m)
    ∙ ap (λ (o : Option Span). option_or o m) (sym (first-append xs ys))

-- ---- texts in their places

trivia_at : (source : Text) (i : ℕ) (t : Text) → IsWholeTrivia t → Stands source i t
    → late_in_trivia i (cut_out source i (i + length t)) ≡ first_of (late_trivia nothing_yet i t)
trivia_at source i t is h = ap (late_in_trivia i) (cut_out-is source i t h) ∙ trivia_first t is i

segment_at : (source : Text) (at : ℕ) (s : Segment) → IsSpelledSegment s → Stands source at (segment_text s)
    → late_escape (at + length s.before) (cut_out source (at + length s.before) (at + length s.before + length s.spelled))
    ≡ first_of (late_spelling (at + length s.before) s.spelled)
segment_at source at s is h =
    let place = at + length s.before in
    ap (late_escape place) (cut_out-is source place s.spelled
    (stands-left source place s.spelled s.after (stands-right source at s.before (s.spelled ++ s.after) h)))
    ∙ key_first s.key s.spelled is place

pub path_first : (source : Text) (at : ℕ) (p : List Segment) (more : List Event) → AllByRecursion IsSpelledSegment p
    → Stands source at (path_text p)
    → late_in_events source (path_events at p ++ more) ≡ option_or (first_of (late_path at p)) (late_in_events source more)
path_first source at [] more all h = refl
path_first source at (s ∷ []) more all h =
    ap (λ (o : Option Span). option_or o (late_in_events source more)) (segment_at source at s all.0 h)
    ∙ ap (λ (xs : List Place). option_or (first_of xs) (late_in_events source more))
    (sym (append-nil (late_spelling (at + length s.before) s.spelled)))
path_first source at (s ∷ r ∷ rest) more all h =
    let text = path_text (r ∷ rest) in
    let next = at + length (segment_text s) + 1 in
    let behind = late_in_events source (path_events next (r ∷ rest) ++ more) in
    chain _ behind (late_in_events source more) (late_spelling (at + length s.before) s.spelled) (late_path next (r ∷ rest))
    (ap (λ (o : Option Span). option_or o behind) (segment_at source at s all.0 (stands-left source at (segment_text s) (codes "."
    ++ text) h)))
    (path_first source next (r ∷ rest) more all.1
    (stands-right source (at + length (segment_text s)) (codes ".") text (stands-right source at (segment_text s) (codes "." ++ text) h)))

-- ---- an inline table's own events

own_trivia : (source : Text) (i : ℕ) (t : Text) (es : List Event) → is_in_inline_table es ≡ true → IsWholeTrivia t → Stands source i t
    → late_in_events source (event After i t ∷ es) ≡ option_or (first_of (late_trivia nothing_yet i t)) (late_in_events source es)
own_trivia source i t es own is h = rw own (ap (λ (o : Option Span). option_or o (late_in_events source es)) (trivia_at source i t is h))

other_trivia : (source : Text) (i : ℕ) (t : Text) (es : List Event) → is_in_inline_table es ≡ false
    → late_in_events source (event After i t ∷ es) ≡ late_in_events source es
other_trivia source i t es other = rw other refl

-- ---- ends

array_close : (source : Text) (at : ℕ) (comma : Bool) (t : Text) (more : List Event)
    → late_in_events source (close_events ArrayClose (codes "]") at comma t ++ more) ≡ late_in_events source more
array_close source at true t more = refl
array_close source at false t more = refl

array_outside : (at : ℕ) (comma : Bool) (t : Text) (more : List Event)
    → is_in_inline_table (close_events ArrayClose (codes "]") at comma t ++ more) ≡ false
array_outside at true t more = refl
array_outside at false t more = refl

table_inside : (at : ℕ) (comma : Bool) (t : Text) (more : List Event)
    → is_in_inline_table (close_events InlineTableClose (codes "}") at comma t ++ more) ≡ true
table_inside at true t more = refl
table_inside at false t more = refl

inner_first : (source : Text) (i at : ℕ) (t : Text) (more : List Event) → IsWholeTrivia t → Stands source i t
    → late_in_events source (event Inner i t ∷ event InlineTableClose at (codes "}") ∷ more)
    ≡ option_or (first_of (late_trivia nothing_yet i t)) (late_in_events source more)
inner_first source i at t more is h = ap (λ (o : Option Span). option_or o (late_in_events source more)) (trivia_at source i t is h)

table_close : (source : Text) (p at : ℕ) (comma : Bool) (t : Text) (more : List Event) → p + length (comma_text comma) + length t ≡ at
    → IsWholeTrivia t
    → Stands source (p + length (comma_text comma)) t
    → late_in_events source (close_events InlineTableClose (codes "}") at comma t ++ more)
    ≡ option_or (first_of (late_comma comma p ++ late_trivia nothing_yet (p + length (comma_text comma)) t)) (late_in_events source more)
table_close source p at true t more place is h =
    let same : at - length t - 1 ≡ p = omega arith in
    ap (λ (j : ℕ). Some (span_from j 1)) same
table_close source p at false t more place is h =
    let same : at - length t ≡ p + 0 = omega arith in
    ap (λ (j : ℕ). late_in_events source (event Inner j t ∷ event InlineTableClose at (codes "}") ∷ more)) same
    ∙ inner_first source (p + 0) at t more is h

-- ---- values

-- where there are elements or pairs, they stand in the source, from this byte on
abbrev ElementsStand : Text → ℕ → Elements → Type 0
ElementsStand source start no_elements = Unit {0}
ElementsStand source start (element a v es) = Stands source start (elements_text (element a v es))

abbrev PairsStand : Text → ℕ → Pairs → Type 0
PairsStand source start no_pairs = Unit {0}
PairsStand source start (pair f v ps) = Stands source start (pairs_text (pair f v ps))

elements_stand : (source : Text) (start : ℕ) (es : Elements) → Stands source start (elements_text es) → ElementsStand source start es
elements_stand source start no_elements h = tt
elements_stand source start (element a v es) h = h

pairs_stand : (source : Text) (start : ℕ) (ps : Pairs) → Stands source start (pairs_text ps) → PairsStand source start ps
pairs_stand source start no_pairs h = tt
pairs_stand source start (pair f v ps) h = h

-- an element, and those behind it
element_stands : (source : Text) (start : ℕ) (a : Around) (v : Value) (es : Elements) → Stands source start (elements_text (element a v es))
    → Stands source (start + length a.before) (value_text v)
element_stands source start a v no_elements h =
    stands-left source (start + length a.before) (value_text v) a.after (stands-right source start a.before (value_text v ++ a.after) h)
element_stands source start a v (element b w es) h =
    let behind = a.after ++ (codes "," ++ elements_text (element b w es)) in
    stands-left source (start + length a.before) (value_text v) behind (stands-right source start a.before (value_text v ++ behind) h)

others_stand : (source : Text) (start : ℕ) (a : Around) (v : Value) (es : Elements) → Stands source start (elements_text (element a v es))
    → ElementsStand source (start + length a.before + length (value_text v) + length a.after + 1) es
others_stand source start a v no_elements h = tt
others_stand source start a v (element b w es) h =
    let rest = codes "," ++ elements_text (element b w es) in
    let one = stands-right source start a.before (value_text v ++ (a.after ++ rest)) h in
    let two = stands-right source (start + length a.before) (value_text v) (a.after ++ rest) one in
    let three = stands-right source (start + length a.before + length (value_text v)) a.after rest two in
    stands-right source (start + length a.before + length (value_text v)
    + length a.after) (codes ",") (elements_text (element b w es)) three

elements_outside : (start : ℕ) (es : Elements) (tail : List Event) → is_in_inline_table tail ≡ false
    → is_in_inline_table (elements_events start es ++ tail) ≡ false
elements_outside start no_elements tail h = h
elements_outside start (element a v es) tail h = refl

pairs_inside : (start : ℕ) (ps : Pairs) (tail : List Event) → is_in_inline_table tail ≡ true
    → is_in_inline_table (pairs_events start ps ++ tail) ≡ true
pairs_inside start no_pairs tail h = h
pairs_inside start (pair f v ps) tail h = refl

-- a frame's parts
frame_left : (source : Text) (start : ℕ) (f : Frame) (v : Value) (ps : Pairs) → Stands source start (pairs_text (pair f v ps))
    → Stands source start (frame_text f (value_text v))
frame_left source start f v no_pairs h = h
frame_left source start f v (pair g w ps) h =
    stands-left source start (frame_text f (value_text v)) (codes "," ++ pairs_text (pair g w ps)) h

other_pairs_stand : (source : Text) (start : ℕ) (f : Frame) (v : Value) (ps : Pairs) → Stands source start (pairs_text (pair f v ps))
    → PairsStand source (start + length (frame_text f (value_text v)) + 1) ps
other_pairs_stand source start f v no_pairs h = tt
other_pairs_stand source start f v (pair g w ps) h =
    stands-right source (start + length (frame_text f (value_text v))) (codes ",") (pairs_text (pair g w ps))
    (stands-right source start (frame_text f (value_text v)) (codes "," ++ pairs_text (pair g w ps)) h)

pub path_stands : (source : Text) (start : ℕ) (f : Frame) (t : Text) → Stands source start (frame_text f t)
    → Stands source (start + length f.leading) (path_text f.path)
path_stands source start f t h =
    stands-left source (start + length f.leading) (path_text f.path) _ (stands-right source start f.leading _ h)

behind_stands : (source : Text) (start : ℕ) (f : Frame) (t : Text) → Stands source start (frame_text f t)
    → Stands source (value_at_byte start f) (t ++ f.trailing)
behind_stands source start f t h =
    let behind : Text = t ++ f.trailing in
    let signs : Text = codes "=" ++ (f.after_equals ++ behind) in
    let key = start + length f.leading in
    let at = key + length (path_text f.path) in
    let one = stands-right source start f.leading (path_text f.path ++ (f.before_equals ++ signs)) h in
    let two = stands-right source key (path_text f.path) (f.before_equals ++ signs) one in
    let three = stands-right source at f.before_equals signs two in
    let four = stands-right source (at + length f.before_equals) (codes "=") (f.after_equals ++ behind) three in
    stands-right source (at + length f.before_equals + 1) f.after_equals behind four

pub line_value_stands : (source : Text) (start : ℕ) (f : Frame) (t : Text) → Stands source start (frame_text f t)
    → Stands source (value_at_byte start f) t
line_value_stands source start f t h = stands-left source (value_at_byte start f) t f.trailing (behind_stands source start f t h)

pub frame_length : (f : Frame) (t : Text)
    → length (frame_text f t) ≡ length f.leading + length (path_text f.path) + length f.before_equals + 1 + length f.after_equals + length t
    + length f.trailing
frame_length f t =
    let behind : Text = t ++ f.trailing in
    let signs : Text = codes "=" ++ (f.after_equals ++ behind) in
    omega (
      arith,
      length-append f.leading (path_text f.path ++ (f.before_equals ++ signs)),
      length-append (path_text f.path) (f.before_equals ++ signs),
      length-append f.before_equals signs,
      length-append f.after_equals behind,
      length-append t f.trailing,
    )

-- the events of a pair, one after another
pub regrouped : (path v others tail : List Event) (sign after : Event)
    → ((path ++ (sign ∷ [])) ++ (v ++ (after ∷ others))) ++ tail ≡ path ++ (sign ∷ (v ++ (after ∷ (others ++ tail))))
regrouped path v others tail sign after = simp append_assoc

table_length : (ps : Pairs) (comma : Bool) (t : Text) (start : ℕ)
    → start + 1 + length (pairs_text ps) + length (comma_text comma) + length t ≡ start + length (value_text (inline_table ps comma t)) - 1
table_length ps comma t start =
    omega (
      arith,
      length-append (pairs_text ps) (comma_text comma ++ (t ++ codes "}")),
      length-append (comma_text comma) (t ++ codes "}"),
      length-append t (codes "}"),
    )

close_is : (some comma : Bool) (t : Text) → IsClose some comma t → IsWholeTrivia t
close_is some true t h = h.0
close_is some false t h = h.0

mutual
  pub value_first : (v : Value) (source : Text) (start : ℕ) (more : List Event) → IsValue v → Stands source start (value_text v)
      → late_in_events source (value_events start v ++ more) ≡ option_or (first_of (late_value v start)) (late_in_events source more)
  value_first (scalar s t) source start more is h =
      ap (λ (o : Option Span). option_or o (late_in_events source more)) (ap (late_in_scalar start) (cut_out-is source start t h)
      ∙ scalar_first s t is start)
  value_first (array es comma t) source start more (close, all) h =
      let at = start + length (value_text (array es comma t)) - 1 in
      let ends = close_events ArrayClose (codes "]") at comma t in
      let behind = comma_text comma ++ (t ++ codes "]") in
      let inside = stands-left source (start + 1) (elements_text es) behind (stands-right source start (codes "[") (elements_text es
      ++ behind) h) in
      ap (late_in_events source) (append_assoc (elements_events (start + 1) es) ends more)
      ∙ elements_first es source (start + 1) (ends ++ more) all (elements_stand source (start + 1) es inside)
      (array_outside at comma t more)
      ∙ ap (λ (o : Option Span). option_or (first_of (late_elements es (start + 1))) o) (array_close source at comma t more)
  value_first (inline_table ps comma t) source start more (close, all) h =
      let at = start + length (value_text (inline_table ps comma t)) - 1 in
      let ends = close_events InlineTableClose (codes "}") at comma t in
      let last = t ++ codes "}" in
      let one = stands-right source start (codes "{") (pairs_text ps ++ (comma_text comma ++ last)) h in
      let inside = stands-left source (start + 1) (pairs_text ps) (comma_text comma ++ last) one in
      let place = start + 1 + length (pairs_text ps) in
      let two = stands-right source (start + 1) (pairs_text ps) (comma_text comma ++ last) one in
      let three = stands-right source place (comma_text comma) last two in
      let own = stands-left source (place + length (comma_text comma)) t (codes "}") three in
      chain _ (late_in_events source (ends ++ more)) (late_in_events source more) (late_pairs ps (start + 1))
      (late_comma comma place ++ late_trivia nothing_yet (place + length (comma_text comma)) t)
      (ap (late_in_events source) (append_assoc (pairs_events (start + 1) ps) ends more)
      ∙ pairs_first ps source (start + 1) (ends ++ more) all (pairs_stand source (start + 1) ps inside) (table_inside at comma t more))
      (table_close source place at comma t more (table_length ps comma t start) (close_is (has_pairs ps) comma t close) own)

  elements_first : (es : Elements) (source : Text) (start : ℕ) (tail : List Event) → AreElements es → ElementsStand source start es
      → is_in_inline_table tail ≡ false
      → late_in_events source (elements_events start es ++ tail)
      ≡ option_or (first_of (late_elements es start)) (late_in_events source tail)
  elements_first no_elements source start tail all h outside = refl
  elements_first (element a v es) source start tail (before, behind, is, all) h outside =
      let value = start + length a.before in
      let after = value + length (value_text v) in
      let next = after + length a.after + 1 in
      let others = elements_events next es in
      chain _ (late_in_events source (event After after a.after ∷ (others ++ tail))) (late_in_events source tail) (late_value v value)
      (late_elements es next)
      (ap (late_in_events source) (append_assoc (value_events value v) (event After after a.after ∷ others) tail)
      ∙ value_first v source value (event After after a.after ∷ (others ++ tail)) is (element_stands source start a v es h))
      (other_trivia source after a.after (others ++ tail) (elements_outside next es tail outside)
      ∙ elements_first es source next tail all (others_stand source start a v es h) outside)

  pairs_first : (ps : Pairs) (source : Text) (start : ℕ) (tail : List Event) → ArePairs ps → PairsStand source start ps
      → is_in_inline_table tail ≡ true
      → late_in_events source (pairs_events start ps ++ tail) ≡ option_or (first_of (late_pairs ps start)) (late_in_events source tail)
  pairs_first no_pairs source start tail all h inside = refl
  pairs_first (pair f v ps) source start tail ((spaced, path), is, all) h inside =
      let key = start + length f.leading in
      let value = value_at_byte start f in
      let after = value + length (value_text v) in
      let next = start + length (frame_text f (value_text v)) + 1 in
      let sign = event Equals (key + length (path_text f.path) + length f.before_equals) (codes "=") in
      let same : after + length f.trailing + 1 ≡ next = omega (arith, frame_length f (value_text v)) in
      let stands = frame_left source start f v ps h in
      let others = pairs_events (after + length f.trailing + 1) ps in
      let last = others ++ tail in
      let trailing = event After after f.trailing ∷ last in
      let behind = sign ∷ (value_events value v ++ trailing) in
      chain _ (late_in_events source (path_events key f.path ++ behind)) (late_in_events source tail)
      (late_trivia nothing_yet start f.leading)
      (late_path key f.path ++ (late_value v value ++ (late_trivia nothing_yet after f.trailing ++ late_pairs ps next)))
      (ap (λ (es : List Event). late_in_events source (event Leading start f.leading ∷ es))
      (regrouped (path_events key f.path) (value_events value v) others tail sign (event After after f.trailing))
      ∙ ap (λ (o : Option Span). option_or o (late_in_events source (path_events key f.path ++ behind)))
      (trivia_at source start f.leading spaced.leading (stands-left source start f.leading _ stands)))
      (chain _ (late_in_events source behind) (late_in_events source tail) (late_path key f.path) (late_value v value
      ++ (late_trivia nothing_yet after f.trailing ++ late_pairs ps next))
      (path_first source key f.path behind path.spelled (path_stands source start f (value_text v) stands))
      (chain _ (late_in_events source trailing) (late_in_events source tail) (late_value v value) (late_trivia nothing_yet after f.trailing
      ++ late_pairs ps next)
      (value_first v source value trailing is (line_value_stands source start f (value_text v) stands))
      (chain _ (late_in_events source last) (late_in_events source tail) (late_trivia nothing_yet after f.trailing) (late_pairs ps next)
      (own_trivia source after f.trailing last (pairs_inside (after + length f.trailing + 1) ps tail inside) spaced.trailing
      (stands-right source value (value_text v) f.trailing (behind_stands source start f (value_text v) stands)))
      (ap (λ (j : ℕ). late_in_events source (pairs_events j ps ++ tail)) same
      ∙ pairs_first ps source next tail all (other_pairs_stand source start f v ps h) inside))))
