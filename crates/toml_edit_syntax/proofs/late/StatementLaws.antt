-- What is found in the events of a statement or a value is the first of its late places.
use Rattle.std.proofs.Common.{◌≡◌, refl, sym, ap, ◌∙◌, ℕ, ◌+◌, ◌-◌, Bool, true, false, List, [], ◌∷◌, ◌++◌, append_assoc, length, take}
use Rattle.std.proofs.Common.{drop, codes, arith, Option, Some, None}
use Rattle.std.specs.Prelude.{IfSome, IsNone}
use Rattle.std.specs.Option.{option_or}
use Rattle.std.proofs.Math.Seq.{take-length}
use Rattle.std.proofs.lemmas.Bool.Decides.{nat_tests}
use Rattle.toml_edit_model.specs.Text.{Text}
use Rattle.toml_edit_model.specs.Paths.{path_start}
use Rattle.toml_edit_model.specs.Syntax.{Header, Value, Statement, key_line, header, path_text, frame_text, value_text, opening_brackets}
use Rattle.toml_edit_model.specs.Syntax.{closing_brackets, brackets_text, statement_text, IsValue, IsStatement}
use Rattle.toml_edit_model.specs.Version.{late_path, late_value, late_places}
use Rattle.toml_edit_laws.specs.Standing.{Stands}
use Rattle.toml_edit_laws.proofs.common.StandingLaws.{stands-left, stands-right}
use Rattle.toml_edit_laws.proofs.common.Tests.{append-nil}
use Rattle.toml_edit_syntax.specs.declared.event.EventKind.TheVariants.{Leading, Equals, BeforeKey, AfterKey, HeaderClose, LineEnd}
use Rattle.toml_edit_syntax.specs.declared.event.Event.{Event}
use Rattle.toml_edit_syntax.specs.declared.event.Span.{Span}
use Rattle.toml_edit_syntax.specs.Events.{header_open, statement_events, has_deep_value}
use Rattle.toml_edit_syntax.specs.ValueEvents.{event, path_events, value_at_byte, value_events, shortened, are_deep}
use Rattle.toml_edit_syntax.specs.LateEvents.{NamesLate, late_in_events}
use Rattle.toml_edit_syntax.proofs.late.Places.{first_of, first_named, first_none}
use Rattle.toml_edit_syntax.proofs.late.EventLaws.{chain, path_first, value_first, path_stands, line_value_stands, regrouped}
use Rattle.toml_edit_syntax.proofs.ShortenedLaws.{Fits}
use Rattle.toml_edit_syntax.proofs.StatementLaws.{depth_of, statement_stays}
use Rattle.toml_edit_syntax.proofs.late.ShortenedLaws.{found_whole, shallow_stays}

or_none : (o : Option Span) → option_or o None ≡ o
or_none None = refl
or_none (Some x) = refl

-- the events of a statement: the text before it, and others, in which the first of its late places is found, whatever follows
pub record IsFound (source : Text) (start : ℕ) (s : Statement) : Type 0 where
  pub leading : Text
  pub rest : List Event
  pub parts : statement_events start s ≡ event Leading start leading ∷ rest
  pub found : (more : List Event) → late_in_events source (rest ++ more) ≡ first_of (late_places start s)

-- ---- a header

opening_passed : (source : Text) (is_array : Bool) (i : ℕ) (t : Text) (es : List Event)
    → late_in_events source (event (header_open is_array) i t ∷ es) ≡ late_in_events source es
opening_passed source true i t es = refl
opening_passed source false i t es = refl

header_path : (source : Text) (start : ℕ) (h : Header) (end : Text) → Stands source start (statement_text (header h end))
    → Stands source (start + length h.leading + length (opening_brackets h.is_array) + length h.opening) (path_text h.path)
header_path source start h end stands =
    let after = h.closing ++ closing_brackets h.is_array in
    let place = start + length h.leading in
    let one = stands-right source start h.leading (brackets_text h ++ (h.trailing ++ end)) stands in
    let two = stands-left source place (brackets_text h) (h.trailing ++ end) one in
    let three = stands-right source place (opening_brackets h.is_array) (h.opening ++ (path_text h.path ++ after)) two in
    let four = stands-right source (place + length (opening_brackets h.is_array)) h.opening (path_text h.path ++ after) three in
    stands-left source (place + length (opening_brackets h.is_array) + length h.opening) (path_text h.path) after four

pub statement_found : (source : Text) (start : ℕ) (s : Statement) → IsStatement (λ end. Unit {0}) s → Stands source start (statement_text s)
    → IsFound source start s
statement_found source start (key_line f v end) ((spaced, path), is, ends) stands =
    let key = start + length f.leading in
    let value = value_at_byte start f in
    let sign = event Equals (key + length (path_text f.path) + length f.before_equals) (codes "=") in
    let last = event LineEnd (value + length (value_text v)) f.trailing in
    let line = stands-left source start (frame_text f (value_text v)) end stands in
    record {
      leading = f.leading;
      rest = (path_events key f.path ++ (sign ∷ [])) ++ (value_events value v ++ (last ∷ []));
      parts = refl;
      found = λ more.
          ap (late_in_events source) (regrouped (path_events key f.path) (value_events value v) [] more sign last)
          ∙ chain _ (late_in_events source (sign ∷ (value_events value v ++ (last ∷ more)))) None (late_path key f.path)
          (late_value v value)
          (path_first source key f.path (sign ∷ (value_events value v ++ (last ∷ more))) path.spelled
          (path_stands source start f (value_text v) line))
          (value_first v source value (last ∷ more) is (line_value_stands source start f (value_text v) line))
          ∙ or_none (first_of (late_path key f.path ++ late_value v value));
    }
statement_found source start (header h end) ((spaced, path), ends) stands =
    let brackets = start + length h.leading in
    let before = brackets + length (opening_brackets h.is_array) in
    let key = before + length h.opening in
    let after = key + length (path_text h.path) in
    let close = after + length h.closing in
    let last = event AfterKey after h.closing ∷ event HeaderClose close (closing_brackets h.is_array)
    ∷ event LineEnd (close + length (closing_brackets h.is_array)) h.trailing ∷ [] in
    let same : key ≡ start + path_start (header h end) = omega arith in
    record {
      leading = h.leading;
      rest = event (header_open h.is_array) brackets (opening_brackets h.is_array) ∷ event BeforeKey before h.opening
          ∷ (path_events key h.path ++ last);
      parts = refl;
      found = λ more.
          opening_passed source h.is_array brackets (opening_brackets h.is_array) (event BeforeKey before h.opening
          ∷ ((path_events key h.path ++ last) ++ more))
          ∙ ap (late_in_events source) (append_assoc (path_events key h.path) last more)
          ∙ path_first source key h.path (last ++ more) path.spelled (header_path source start h end stands)
          ∙ or_none (first_of (late_path key h.path))
          ∙ ap (λ (i : ℕ). first_of (late_path i h.path)) same;
    }

-- ---- what is answered

tail_is : (events : List Event) (x : Event) (xs : List Event) → events ≡ x ∷ xs → take (length events - 1) (drop 1 events) ≡ xs
tail_is events x xs e =
    let size : length (x ∷ xs) - 1 ≡ length xs = omega arith in
    ap (λ (es : List Event). take (length es - 1) (drop 1 es)) e ∙ ap (λ (n : ℕ). take n xs) size ∙ take-length xs

-- the events behind the first
abbrev behind : List Event → List Event
behind events = take (length events - 1) (drop 1 events)

tail_cut : (source : Text) (start : ℕ) (s : Statement) (events more : List Event) (h : IsFound source start s)
    → events ≡ shortened 0 (statement_events start s ++ more) → behind events ≡ shortened 0 (h.rest ++ more)
tail_cut source start s events more h e =
    tail_is events (event Leading start h.leading) (shortened 0 (h.rest ++ more)) (e
    ∙ ap (λ (es : List Event). shortened 0 (es ++ more)) h.parts)

pub statement_named : (source : Text) (start : ℕ) (s : Statement) (events more : List Event) (o : Option Span) → IsFound source start s
    → events ≡ shortened 0 (statement_events start s ++ more) → o ≡ late_in_events source (behind events)
    → IfSome o (NamesLate (late_places start s))
statement_named source start s events more None h e is = tt
statement_named source start s events more (Some x) h e is =
    let cut : late_in_events source (shortened 0 (h.rest ++ more)) ≡ Some x =
    ap (late_in_events source) (sym (tail_cut source start s events more h e)) ∙ sym is in
    first_named (late_places start s) x (sym (h.found more) ∙ found_whole source 0 (h.rest ++ more) x cut)

pub statement_none : (source : Text) (start : ℕ) (s : Statement) (events more : List Event) (o : Option Span) → IsFound source start s
    → events ≡ shortened 0 (statement_events start s ++ more) → o ≡ late_in_events source (behind events)
    → are_deep (shortened 0 (statement_events start s)) ≡ false → IsNone o → late_places start s ≡ []
statement_none source start s events more (Some x) h e is shallow none = absurd (let clash : true ≡ false = none in cc)
statement_none source start s events more None h e is shallow none =
    let shallow_rest : are_deep (shortened 0 h.rest) ≡ false = ap (λ (es : List Event). are_deep (shortened 0 es)) (sym h.parts)
    ∙ shallow in
    let stays = shallow_stays 0 h.rest more shallow_rest in
    first_none (late_places start s)
    (sym (h.found (shortened stays.behind more)) ∙ ap (late_in_events source) (sym stays.same
    ∙ sym (tail_cut source start s events more h e)) ∙ sym is)

shallow_fits : (s : Statement) → has_deep_value s ≡ false → Fits 0 (depth_of s)
shallow_fits (key_line f v end) shallow = λ _. grind (arith, nat_tests)
shallow_fits (header h end) shallow = λ _. omega arith

-- the same where the value is not too deep
pub shallow_none : (source : Text) (start : ℕ) (s : Statement) (events more : List Event) (o : Option Span) → IsFound source start s
    → events ≡ shortened 0 (statement_events start s ++ more) → o ≡ late_in_events source (behind events)
    → has_deep_value s ≡ false → IsNone o → late_places start s ≡ []
shallow_none source start s events more (Some x) h e is shallow none = absurd (let clash : true ≡ false = none in cc)
shallow_none source start s events more None h e is shallow none =
    let whole : events ≡ event Leading start h.leading ∷ (h.rest ++ shortened 0 more) =
    e ∙ statement_stays 0 start s (shallow_fits s shallow) more ∙ ap (λ (es : List Event). es ++ shortened 0 more) h.parts in
    first_none (late_places start s)
    (sym (h.found (shortened 0 more)) ∙ ap (late_in_events source)
    (sym (tail_is events (event Leading start h.leading) (h.rest ++ shortened 0 more) whole)) ∙ sym is)

value_found : (source : Text) (start : ℕ) (v : Value) → IsValue v → Stands source start (value_text v)
    → late_in_events source (value_events start v) ≡ first_of (late_value v start)
value_found source start v is stands =
    ap (late_in_events source) (sym (append-nil (value_events start v))) ∙ value_first v source start [] is stands
    ∙ or_none (first_of (late_value v start))

pub value_named : (source : Text) (start : ℕ) (v : Value) (events : List Event) (o : Option Span) → IsValue v
    → Stands source start (value_text v)
    → events ≡ shortened 0 (value_events start v) → o ≡ late_in_events source events → IfSome o (NamesLate (late_value v start))
value_named source start v events None valid stands e is = tt
value_named source start v events (Some x) valid stands e is =
    first_named (late_value v start) x
    (sym (value_found source start v valid stands) ∙ found_whole source 0 (value_events start v) x (ap (late_in_events source) (sym e)
    ∙ sym is))

pub value_none : (source : Text) (start : ℕ) (v : Value) (events : List Event) (o : Option Span) → IsValue v
    → Stands source start (value_text v)
    → events ≡ shortened 0 (value_events start v) → o ≡ late_in_events source events → are_deep events ≡ false → IsNone o
    → late_value v start ≡ []
value_none source start v events (Some x) valid stands e is shallow none = absurd (let clash : true ≡ false = none in cc)
value_none source start v events None valid stands e is shallow none =
    let stays = shallow_stays 0 (value_events start v) [] (ap are_deep (sym e) ∙ shallow) in
    let whole : shortened 0 (value_events start v) ≡ value_events start v =
    ap (shortened 0) (sym (append-nil (value_events start v))) ∙ stays.same ∙ append-nil (value_events start v) in
    first_none (late_value v start)
    (sym (value_found source start v valid stands) ∙ ap (late_in_events source) (sym (e ∙ whole)) ∙ sym is)
