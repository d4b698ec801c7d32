-- The first events of a statement, which tell what it is.
use Rattle.std.proofs.Common.{◌≡◌, ℕ, ◌+◌, Bool, true, false, refl, sym, ap, ◌∙◌, List, [], ◌∷◌, ◌++◌, length, append_assoc, Option, Some}
use Rattle.toml_edit_model.specs.Text.{Text}
use Rattle.toml_edit_model.specs.Syntax.{Segment, Frame, Value, Header, Statement, key_line, header, IsPath, closing_brackets}
use Rattle.toml_edit_model.specs.Syntax.{opening_brackets, path_text, value_text}
use Rattle.toml_edit_syntax.specs.declared.event.Event.{Event}
use Rattle.toml_edit_syntax.specs.declared.event.EventKind.TheVariants.{Leading, Key, BeforeKey, AfterKey, HeaderClose, LineEnd, HeaderOpen}
use Rattle.toml_edit_syntax.specs.declared.event.EventKind.TheVariants.{ArrayHeaderOpen}
use Rattle.toml_edit_syntax.specs.Events.{header_open, statement_events}
use Rattle.toml_edit_syntax.specs.ValueEvents.{event, path_events, shortened, value_at_byte, value_events}
use Rattle.toml_edit_parser.specs.PairRead.{key_events}
use Rattle.toml_edit_parser.specs.StatementParts.{line_behind, header_behind}
use Rattle.toml_edit_parser.specs.ValueRead.{split_first, span_at}
use Rattle.toml_edit_parser.specs.StatementRead.{IsWhole}

-- the first event, and those after it
pub first-is : (es : List Event) (x : Event) (rest : List Event) → ◌≡◌ {A = Option (Event × List Event)} (Some (x, rest)) (split_first es)
    → es ≡ x ∷ rest
first-is [] x rest h = absurd cc
first-is (y ∷ ys) x rest h =
    let e : ◌≡◌ {A = Event × List Event} (x, rest) (y, ys) = cc in
    ap (λ (p : Event × List Event). p.0 ∷ p.1) (sym e)

same_events : (x y : Event) (xs ys : List Event) → x ∷ xs ≡ y ∷ ys → (x ≡ y) × (xs ≡ ys)
same_events x y xs ys e =
    let one : x ≡ y = cc in
    let others : xs ≡ ys = cc in
    (one, others)

-- ---- a key line

line_parts : (start : ℕ) (f : Frame) (v : Value) (end : Text) (more : List Event)
    → shortened 0 (statement_events start (key_line f v end) ++ more) ≡ event Leading start f.leading
    ∷ shortened 0 (line_behind start f v more)
line_parts start f v end more =
    let value = value_at_byte start f in
    let last = event LineEnd (value + length (value_text v)) f.trailing in
    ap (λ (es : List Event). event Leading start f.leading ∷ shortened 0 es)
    (append_assoc (key_events start f) (value_events value v ++ (last ∷ [])) more
    ∙ ap (λ (es : List Event). key_events start f ++ es) (append_assoc (value_events value v) (last ∷ []) more))

key_first : (p : List Segment) (start : ℕ) (xs ys : List Event) (opening : Event) (inside : List Event) → IsPath p
    → shortened 0 ((path_events start p ++ xs) ++ ys) ≡ opening ∷ inside → opening.kind ≡ Key
key_first [] start xs ys opening inside is e = absurd (let g = is.begins in cc)
key_first (s ∷ []) start xs ys opening inside is e = ap (λ (x : Event). x.kind) (sym (same_events _ opening _ inside e).0)
key_first (s ∷ r ∷ p) start xs ys opening inside is e = ap (λ (x : Event). x.kind) (sym (same_events _ opening _ inside e).0)

-- ---- a header

open_kept : (is_array : Bool) (i : ℕ) (t : Text) (es : List Event)
    → shortened 0 (event (header_open is_array) i t ∷ es) ≡ event (header_open is_array) i t ∷ shortened 0 es
open_kept true i t es = refl
open_kept false i t es = refl

header_parts : (start : ℕ) (h : Header) (end : Text) (more : List Event)
    → shortened 0 (statement_events start (header h end) ++ more)
    ≡ event Leading start h.leading ∷ event (header_open h.is_array) (start + length h.leading) (opening_brackets h.is_array)
    ∷ shortened 0 (header_behind start h more)
header_parts start h end more =
    let brackets = start + length h.leading in
    let before = brackets + length (opening_brackets h.is_array) in
    let key = before + length h.opening in
    let after = key + length (path_text h.path) in
    let close = after + length h.closing in
    let front = event BeforeKey before h.opening ∷ path_events key h.path in
    let behind =
    event AfterKey after h.closing
    ∷ event HeaderClose close (closing_brackets h.is_array)
    ∷ event LineEnd (close + length (closing_brackets h.is_array)) h.trailing
    ∷ [] in
    ap (λ (es : List Event). event Leading start h.leading ∷ es)
    (open_kept h.is_array brackets (opening_brackets h.is_array) ((front ++ behind) ++ more)
    ∙ ap (λ (es : List Event). event (header_open h.is_array) brackets (opening_brackets h.is_array)
    ∷ shortened 0 es) (append_assoc front behind more))

same_open : (x y : Bool) → header_open x ≡ header_open y → x ≡ y
same_open true true e = refl
same_open true false e = absurd cc
same_open false true e = absurd cc
same_open false false e = refl

no_key : (x : Bool) → Key ≡ header_open x → ⊥
no_key true e = cc
no_key false e = cc

opens_header : (x : Bool) → (header_open x ≡ HeaderOpen → ⊥) → (header_open x ≡ ArrayHeaderOpen → ⊥) → ⊥
opens_header true one two = two refl
opens_header false one two = one refl

-- ---- by the second event

module _ (start : ℕ) (more es behind inside : List Event) (first opening : Event) (at : es ≡ first ∷ behind) (next : behind ≡ opening
    ∷ inside) where
  -- a header where it is an opening bracket
  pub header-case : (x : Bool) (s : Statement) (P : Statement → Type 0) → IsWhole s → es ≡ shortened 0 (statement_events start s ++ more)
      → opening.kind ≡ header_open x
      → ((h : Header) (end : Text) → first.span ≡ span_at start h.leading → x ≡ h.is_array
      → opening.span ≡ span_at (start + length h.leading) (opening_brackets h.is_array) → inside ≡ shortened 0 (header_behind start h more)
      → P (header h end))
      → P s
  header-case x (key_line f v end) P is e kind told =
      let parts = same_events first _ behind _ (sym at ∙ e ∙ line_parts start f v end more) in
      let key = key_first f.path (start + length f.leading) _ _ opening inside is.0.1 (sym parts.1 ∙ next) in
      absurd (no_key x (sym key ∙ kind))
  header-case x (header h end) P is e kind told =
      let parts = same_events first _ behind _ (sym at ∙ e ∙ header_parts start h end more) in
      let second = same_events opening _ inside _ (sym next ∙ parts.1) in
      told h end (ap (λ (y : Event). y.span) parts.0) (same_open x h.is_array (sym kind ∙ ap (λ (y : Event). y.kind) second.0))
      (ap (λ (y : Event). y.span) second.0) second.1

  -- a key line where it is none
  pub line-case : (s : Statement) (P : Statement → Type 0) → IsWhole s → es ≡ shortened 0 (statement_events start s ++ more)
      → (opening.kind ≡ HeaderOpen → ⊥)
      → (opening.kind ≡ ArrayHeaderOpen → ⊥)
      → ((f : Frame) (v : Value) (end : Text) → first.span ≡ span_at start f.leading → behind ≡ shortened 0 (line_behind start f v more)
      → P (key_line f v end))
      → P s
  line-case (key_line f v end) P is e one two told =
      let parts = same_events first _ behind _ (sym at ∙ e ∙ line_parts start f v end more) in
      told f v end (ap (λ (y : Event). y.span) parts.0) parts.1
  line-case (header h end) P is e one two told =
      let parts = same_events first _ behind _ (sym at ∙ e ∙ header_parts start h end more) in
      let second = same_events opening _ inside _ (sym next ∙ parts.1) in
      let kind : opening.kind ≡ header_open h.is_array = ap (λ (y : Event). y.kind) second.0 in
      absurd (opens_header h.is_array (λ k. one (kind ∙ k)) (λ k. two (kind ∙ k)))
