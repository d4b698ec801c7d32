-- The first late part of a list of events, found event by event.
use Rattle.std.specs.Prelude.{◌≡◌, ◌++◌, ◌-◌, ℕ, Bool, true, false, if◌then◌else◌, List, [], ◌∷◌, Contains, Option, Some, None}
use Rattle.std.specs.List.{AllByRecursion}
use Rattle.std.specs.Option.{option_or}
use Rattle.toml_edit_model.specs.OwnedForm.{cut_out}
use Rattle.toml_edit_model.specs.Syntax.{Statement, Value, IsStatement, IsValue, statement_text, value_text}
use Rattle.toml_edit_model.specs.Text.{Text}
use Rattle.toml_edit_model.specs.Version.{Place}
use Rattle.toml_edit_syntax.specs.declared.event.EventKind.{EventKind}
use Rattle.toml_edit_syntax.specs.declared.event.EventKind.TheVariants.{Leading, Key, Scalar, InlineTableClose, After, Comma, Inner}
use Rattle.toml_edit_syntax.specs.declared.event.EventKind.TheVariants.{LineEnd}
use Rattle.toml_edit_syntax.specs.declared.event.Event.{Event}
use Rattle.toml_edit_syntax.specs.declared.event.Span.{Span}
use Rattle.toml_edit_laws.specs.Standing.{Stands}
use Rattle.toml_edit_syntax.specs.Events.{IsSpanOf, statement_events}
use Rattle.toml_edit_syntax.specs.ValueEvents.{shortened, value_events}
use Rattle.toml_edit_syntax.specs.LateSpellings.{late_escape, late_in_scalar}
use Rattle.toml_edit_syntax.specs.LateTrivia.{late_in_trivia}

-- the spans of events lie in the text
abbrev pub AreIn : Text → List Event → Type 0
AreIn t es = AllByRecursion (λ e. IsSpanOf t e.span) es

-- the span is one of these places
abbrev pub NamesLate : List Place → Span → Type 0
NamesLate places s = Contains places (s.start, s.end - s.start)

-- A claim about the statement whose events begin these, and which begins in the text at a byte.
abbrev pub ForStatementNext : Text → List Event → (Statement → ℕ → Type 0) → Type 0
ForStatementNext t es Claim =
    (s : Statement) (start : ℕ) (more : List Event) → IsStatement (λ end. Unit {0}) s
    → Stands t start (statement_text s) → es ≡ shortened 0 (statement_events start s ++ more)
    → Claim s start

-- A claim about the value whose events these are, and which begins in the text at a byte.
abbrev pub ForValueIn : Text → List Event → (Value → ℕ → Type 0) → Type 0
ForValueIn t es Claim =
    (v : Value) (start : ℕ) → IsValue v → Stands t start (value_text v)
    → es ≡ shortened 0 (value_events start v) → Claim v start

-- What is before these events is an inline table's own: the next pair, or the closing bracket, is
-- one's.
abbrev pub is_in_inline_table : List Event → Bool
is_in_inline_table [] = false
is_in_inline_table (e ∷ es) = of_kind e.kind (is_in_inline_table es)
  where
    of_kind : EventKind → Bool → Bool
    of_kind Leading behind = true
    of_kind InlineTableClose behind = true
    of_kind Comma behind = behind
    of_kind Inner behind = behind
    of_kind _ behind = false

-- the late part of an event of this kind and this text, that begins at this byte, by whether it is
-- an inline table's own
abbrev pub late_in_kind : EventKind → Span → Text → Bool → Option Span
late_in_kind Key s t own = late_escape s.start t
late_in_kind Scalar s t own = late_in_scalar s.start t
late_in_kind Leading s t own = late_in_trivia s.start t
late_in_kind After s t own = if own then late_in_trivia s.start t else None
late_in_kind Inner s t own = if own then late_in_trivia s.start t else None
late_in_kind Comma s t own = if own then Some s else None
late_in_kind _ s t own = None

-- the late part of an event, before these events
abbrev pub late_in_event : Text → Event → List Event → Option Span
late_in_event source e es =
    late_in_kind e.kind e.span (cut_out source e.span.start e.span.end) (is_in_inline_table es)

abbrev pub is_line_end : EventKind → Bool
is_line_end LineEnd = true
is_line_end _ = false

-- the first one, up to the end of a statement
abbrev pub late_in_events : Text → List Event → Option Span
late_in_events source [] = None
late_in_events source (e ∷ es) =
    if is_line_end e.kind then None
    else option_or (late_in_event source e es) (late_in_events source es)
