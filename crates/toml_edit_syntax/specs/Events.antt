-- The events of a text: the parts of its one cut, each with its place.
use Rattle.std.specs.Prelude.{◌≡◌, ◌≤◌, ℕ, ◌+◌, ◌-◌, Bool, true, false, ◌||◌, ◌==◌, if◌then◌else◌, List, [], ◌∷◌, ◌++◌, length, nat_lt}
use Rattle.std.specs.List.{list_any}
use Rattle.std.specs.Str.{IsCharBoundary}
use Rattle.toml_edit_model.specs.Text.{Text}
use Rattle.toml_edit_model.specs.Trivia.{Each}
use Rattle.toml_edit_model.specs.Syntax.{Frame, Value, Header, Statement, key_line, header, Document, path_text, value_text}
use Rattle.toml_edit_model.specs.Syntax.{opening_brackets, closing_brackets, statement_text, mark_text, document_text, IsCut, depth}
use Rattle.toml_edit_model.specs.Syntax.{nesting_limit}
use Rattle.toml_edit_syntax.specs.declared.event.EventKind.{EventKind}
use Rattle.toml_edit_syntax.specs.declared.event.EventKind.TheVariants.{Leading, HeaderOpen, ArrayHeaderOpen, BeforeKey, AfterKey}
use Rattle.toml_edit_syntax.specs.declared.event.EventKind.TheVariants.{HeaderClose, LineEnd, Final}
use Rattle.toml_edit_syntax.specs.declared.event.Event.{Event}
use Rattle.toml_edit_syntax.specs.declared.event.Span.{Span}
use Rattle.toml_edit_syntax.specs.ValueEvents.{event, path_events, frame_events, value_at_byte, value_events}

-- a key line that begins at this byte
abbrev pub line_events : ℕ → Frame → Value → List Event
line_events start f v =
    let value = value_at_byte start f in
    frame_events start f
    ++ (value_events value v ++ event LineEnd (value + length (value_text v)) f.trailing ∷ [])

-- what the opening brackets of a header are, by whether they are two
abbrev pub header_open : Bool → EventKind
header_open is_array = if is_array then ArrayHeaderOpen else HeaderOpen

-- a header that begins at this byte
abbrev pub header_events : ℕ → Header → List Event
header_events start h =
    let brackets = start + length h.leading in
    let before = brackets + length (opening_brackets h.is_array) in
    let key = before + length h.opening in
    let after = key + length (path_text h.path) in
    let close = after + length h.closing in
    event Leading start h.leading
    ∷ event (header_open h.is_array) brackets (opening_brackets h.is_array)
    ∷ event BeforeKey before h.opening
    ∷ path_events key h.path
    ++ (event AfterKey after h.closing
    ∷ event HeaderClose close (closing_brackets h.is_array)
    ∷ event LineEnd (close + length (closing_brackets h.is_array)) h.trailing
    ∷ [])

abbrev pub statement_events : ℕ → Statement → List Event
statement_events start (key_line f v end) = line_events start f v
statement_events start (header h end) = header_events start h

abbrev pub events_from : ℕ → List Statement → List Event
events_from start [] = []
events_from start (s ∷ rest) =
    statement_events start s ++ events_from (start + length (statement_text s)) rest

-- all parts but newlines and a mark at the start, in the order of the text
abbrev pub events_of : Document → List Event
events_of d =
    events_from (length (mark_text d.has_mark)) d.statements
    ++ event Final (length (document_text d) - length d.final) d.final ∷ []

-- the span lies in the text, on the boundaries of characters
pub record IsSpanOf (t : Text) (s : Span) : Type 0 where
  pub start : IsCharBoundary t s.start
  pub end : IsCharBoundary t s.end
  pub order : s.start ≤ s.end

-- more arrays and inline tables are nested in the value than may be
abbrev pub exceeds_depth : Value → Bool
exceeds_depth v = nat_lt nesting_limit (depth v)

abbrev pub has_deep_value : Statement → Bool
has_deep_value (key_line f v end) = exceeds_depth v
has_deep_value (header h end) = false

abbrev pub is_closing_bracket : ℕ → Bool
is_closing_bracket c = c == 0x5D || c == 0x7D

-- More arrays and inline tables are open in one another, in a front of the text in which nothing is
-- outside the grammar, than may be: closing brackets alone make that front a text of the grammar,
-- with a value that is too deep.
pub record OpensTooMany (t : Text) : Type 0 where
  pub front : Text
  pub behind_it : Text
  pub closing : Text
  pub document : Document
  pub parts : t ≡ front ++ behind_it
  pub closes : Each is_closing_bracket closing
  pub cut : IsCut document (front ++ closing)
  pub deep : list_any has_deep_value document.statements ≡ true
