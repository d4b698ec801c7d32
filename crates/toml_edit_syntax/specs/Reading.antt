-- Reading a text from left to right.
use Rattle.std.specs.Prelude.{ℕ, zero, suc, ◌+◌, ◌*◌, ◌-◌, Bool, ◌&&◌, ◌==◌, if◌then◌else◌, false, List, [], ◌∷◌, ◌++◌, length, take, drop}
use Rattle.std.specs.Prelude.{slice_index, Option, Some, None, option_map, option_and_then}
use Rattle.toml_edit_model.specs.Text.{Text}
use Rattle.toml_edit_model.specs.Trivia.{is_blank}
use Rattle.toml_edit_model.specs.Syntax.{Segment, Value, Statement, key_line, header, Document, mark_text}
use Rattle.toml_edit_syntax.specs.declared.event.EventKind.TheVariants.{Final}
use Rattle.toml_edit_syntax.specs.declared.event.Event.{Event}
use Rattle.toml_edit_laws.specs.reading.Runs.{first, split_while, Read}
use Rattle.toml_edit_syntax.specs.Scanning.{front, scan, line_end_rest, newline_rest, opening_at, closing_rest}
use Rattle.toml_edit_syntax.specs.ValueEvents.{event, frame_events, value_events}
use Rattle.toml_edit_syntax.specs.ValueReading.{Reading, got, deep, wrong, follow, changed, behind, reading, path_at, frame_at, value_from}
use Rattle.toml_edit_syntax.specs.Events.{statement_events, events_from, events_of}

-- ---- statements

-- what follows a value in its line, or the brackets of a header, and the newline
abbrev pub end_at : Text → Read (Text × Text)
end_at t =
    option_map (λ rest. ((front t (line_end_rest t), front (line_end_rest t) rest), rest))
    (newline_rest (line_end_rest t))

-- The rest of a key line after its trivia, which begins at this byte, and whose value is inside so
-- many brackets: none in a document. Where more are open than may be, none is one too many.
unfoldable pub key_line_at : ℕ → ℕ → Text → Text → Reading Statement
key_line_at level at leading t =
    follow (frame_at leading t) (λ f value.
    let start = at + (length t + length leading) - length value in
    behind (frame_events at f)
    (follow (value_from (2 * length value + 2) level start value) (λ v after.
    changed (λ e. key_line (record f { trailing = e.0 }) v e.1) (reading (end_at after)))))

-- the white space before the closing brackets of a header, and what follows them with the newline
unfoldable pub header_end_at : Bool → Text → Read (Text × (Text × Text))
header_end_at is_array t =
    let white = split_while is_blank t in
    option_and_then (λ after. option_map (λ e. ((white.0, e.0), e.1)) (end_at after))
    (closing_rest is_array white.1)

-- a header with these parts
abbrev pub made_header : Text → Bool → Text → List Segment → Text × (Text × Text) → Statement
made_header leading is_array opening path e =
    header (record {
      leading = leading;
      is_array = is_array;
      opening = opening;
      path = path;
      closing = e.0;
      trailing = e.1.0;
    }) e.1.1

-- a header after its trivia
unfoldable pub header_at : Text → Text → Reading Statement
header_at leading t =
    let brackets = opening_at t in
    let white = split_while is_blank brackets.1 in
    follow (reading (path_at white.1))
    (λ path rest. changed (made_header leading brackets.0 white.0 path)
    (reading (header_end_at brackets.0 rest)))

-- a statement after its trivia
unfoldable pub statement_at : ℕ → ℕ → Text → Text → Reading Statement
statement_at level at leading t =
    if first t == 0x5B then header_at leading t else key_line_at level at leading t

-- the statements of a text of fewer than n, which begins at this byte, and its final trivia
unfoldable pub statements_at : ℕ → ℕ → ℕ → Text → Reading (List Statement)
statements_at zero level at t = wrong
statements_at (suc n) level at t =
    let len = (scan false t).0 in
    if length (drop len t) == 0 then got [] t
    else if (scan false t).1 then wrong
    else follow (statement_at level at (take len t) (drop len t)) (λ s rest.
    behind (statement_events at s)
    (changed (λ ss. s ∷ ss) (statements_at n level (at + (length t - length rest)) rest)))

abbrev pub is_marked : Text → Bool
is_marked t = (first t == 0xEF && slice_index t 1 == 0xBB) && slice_index t 2 == 0xBF

abbrev pub document : Bool → List Statement → Text → Document
document has_mark statements final = record {
  has_mark = has_mark;
  statements = statements;
  final = final;
}

-- the cut of a whole text
unfoldable pub cut_of : ℕ → Text → Reading Document
cut_of level t =
    follow (statements_at (suc (length t)) level (length (mark_text (is_marked t)))
    (if is_marked t then drop 3 t else t))
    (λ ss final. got (document (is_marked t) ss final) [])

-- ---- events

-- the parts of these statements, of which the first begins at this byte, and of the final trivia of
-- a text of so many bytes
abbrev pub events_with_final : ℕ → ℕ → List Statement → Text → List Event
events_with_final whole at ss final =
    events_from at ss ++ event Final (whole - length final) final ∷ []

-- the events of what reading gives: of all parts, or of those up to a bracket that is one too many
abbrev pub events_seen : {A : Type 0} → (A → Text → List Event) → Reading A → Option (List Event)
events_seen events (got a rest) = Some (events a rest)
events_seen events (deep es) = Some es
events_seen events wrong = None

-- the events of a whole text
abbrev pub text_read : Text → Option (List Event)
text_read t = events_seen (λ d _. events_of d) (cut_of 0 t)

-- ---- lone values

-- white space, a value, white space
unfoldable pub lone_at : Text → Reading Value
lone_at t =
    let white = split_while is_blank t in
    follow (value_from (2 * length white.1 + 2) 0 (length white.0) white.1)
    (λ v rest. if length (split_while is_blank rest).1 == 0 then got v rest else wrong)

-- the events of a lone value
abbrev pub lone_read : Text → Option (List Event)
lone_read t = events_seen (λ v _. value_events (length (split_while is_blank t).0) v) (lone_at t)
