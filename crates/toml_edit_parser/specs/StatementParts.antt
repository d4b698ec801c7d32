-- What reading the parts of a key line, or of a header, returns, by the events of the text.
use Rattle.std.specs.Prelude.{◌≡◌, ◌⊎◌, ℕ, ◌+◌, ◌==◌, if◌then◌else◌, List, [], ◌∷◌, ◌++◌, length, get_or, Result, Ok, Err}
use Rattle.std.specs.Borrow.{Bor}
use Rattle.toml_edit_model.specs.Mode.{Mode, plain, exact, with_return}
use Rattle.toml_edit_model.specs.Text.{Text, carriage_return}
use Rattle.toml_edit_model.specs.Trivia.{IsLineEnd, IsNewline}
use Rattle.toml_edit_model.specs.Scalars.{Scalar}
use Rattle.toml_edit_model.specs.Spelling.{Spells}
use Rattle.toml_edit_laws.specs.Standing.{Stands}
use Rattle.toml_edit_model.specs.Syntax as syntax
use Rattle.toml_edit_model.specs.Syntax.{Frame, Value, Header, Statement, IsFrame, IsHeader, IsValue, key_line, path_text, value_text}
use Rattle.toml_edit_model.specs.Syntax.{opening_brackets, closing_brackets, brackets_text, statement_text, newline_after}
use Rattle.toml_edit_model.specs.Faults.{own_faults, long_path, value_faults}
use Rattle.toml_edit_model.specs.Tree.{Node}
use Rattle.toml_edit_model.specs.TreeOf.{spanned_in, frame_leaf, header_leaf, value_start, IsValueNode}
use Rattle.toml_edit_error.specs.Fault.{IfToml}
use Rattle.toml_edit_error.specs.declared.toml_error.ParseFault.{ParseFault}
use Rattle.toml_edit_syntax.specs.declared.event.Event.{Event}
use Rattle.toml_edit_syntax.specs.declared.event.EventKind.TheVariants.{BeforeKey, AfterKey, HeaderClose, LineEnd}
use Rattle.toml_edit_syntax.specs.declared.event.Span.{Span}
use Rattle.toml_edit_syntax.specs.ValueEvents.{event, path_events, value_at_byte, value_events, shortened}
use Rattle.toml_edit_parser.specs.declared.key.KeyPath.{KeyPath}
use Rattle.toml_edit_parser.specs.declared.document.parts.HeaderSpans.{HeaderSpans}
use Rattle.toml_edit_parser.specs.declared.reader.Reader.{Reader}
use Rattle.toml_edit_repr.specs.Modes.{mode_of}
use Rattle.toml_edit_parser.specs.PairRead.{key_events}
use Rattle.toml_edit_parser.specs.PathRead.{IsPathFrom}
use Rattle.toml_edit_parser.specs.ValueRead.{NamesOne, span_at}

-- ---- how a statement ends

-- The statement, which begins at this byte, ends in a newline or with the text.
abbrev pub IsEnded : Text → ℕ → Statement → Type 0
IsEnded t start s =
    IsNewline (newline_after s)
    ⊎ ((newline_after s ≡ []) × (length t ≡ start + length (statement_text s)))

-- The span of the suffix of a statement, from that of the text before its newline: in exact mode,
-- the CR of the newline is the suffix's too.
abbrev pub suffix_span : Mode → Text → Span → Span
suffix_span plain t s = s
suffix_span exact t s =
    if get_or t s.end 0 == carriage_return then record { start = s.start; end = s.end + 1 } else s

-- ---- a key line

-- the events of a key line after the text before it, and those after the line
abbrev pub line_behind : ℕ → Frame → Value → List Event → List Event
line_behind start f v more =
    key_events start f
    ++ (value_events (value_at_byte start f) v
    ++ (event LineEnd (value_at_byte start f + length (value_text v)) f.trailing ∷ more))

-- A fact for where the events begin with those of this key line, after the text at this span.
abbrev pub IfKeyLineNext : Text → Span → List Event → Frame → Value → Text → ℕ → List Event
    → Type 0 → Type 0
IfKeyLineNext t leading es f v end start more P =
    IsFrame IsLineEnd f → IsValue v
    → Stands t start (statement_text (key_line f v end))
    → IsEnded t start (key_line f v end)
    → leading ≡ span_at start f.leading → es ≡ shortened 0 (line_behind start f v more) → P

-- And with that of the text after a value at the end of a line, where the value is a scalar at this
-- span, and the statement's suffix is `suffix`.
abbrev pub IfLineScalarNext : Reader → Span → List Event → Scalar → Text → ℕ → Text → Text
    → List Event → Type 0 → Type 0
IfLineScalarNext reader at es s t start after suffix more P =
    Spells s t → Stands reader.source.now start t
    → at ≡ span_at start t
    → es ≡ shortened 0 (event LineEnd (start + length t) after ∷ more)
    → suffix_span (mode_of reader.mode) reader.source.now (span_at (start + length t) after)
    ≡ span_at (start + length t) suffix
    → P

-- ---- a header

-- the events of a header after its opening brackets, and those after the header
abbrev pub header_behind : ℕ → Header → List Event → List Event
header_behind start h more =
    let before = start + length h.leading + length (opening_brackets h.is_array) in
    let key = before + length h.opening in
    let after = key + length (path_text h.path) in
    let close = after + length h.closing in
    event BeforeKey before h.opening
    ∷ path_events key h.path
    ++ (event AfterKey after h.closing
    ∷ event HeaderClose close (closing_brackets h.is_array)
    ∷ event LineEnd (close + length (closing_brackets h.is_array)) h.trailing
    ∷ more)

-- A fact for where the events begin with those of this header, after its opening brackets.
abbrev pub IfHeaderNext : Text → List Event → Header → Text → ℕ → List Event → Type 0 → Type 0
IfHeaderNext t es h end start more P =
    IsHeader h
    → Stands t start (statement_text (syntax.header h end))
    → IsEnded t start (syntax.header h end)
    → es ≡ shortened 0 (header_behind start h more) → P

-- ---- in a mode

module _ (mode : Mode) where
  -- The key line has no fault of its own; this is the item of its value, and this its path.
  pub record IsLineRead (f : Frame) (v : Value) (end : Text) (start : ℕ) (more : List Event)
      (n : Node) (path : KeyPath) (rest : List Event) : Type 0 where
    pub faultless : own_faults start (key_line f v end) ≡ []
    pub node : IsValueNode (spanned_in mode) v
        (start + value_start (spanned_in mode) f) f.after_equals (with_return mode f.trailing end) n
    pub path_is : IsPathFrom (frame_leaf (spanned_in mode) start f)
        (start + length f.leading) f.path path
    pub rest_is : rest ≡ shortened 0 more

  abbrev pub ReadsLineParts : Text → Frame → Value → Text → ℕ → List Event → Node
      → Result (KeyPath × Bor (List Event)) ParseFault → Type 0
  ReadsLineParts t f v end start more n (Ok r) = IsLineRead f v end start more n r.0 r.1.now
  ReadsLineParts t f v end start more n (Err e) =
      IfToml e (NamesOne t (own_faults start (key_line f v end)))

  -- Its value has no fault; this is its item, between the text at this span and that text after it.
  pub record IsLineValue (v : Value) (start : ℕ) (before : Span) (after : Text) (more : List Event)
      (n : Node) (rest : List Event) : Type 0 where
    pub faultless : value_faults v start 0 ≡ []
    pub node : (i : ℕ) (b : Text) → start ≡ i + length b → before ≡ span_at i b
        → IsValueNode (spanned_in mode) v i b after n
    pub rest_is : rest ≡ shortened 0 more

  abbrev pub ReadsLineValue : Text → Value → ℕ → Span → Text → List Event → Node
      → Result (Bor (List Event)) ParseFault → Type 0
  ReadsLineValue t v start before after more n (Ok r) =
      IsLineValue v start before after more n r.now
  ReadsLineValue t v start before after more n (Err e) =
      IfToml e (NamesOne t (value_faults v start 0))

  -- The path of the header is short, and this; and here its brackets end, and its suffix is.
  pub record IsHeaderRead (h : Header) (end : Text) (start : ℕ) (more : List Event)
      (parts : HeaderSpans) (rest : List Event) : Type 0 where
    pub short : long_path h.path ≡ []
    pub path_is : IsPathFrom
        (header_leaf (spanned_in mode)
        (start + length h.leading + length (opening_brackets h.is_array)) h)
        (start + length h.leading + length (opening_brackets h.is_array)
        + length h.opening) h.path parts.path
    pub end_is : parts.end ≡ start + length h.leading + length (brackets_text h)
    pub trailing : parts.trailing
        ≡ span_at (start + length h.leading + length (brackets_text h))
        (with_return mode h.trailing end)
    pub rest_is : rest ≡ shortened 0 more

  abbrev pub ReadsHeader : Text → Header → Text → ℕ → List Event
      → Result (HeaderSpans × Bor (List Event)) ParseFault → Type 0
  ReadsHeader t h end start more (Ok r) = IsHeaderRead h end start more r.0 r.1.now
  ReadsHeader t h end start more (Err e) = IfToml e (NamesOne t (long_path h.path))

-- ---- any value

-- What reading the value at the end of a line returns, whichever value the events begin with: it is
-- in the source, before the text `after`, and the statement's suffix is `suffix`.
abbrev pub ReadsAnyLineValue : Reader → Span → List Event → Node
    → Result (Bor (List Event)) ParseFault → Type 0
ReadsAnyLineValue reader before es n result =
    (v : Value) (start : ℕ) (after suffix : Text) (more : List Event)
    → IsValue v → Stands reader.source.now start (value_text v)
    → es ≡ shortened 0
    (value_events start v ++ (event LineEnd (start + length (value_text v)) after ∷ more))
    → suffix_span (mode_of reader.mode) reader.source.now
    (span_at (start + length (value_text v)) after)
    ≡ span_at (start + length (value_text v)) suffix
    → ReadsLineValue (mode_of reader.mode) reader.source.now v start before suffix more n result
