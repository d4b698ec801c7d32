-- The two versions of the grammar. A part is *late* if TOML 1.1.0 has it and TOML 1.0.0 doesn't:
-- the escapes `\e` and `\xHH` ("String"), a time without seconds ("Offset Date-Time" to "Local
-- Time"), and in an inline table a newline, a comment or a comma after the last pair ("Inline
-- Table").
use Rattle.std.specs.Prelude.{ℕ, suc, ◌+◌, ◌-◌, Bool, true, false, not, ◌&&◌, ◌||◌, ◌==◌, if◌then◌else◌, List, [], ◌∷◌, ◌++◌, length}
use Rattle.std.specs.Prelude.{Option, Some, None}
use Rattle.std.specs.List.{list_any}
use Rattle.toml_edit_model.specs.Text.{Text, line_feed, carriage_return, quote, hash, backslash}
use Rattle.toml_edit_model.specs.Scalars.{Time, Scalar, string, datetime}
use Rattle.toml_edit_model.specs.Syntax.{Segment, Value, scalar, array, inline_table, Elements, no_elements, element, Pairs, no_pairs, pair}
use Rattle.toml_edit_model.specs.Syntax.{Statement, key_line, header, value_text, frame_text, path_text, pairs_text, comma_text}
use Rattle.toml_edit_model.specs.Paths.{next_start, path_start}

pub data Version : Type 0 where
  v1_0 : Version
  v1_1 : Version

-- ---- which parts are late

-- an escape, by the byte after its backslash
abbrev pub is_late_escape : ℕ → Bool
is_late_escape c = c == 0x65 || c == 0x78

-- in a text in double quotes each backslash escapes the byte after it
abbrev pub has_late_escape : Text → Bool
has_late_escape [] = false
has_late_escape (c ∷ []) = false
has_late_escape (c ∷ d ∷ t) =
    if c == backslash then is_late_escape d || has_late_escape t else has_late_escape (d ∷ t)

-- a string or key that isn't in double quotes has no escapes
abbrev pub is_late_spelling : Text → Bool
is_late_spelling [] = false
is_late_spelling (c ∷ t) = c == quote && has_late_escape t

abbrev pub is_late_time : Option Time → Bool
is_late_time None = false
is_late_time (Some t) = has_no_second t.second
  where
    has_no_second : Option ℕ → Bool
    has_no_second None = true
    has_no_second (Some n) = false

abbrev pub is_late_scalar : Scalar → Text → Bool
is_late_scalar (string v) t = is_late_spelling t
is_late_scalar (datetime d) t = is_late_time d.time
is_late_scalar _ t = false

abbrev pub is_late_path : List Segment → Bool
is_late_path [] = false
is_late_path (s ∷ p) = is_late_spelling s.spelled || is_late_path p

-- a newline or a comment is in the trivia
abbrev pub is_late_byte : ℕ → Bool
is_late_byte c = c == line_feed || c == hash

abbrev pub is_late_trivia : Text → Bool
is_late_trivia t = list_any is_late_byte t

-- An inline table is late by its own trivia, its comma and what is in it; an array by its elements
-- alone.
abbrev mutual
  pub is_late_value : Value → Bool
  is_late_value (scalar s t) = is_late_scalar s t
  is_late_value (array es comma t) = are_late_elements es
  is_late_value (inline_table ps comma t) = (comma || is_late_trivia t) || are_late_pairs ps

  pub are_late_elements : Elements → Bool
  are_late_elements no_elements = false
  are_late_elements (element a v es) = is_late_value v || are_late_elements es

  pub are_late_pairs : Pairs → Bool
  are_late_pairs no_pairs = false
  are_late_pairs (pair f v ps) =
      ((is_late_trivia f.leading || is_late_trivia f.trailing) || is_late_path f.path)
      || (is_late_value v || are_late_pairs ps)

abbrev pub is_late_statement : Statement → Bool
is_late_statement (key_line f v end) = is_late_path f.path || is_late_value v
is_late_statement (header h end) = is_late_path h.path

-- the statement, or the value, is one of the version
abbrev pub is_of_version : Version → Statement → Bool
is_of_version v1_0 s = not (is_late_statement s)
is_of_version v1_1 s = true

abbrev pub is_value_of : Version → Value → Bool
is_value_of v1_0 v = not (is_late_value v)
is_value_of v1_1 v = true

-- ---- where they are: each late part with the byte where it begins and its size

abbrev pub Place : Type 0
Place = ℕ × ℕ

-- `\e` or `\xHH`
abbrev pub escape_size : ℕ → ℕ
escape_size c = if c == 0x65 then 2 else 4

abbrev pub late_escapes : ℕ → Text → List Place
late_escapes i [] = []
late_escapes i (c ∷ []) = []
late_escapes i (c ∷ d ∷ t) =
    if c == backslash then (if is_late_escape d then (i, escape_size d) ∷ [] else [])
    ++ late_escapes (i + 2) t
    else late_escapes (i + 1) (d ∷ t)

abbrev pub late_spelling : ℕ → Text → List Place
late_spelling i [] = []
late_spelling i (c ∷ t) = if c == quote then late_escapes (i + 1) t else []

abbrev pub late_scalar : Scalar → Text → ℕ → List Place
late_scalar (string v) t i = late_spelling i t
late_scalar (datetime d) t i = if is_late_time d.time then (i, length t) ∷ [] else []
late_scalar _ t i = []

abbrev pub late_path : ℕ → List Segment → List Place
late_path i [] = []
late_path i (s ∷ p) = late_spelling (i + length s.before) s.spelled ++ late_path (next_start i s) p

-- Newlines and comments of trivia: a comment goes from `#` up to its newline, and the CR before an
-- LF is the newline's. What is open before a byte: nothing, a comment that began at some byte, or a
-- newline by its CR.
pub data Reading : Type 0 where
  nothing_yet : Reading
  comment_from : ℕ → Reading
  return_at : ℕ → Reading

abbrev pub comment_to : ℕ → Reading → List Place
comment_to i (comment_from j) = (j, i - j) ∷ []
comment_to i _ = []

abbrev pub newline_to : ℕ → Reading → Place
newline_to i (return_at j) = (j, 2)
newline_to i _ = (i, 1)

abbrev pub hash_at : ℕ → Reading → Reading
hash_at i (comment_from j) = comment_from j
hash_at i _ = comment_from i

abbrev pub late_trivia : Reading → ℕ → Text → List Place
late_trivia r i [] = comment_to i r
late_trivia r i (c ∷ t) =
    if c == line_feed then comment_to i r ++ (newline_to i r ∷ late_trivia nothing_yet (suc i) t)
    else if c == carriage_return then comment_to i r ++ late_trivia (return_at i) (suc i) t
    else if c == hash then late_trivia (hash_at i r) (suc i) t
    else late_trivia r (suc i) t

abbrev pub late_comma : Bool → ℕ → List Place
late_comma comma i = if comma then (i, 1) ∷ [] else []

abbrev mutual
  pub late_value : Value → ℕ → List Place
  late_value (scalar s t) i = late_scalar s t i
  late_value (array es comma t) i = late_elements es (i + 1)
  late_value (inline_table ps comma t) i =
      late_pairs ps (i + 1)
      ++ (late_comma comma (i + 1 + length (pairs_text ps))
      ++ late_trivia nothing_yet (i + 1 + length (pairs_text ps) + length (comma_text comma)) t)

  pub late_elements : Elements → ℕ → List Place
  late_elements no_elements i = []
  late_elements (element a v es) i =
      late_value v (i + length a.before)
      ++ late_elements es (i + length a.before + length (value_text v) + length a.after + 1)

  pub late_pairs : Pairs → ℕ → List Place
  late_pairs no_pairs i = []
  late_pairs (pair f v ps) i =
      let value_at = i + length f.leading + length (path_text f.path) + length f.before_equals + 1
      + length f.after_equals in
      late_trivia nothing_yet i f.leading
      ++ (late_path (i + length f.leading) f.path
      ++ (late_value v value_at
      ++ (late_trivia nothing_yet (value_at + length (value_text v)) f.trailing
      ++ late_pairs ps (i + length (frame_text f (value_text v)) + 1))))

-- the late parts of a statement that begins at this byte
abbrev pub late_places : ℕ → Statement → List Place
late_places i (key_line f v end) =
    late_path (i + length f.leading) f.path
    ++ late_value v (i + length f.leading + length (path_text f.path) + length f.before_equals + 1
    + length f.after_equals)
late_places i (header h end) = late_path (i + path_start (header h end)) h.path
