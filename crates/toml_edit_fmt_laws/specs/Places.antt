-- The places of a document: which rules are about each, and what stays there.
use Rattle.std.specs.Prelude.{◌≡◌, ℕ, Bool, true, false, not, ◌&&◌, List, [], ◌∷◌, ◌++◌, codes, filter, flat_map, map, Option, None, is_none}
use Rattle.std.specs.List.{list_all}
use Rattle.toml_edit_model.specs.Comments.{lines, words}
use Rattle.toml_edit_model.specs.Syntax.{Segment, Frame, Value, scalar, array, inline_table, Elements, no_elements, element, Pairs}
use Rattle.toml_edit_model.specs.Syntax.{no_pairs, pair, Header, Statement, key_line, header, Document, IsDocument, IsValue, has_elements, has_pairs}
use Rattle.toml_edit_model.specs.Syntax.{comma_text, opening_brackets, closing_brackets, mark_text, document_text}
use Rattle.toml_edit_model.specs.Text.{Text, one, joined}
use Rattle.toml_edit_model.specs.Paths.{Path}
use Rattle.toml_edit_fmt_laws.specs.Rules.{Rules, Indentation, as_it_is, flush, by_depth, Comments, as_they_are, apart, aligned, Arrays, arrays_stay, kept, collapsed}
use Rattle.toml_edit_fmt_laws.specs.Laying.{is_broken, is_empty_line}
use Rattle.toml_edit_fmt_laws.specs.Formatted.{laid_value, laid_document}

-- ---- the texts of a document, each with its place

pub data Place : Type 0 where
  -- brackets, braces, `=`, dots, the commas between values, and the byte order mark
  punctuation : Place
  -- a simple key, and a value that is no array or inline table
  key_spelling : Place
  value_spelling : Place
  -- on both sides of `=`
  at_equals : Place
  -- on both sides of a dot, and inside the brackets of a header
  at_dots : Place
  -- before a line or header, and at the end of the text
  before_statements : Place
  -- after a line or header, up to its newline
  after_statements : Place
  line_ends : Place
  -- around the values of an array, with the comma that ends it
  in_arrays : Place
  in_inline_tables : Place

pub record PlacedText : Type 0 where
  pub place : Place
  pub text : Text

abbrev pub placed : Place → Text → List PlacedText
placed p t = one (record { place = p; text = t })

abbrev pub segment_texts : Segment → List PlacedText
segment_texts s = placed at_dots s.before ++ (placed key_spelling s.spelled ++ placed at_dots s.after)

abbrev pub path_texts : List Segment → List PlacedText
path_texts [] = []
path_texts (s ∷ []) = segment_texts s
path_texts (s ∷ r ∷ rest) = segment_texts s ++ (placed punctuation (codes ".") ++ path_texts (r ∷ rest))

-- a pair, where the value has these, and what is around it is at these places
abbrev pub frame_texts : Place → Place → Frame → List PlacedText → List PlacedText
frame_texts before after f value =
    placed before f.leading ++ (path_texts f.path
    ++ (placed at_equals f.before_equals ++ (placed punctuation (codes "=")
    ++ (placed at_equals f.after_equals ++ (value ++ placed after f.trailing)))))

abbrev mutual
  pub value_texts : Value → List PlacedText
  value_texts (scalar s t) = placed value_spelling t
  value_texts (array es comma t) =
      placed punctuation (codes "[") ++ (elements_texts es
      ++ (placed in_arrays (comma_text comma) ++ (placed in_arrays t ++ placed punctuation (codes "]"))))
  value_texts (inline_table ps comma t) =
      placed punctuation (codes "{") ++ (pairs_texts ps
      ++ (placed in_inline_tables (comma_text comma) ++ (placed in_inline_tables t ++ placed punctuation (codes "}"))))

  pub elements_texts : Elements → List PlacedText
  elements_texts no_elements = []
  elements_texts (element a v es) =
      placed in_arrays a.before ++ (value_texts v
      ++ (placed in_arrays a.after ++ (placed punctuation (comma_text (has_elements es)) ++ elements_texts es)))

  pub pairs_texts : Pairs → List PlacedText
  pairs_texts no_pairs = []
  pairs_texts (pair f v ps) =
      frame_texts in_inline_tables in_inline_tables f (value_texts v)
      ++ (placed punctuation (comma_text (has_pairs ps)) ++ pairs_texts ps)

abbrev pub brackets_texts : Header → List PlacedText
brackets_texts h =
    placed punctuation (opening_brackets h.is_array)
    ++ (placed at_dots h.opening ++ (path_texts h.path
    ++ (placed at_dots h.closing ++ placed punctuation (closing_brackets h.is_array))))

abbrev pub statement_texts : Statement → List PlacedText
statement_texts (key_line f v end) = frame_texts before_statements after_statements f (value_texts v) ++ placed line_ends end
statement_texts (header h end) =
    placed before_statements h.leading ++ (brackets_texts h ++ (placed after_statements h.trailing ++ placed line_ends end))

abbrev pub placed_texts : Document → List PlacedText
placed_texts d =
    placed punctuation (mark_text d.has_mark)
    ++ (flat_map statement_texts d.statements ++ placed before_statements d.final)

-- They are the text.
abbrev pub PlacedTextsAreAll : Type 0
PlacedTextsAreAll = (d : Document) → joined (map (λ p. p.text) (placed_texts d)) ≡ document_text d

-- those at places that pass the test
abbrev pub texts_at : (Place → Bool) → Document → List PlacedText
texts_at test d = filter (λ p. test p.place) (placed_texts d)

-- ---- what stays

abbrev pub lines_stay : Indentation → Bool
lines_stay as_it_is = true
lines_stay flush = false
lines_stay by_depth = false

abbrev pub comments_stay : Comments → Bool
comments_stay as_they_are = true
comments_stay (apart n) = false
comments_stay (aligned n) = false

abbrev pub do_arrays_stay : Arrays → Bool
do_arrays_stay arrays_stay = true
do_arrays_stay kept = false
do_arrays_stay collapsed = false

-- No rule that is asked for is about the place.
abbrev pub is_left : Rules → Place → Bool
is_left r punctuation = true
is_left r key_spelling = not r.keys
is_left r value_spelling = true
is_left r at_equals = not r.equals
is_left r at_dots = not r.dots
is_left r before_statements = is_none r.blank_lines && lines_stay r.indentation
is_left r after_statements = comments_stay r.comments
is_left r line_ends = true
is_left r in_arrays = do_arrays_stay r.arrays
is_left r in_inline_tables = not r.inline_tables

abbrev pub is_key_spelling : Place → Bool
is_key_spelling key_spelling = true
is_key_spelling _ = false

abbrev pub is_value_spelling : Place → Bool
is_value_spelling value_spelling = true
is_value_spelling _ = false

abbrev pub is_before_statements : Place → Bool
is_before_statements before_statements = true
is_before_statements _ = false

abbrev pub key_spellings : Document → List Text
key_spellings d = map (λ p. p.text) (texts_at is_key_spelling d)

abbrev pub value_spellings : Document → List Text
value_spellings d = map (λ p. p.text) (texts_at is_value_spelling d)

-- before each statement, and at the end of the text
abbrev pub leading_texts : Document → List Text
leading_texts d = map (λ p. p.text) (texts_at is_before_statements d)

-- the lines without the white space that begins each, and those that are not empty
abbrev pub unindented : Text → Text
unindented t = flat_map words (lines t)

abbrev pub full_lines : Text → List Text
full_lines t = filter (λ l. not (is_empty_line l)) (lines t)

-- What the rules leave of a document.
pub record KeepsPlaces (r : Rules) (old new : Document) : Type 0 where
  -- values are spelled as they were, whatever the rules, and keys unless they are to be bare
  pub values : value_spellings new ≡ value_spellings old
  pub keys : r.keys ≡ false → key_spellings new ≡ key_spellings old
  -- the texts stay that no rule asked for is about
  pub places : texts_at (is_left r) new ≡ texts_at (is_left r) old
  -- without a rule for empty lines no line before a statement or at the end comes or goes
  pub lines : r.blank_lines ≡ None → map unindented (leading_texts new) ≡ map unindented (leading_texts old)
  -- without indentation each line that is not empty keeps its white space
  pub white_space : r.indentation ≡ as_it_is → map full_lines (leading_texts new) ≡ map full_lines (leading_texts old)

-- So it is of a formatted document.
abbrev pub FormattedKeepsPlaces : Type 0
FormattedKeepsPlaces =
    (r : Rules) (pad : ℕ → Path → ℕ) (d : Document) → IsDocument d → KeepsPlaces r d (laid_document r pad d)

-- ---- lines of values

abbrev pub is_inside : Place → Bool
is_inside in_arrays = true
is_inside in_inline_tables = true
is_inside _ = false

-- No line ends between the brackets of the value.
abbrev pub is_on_one_line : Value → Bool
is_on_one_line v = list_all (λ p. not (is_inside p.place && is_broken p.text)) (value_texts v)

-- It stays so where there is no greatest width.
abbrev pub StaysOnOneLine : Type 0
StaysOnOneLine =
    (r : Rules) → r.width ≡ None → (pad : Path → ℕ) (p : Path) (depth : ℕ) (room : Option ℕ) (v : Value)
    → IsValue v → is_on_one_line v ≡ true → is_on_one_line (laid_value r pad p depth room v) ≡ true
