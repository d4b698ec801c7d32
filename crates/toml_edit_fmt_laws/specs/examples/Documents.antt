-- Worked documents, laid out, with their comments, and groups in order.
use Rattle.std.specs.Prelude.{◌≡◌, ◌==◌, if◌then◌else◌, refl, pos, true, false, List, [], ◌∷◌, ◌++◌, codes, Some, None}
use Rattle.std.specs.Str.{chars}
use Rattle.unicode_width.specs.Width.{str_width, step, past_emoji}
use Rattle.toml_edit_model.specs.Mode.{plain}
use Rattle.toml_edit_model.specs.Scalars.{integer}
use Rattle.toml_edit_model.specs.Settled.{is_settled_in}
use Rattle.toml_edit_model.specs.Syntax.{Segment, Value, scalar, array, inline_table, Elements, no_elements, element, no_pairs, pair}
use Rattle.toml_edit_model.specs.Syntax.{Statement, key_line, header, Document, document_text}
use Rattle.toml_edit_model.specs.Text.{Text, newline}
use Rattle.toml_edit_fmt_laws.specs.Rules.{Rules, default_rules, by_depth, aligned, collapsed, commas_stay, never}
use Rattle.toml_edit_model.specs.Paths.{Path, at_element}
use Rattle.toml_edit_fmt_laws.specs.Formatted.{laid_document}
use Rattle.toml_edit_fmt_laws.specs.Aligned.{formatted}
use Rattle.toml_edit_fmt_laws.specs.Remarks.{Remark, Side, ahead, behind, opening, closing, spot, remarks}
use Rattle.toml_edit_fmt_laws.specs.Sorted.{sorted}

-- ---- parts

abbrev named : Text → Segment
named k = record { before = []; key = k; spelled = k; after = [] }

-- `k=` and the value, after this text and before that one
abbrev line : Text → Text → Value → Text → Statement
line leading k v trailing =
    key_line (record {
      leading = leading;
      path = named k ∷ [];
      before_equals = [];
      after_equals = [];
      trailing = trailing;
    }) v newline

abbrev table : Text → Text → Text → Statement
table leading k trailing =
    header (record {
      leading = leading;
      is_array = false;
      opening = [];
      path = named k ∷ [];
      closing = [];
      trailing = trailing;
    }) newline

abbrev document : List Statement → Text → Document
document ss final = record { has_mark = false; statements = ss; final = final }

abbrev one_value : Value
one_value = scalar (integer (pos 1)) (codes "1")

abbrev one_more : Text → Text → Elements → Elements
one_more before after es = element (record { before = before; after = after }) one_value es

abbrev text_of : Rules → List Statement → Text → Text
text_of r ss final = document_text (formatted r (document ss final))

-- ---- lines and headers

abbrev small : List Statement
small =
    line (codes "\n\n# top\n\n\n") (codes "a") one_value (codes "   # one")
    ∷ table [] (codes "t") []
    ∷ line (codes "  # b\n ") (codes "b") one_value (codes " ") ∷ []

usual : text_of default_rules small (codes "\n# end\n\n")
    ≡ codes "# top\n\na = 1 # one\n\n[t]\n# b\nb = 1\n\n# end\n"
usual = refl

in_by_depth : text_of (record default_rules { indentation = by_depth }) small []
    ≡ codes "# top\n\na = 1 # one\n\n[t]\n  # b\n  b = 1\n"
in_by_depth = refl

two_empty_lines : text_of (record default_rules { blank_lines = Some 2 }) small []
    ≡ codes "# top\n\n\na = 1 # one\n\n[t]\n# b\nb = 1\n"
two_empty_lines = refl

no_empty_lines : text_of (record default_rules { blank_lines = Some 0 }) small []
    ≡ codes "# top\na = 1 # one\n[t]\n# b\nb = 1\n"
no_empty_lines = refl

-- a comment between a line and a header touches both
touching : text_of default_rules (line [] (codes "a") one_value [] ∷ table (codes "# b\n") (codes "t") [] ∷ []) []
    ≡ codes "a = 1\n# b\n[t]\n"
touching = refl

-- a comment after a header is moved as others are
after_header : text_of default_rules (table [] (codes "t") (codes "# t") ∷ []) [] ≡ codes "[t] # t\n"
after_header = refl

-- ---- keys

-- a line whose key is in quotes
abbrev quoted : Text → Statement
quoted k =
    key_line (record {
      leading = [];
      path = record { before = []; key = k; spelled = codes "'" ++ (k ++ codes "'"); after = [] } ∷ [];
      before_equals = [];
      after_equals = [];
      trailing = [];
    }) one_value newline

keys_stay : text_of default_rules (quoted (codes "a") ∷ []) [] ≡ codes "'a' = 1\n"
keys_stay = refl

bare_keys : text_of (record default_rules { keys = true }) (quoted (codes "a") ∷ quoted (codes "a b") ∷ []) []
    ≡ codes "a = 1\n'a b' = 1\n"
bare_keys = refl

-- ---- statements that stay

abbrev partly : List Statement
partly =
    line [] (codes "a") one_value []
    ∷ line (codes "  # fmt: off\n\n\n") (codes "b") one_value []
    ∷ line [] (codes "c") one_value []
    ∷ line (codes "\n\n # fmt: on\n") (codes "d") one_value [] ∷ []

off : text_of default_rules partly []
    ≡ codes "a = 1\n  # fmt: off\n\n\nb=1\nc=1\n\n# fmt: on\nd = 1\n"
off = refl

not_off : text_of (record default_rules { left_alone = false }) partly []
    ≡ codes "a = 1\n# fmt: off\n\nb = 1\nc = 1\n\n# fmt: on\nd = 1\n"
not_off = refl

generated : text_of default_rules (line (codes "# This is @generated.\n\n\n") (codes "a") one_value [] ∷ []) (codes "\n")
    ≡ codes "# This is @generated.\n\n\na=1\n\n"
generated = refl

-- below a statement a comment says nothing of the text
not_generated : text_of default_rules (line [] (codes "a") one_value [] ∷ line (codes "# @generated\n") (codes "b") one_value [] ∷ []) []
    ≡ codes "a = 1\n# @generated\nb = 1\n"
not_generated = refl

-- `a . k` with white space at its dot
abbrev loose : Text → Text → Statement
loose leading k =
    key_line (record {
      leading = leading;
      path = record { before = []; key = codes "a"; spelled = codes "a"; after = codes " " }
          ∷ record { before = codes " "; key = k; spelled = k; after = [] } ∷ [];
      before_equals = [];
      after_equals = [];
      trailing = [];
    }) one_value newline

-- The statement that stays has another spelling of the table than the other one, which a tree does not
-- keep.
abbrev partly_loose : Document
partly_loose = document (loose (codes "# fmt: off\n") (codes "b") ∷ loose (codes "# fmt: on\n") (codes "c") ∷ []) []

partly_laid : document_text (formatted default_rules partly_loose) ≡ codes "# fmt: off\na . b=1\n# fmt: on\na.c = 1\n"
partly_laid = refl

settled_before : is_settled_in plain partly_loose ≡ true
settled_before = refl

unsettled_after : is_settled_in plain (formatted default_rules partly_loose) ≡ false
unsettled_after = refl

-- ---- arrays

abbrev of_array : Value → List Statement
of_array v = line [] (codes "a") v [] ∷ []

-- `[ 1,1 ]`
abbrev flat : Value
flat = array (one_more (codes " ") [] (one_more [] (codes " ") no_elements)) false []

-- with no greatest width
abbrev wide : Rules
wide = record default_rules { width = None }

on_one_line : text_of wide (of_array flat) [] ≡ codes "a = [1, 1]\n"
on_one_line = refl

spaced_brackets : text_of (record wide { bracket_space = true }) (of_array flat) [] ≡ codes "a = [ 1, 1 ]\n"
spaced_brackets = refl

comma_goes : text_of wide (of_array (array (one_more [] [] no_elements) true [])) [] ≡ codes "a = [1]\n"
comma_goes = refl

-- with nothing inside
abbrev empty : Text → Value
empty t = array no_elements false t

newline_goes : text_of (record default_rules { bracket_space = true }) (of_array (empty newline)) [] ≡ codes "a = []\n"
newline_goes = refl

comment_inside : text_of default_rules (of_array (empty (codes "# in\n"))) [] ≡ codes "a = [ # in\n]\n"
comment_inside = refl

-- `[1, # one` and `1 ]`
abbrev broken : Value
broken = array (one_more [] [] (one_more (codes " # one\n") (codes " ") no_elements)) false []

line_by_line : text_of default_rules (of_array broken) [] ≡ codes "a = [\n  1, # one\n  1,\n]\n"
line_by_line = refl

newline_before_bracket : text_of default_rules (of_array (array (one_more [] [] no_elements) true newline)) [] ≡ codes "a = [\n  1,\n]\n"
newline_before_bracket = refl

without_comma : text_of (record default_rules { commas = never }) (of_array broken) []
    ≡ codes "a = [\n  1, # one\n  1\n]\n"
without_comma = refl

-- a comma that a comment is before stays
abbrev comma_after_comment : Value
comma_after_comment = array (one_more [] (codes "# one\n") no_elements) true []

comma_stays : text_of (record default_rules { commas = never }) (of_array comma_after_comment) []
    ≡ codes "a = [\n  1 # one\n  ,\n]\n"
comma_stays = refl

commas_as_they_are : text_of (record default_rules { commas = commas_stay }) (of_array broken) []
    ≡ codes "a = [\n  1, # one\n  1\n]\n"
commas_as_they_are = refl

-- two lines, of which the first has two
abbrev rows : Value
rows = array (one_more (codes "\n") [] (one_more [] [] (one_more (codes "\n") [] no_elements))) false []

in_rows : text_of wide (of_array rows) [] ≡ codes "a = [\n  1, 1,\n  1,\n]\n"
in_rows = refl

not_in_rows : text_of (record default_rules { rows = false }) (of_array rows) [] ≡ codes "a = [\n  1,\n  1,\n  1,\n]\n"
not_in_rows = refl

on_one_line_again : text_of (record wide { arrays = collapsed }) (of_array rows) [] ≡ codes "a = [1, 1, 1]\n"
on_one_line_again = refl

comment_stays_below : text_of (record default_rules { arrays = collapsed }) (of_array (array (one_more [] (codes "# one\n") no_elements) false [])) []
    ≡ codes "a = [\n  1, # one\n]\n"
comment_stays_below = refl

-- `b=1` in braces
abbrev braced : Text → Text → Value
braced before after =
    inline_table (pair (record {
      leading = before;
      path = named (codes "b") ∷ [];
      before_equals = [];
      after_equals = [];
      trailing = after;
    }) one_value no_pairs) false []

spaced_braces : text_of wide (of_array (braced [] [])) [] ≡ codes "a = { b = 1 }\n"
spaced_braces = refl

braces_without_space : text_of (record wide { brace_space = false }) (of_array (braced (codes " ") [])) [] ≡ codes "a = {b = 1}\n"
braces_without_space = refl

broken_braces : text_of default_rules (of_array (braced [] (codes " # one\n"))) [] ≡ codes "a = {\n  b = 1, # one\n}\n"
broken_braces = refl

-- ---- widths

-- `a = [1, 1]` takes ten columns
fits : text_of (record default_rules { width = Some 10 }) (of_array flat) [] ≡ codes "a = [1, 1]\n"
unfolding chars str_width step past_emoji
fits = refl

too_wide : text_of (record default_rules { width = Some 9 }) (of_array flat) [] ≡ codes "a = [\n  1,\n  1,\n]\n"
unfolding chars str_width step past_emoji
too_wide = refl

-- `a = [{ b = 1 }]` takes fifteen
abbrev of_braces : Value
of_braces = array (element (record { before = []; after = [] }) (braced [] []) no_elements) false []

braces_fit : text_of (record default_rules { width = Some 15 }) (of_array of_braces) [] ≡ codes "a = [{ b = 1 }]\n"
unfolding chars str_width step past_emoji
braces_fit = refl

braces_too_wide : text_of (record default_rules { width = Some 14 }) (of_array of_braces) [] ≡ codes "a = [\n  { b = 1 },\n]\n"
unfolding chars str_width step past_emoji
braces_too_wide = refl

-- the first row takes seven
rows_fit : text_of (record default_rules { width = Some 7 }) (of_array rows) [] ≡ codes "a = [\n  1, 1,\n  1,\n]\n"
unfolding chars str_width step past_emoji
rows_fit = refl

rows_too_wide : text_of (record default_rules { width = Some 6 }) (of_array rows) [] ≡ codes "a = [\n  1,\n  1,\n  1,\n]\n"
unfolding chars str_width step past_emoji
rows_too_wide = refl

-- ---- comments in one column

abbrev commented : List Statement
commented =
    line [] (codes "a") one_value (codes "# one")
    ∷ line [] (codes "long") one_value (codes " # two")
    ∷ line [] (codes "b") broken (codes "# three") ∷ []

abbrev in_columns : Rules
in_columns = record default_rules { comments = aligned 2 }

-- five spaces are before the first, two before the others
in_one_column : document_text (laid_document in_columns (λ n p. if n == 0 then 5 else 2) (document commented []))
    ≡ codes "a = 1     # one\nlong = 1  # two\nb = [\n  1,  # one\n  1,\n]  # three\n"
in_one_column = refl

lines_in_one_column : text_of in_columns commented []
    ≡ codes "a = 1     # one\nlong = 1  # two\nb = [\n  1,  # one\n  1,\n]  # three\n"
unfolding chars str_width step past_emoji
lines_in_one_column = refl

-- an empty line or a header ends a column, and so does a line without a comment
abbrev apart_lines : List Statement
apart_lines =
    line [] (codes "a") one_value (codes "# one")
    ∷ line newline (codes "long") one_value (codes "# two")
    ∷ line [] (codes "b") one_value []
    ∷ line [] (codes "c") one_value (codes "# three")
    ∷ table [] (codes "t") (codes "# t")
    ∷ line [] (codes "longer") one_value (codes "# four") ∷ []

columns_end : text_of in_columns apart_lines []
    ≡ codes "a = 1  # one\n\nlong = 1  # two\nb = 1\nc = 1  # three\n\n[t]  # t\nlonger = 1  # four\n"
unfolding chars str_width step past_emoji
columns_end = refl

-- `[1, # one`, `1,1, # two` and `1 # three`
abbrev uneven : Value
uneven =
    array (one_more newline [] (one_more (codes "# one\n") [] (one_more [] [] (one_more (codes "# two\n") (codes "# three\n") no_elements)))) false []

elements_in_one_column : text_of in_columns (line [] (codes "a") uneven (codes "# end") ∷ []) []
    ≡ codes "a = [\n  1,     # one\n  1, 1,  # two\n  1,     # three\n]  # end\n"
unfolding chars str_width step past_emoji
elements_in_one_column = refl

-- ---- comments, with what they belong to

abbrev at : Text → Side → Path → Remark
at body side p = record { statement = 0; spot = spot side p; body = body }

-- of the line, after the opening bracket, of the element, before the closing bracket, of the line, and
-- of the end of the text
abbrev all_sides : List Statement
all_sides =
    line (codes "# top\n") (codes "a")
    (array (one_more (codes "# in\n# one\n") (codes " # beside\n# end\n") no_elements) false []) (codes "# after") ∷ []

read_remarks : remarks (document all_sides (codes "# last\n"))
    ≡ at (codes " top") ahead []
    ∷ at (codes " in") opening []
    ∷ at (codes " one") ahead (at_element 0 ∷ [])
    ∷ at (codes " beside") behind (at_element 0 ∷ [])
    ∷ at (codes " end") closing []
    ∷ at (codes " after") behind []
    ∷ record { statement = 1; spot = spot ahead []; body = codes " last" }
    ∷ []
read_remarks = refl

-- after the comma, before it, and behind the last element, which has none
abbrev around_commas : Value
around_commas = array (one_more [] (codes "# one\n") (one_more (codes "# two\n") (codes "# three\n") no_elements)) false []

comma_remarks : remarks (document (table (codes "# t\n") (codes "t") [] ∷ of_array around_commas) [])
    ≡ at (codes " t") ahead []
    ∷ record { statement = 1; spot = spot behind (at_element 0 ∷ []); body = codes " one" }
    ∷ record { statement = 1; spot = spot behind (at_element 0 ∷ []); body = codes " two" }
    ∷ record { statement = 1; spot = spot behind (at_element 1 ∷ []); body = codes " three" }
    ∷ []
comma_remarks = refl

formatted_remarks : remarks (formatted default_rules (document all_sides [])) ≡ remarks (document all_sides [])
formatted_remarks = refl

formatted_sides : text_of default_rules all_sides []
    ≡ codes "# top\na = [ # in\n  # one\n  1, # beside\n  # end\n] # after\n"
formatted_sides = refl

-- ---- groups in order

abbrev groups : List Statement
groups =
    line (codes "# head\n") (codes "b") one_value (codes " # b")
    ∷ line (codes "# of a\n") (codes "a") one_value []
    ∷ line (codes "\n") (codes "d") one_value []
    ∷ line [] (codes "c") one_value [] ∷ []

groups_in_order : document_text (sorted default_rules ([] ∷ []) (document groups []))
    ≡ codes "# head\n# of a\na=1\nb=1 # b\n\nc=1\nd=1\n"
groups_in_order = refl
