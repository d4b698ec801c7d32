-- A worked document with its placed texts, and what rules leave of them.
use Rattle.std.specs.Prelude.{◌≡◌, refl, pos, true, false, [], ◌∷◌, codes, map, Some, None}
use Rattle.toml_edit_model.specs.Scalars.{integer, string}
use Rattle.toml_edit_model.specs.Syntax.{Segment, Value, scalar, array, no_elements, element, key_line, header, Document, document_text}
use Rattle.toml_edit_model.specs.Text.{Text, newline}
use Rattle.toml_edit_fmt_laws.specs.Rules.{Rules, as_it_is, flush, as_they_are, arrays_stay, default_rules}
use Rattle.toml_edit_fmt_laws.specs.Formatted.{laid_document}
use Rattle.toml_edit_fmt_laws.specs.Places.{Place, punctuation, key_spelling, value_spelling, at_equals, at_dots, before_statements, after_statements}
use Rattle.toml_edit_fmt_laws.specs.Places.{line_ends, in_arrays, in_inline_tables, PlacedText, placed_texts, is_left}
use Rattle.toml_edit_fmt_laws.specs.Places.{key_spellings, value_spellings, leading_texts, unindented, full_lines, is_on_one_line}

abbrev key_part : Text → Text → Text → Segment
key_part before k after = record { before = before; key = k; spelled = k; after = after }

abbrev one_value : Value
one_value = scalar (integer (pos 1)) (codes "1")

-- a line, a header that is moved in below an empty line, and white space at the end
abbrev read : Document
read =
    record {
      has_mark = false;
      statements = key_line (record {
        leading = codes "# a\n ";
        path = key_part [] (codes "a") (codes " ") ∷ key_part [] (codes "b") [] ∷ [];
        before_equals = [];
        after_equals = codes " ";
        trailing = codes "# one";
      }) (array (element (record { before = []; after = codes " " }) one_value no_elements) true (codes " ")) newline
          ∷ header (record {
            leading = codes "\n\n ";
            is_array = false;
            opening = codes " ";
            path = key_part [] (codes "t") [] ∷ [];
            closing = [];
            trailing = [];
          }) newline
          ∷ [];
      final = codes " ";
    }

read_text : document_text read ≡ codes "# a\n a .b= [1 , ]# one\n\n\n [ t]\n "
read_text = refl

abbrev at : Place → Text → PlacedText
at p t = record { place = p; text = t }

read_texts : placed_texts read
    ≡ at punctuation []
    ∷ at before_statements (codes "# a\n ")
    ∷ at at_dots []
    ∷ at key_spelling (codes "a")
    ∷ at at_dots (codes " ")
    ∷ at punctuation (codes ".")
    ∷ at at_dots []
    ∷ at key_spelling (codes "b")
    ∷ at at_dots []
    ∷ at at_equals []
    ∷ at punctuation (codes "=")
    ∷ at at_equals (codes " ")
    ∷ at punctuation (codes "[")
    ∷ at in_arrays []
    ∷ at value_spelling (codes "1")
    ∷ at in_arrays (codes " ")
    ∷ at punctuation []
    ∷ at in_arrays (codes ",")
    ∷ at in_arrays (codes " ")
    ∷ at punctuation (codes "]")
    ∷ at after_statements (codes "# one")
    ∷ at line_ends newline
    ∷ at before_statements (codes "\n\n ")
    ∷ at punctuation (codes "[")
    ∷ at at_dots (codes " ")
    ∷ at at_dots []
    ∷ at key_spelling (codes "t")
    ∷ at at_dots []
    ∷ at at_dots []
    ∷ at punctuation (codes "]")
    ∷ at after_statements []
    ∷ at line_ends newline
    ∷ at before_statements (codes " ")
    ∷ []
read_texts = refl

spelled_keys : key_spellings read ≡ codes "a" ∷ codes "b" ∷ codes "t" ∷ []
spelled_keys = refl

spelled_values : value_spellings read ≡ codes "1" ∷ []
spelled_values = refl

-- ---- which rules are about a place

abbrev no_rules : Rules
no_rules =
    record default_rules {
      equals = false;
      dots = false;
      comments = as_they_are;
      blank_lines = None;
      indentation = as_it_is;
      arrays = arrays_stay;
      inline_tables = false;
    }

equals_asked : is_left default_rules at_equals ≡ false
equals_asked = refl

equals_not_asked : is_left (record default_rules { equals = false }) at_equals ≡ true
equals_not_asked = refl

lines_moved : is_left (record no_rules { indentation = flush }) before_statements ≡ false
lines_moved = refl

lines_spaced : is_left (record no_rules { blank_lines = Some 1 }) before_statements ≡ false
lines_spaced = refl

lines_left : is_left (record default_rules { indentation = as_it_is; blank_lines = None }) before_statements ≡ true
lines_left = refl

comments_moved : map (is_left default_rules) (after_statements ∷ line_ends ∷ []) ≡ false ∷ true ∷ []
comments_moved = refl

insides_left : map (is_left (record default_rules { arrays = arrays_stay })) (in_arrays ∷ in_inline_tables ∷ at_dots ∷ [])
    ≡ true ∷ false ∷ false ∷ []
insides_left = refl

-- ---- lines

abbrev of_two_lines : Text
of_two_lines = codes "\n\t# a\n  "

moved_out : unindented of_two_lines ≡ codes "\n# a\n"
moved_out = refl

without_empty : full_lines of_two_lines ≡ codes "\t# a\n" ∷ codes "  " ∷ []
without_empty = refl

leading_read : leading_texts read ≡ codes "# a\n " ∷ codes "\n\n " ∷ codes " " ∷ []
leading_read = refl

-- lines are moved, and none goes
moved_texts : leading_texts (laid_document (record no_rules { indentation = flush }) (λ _ _. 0) read) ≡ codes "# a\n" ∷ codes "\n\n" ∷ [] ∷ []
moved_texts = refl

-- one goes, and none is moved
spaced_texts : leading_texts (laid_document (record no_rules { blank_lines = Some 1 }) (λ _ _. 0) read) ≡ codes "# a\n " ∷ codes "\n " ∷ codes " " ∷ []
spaced_texts = refl

-- ---- lines of values

abbrev array_with : Text → Value → Value
array_with after v = array (element (record { before = []; after = after }) v no_elements) false []

one_line : is_on_one_line (array_with (codes " ") one_value) ≡ true
one_line = refl

two_lines : is_on_one_line (array_with newline one_value) ≡ false
two_lines = refl

inner_lines : is_on_one_line (array_with [] (array_with newline one_value)) ≡ false
inner_lines = refl

-- lines of a string are none between brackets
string_lines : is_on_one_line (array_with [] (scalar (string newline) (codes "'''\n\n'''"))) ≡ true
string_lines = refl
