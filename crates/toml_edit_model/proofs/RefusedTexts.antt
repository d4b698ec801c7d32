-- Worked texts outside the grammar: no document at all is a cut of them.
use Rattle.std.specs.Prelude.{refl, [], ◌∷◌, ◌++◌, codes}
use Rattle.toml_edit_model.specs.Text.{byte_order_mark}
use Rattle.toml_edit_model.proofs.CutTests.{HasNoCut, no_cut, HasNoValue, no_value, HasNoPath, no_path}

-- ---- white space, newlines and comments

-- `a = 1`, CR
pub return_at_the_end : HasNoCut (codes "a = 1\r")
return_at_the_end = no_cut _ refl

-- `# c`, CR, `x`, LF
pub return_in_comment : HasNoCut (codes "# c\rx\n")
return_in_comment = no_cut _ refl

-- `# c`, DEL, LF
pub delete_in_comment : HasNoCut (codes "# c\u{7f}\n")
delete_in_comment = no_cut _ refl

-- `# c`, NUL
pub nul_in_comment : HasNoCut (codes "# c" ++ (0 ∷ []))
nul_in_comment = no_cut _ refl

-- ---- U+FEFF

-- `a = 1 `, U+FEFF, LF
pub mark_behind_value : HasNoCut (codes "a = 1 " ++ (byte_order_mark ++ codes "\n"))
mark_behind_value = no_cut _ refl

-- U+FEFF twice
pub two_marks : HasNoCut (byte_order_mark ++ (byte_order_mark ++ codes "a = 1\n"))
two_marks = no_cut _ refl

-- ---- keys and lines

-- `a`
pub key_alone : HasNoCut (codes "a")
key_alone = no_cut _ refl

-- `= 1`
pub no_key : HasNoCut (codes "= 1\n")
no_key = no_cut _ refl

-- `a..b = 1`
pub two_dots : HasNoCut (codes "a..b = 1\n")
two_dots = no_cut _ refl

-- `a. = 1`, `.a = 1`
pub dot_at_the_end : HasNoCut (codes "a. = 1\n")
dot_at_the_end = no_cut _ refl

pub dot_at_the_start : HasNoCut (codes ".a = 1\n")
dot_at_the_start = no_cut _ refl

-- `a`, LF, `= 1`
pub newline_before_equals : HasNoCut (codes "a\n= 1\n")
newline_before_equals = no_cut _ refl

-- `a =`
pub value_missing : HasNoCut (codes "a =\n")
value_missing = no_cut _ refl

-- `é = 1`
pub bare_key_beyond_ascii : HasNoCut (0xC3 ∷ 0xA9 ∷ codes " = 1\n")
bare_key_beyond_ascii = no_cut _ refl

-- a key in three quotes
pub key_of_lines : HasNoCut (codes "\"\"\"a\"\"\" = 1\n")
key_of_lines = no_cut _ refl

-- `a = 1 b = 2`
pub two_on_a_line : HasNoCut (codes "a = 1 b = 2\n")
two_on_a_line = no_cut _ refl

-- ---- headers

-- `[]`, `[a]]`, `[[a]`, `[ [a]]`, `[a`
pub empty_header : HasNoCut (codes "[]\n")
empty_header = no_cut _ refl

pub one_bracket_more : HasNoCut (codes "[a]]\n")
one_bracket_more = no_cut _ refl

pub one_bracket_less : HasNoCut (codes "[[a]\n")
one_bracket_less = no_cut _ refl

pub space_between_brackets : HasNoCut (codes "[ [a]]\n")
space_between_brackets = no_cut _ refl

pub space_between_closing_brackets : HasNoCut (codes "[[a] ]\n")
space_between_closing_brackets = no_cut _ refl

pub open_header : HasNoCut (codes "[a")
open_header = no_cut _ refl

-- `[a] b = 1`
pub line_behind_header : HasNoCut (codes "[a] b = 1\n")
line_behind_header = no_cut _ refl

-- ---- arrays and inline tables

-- `a = [1, # c`
pub open_array : HasNoCut (codes "a = [1, # c")
open_array = no_cut _ refl

-- `a = [,]`, `a = [1,,]`, `a = [1 2]`
pub comma_alone : HasNoCut (codes "a = [,]\n")
comma_alone = no_cut _ refl

pub two_commas : HasNoCut (codes "a = [1,,]\n")
two_commas = no_cut _ refl

pub no_comma : HasNoCut (codes "a = [1 2]\n")
no_comma = no_cut _ refl

-- `a = {,}`, `a = {b}`, `a = {b = 1`, `a = [}`
pub comma_alone_in_table : HasNoCut (codes "a = {,}\n")
comma_alone_in_table = no_cut _ refl

pub pair_without_value : HasNoCut (codes "a = {b}\n")
pair_without_value = no_cut _ refl

pub open_table : HasNoCut (codes "a = {b = 1\n")
open_table = no_cut _ refl

pub wrong_bracket : HasNoCut (codes "a = [}\n")
wrong_bracket = no_cut _ refl

-- ---- scalars

-- `a = "x`, CR, `y"`
pub return_in_string : HasNoCut (codes "a = \"x\ry\"\n")
return_in_string = no_cut _ refl

-- nine quotes: three open the string, and of the other six the last one is over
pub nine_quotes : HasNoCut (codes "a = \"\"\"\"\"\"\"\"\"\n")
nine_quotes = no_cut _ refl

-- `a = "\a"`
pub unknown_escape : HasNoCut (codes "a = \"\\a\"\n")
unknown_escape = no_cut _ refl

-- `a = 01`, `a = 1.`, `a = .5`, `a = 1__0`, `a = +0x1`, `a = 0X1`
pub leading_zero : HasNoCut (codes "a = 01\n")
leading_zero = no_cut _ refl

pub point_at_the_end : HasNoCut (codes "a = 1.\n")
point_at_the_end = no_cut _ refl

pub point_at_the_start : HasNoCut (codes "a = .5\n")
point_at_the_start = no_cut _ refl

pub two_underscores : HasNoCut (codes "a = 1__0\n")
two_underscores = no_cut _ refl

pub sign_before_base : HasNoCut (codes "a = +0x1\n")
sign_before_base = no_cut _ refl

pub capital_base : HasNoCut (codes "a = 0X1\n")
capital_base = no_cut _ refl

-- `a = True`
pub capital_truth : HasNoCut (codes "a = True\n")
capital_truth = no_cut _ refl

-- `a = 1979-05-27  07:32`, with two spaces
pub two_spaces_in_date : HasNoCut (codes "a = 1979-05-27  07:32\n")
two_spaces_in_date = no_cut _ refl

-- ---- values and paths alone in their texts

-- the empty text, `1 # c`, LF and `1`, `[`, `1 2`
pub nothing_alone : HasNoValue []
nothing_alone = no_value _ refl

pub comment_behind_value : HasNoValue (codes "1 # c")
comment_behind_value = no_value _ refl

pub newline_before_value : HasNoValue (codes "\n1")
newline_before_value = no_value _ refl

pub newline_behind_value : HasNoValue (codes "1\n")
newline_behind_value = no_value _ refl

pub bracket_alone : HasNoValue (codes "[")
bracket_alone = no_value _ refl

pub two_values : HasNoValue (codes "1 2")
two_values = no_value _ refl

-- the empty text, `a..b`, `a.`, LF behind `a`, `a b`
pub no_segments : HasNoPath []
no_segments = no_path _ refl

pub empty_segment : HasNoPath (codes "a..b")
empty_segment = no_path _ refl

pub dot_behind_path : HasNoPath (codes "a.")
dot_behind_path = no_path _ refl

pub newline_behind_path : HasNoPath (codes "a\n")
newline_behind_path = no_path _ refl

pub newline_before_path : HasNoPath (codes "\na")
newline_before_path = no_path _ refl

pub two_keys : HasNoPath (codes "a b")
two_keys = no_path _ refl
