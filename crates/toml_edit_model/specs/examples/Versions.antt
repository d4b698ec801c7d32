-- Worked documents under TOML 1.0: what needs 1.1, with its spans, and what doesn't.
use Rattle.std.specs.Prelude.{◌≡◌, refl, ℕ, Bool, true, false, not, List, [], ◌∷◌, map, codes, Option, Some, None}
use Rattle.toml_edit_model.specs.Text.{Text, newline, same_text}
use Rattle.toml_edit_model.specs.Scalars.{string, datetime}
use Rattle.toml_edit_model.specs.Syntax.{Value, scalar, array, inline_table, no_elements, element, no_pairs, Document, document_text}
use Rattle.toml_edit_model.specs.Version.{v1_0}
use Rattle.toml_edit_model.specs.Accepted.{is_accepted, is_accepted_in}
use Rattle.toml_edit_model.specs.Faults.{lone_faults_of}
use Rattle.toml_edit_model.specs.Lone.{is_accepted_value, is_accepted_value_in}
use Rattle.toml_edit_model.specs.examples.FirstFaults.{first_faults_of}
use Rattle.toml_edit_model.specs.examples.Parts.{spelled_as, line, document, a, d, one_value, pair_of, bare}

-- the document joins to the text; it is accepted, and so under 1.0
abbrev in_both : Document → Text → List Bool
in_both doc text =
    same_text (document_text doc) text ∷ is_accepted doc ∷ is_accepted_in v1_0 doc ∷ []

-- the document joins to the text; it is accepted, but not under 1.0
abbrev in_1_1_alone : Document → Text → List Bool
in_1_1_alone doc text =
    same_text (document_text doc) text ∷ is_accepted doc ∷ not (is_accepted_in v1_0 doc) ∷ []

abbrev all_three : List Bool
all_three = true ∷ true ∷ true ∷ []

-- the faults in its first faulty statement under 1.0
abbrev faults_in_1_0 : Document → List (Text × Option (ℕ × ℕ))
faults_in_1_0 doc = map (λ f. (f.message, f.span)) (first_faults_of v1_0 doc)

abbrev late_at : ℕ → ℕ → Text × Option (ℕ × ℕ)
late_at i j = (codes "needs TOML 1.1", Some (i, j))

-- ---- escapes

abbrev a_string : Text → Text → Document
a_string v t = document (line (a ∷ []) (scalar (string v) t) ∷ [])

escape_e : in_1_1_alone (a_string (0x1B ∷ []) (codes "\"\\e\"")) (codes "a = \"\\e\"\n") ≡ all_three
unfolding is_accepted
escape_e = refl

escape_e_at : faults_in_1_0 (a_string (0x1B ∷ []) (codes "\"\\e\"")) ≡ late_at 5 7 ∷ []
escape_e_at = refl

escape_x : in_1_1_alone (a_string (codes "A") (codes "\"\\x41\"")) (codes "a = \"\\x41\"\n")
    ≡ all_three
unfolding is_accepted
escape_x = refl

escape_x_at : faults_in_1_0 (a_string (codes "A") (codes "\"\\x41\"")) ≡ late_at 5 9 ∷ []
escape_x_at = refl

abbrev key_x : Document
key_x = document (line (spelled_as (codes "A") (codes "\"\\x41\"") ∷ []) one_value ∷ [])

key : in_1_1_alone key_x (codes "\"\\x41\" = 1\n") ≡ all_three
unfolding is_accepted
key = refl

key_at : faults_in_1_0 key_x ≡ late_at 1 5 ∷ []
key_at = refl

escape_u : in_both (a_string (codes "A") (codes "\"\\u0041\"")) (codes "a = \"\\u0041\"\n")
    ≡ all_three
unfolding is_accepted
escape_u = refl

-- an escaped backslash before `e`, and the two bytes in single quotes, are no escapes
backslash_e : in_both (a_string (codes "\\e") (codes "\"\\\\e\"")) (codes "a = \"\\\\e\"\n")
    ≡ all_three
unfolding is_accepted
backslash_e = refl

literal_e : in_both (a_string (codes "\\e") (codes "'\\e'")) (codes "a = '\\e'\n") ≡ all_three
unfolding is_accepted
literal_e = refl

-- a key twice, and in that statement an escape too: the error may name either
abbrev twice : Document
twice =
    document (line (a ∷ []) one_value
    ∷ line (a ∷ []) (scalar (string (0x1B ∷ [])) (codes "\"\\e\"")) ∷ [])

twice_is : same_text (document_text twice) (codes "a = 1\na = \"\\e\"\n") ≡ true
twice_is = refl

twice_at : faults_in_1_0 twice ≡ late_at 11 13 ∷ (codes "duplicate key", Some (6, 7)) ∷ []
twice_at = refl

-- ---- times

abbrev no_seconds : Value
no_seconds =
    scalar (datetime (record {
      date = None;
      time = Some (record { hour = 7; minute = 32; second = None; nanosecond = None });
      offset = None;
    })) (codes "07:32")

time : in_1_1_alone (document (line (d ∷ []) no_seconds ∷ [])) (codes "d = 07:32\n") ≡ all_three
unfolding is_accepted
time = refl

time_at : faults_in_1_0 (document (line (d ∷ []) no_seconds ∷ [])) ≡ late_at 4 9 ∷ []
time_at = refl

-- a value alone in its text
lone_time : is_accepted_value no_seconds ∷ is_accepted_value_in v1_0 no_seconds ∷ []
    ≡ true ∷ false ∷ []
lone_time = refl

lone_time_at : map (λ f. (f.message, f.span)) (lone_faults_of v1_0 0 no_seconds) ≡ late_at 0 5 ∷ []
lone_time_at = refl

-- ---- inline tables

abbrev t_is : Value → Document
t_is v = document (line (bare (codes "t") ∷ []) v ∷ [])

abbrev with_comma : Document
with_comma = t_is (inline_table (pair_of [] (a ∷ []) one_value [] no_pairs) true [])

comma : in_1_1_alone with_comma (codes "t = {a = 1,}\n") ≡ all_three
unfolding is_accepted
comma = refl

comma_at : faults_in_1_0 with_comma ≡ late_at 10 11 ∷ []
comma_at = refl

abbrev with_newline : Document
with_newline = t_is (inline_table (pair_of newline (a ∷ []) one_value [] no_pairs) false [])

newline_in : in_1_1_alone with_newline (codes "t = {\na = 1}\n") ≡ all_three
unfolding is_accepted
newline_in = refl

newline_at : faults_in_1_0 with_newline ≡ late_at 5 6 ∷ []
newline_at = refl

abbrev with_comment : Document
with_comment = t_is (inline_table no_pairs false (codes " # c\n"))

comment_in : in_1_1_alone with_comment (codes "t = { # c\n}\n") ≡ all_three
unfolding is_accepted
comment_in = refl

comment_at : faults_in_1_0 with_comment ≡ late_at 6 9 ∷ late_at 9 10 ∷ []
comment_at = refl

-- `{\na = 1,}` alone in its text
lone_table_at : map (λ f. (f.message, f.span))
    (lone_faults_of v1_0 0 (inline_table (pair_of newline (a ∷ []) one_value [] no_pairs) true []))
    ≡ late_at 1 2 ∷ late_at 7 8 ∷ []
lone_table_at = refl

-- a newline of CR LF is marked whole
return_at : faults_in_1_0 (t_is (inline_table no_pairs false (codes " # c\r\n")))
    ≡ late_at 6 9 ∷ late_at 9 11 ∷ []
return_at = refl

-- trivia and the comma of an array inside an inline table are the array's
abbrev array_inside : Document
array_inside =
    t_is (inline_table (pair_of [] (a ∷ [])
    (array (element (record {
      before = newline;
      after = [];
    }) one_value no_elements) true newline) [] no_pairs) false [])

array_inside_is : in_both array_inside (codes "t = {a = [\n1,\n]}\n") ≡ all_three
unfolding is_accepted
array_inside_is = refl
