-- Worked texts at the limits and just past them: numbers, dates and times, segments of keys,
-- brackets.
use Rattle.std.specs.Prelude.{◌≡◌, refl, ℕ, zero, suc, pos, negsuc, ℤ, Bool, true, false, not, ◌&&◌, List, [], ◌∷◌, ◌++◌, codes, Option}
use Rattle.std.specs.Prelude.{Some, None}
use Rattle.toml_edit_model.specs.Text.{Text, newline, same_text, byte_order_mark}
use Rattle.toml_edit_model.specs.Scalars.{Scalar, integer, datetime, Date, Time, zulu, shift, is_real_date}
use Rattle.toml_edit_model.specs.Syntax.{Value, scalar, array, inline_table, no_elements, element, no_pairs, pair, key_line, Document}
use Rattle.toml_edit_model.specs.Syntax.{document_text, is_short}
use Rattle.toml_edit_model.specs.Accepted.{is_accepted}
use Rattle.std.specs.Fmt.{digits}
use Rattle.toml_edit_model.specs.Excerpt.{excerpt}
use Rattle.toml_edit_model.specs.Normal.{normal, normal_text}
use Rattle.toml_edit_model.specs.Print.{print}
use Rattle.toml_edit_model.specs.TreeOf.{owned_form}
use Rattle.toml_edit_model.specs.examples.ComputedTree.{tree_of}
use Rattle.toml_edit_model.specs.Lone.{is_accepted_value}
use Rattle.toml_edit_model.specs.examples.Parts.{line, head, document, a, b, d, x, pair_of, one_value, two_value, all_true}
use Rattle.toml_edit_model.specs.examples.Refusals.{refused, faults_of, copies, nested, date}

-- the piece so many times
abbrev pub times_text : ℕ → Text → Text
times_text zero t = []
times_text (suc n) t = t ++ times_text n t

-- ---- ranges

-- `d = ` and a scalar
abbrev with : Scalar → Text → Document
with s t = document (line (d ∷ []) (scalar s t) ∷ [])

-- in range: the text is accepted; out of range: the fault is the scalar's
abbrev is_in : Scalar → Text → Bool
is_in s t =
    same_text (document_text (with s t)) (codes "d = " ++ (t ++ newline)) && is_accepted (with s t)

abbrev is_out : Scalar → Text → Text → ℕ → Bool
is_out s t message end = refused (with s t) (codes "d = " ++ (t ++ newline)) 0 message 4 end

abbrev overflowed : Text
overflowed = codes "integer number overflowed"

abbrev integers : List Bool
integers =
    is_in (integer (pos 9223372036854775807)) (codes "9223372036854775807")
    ∷ is_in (integer (negsuc 9223372036854775807)) (codes "-9223372036854775808")
    ∷ is_out (integer (pos 9223372036854775808)) (codes "9223372036854775808") overflowed 23
    ∷ is_out (integer (negsuc 9223372036854775808)) (codes "-9223372036854775809") overflowed 24
    ∷ is_out (integer (pos 18446744073709551615)) (codes "0xFFFFFFFFFFFFFFFF") overflowed 22
    ∷ []

integers_hold : all_true integers ≡ true
unfolding is_accepted
integers_hold = refl

abbrev invalid : Text
invalid = codes "invalid date-time"

abbrev dates : List Bool
dates =
    is_in (datetime (date 2024 2 29)) (codes "2024-02-29")
    ∷ is_out (datetime (date 2023 2 29)) (codes "2023-02-29") invalid 14
    ∷ is_in (datetime (date 2000 2 29)) (codes "2000-02-29")
    ∷ is_in (datetime (date 2400 2 29)) (codes "2400-02-29")
    ∷ is_out (datetime (date 1900 2 29)) (codes "1900-02-29") invalid 14
    ∷ is_in (datetime (date 0 1 1)) (codes "0000-01-01")
    ∷ is_in (datetime (date 9999 12 31)) (codes "9999-12-31")
    ∷ is_in (datetime (date 1979 4 30)) (codes "1979-04-30")
    ∷ is_out (datetime (date 1979 4 31)) (codes "1979-04-31") invalid 14
    ∷ is_in (datetime (date 2024 9 30)) (codes "2024-09-30")
    ∷ is_out (datetime (date 2024 9 31)) (codes "2024-09-31") invalid 14
    ∷ is_in (datetime (date 2024 8 31)) (codes "2024-08-31")
    ∷ is_out (datetime (date 2024 8 32)) (codes "2024-08-32") invalid 14
    ∷ is_out (datetime (date 2024 8 0)) (codes "2024-08-00") invalid 14
    ∷ is_out (datetime (date 2024 0 1)) (codes "2024-00-01") invalid 14
    ∷ is_out (datetime (date 2024 13 1)) (codes "2024-13-01") invalid 14
    ∷ []

dates_hold : all_true dates ≡ true
unfolding is_accepted
dates_hold = refl

-- April has 30 days
abbrev april : ℕ → Date
april day = record { year = 1979; month = 4; day = day }

last_of_april : is_real_date (april 30) ≡ true
last_of_april = refl

past_april : is_real_date (april 31) ≡ false
past_april = refl

abbrev clock : ℕ → ℕ → Option ℕ → Time
clock hour minute second = record {
  hour = hour;
  minute = minute;
  second = second;
  nanosecond = None;
}

abbrev at : Time → Scalar
at t = datetime (record { date = None; time = Some t; offset = None })

-- second 60 is in range, at every minute
abbrev times : List Bool
times =
    is_in (at (clock 0 0 None)) (codes "00:00")
    ∷ is_in (at (clock 23 59 (Some 60))) (codes "23:59:60")
    ∷ is_in (at (clock 7 32 (Some 60))) (codes "07:32:60")
    ∷ is_out (at (clock 24 0 None)) (codes "24:00") invalid 9
    ∷ is_out (at (clock 23 60 None)) (codes "23:60") invalid 9
    ∷ is_out (at (clock 23 59 (Some 61))) (codes "23:59:61") invalid 12
    ∷ []

times_hold : all_true times ≡ true
unfolding is_accepted
times_hold = refl

-- 1979-05-27, 7:32, and so many minutes from `Z`
abbrev moment : ℤ → Scalar
moment minutes =
    datetime (record {
      date = Some (record { year = 1979; month = 5; day = 27 });
      time = Some (clock 7 32 (Some 0));
      offset = Some (shift minutes);
    })

-- the hours and minutes of an offset are those of a day, each for itself
abbrev offsets : List Bool
offsets =
    is_in (moment (pos 1439)) (codes "1979-05-27T07:32:00+23:59")
    ∷ is_in (moment (negsuc 1438)) (codes "1979-05-27T07:32:00-23:59")
    ∷ is_out (moment (pos 1440)) (codes "1979-05-27T07:32:00+24:00") invalid 29
    ∷ is_out (moment (pos 60)) (codes "1979-05-27T07:32:00+00:60") invalid 29
    ∷ is_out (moment (negsuc 98)) (codes "1979-05-27T07:32:00-00:99") invalid 29
    ∷ []

offsets_hold : all_true offsets ≡ true
unfolding is_accepted
offsets_hold = refl

-- a date with a time that is out of range, and the other way round
abbrev mixed : ℕ → ℕ → Scalar
mixed day hour =
    datetime (record {
      date = Some (record { year = 2023; month = 2; day = day });
      time = Some (clock hour 0 None);
      offset = Some zulu;
    })

abbrev in_one_of_two : List Bool
in_one_of_two =
    is_in (mixed 28 23) (codes "2023-02-28 23:00Z")
    ∷ is_out (mixed 29 23) (codes "2023-02-29 23:00Z") invalid 21
    ∷ is_out (mixed 28 24) (codes "2023-02-28 24:00Z") invalid 21
    ∷ []

in_one_of_two_holds : all_true in_one_of_two ≡ true
unfolding is_accepted
in_one_of_two_holds = refl

-- ---- ranges inside values, and after another fault

abbrev beyond : Value
beyond = scalar (integer (pos 9223372036854775808)) (codes "9223372036854775808")

abbrev two_elements : Value
two_elements =
    array (element (record { before = []; after = [] }) one_value
    (element (record { before = codes " "; after = [] }) beyond no_elements)) false []

-- nine line feeds, and a line
abbrev tenth_line : Document
tenth_line =
    document (key_line (record {
      leading = times_text 9 newline;
      path = d ∷ [];
      before_equals = codes " ";
      after_equals = codes " ";
      trailing = [];
    })
    (scalar (datetime (date 2023 2 29)) (codes "2023-02-29")) newline ∷ [])

abbrev inside_values : List Bool
inside_values =
    refused tenth_line (codes "\n\n\n\n\n\n\n\n\nd = 2023-02-29\n") 0 invalid 13 23
    ∷ refused (document (line (a ∷ []) two_elements ∷ []))
    (codes "a = [1, 9223372036854775808]\n") 0 overflowed 8 27
    ∷ refused (document (line (a ∷ [])
    (inline_table (pair_of [] (b
    ∷ []) one_value [] (pair_of (codes " ") (d ∷ [])
    (scalar (at (clock 24 0 None)) (codes "24:00")) [] no_pairs)) false []) ∷ []))
    (codes "a = {b = 1, d = 24:00}\n") 0 invalid 16 21
    ∷ refused (document (line (a ∷ []) one_value ∷ line (a ∷ []) two_value ∷ line (x ∷ []) beyond
    ∷ [])) (codes "a = 1\na = 2\nx = 9223372036854775808\n") 1 (codes "duplicate key") 6 7
    ∷ refused (record (document
    (line (a ∷ []) one_value ∷ line (a ∷ []) two_value ∷ [])) { has_mark = true })
    (byte_order_mark ++ codes "a = 1\na = 2\n") 1 (codes "duplicate key") 9 10
    ∷ []

inside_values_hold : all_true inside_values ≡ true
unfolding is_accepted
inside_values_hold = refl

-- of several faults in one statement each may be named
several_faults : faults_of
    (document (line (a ∷ []) (array (element (record { before = []; after = [] }) beyond
    (element (record { before = []; after = [] })
    (scalar (at (clock 24 0 None)) (codes "24:00")) no_elements)) false []) ∷ []))
    ≡ (overflowed, Some (5, 24)) ∷ (invalid, Some (25, 30)) ∷ []
unfolding is_accepted
several_faults = refl

-- ---- segments and brackets

-- `a` and then `.a`, so many segments
abbrev pub dotted_text : ℕ → Text
dotted_text n = codes "a" ++ times_text n (codes ".a")

-- a line, a header, one in double brackets, a pair, each of 81 segments
too_long_line : faults_of (document (line (copies 81 a) one_value ∷ []))
    ≡ (codes "recursion limit", None) ∷ []
unfolding is_accepted
too_long_line = refl

too_long_header : faults_of (document (head false (copies 81 a) ∷ []))
    ≡ (codes "recursion limit", None) ∷ []
unfolding is_accepted
too_long_header = refl

too_long_array_header : faults_of (document (head true (copies 81 a) ∷ []))
    ≡ (codes "recursion limit", None) ∷ []
unfolding is_accepted
too_long_array_header = refl

too_long_pair : faults_of
    (document (line (x ∷ [])
    (inline_table (pair_of [] (copies 81 a) one_value [] no_pairs) false []) ∷ []))
    ≡ (codes "recursion limit", None) ∷ []
unfolding is_accepted
too_long_pair = refl

-- `{a=` .. `}` in brackets, so many times around a value
abbrev in_tables : ℕ → Value → Value
in_tables zero v = v
in_tables (suc n) v =
    array (element (record { before = []; after = [] })
    (inline_table (pair (record {
      leading = [];
      path = a ∷ [];
      before_equals = [];
      after_equals = [];
      trailing = [];
    })
    (in_tables n v) no_pairs) false []) no_elements) false []

-- a header of 80 segments, and a line of 80 whose value has 80 brackets
abbrev all_limits : Document
all_limits = document (head false (copies 80 a) ∷ line (copies 80 a) (nested 79) ∷ [])

abbrev at_the_limits : List Bool
at_the_limits =
    same_text (document_text all_limits)
    (codes "[" ++ (dotted_text 79
    ++ (codes "]\n" ++ (dotted_text 79
    ++ (codes " = " ++ (times_text 80 (codes "[")
    ++ (times_text 80 (codes "]") ++ newline)))))))
    ∷ is_accepted all_limits
    ∷ is_accepted (document (head true (copies 80 a) ∷ []))
    ∷ is_accepted (document (line (x ∷ [])
    (inline_table (pair_of [] (copies 80 a) one_value [] no_pairs) false []) ∷ []))
    ∷ not (is_accepted (document
    (line (x ∷ []) (inline_table (pair_of [] (copies 81 a) one_value [] no_pairs) false []) ∷ [])))
    ∷ not (is_accepted (document (head false (copies 81 a) ∷ [])))
    ∷ same_text (document_text (document (line (x ∷ []) (in_tables 40 one_value) ∷ [])))
    (codes "x = " ++ (times_text 40 (codes "[{a=")
    ++ (codes "1" ++ (times_text 40 (codes "}]") ++ newline))))
    ∷ is_accepted (document (line (x ∷ []) (in_tables 40 one_value) ∷ []))
    ∷ is_short (copies 80 a) ∷ not (is_short (copies 81 a))
    ∷ is_accepted_value (nested 79) ∷ not (is_accepted_value (nested 80))
    ∷ is_accepted_value two_value ∷ not (is_accepted_value beyond)
    ∷ refused (document (line (x ∷ []) (in_tables 40 (array no_elements false [])) ∷ []))
    (codes "x = " ++ (times_text 40 (codes "[{a=")
    ++ (codes "[]" ++ (times_text 40 (codes "}]") ++ newline)))) 0
    (codes "recursion limit") 164 165
    ∷ refused (document (line (x ∷ []) (nested 80) ∷ []))
    (codes "x = " ++ (times_text 81 (codes "[") ++ (times_text 81 (codes "]") ++ newline))) 0
    (codes "recursion limit") 84 85
    ∷ []

at_the_limits_hold : all_true at_the_limits ≡ true
unfolding is_accepted
at_the_limits_hold = refl

-- Texts with as many brackets return, and a long path. (That of 80 segments is accepted above; its
-- normal text takes too many steps here.)
abbrev returns : Document → Bool
returns doc =
    same_text (normal_text doc) (document_text doc)
    && same_text (print (tree_of owned_form doc)) (document_text doc)

long_path_returns : returns (document (line (copies 16 a) one_value ∷ [])) ≡ true
unfolding normal normal_text print
long_path_returns = refl

brackets_return : all_true
    (returns (document (line (x ∷ []) (nested 79) ∷ []))
    ∷ returns (document (line (x ∷ []) (in_tables 40 one_value) ∷ [])) ∷ []) ≡ true
unfolding normal normal_text print
brackets_return = refl

-- what is printed for the bracket that is one too many
excerpt_of_depth : excerpt
    (codes "x = " ++ (times_text 81 (codes "[") ++ (times_text 81 (codes "]") ++ newline)))
    (Some (84, 85)) (codes "recursion limit")
    ≡ codes "TOML parse error at line 1, column 85\n  |\n1 | x = "
    ++ (times_text 81 (codes "[")
    ++ (times_text 81 (codes "]")
    ++ (codes "\n  | " ++ (times_text 84 (codes " ") ++ codes "^\nrecursion limit\n"))))
unfolding digits
excerpt_of_depth = refl
