-- Worked pairs of statements, one for each two roles that may not meet at a path: the later one is
-- faulty, at its outermost segment that meets an earlier one wrongly.
use Rattle.std.specs.Prelude.{◌≡◌, refl, ℕ, ◌+◌, Bool, true, false, List, [], ◌∷◌, ◌++◌, codes, Some, None}
use Rattle.toml_edit_model.specs.Text.{Text, newline}
use Rattle.toml_edit_model.specs.Scalars.{string, float, boolean, datetime}
use Rattle.toml_edit_model.specs.Syntax.{Segment, Value, scalar, array, inline_table, no_elements, element, no_pairs, Statement, key_line}
use Rattle.toml_edit_model.specs.Syntax.{Document}
use Rattle.toml_edit_model.specs.Accepted.{is_accepted}
use Rattle.toml_edit_model.specs.examples.Parts.{bare, spelled_as, line, head, document, a, b, c, d, x, y, empty_table, pair_of, one_value}
use Rattle.toml_edit_model.specs.examples.Parts.{two_value, all_true}
use Rattle.toml_edit_model.specs.examples.Refusals.{refused}

abbrev duplicate : Text
duplicate = codes "duplicate key"

-- two statements, of which the second is faulty, and three, of which the third is
abbrev two : Statement → Statement → Text → ℕ → ℕ → Bool
two s r text start end = refused (document (s ∷ r ∷ [])) text 1 duplicate start end

abbrev three : Statement → Statement → Statement → Text → ℕ → ℕ → Bool
three s r q text start end = refused (document (s ∷ r ∷ q ∷ [])) text 2 duplicate start end

-- ---- after a dotted key: a header, one in double brackets, a value

abbrev behind_dotted : List Bool
behind_dotted =
    two (line (a ∷ b ∷ []) one_value) (head false (a ∷ [])) (codes "a.b = 1\n[a]\n") 9 10
    ∷ three (head false (a ∷ [])) (line (b ∷ c ∷ []) one_value) (head false (a ∷ b ∷ []))
    (codes "[a]\nb.c = 1\n[a.b]\n") 15 16
    ∷ two (line (a ∷ b ∷ []) one_value) (head true (a ∷ [])) (codes "a.b = 1\n[[a]]\n") 10 11
    ∷ two (line (a ∷ b ∷ []) one_value) (line (a ∷ []) two_value) (codes "a.b = 1\na = 2\n") 8 9
    ∷ []

behind_dotted_holds : all_true behind_dotted ≡ true
unfolding is_accepted
behind_dotted_holds = refl

-- ---- after a table that a header implies: one in double brackets, a value

abbrev behind_implied : List Bool
behind_implied =
    two (head false (a ∷ b ∷ [])) (head true (a ∷ [])) (codes "[a.b]\n[[a]]\n") 8 9
    ∷ three (head false (x ∷ a ∷ b ∷ [])) (head false (x ∷ [])) (line (a ∷ []) one_value)
    (codes "[x.a.b]\n[x]\na = 1\n") 12 13
    ∷ []

behind_implied_holds : all_true behind_implied ≡ true
unfolding is_accepted
behind_implied_holds = refl

-- ---- after a header: a dotted key, a header, one in double brackets, a value

abbrev behind_header : List Bool
behind_header =
    three (head false (a ∷ b ∷ c ∷ [])) (head false (a ∷ [])) (line (b ∷ c ∷ x ∷ []) one_value)
    (codes "[a.b.c]\n[a]\nb.c.x = 1\n") 14 15
    ∷ refused (document (head false (a ∷ b ∷ []) ∷ line (x ∷ []) one_value ∷ head false (a ∷ [])
    ∷ line (b ∷ y ∷ []) two_value ∷ []))
    (codes "[a.b]\nx = 1\n[a]\nb.y = 2\n") 3 duplicate 16 17
    ∷ two (head false (a ∷ [])) (head false (a ∷ [])) (codes "[a]\n[a]\n") 5 6
    ∷ two (head false (a ∷ [])) (head true (a ∷ [])) (codes "[a]\n[[a]]\n") 6 7
    ∷ three (head false (x ∷ a ∷ [])) (head false (x ∷ [])) (line (a ∷ []) one_value)
    (codes "[x.a]\n[x]\na = 1\n") 10 11
    ∷ []

behind_header_holds : all_true behind_header ≡ true
unfolding is_accepted
behind_header_holds = refl

-- ---- after a header in double brackets: a dotted key, a header, a value

abbrev behind_array : List Bool
behind_array =
    three (head true (x ∷ a ∷ [])) (head false (x ∷ []))
    (line (a ∷ b ∷ bare (codes "k") ∷ []) one_value) (codes "[[x.a]]\n[x]\na.b.k = 1\n") 12 13
    ∷ three (head true (x ∷ a ∷ [])) (head false (x ∷ []))
    (line (a ∷ bare (codes "k") ∷ []) one_value) (codes "[[x.a]]\n[x]\na.k = 1\n") 12 13
    ∷ two (head true (a ∷ [])) (head false (a ∷ [])) (codes "[[a]]\n[a]\n") 7 8
    ∷ three (head true (x ∷ a ∷ [])) (head false (x ∷ [])) (line (a ∷ []) one_value)
    (codes "[[x.a]]\n[x]\na = 1\n") 12 13
    ∷ []

behind_array_holds : all_true behind_array ≡ true
unfolding is_accepted
behind_array_holds = refl

-- ---- after a value: a dotted key, and a table that a header would imply, extend it

abbrev extends : Value → Text → Text → ℕ → Bool
extends v text type start =
    refused (document (line (a ∷ []) v ∷ line (a ∷ b ∷ []) one_value ∷ []))
    (codes "a = " ++ (text ++ codes "\na.b = 1\n")) 1
    (codes "cannot extend value of type " ++ (type ++ codes " with a dotted key")) start (start + 1)

-- `a=1`
abbrev tight : Statement
tight =
    key_line (record {
      leading = [];
      path = a ∷ [];
      before_equals = [];
      after_equals = [];
      trailing = [];
    }) one_value newline

abbrev behind_value : List Bool
behind_value =
    extends one_value (codes "1") (codes "integer") 6
    ∷ extends (scalar (string (codes "x")) (codes "'x'")) (codes "'x'") (codes "string") 8
    ∷ extends (scalar (float (codes "1.5")) (codes "1.5")) (codes "1.5") (codes "float") 8
    ∷ extends (scalar (boolean true) (codes "true")) (codes "true") (codes "boolean") 9
    ∷ extends (scalar (datetime
    (record {
      date = None;
      time = Some (record { hour = 7; minute = 32; second = None; nanosecond = None });
      offset = None;
    })) (codes "07:32"))
    (codes "07:32") (codes "datetime") 10
    ∷ extends (array no_elements false []) (codes "[]") (codes "array") 7
    ∷ extends empty_table (codes "{}") (codes "inline table") 7
    ∷ refused (document (tight ∷ head false (a ∷ b ∷ []) ∷ [])) (codes "a=1\n[a.b]\n") 1
    (codes "cannot extend value of type integer with a dotted key") 5 6
    ∷ two (line (a ∷ []) one_value) (head false (a ∷ [])) (codes "a = 1\n[a]\n") 7 8
    ∷ two (line (a ∷ []) (array no_elements false [])) (head true (a ∷ []))
    (codes "a = []\n[[a]]\n") 9 10
    ∷ two (line (a ∷ []) one_value) (line (a ∷ []) two_value) (codes "a = 1\na = 2\n") 6 7
    ∷ []

behind_value_holds : all_true behind_value ≡ true
unfolding is_accepted
behind_value_holds = refl

-- ---- one key in two spellings

abbrev spelled_apart : List Bool
spelled_apart =
    two (line (a ∷ []) one_value) (line (spelled_as (codes "a") (codes "\"a\"") ∷ []) two_value)
    (codes "a = 1\n\"a\" = 2\n") 6 9
    ∷ two (line (spelled_as (codes "a") (codes "'a'") ∷ []) one_value)
    (line (spelled_as (codes "a") (codes "\"\\x61\"") ∷ []) two_value)
    (codes "'a' = 1\n\"\\x61\" = 2\n") 8 14
    ∷ two (line (spelled_as accent quoted ∷ []) one_value)
    (line (spelled_as accent quoted ∷ []) two_value)
    (quoted ++ (codes " = 1\n" ++ (quoted ++ codes " = 2\n"))) 9 13
    ∷ []
  where
    -- `é`, and in quotes
    accent : Text
    accent = 0xC3 ∷ 0xA9 ∷ []

    quoted : Text
    quoted = codes "\"" ++ (accent ++ codes "\"")

spelled_apart_holds : all_true spelled_apart ≡ true
unfolding is_accepted
spelled_apart_holds = refl

-- ---- pairs of one inline table

abbrev pairs : List Segment → Value → List Segment → Value → Document
pairs p v q w =
    document (line (a ∷ []) (inline_table
    (pair_of (codes " ") p v [] (pair_of (codes " ") q w (codes " ") no_pairs)) false []) ∷ [])

abbrev in_inline_tables : List Bool
in_inline_tables =
    refused (pairs (b ∷ []) one_value (b ∷ []) two_value)
    (codes "a = { b = 1, b = 2 }\n") 0 duplicate 13 14
    ∷ refused (pairs (b ∷ []) (scalar (boolean true) (codes "true")) (b ∷ c ∷ []) two_value)
    (codes "a = { b = true, b.c = 2 }\n") 0
    (codes "cannot extend value of type boolean with a dotted key") 16 17
    ∷ refused (pairs (b ∷ []) (inline_table (pair_of [] (c ∷ []) one_value [] no_pairs) false [])
    (b ∷ d ∷ []) two_value) (codes "a = { b = {c = 1}, b.d = 2 }\n") 0 duplicate 19 20
    ∷ refused (pairs (b ∷ c ∷ []) one_value (b ∷ []) two_value)
    (codes "a = { b.c = 1, b = 2 }\n") 0 duplicate 15 16
    ∷ refused (pairs (b ∷ c ∷ []) one_value (b ∷ c ∷ d ∷ []) two_value)
    (codes "a = { b.c = 1, b.c.d = 2 }\n") 0
    (codes "cannot extend value of type integer with a dotted key") 17 18
    ∷ refused (document (line (a ∷ [])
    (inline_table (pair_of [] (b ∷ []) twice [] no_pairs) false []) ∷ []))
    (codes "a = {b = {c = 1, c = 2}}\n") 0 duplicate 17 18
    ∷ refused (document (line (a ∷ []) (in_array twice) ∷ []))
    (codes "a = [{c = 1, c = 2}]\n") 0 duplicate 13 14
    ∷ refused (document (line (a ∷ [])
    (inline_table (pair_of [] (b ∷ []) (in_array twice) [] no_pairs) false []) ∷ []))
    (codes "a = {b = [{c = 1, c = 2}]}\n") 0 duplicate 18 19
    ∷ []
  where
    -- `{c = 1, c = 2}`
    twice : Value
    twice =
        inline_table (pair_of [] (c
        ∷ []) one_value [] (pair_of (codes " ") (c ∷ []) two_value [] no_pairs)) false []

    in_array : Value → Value
    in_array v = array (element (record { before = []; after = [] }) v no_elements) false []

in_inline_tables_holds : all_true in_inline_tables ≡ true
unfolding is_accepted
in_inline_tables_holds = refl
