-- Worked excerpts: positions in a text, and what is printed for an error.
use Rattle.std.specs.Prelude.{◌≡◌, refl, ℕ, Bool, true, ◌&&◌, ◌==◌, [], ◌∷◌, ◌++◌, List, codes, Some, None}
use Rattle.std.specs.Fmt.{digits}
use Rattle.toml_edit_model.specs.Text.{Text}
use Rattle.toml_edit_model.specs.Excerpt.{position_in, excerpt, excerpt_under}
use Rattle.toml_edit_model.specs.examples.Parts.{all_true}

abbrev positions : List Bool
positions =
    is_at [] 0 0 0 ∷ is_at (codes "Hello") 0 0 0 ∷ is_at (codes "Hello") 4 0 4
    ∷ is_at (codes "Hello") 5 0 5
    ∷ is_at (codes "Hello\nWorld\n") 2 0 2 ∷ is_at (codes "Hello\nWorld\n") 5 0 5
    ∷ is_at (codes "Hello\nWorld\n") 6 1 0 ∷ is_at (codes "Hello\nWorld\n") 8 1 2
    -- beyond the end, and on each byte of `é`
    ∷ is_at [] 3 0 0 ∷ is_at (codes "Hello") 9 0 5 ∷ is_at (codes "Hello\n") 9 0 6
    ∷ is_at (0xC3 ∷ 0xA9 ∷ codes "!") 0 0 0 ∷ is_at (0xC3 ∷ 0xA9 ∷ codes "!") 1 0 1
    ∷ is_at (0xC3 ∷ 0xA9 ∷ codes "!") 2 0 1 ∷ is_at (0xC3 ∷ 0xA9 ∷ []) 1 0 1
    ∷ is_at (0xC3 ∷ 0xA9 ∷ []) 2 0 1
    ∷ []
  where
    is_at : Text → ℕ → ℕ → ℕ → Bool
    is_at t s l k = ((position_in t s).line == l) && ((position_in t s).column == k)

positions_hold : all_true positions ≡ true
positions_hold = refl

excerpt_twice : excerpt (codes "a = 1\na = 2\n") (Some (6, 7)) (codes "duplicate key")
    ≡ codes "TOML parse error at line 2, column 1\n  |\n2 | a = 2\n  | ^\nduplicate key\n"
unfolding digits
excerpt_twice = refl

-- `"é" = 1` twice
excerpt_of_characters : excerpt
    (codes "\"" ++ (0xC3 ∷ 0xA9 ∷ codes "\" = 1\n\"" ++ (0xC3 ∷ 0xA9 ∷ codes "\" = 2\n")))
    (Some (9, 13)) (codes "duplicate key")
    ≡ codes "TOML parse error at line 2, column 1\n  |\n2 | \""
    ++ (0xC3 ∷ 0xA9 ∷ codes "\" = 2\n  | ^^^\nduplicate key\n")
unfolding digits
excerpt_of_characters = refl

excerpt_line_10 : excerpt (codes "\n\n\n\n\n\n\n\n\nd = 2023-02-29\n") (Some (13, 23))
    (codes "invalid date-time")
    ≡ codes "TOML parse error at line 10, column 5\n   |\n10 | d = 2023-02-29\n   |     ^^^^^^^^^^\ninvalid date-time\n"
unfolding digits
excerpt_line_10 = refl

-- `a=1`, `[a.b]`: the mark is under the second byte
excerpt_extended : excerpt (codes "a=1\n[a.b]\n") (Some (5, 6))
    (codes "cannot extend value of type integer with a dotted key")
    ≡ codes "TOML parse error at line 2, column 2\n  |\n2 | [a.b]\n  |  ^\ncannot extend value of type integer with a dotted key\n"
unfolding digits
excerpt_extended = refl

excerpt_in_element : excerpt (codes "[[x.a]]\n[x]\na.b.k = 1\n") (Some (12, 13))
    (codes "duplicate key")
    ≡ codes "TOML parse error at line 3, column 1\n  |\n3 | a.b.k = 1\n  | ^\nduplicate key\n"
unfolding digits
excerpt_in_element = refl

excerpt_overflow : excerpt (codes "x = 9223372036854775808\n") (Some (4, 23))
    (codes "integer number overflowed")
    ≡ codes "TOML parse error at line 1, column 5\n  |\n1 | x = 9223372036854775808\n"
    ++ codes "  |     ^^^^^^^^^^^^^^^^^^^\ninteger number overflowed\n"
unfolding digits
excerpt_overflow = refl

excerpt_day : excerpt (codes "d = 2023-02-29\n") (Some (4, 14)) (codes "invalid date-time")
    ≡ codes "TOML parse error at line 1, column 5\n  |\n1 | d = 2023-02-29\n  |     ^^^^^^^^^^\ninvalid date-time\n"
unfolding digits
excerpt_day = refl

-- columns count characters: `"é" = 2023-02-29`
excerpt_behind_character : excerpt (codes "\"" ++ (0xC3 ∷ 0xA9 ∷ codes "\" = 2023-02-29\n"))
    (Some (7, 17)) (codes "invalid date-time")
    ≡ codes "TOML parse error at line 1, column 7\n  |\n1 | \""
    ++ (0xC3 ∷ 0xA9 ∷ codes "\" = 2023-02-29\n  |       ^^^^^^^^^^\ninvalid date-time\n")
unfolding digits
excerpt_behind_character = refl

-- without a span there is the message alone
excerpt_without_span : excerpt (codes "a = 1\n") None (codes "recursion limit")
    ≡ codes "recursion limit\n"
excerpt_without_span = refl

-- at the end of the text, after its last LF; a mark is never wider than its line, and a CR before
-- LF stays
excerpt_at_the_end : excerpt (codes "a = [\n") (Some (6, 6)) (codes "unclosed array")
    ≡ codes "TOML parse error at line 1, column 7\n  |\n1 | a = [\n  |       ^\nunclosed array\n"
unfolding digits
excerpt_at_the_end = refl

excerpt_of_two_lines : excerpt (codes "a = \"b\r\nc\"\n") (Some (4, 9)) (codes "control character")
    ≡ codes "TOML parse error at line 1, column 5\n  |\n1 | a = \"b\r\n  |     ^^^\ncontrol character\n"
unfolding digits
excerpt_of_two_lines = refl

excerpt_of_nothing : excerpt [] (Some (0, 0)) (codes "expected a value")
    ≡ codes "TOML parse error at line 1, column 1\n  |\n1 | \n  | ^\nexpected a value\n"
unfolding digits
excerpt_of_nothing = refl

-- under another title
excerpt_of_a_linter : excerpt_under (codes "warning") (codes "a = 1\nb=2\n") 7 8
    (codes "no space before =")
    ≡ codes "warning at line 2, column 2\n  |\n2 | b=2\n  |  ^\nno space before =\n"
unfolding digits
excerpt_of_a_linter = refl

-- a span that begins inside `é` and ends beyond the text
excerpt_inside_a_character : excerpt_under (codes "warning") (0xC3 ∷ 0xA9 ∷ codes " = 1") 1 9
    (codes "odd")
    ≡ codes "warning at line 1, column 2\n  |\n1 | "
    ++ (0xC3 ∷ 0xA9 ∷ codes " = 1\n  |  ^^^^\nodd\n")
unfolding digits
excerpt_inside_a_character = refl
