-- Worked lines of arrays: what is around a value that is put in, and what one that is taken leaves.
use Rattle.std.specs.Prelude.{◌≡◌, refl, ℕ, true, false, List, [], ◌∷◌, codes, None, Some}
use Rattle.toml_edit_model.specs.Conversions.{new_array, with_decor}
use Rattle.toml_edit_model.specs.Text.{Text, newline, one}
use Rattle.toml_edit_model.specs.Tree.{ArrayFields, Node, owned, unset}
use Rattle.toml_edit_model.specs.examples.Parts.{owned_decor, plain_int}
use Rattle.toml_edit_tree.specs.ArrayLines.{after_newline, comment_behind, fields_inserted, fields_removed, first_newline, indent_at, is_alone, line_before, line_begun}
use Rattle.toml_edit_tree.specs.ArrayLines.{line_inserted, line_removed, line_taken, lines_before, moved, newline_at, placed, text_above, text_after}

-- ---- texts

first_newlines : first_newline (codes " # a\r\n\n") ∷ first_newline (codes "\n\r\n")
    ∷ first_newline (codes "# a") ∷ []
    ≡ codes "\r\n" ∷ codes "\n" ∷ codes "\n" ∷ []
first_newlines = refl

after_newlines : after_newline (codes "# a\n\n  b") ∷ after_newline (codes "# a\r\n")
    ∷ after_newline (codes "  b") ∷ []
    ≡ Some (codes "  b") ∷ Some [] ∷ None ∷ []
after_newlines = refl

-- a line has another newline before it, and none after it
moved_lines : moved (codes "\r\n") (codes "  ") (codes "\t# a \n")
    ∷ moved newline (codes "  ") (codes " \r\n") ∷ []
    ≡ codes "\r\n  # a " ∷ codes "\n" ∷ []
moved_lines = refl

-- ---- what is above and after a value

-- the first line is the rest of another, and the last one is the value's own
lines_above : text_above newline (codes "  ")
    (owned_decor (codes " \n    # one\n\n# two\r\n\t") (codes " # c"))
    ≡ codes "\n  # one\n\n  # two"
lines_above = refl

-- a first line with text is kept
comment_first : text_above (codes "\r\n") (codes "\t") (owned_decor (codes " # one\n") [])
    ≡ codes "\r\n\t# one"
comment_first = refl

-- a last line with text is kept too
comment_last : text_above newline (codes "  ") (owned_decor (codes "\n  # one\n# two") [])
    ≡ codes "\n  # one\n  # two"
comment_last = refl

none_above : text_above newline (codes "  ") (owned_decor (codes "\n  ") (codes " # c\n"))
    ∷ text_above newline (codes "  ") unset ∷ []
    ≡ [] ∷ [] ∷ []
none_above = refl

-- the comment stays after the value; of the lines below, those with text
lines_after : text_after newline (codes "  ") (owned_decor [] (codes " # one \n\n# two\r\n "))
    ≡ codes " # one \n  # two"
lines_after = refl

lines_below_alone : text_after (codes "\r\n") [] (owned_decor [] (codes " \n # two"))
    ≡ codes "\r\n# two"
lines_below_alone = refl

none_after : text_after newline (codes "  ") (owned_decor (codes "# one\n") (codes " \n "))
    ∷ text_after newline (codes "  ") unset ∷ []
    ≡ [] ∷ [] ∷ []
none_after = refl

-- ---- the lines of an array

-- an integer between these texts
abbrev between : Text → Text → ℕ → Node
between before after n = with_decor (owned_decor before after) (plain_int n)

-- an integer that a comma follows
abbrev before_comma : Text → ℕ → Node
before_comma before n =
    with_decor (record { prefix = Some (owned before); suffix = None }) (plain_int n)

-- two lines with comments, the second without a comma
abbrev two_lines : List Node
two_lines =
    between (codes " # list\n  ") [] 1 ∷ between (codes " # one\n  ") (codes " # two\n") 2 ∷ []

-- both on the line of the bracket; on one that is indented; and on one that begins with a comma
abbrev on_one_line : List Node
on_one_line = between [] [] 1 ∷ between (codes " ") [] 2 ∷ []

abbrev on_second_line : List Node
on_second_line = between (codes "\r\n\t") [] 1 ∷ between (codes " ") (codes "\n") 2 ∷ []

abbrev comma_first : List Node
comma_first = between [] (codes " # one\n  ") 1 ∷ between (codes " ") [] 2 ∷ []

begun_lines : line_begun 1 two_lines ∷ line_begun 1 on_one_line ∷ line_begun 1 on_second_line
    ∷ line_begun 1 comma_first ∷ []
    ≡ Some (codes "  ") ∷ None ∷ Some (codes "\t") ∷ Some (codes "  ") ∷ []
begun_lines = refl

-- at the end that of the last value
indents : indent_at 2 two_lines ∷ indent_at 2 on_one_line ∷ indent_at 2 on_second_line
    ∷ indent_at 0 [] ∷ []
    ≡ codes "  " ∷ codes "    " ∷ codes "\t" ∷ codes "    " ∷ []
indents = refl

-- CR LF and then LF, and CR LF before the bracket alone
abbrev ends_in_return : ArrayFields
ends_in_return = record new_array { comma = true; trailing = owned (codes " # two\r\n") }

newlines_at : newline_at (codes " ") new_array on_second_line
    ∷ newline_at (codes "\n") new_array on_second_line
    ∷ newline_at [] new_array on_one_line
    ∷ newline_at [] ends_in_return on_one_line ∷ []
    ≡ codes "\r\n" ∷ codes "\n" ∷ codes "\n" ∷ codes "\r\n" ∷ []
newlines_at = refl

-- ---- a line is inserted

placed_after : placed (owned (codes "\n")) (between (codes " ") (codes " # c") 1)
    ≡ before_comma (codes "\n") 1
placed_after = refl

-- `3` with a comment above it and one after, below the comment of the last line
abbrev three : Node
three = between (codes "# about\n") (codes " # three") 3

abbrev three_lines : List Node
three_lines =
    between (codes " # list\n  ") [] 1 ∷ between (codes " # one\n  ") [] 2
    ∷ between (codes " # two\n  # about\n  ") (codes " # three\n") 3 ∷ []

at_end : line_inserted 2 three new_array two_lines ≡ three_lines
at_end = refl

fields_at_end : fields_inserted 2 three new_array two_lines ≡ new_array
fields_at_end = refl

-- the comment after the bracket stays there
at_beginning : line_inserted 0 (plain_int 0) new_array two_lines
    ≡ before_comma (codes " # list\n  ") 0 ∷ between (codes "\n  ") [] 1
    ∷ between (codes " # one\n  ") (codes " # two\n") 2 ∷ []
at_beginning = refl

-- after a comma the last gap is no suffix
after_comma : line_inserted 2 three ends_in_return on_one_line
    ≡ between [] [] 1 ∷ between (codes " ") [] 2
    ∷ before_comma (codes " # two\r\n    # about\r\n    ") 3 ∷ []
after_comma = refl

fields_after_comma : fields_inserted 2 three ends_in_return on_one_line
    ≡ record new_array { comma = true; trailing = owned (codes " # three\r\n") }
fields_after_comma = refl

-- on one line: between the others, or on a line of its own for its comment
on_line : line_inserted 1 (plain_int 3) new_array on_one_line
    ≡ between [] [] 1 ∷ before_comma (codes " ") 3 ∷ between (codes " ") [] 2 ∷ []
on_line = refl

breaks_line : line_inserted 1 (between [] (codes " # c") 3) new_array on_one_line
    ≡ between [] [] 1 ∷ before_comma (codes "\n    ") 3
    ∷ between (codes " # c\n    ") [] 2 ∷ []
breaks_line = refl

breaks_at_end : line_inserted 2 (between [] (codes " # c") 3) new_array on_one_line
    ≡ between [] [] 1 ∷ between (codes " ") [] 2
    ∷ between (codes "\n    ") (codes " # c\n") 3 ∷ []
breaks_at_end = refl

into_empty : line_inserted 0 three new_array []
    ≡ between (codes "\n    # about\n    ") (codes " # three\n") 3 ∷ []
into_empty = refl

-- ---- a line is removed

removed_again : line_removed 2 new_array three_lines ≡ two_lines
removed_again = refl

taken : line_taken 2 new_array three_lines (plain_int 3)
    ≡ between (codes "\n  # about\n  ") (codes " # three") 3
taken = refl

-- the comment of the line before it stays, though no newline is after it
comment_left : line_removed 1 new_array (between [] [] 1 ∷ between (codes " # one\n  ") [] 2 ∷ [])
    ≡ one (between [] (codes " # one\n") 1)
comment_left = refl

-- the line of the opening bracket is the value's if no other value is on it
alone : is_alone [] (codes " # c\n") true ∷ is_alone [] (codes " # c\n") false
    ∷ is_alone (codes "\n") [] true ∷ is_alone (codes "\n") (codes "\n") false ∷ []
    ≡ true ∷ false ∷ false ∷ true ∷ []
alone = refl

-- what is before a value, with a newline and without one
lines_of_gap : line_before (codes " # one\n\t") ∷ lines_before (codes " # one\n\t")
    ∷ line_before (codes "\t") ∷ lines_before (codes "\t") ∷ []
    ≡ codes " # one" ∷ codes "\n\t" ∷ [] ∷ codes "\t" ∷ []
lines_of_gap = refl

abbrev beside_bracket : List Node
beside_bracket = between (codes " ") [] 1 ∷ between (codes " # one\n  ") [] 2 ∷ []

comment_gone : line_removed 0 new_array beside_bracket ≡ one (between (codes "\n  ") [] 2)
comment_gone = refl

comment_taken : line_taken 0 new_array beside_bracket (plain_int 1)
    ≡ between (codes " ") (codes " # one") 1
comment_taken = refl

-- the only one
bracket_left : fields_removed 0 new_array (one (between [] (codes " # one\n") 1))
    ≡ record new_array { trailing = owned newline }
bracket_left = refl

-- another value is on the line: before the second of three, and after the first of two
abbrev three_beside : List Node
three_beside = between [] [] 1 ∷ between (codes " ") [] 2 ∷ between (codes " # two\n  ") [] 3 ∷ []

comment_of_others : line_removed 1 new_array three_beside
    ≡ between [] [] 1 ∷ between (codes " # two\n  ") [] 3 ∷ []
comment_of_others = refl

others_after : line_removed 0 new_array (between [] [] 1 ∷ between (codes " ") (codes " # two\n") 2 ∷ [])
    ≡ one (between [] (codes " # two\n") 2)
others_after = refl

nothing_taken : line_taken 1 new_array three_beside (between (codes " ") [] 2)
    ≡ between (codes " ") [] 2
nothing_taken = refl

comments_behind : comment_behind 0 new_array three_lines
    ∷ comment_behind 2 new_array three_lines ∷ comment_behind 3 new_array three_lines ∷ []
    ≡ Some (codes " one") ∷ Some (codes " three") ∷ None ∷ []
comments_behind = refl
