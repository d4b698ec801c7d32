-- Worked texts at each kind of place, laid out.
use Rattle.std.specs.Prelude.{◌≡◌, refl, true, false, [], ◌∷◌, codes, None}
use Rattle.toml_edit_fmt_laws.specs.Rules.{Rules, as_it_is, by_depth, as_they_are, aligned, default_rules, line_depth, header_depth}
use Rattle.toml_edit_fmt_laws.specs.Laying.{is_empty_line, is_whole_line, indented, squeezed, trimmed, leading, header_leading, final_text}
use Rattle.toml_edit_fmt_laws.specs.Laying.{line_rest, gap, before_comma}

-- ---- lines

empty_lines : is_empty_line (codes " \t\r\n") ≡ true
empty_lines = refl

white_end : is_empty_line (codes "  ") ≡ false
white_end = refl

comment_line : is_empty_line (codes "# a\n") ≡ false
comment_line = refl

open_comment : is_whole_line (codes " # a") ≡ true
open_comment = refl

indentation_line : is_whole_line (codes "  ") ≡ false
indentation_line = refl

moved_comment : indented (codes "  ") (codes "\t# a \r\n") ≡ codes "  # a \r\n"
moved_comment = refl

moved_empty : indented (codes "  ") (codes "\t\n") ≡ codes "\n"
moved_empty = refl

one_of_three : squeezed is_empty_line 1 1 (codes "\n" ∷ codes " \n" ∷ codes "# a\n" ∷ codes "\n" ∷ [])
    ≡ codes "\n" ∷ codes "# a\n" ∷ codes "\n" ∷ []
one_of_three = refl

none_at_start : squeezed is_empty_line 1 0 (codes "\n" ∷ codes "# a\n" ∷ []) ≡ codes "# a\n" ∷ []
none_at_start = refl

none_at_end : trimmed is_empty_line (codes "# a\n" ∷ codes "\n" ∷ codes "# b\n" ∷ codes "\n" ∷ [])
    ≡ codes "# a\n" ∷ codes "\n" ∷ codes "# b\n" ∷ []
none_at_end = refl

two_of_three : squeezed is_empty_line 2 2 (codes "\n" ∷ codes " \n" ∷ codes "\n" ∷ codes "# a\n" ∷ [])
    ≡ codes "\n" ∷ codes " \n" ∷ codes "# a\n" ∷ []
two_of_three = refl

-- ---- before statements

-- nothing is asked of lines and comments
abbrev no_rules : Rules
no_rules = record default_rules { comments = as_they_are; blank_lines = None; indentation = as_it_is }

line_start : leading default_rules false 0 (codes "\n\n  # a\n\n\n # b\n  ") ≡ codes "\n# a\n\n# b\n"
line_start = refl

text_start : leading default_rules true 0 (codes "\n\n  # a\n") ≡ codes "# a\n"
text_start = refl

moved_start : leading (record default_rules { indentation = by_depth }) false 1 (codes "\n# a\n")
    ≡ codes "\n  # a\n  "
moved_start = refl

-- where lines are not moved, white space stays
kept_start : leading (record default_rules { indentation = as_it_is }) false 1 (codes "\n \n\t# a\n\t")
    ≡ codes "\n\t# a\n\t"
kept_start = refl

-- where the empty lines stay, lines are moved alone
spaced_start : leading (record default_rules { blank_lines = None }) true 0 (codes "\n \n\t# a\n\t")
    ≡ codes "\n\n# a\n"
spaced_start = refl

untouched_start : leading no_rules true 1 (codes "\n \n\t# a\n\t") ≡ codes "\n \n\t# a\n\t"
untouched_start = refl

set_off_header : header_leading default_rules false 0 [] ≡ codes "\n"
set_off_header = refl

-- a comment that touches it stays so
touching_comment : header_leading default_rules false 0 (codes "# a\n") ≡ codes "# a\n"
touching_comment = refl

set_off_already : header_leading default_rules false 0 (codes "\n\n# a\n") ≡ codes "\n# a\n"
set_off_already = refl

first_header : header_leading default_rules true 0 [] ≡ []
first_header = refl

set_off_return : header_leading (record default_rules { returns = true }) false 0 [] ≡ codes "\r\n"
set_off_return = refl

depths : line_depth (record default_rules { indentation = by_depth }) 2 ∷ header_depth (record default_rules { indentation = by_depth }) 2
    ∷ line_depth default_rules 2 ∷ []
    ≡ 2 ∷ 1 ∷ 0 ∷ []
depths = refl

-- ---- the end of the text

text_end : final_text default_rules false (codes "\n\n# a\n\n  # b\n\n ") ≡ codes "\n# a\n\n# b\n"
text_end = refl

open_end : final_text default_rules true (codes "\n # a\n  # b") ≡ codes "# a\n# b"
open_end = refl

kept_end : final_text (record default_rules { blank_lines = None }) true (codes "\n\n") ≡ codes "\n\n"
kept_end = refl

-- ---- after something on its line

one_space_before : line_rest default_rules 0 (codes "\t  # a ") ≡ codes " # a "
one_space_before = refl

none_after : line_rest default_rules 0 (codes "  ") ≡ []
none_after = refl

-- in exact mode a suffix ends in the CR of its newline
return_after : line_rest default_rules 0 (codes "  # a\r") ≡ codes " # a\r"
return_after = refl

kept_after : line_rest no_rules 0 (codes "\t# a") ≡ codes "\t# a"
kept_after = refl

in_a_column : line_rest (record default_rules { comments = aligned 2 }) 5 (codes " # a") ≡ codes "     # a"
in_a_column = refl

-- ---- between brackets

new_line : gap default_rules 0 true false 1 1 (codes " ") ≡ codes "\n  "
new_line = refl

comment_beside : gap default_rules 0 false false 1 1 (codes "  # one\r\n\n\n# two\n") ≡ codes " # one\r\n\n  # two\n  "
comment_beside = refl

none_first : gap default_rules 0 true false 1 1 (codes "\n\n\n# two\n") ≡ codes "\n  # two\n  "
none_first = refl

before_bracket_text : gap default_rules 0 false true 1 0 (codes " # one\n\n    # two\n\n") ≡ codes " # one\n\n  # two\n"
before_bracket_text = refl

nothing_before_comma : before_comma default_rules 1 (codes "\n  ") ≡ []
nothing_before_comma = refl

comment_before_comma : before_comma default_rules 1 (codes " # one\n") ≡ codes " # one\n  "
comment_before_comma = refl
