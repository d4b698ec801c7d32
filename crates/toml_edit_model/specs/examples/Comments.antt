-- Worked comments of decors, and what changes of them leave.
use Rattle.std.specs.Prelude.{◌≡◌, refl, [], ◌∷◌, codes, Some, None}
use Rattle.toml_edit_model.specs.Text.{space}
use Rattle.toml_edit_model.specs.Trivia.{lf, crlf, blank, break, remark}
use Rattle.toml_edit_model.specs.Tree.{owned, span, unset}
use Rattle.toml_edit_model.specs.Comments.{lines, words, last_newline, comments, bodies, first_comment, without_comments, with_comment_line}
use Rattle.toml_edit_model.specs.Comments.{with_first_comment, without_first_comment, comments_before, with_comment_before}
use Rattle.toml_edit_model.specs.Comments.{without_comments_before, comment_after, with_comment_after}

-- ---- lines

lines_of_text : lines (codes "# a\r\n\n  ") ≡ codes "# a\r\n" ∷ codes "\n" ∷ codes "  " ∷ []
lines_of_text = refl

lines_of_none : lines [] ≡ []
lines_of_none = refl

-- ---- what the comments of a text are

-- one with each newline; between them an empty line, after them the indentation of a key
two_comments : comments (codes "# one\n\n  #two \r\n  ") ≡ codes " one" ∷ codes "two " ∷ []
two_comments = refl

two_bodies : bodies (remark (codes " one") lf ∷ break lf ∷ blank space
    ∷ remark (codes "two ") crlf ∷ [])
    ≡ codes " one" ∷ codes "two " ∷ []
two_bodies = refl

-- a comment may hold `#`, and may be empty
comment_of_hashes : comments (codes "## a # b\n#\n") ≡ codes "# a # b" ∷ [] ∷ []
comment_of_hashes = refl

no_comments : comments (codes "\n \t\n  ") ≡ []
no_comments = refl

-- what follows something else on its line is no comment of trivia
comment_behind_word : comments (codes "x # a\n") ≡ []
comment_behind_word = refl

comment_at_end : first_comment (codes " # one") ≡ Some (codes " one")
comment_at_end = refl

-- in exact mode a suffix ends in the CR of its newline
comment_before_return : first_comment (codes "\t# one\r") ≡ Some (codes " one")
comment_before_return = refl

-- after an element of an array, the comment of its own line alone
comment_of_element : first_comment (codes " # one\n  # two\n") ≡ Some (codes " one")
comment_of_element = refl

comment_of_next_line : first_comment (codes "\n  # two\n") ≡ None
comment_of_next_line = refl

-- ---- what changes leave

-- each comment goes with its indentation and its newline
removed_lines : without_comments (codes "# one\n\n  # two\r\n  ") ≡ codes "\n  "
removed_lines = refl

removed_none : without_comments (codes "\r\n \n\t") ≡ codes "\r\n \n\t"
removed_none = refl

-- the last line is indented as the key is
added_line : with_comment_line (codes " new") (codes "# one\n  ") ≡ codes "# one\n  # new\n  "
added_line = refl

-- and ends as the one before it does
added_after_return : with_comment_line (codes " new") (codes "# one\r\n\t")
    ≡ codes "# one\r\n\t# new\r\n\t"
added_after_return = refl

added_after_both : with_comment_line (codes " new") (codes "\r\n\n  ")
    ≡ codes "\r\n\n  # new\n  "
added_after_both = refl

newlines : last_newline (codes "\n\r\n") ∷ last_newline (codes "\r\n\r") ∷ last_newline (codes "\r")
    ∷ last_newline (codes "\n") ∷ []
    ≡ codes "\r\n" ∷ codes "\r\n" ∷ codes "\n" ∷ codes "\n" ∷ []
newlines = refl

words_of_lines : words (codes " \t# a  ") ∷ words (codes "# a") ∷ words (codes "  ") ∷ []
    ≡ codes "# a  " ∷ codes "# a" ∷ [] ∷ []
words_of_lines = refl

added_to_none : with_comment_line (codes " new") [] ≡ codes "# new\n"
added_to_none = refl

-- white space before the old comment stays
set_again : with_first_comment (codes " new") (codes "\t  # old") ≡ codes "\t  # new"
set_again = refl

set_close : with_first_comment (codes "new") (codes "# old\r") ≡ codes "#new\r"
set_close = refl

-- a comment where none was is behind one space
set_anew : with_first_comment (codes " new") (codes "   ") ≡ codes " # new"
set_anew = refl

set_in_array : with_first_comment (codes " new") (codes "\n  # two\n") ≡ codes " # new\n  # two\n"
set_in_array = refl

-- what is no trivia stays
set_behind_word : with_first_comment (codes " new") (codes "x ") ≡ codes "x # new"
set_behind_word = refl

removed_at_end : without_first_comment (codes "  # old\r") ≡ codes "\r"
removed_at_end = refl

removed_nothing : without_first_comment (codes "  ") ≡ codes "  "
removed_nothing = refl

-- ---- decors

comments_of_unset : comments_before unset ≡ []
comments_of_unset = refl

comments_of_span : comments_before (record { prefix = Some (span 0 4); suffix = None }) ≡ []
comments_of_span = refl

-- the other side stays
added_before : with_comment_before (codes " a")
    (record unset { suffix = Some (owned (codes " # b")) })
    ≡ record { prefix = Some (owned (codes "# a\n")); suffix = Some (owned (codes " # b")) }
added_before = refl

set_after : with_comment_after (Some (codes " a"))
    (record unset { prefix = Some (owned (codes "# b\n")) })
    ≡ record { prefix = Some (owned (codes "# b\n")); suffix = Some (owned (codes " # a")) }
set_after = refl

-- an unset side from which a comment is taken stays unset
removed_before_unset : without_comments_before unset ≡ unset
removed_before_unset = refl

removed_after_unset : with_comment_after None unset ≡ unset
removed_after_unset = refl

comment_after_value : comment_after (record unset { suffix = Some (owned (codes " # b")) })
    ≡ Some (codes " b")
comment_after_value = refl
