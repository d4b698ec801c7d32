-- Worked comments of the values of an array, and values that stay with their lines.
use Rattle.std.specs.Prelude.{◌≡◌, refl, ℕ, zero, true, false, List, [], ◌∷◌, codes, None, Some}
use Rattle.toml_edit_model.specs.Conversions.{new_array, with_decor}
use Rattle.toml_edit_model.specs.Text.{Text, one}
use Rattle.toml_edit_model.specs.Tree.{ArrayFields, Node, owned, unset}
use Rattle.toml_edit_model.specs.examples.Parts.{owned_decor, plain_int}
use Rattle.toml_edit_tree.specs.ArrayLines.{comment_behind}
use Rattle.toml_edit_tree.specs.LineComments.{fields_commented, gap_commented, line_commented, uncommented, without_comments_above}
use Rattle.toml_edit_tree.specs.LinesRetained.{lines_kept}

-- an integer between these texts
abbrev between : Text → Text → ℕ → Node
between before after n = with_decor (owned_decor before after) (plain_int n)

-- on one line; and two lines with comments, the second without a comma
abbrev on_one_line : List Node
on_one_line = between [] [] 1 ∷ between (codes " ") [] 2 ∷ []

abbrev two_lines : List Node
two_lines =
    between (codes " # list\n  ") [] 1 ∷ between (codes " # one\n  ") (codes " # two\n") 2 ∷ []

-- ---- the comment on the line

-- what follows a comment begins a line, and the bracket is not indented
comments_put : gap_commented (Some (codes " c")) 1 new_array on_one_line
    ∷ gap_commented (Some (codes " c")) 2 new_array on_one_line
    ∷ gap_commented (Some (codes "c")) 1 new_array two_lines ∷ []
    ≡ codes " # c\n    " ∷ codes " # c\n" ∷ codes " #c\n  " ∷ []
comments_put = refl

comments_removed : gap_commented None 1 new_array two_lines
    ∷ gap_commented None 2 new_array two_lines ∷ gap_commented None 1 new_array on_one_line ∷ []
    ≡ codes "\n  " ∷ codes "\n" ∷ codes " " ∷ []
comments_removed = refl

replaced_on_line : line_commented (Some (codes " uno")) 0 new_array two_lines
    ≡ between (codes " # list\n  ") [] 1 ∷ between (codes " # uno\n  ") (codes " # two\n") 2 ∷ []
replaced_on_line = refl

-- the last one is before the comma's trailing text, or in the suffix
put_at_end : line_commented (Some (codes " c")) 1 new_array on_one_line
    ≡ between [] [] 1 ∷ between (codes " ") (codes " # c\n") 2 ∷ []
put_at_end = refl

abbrev with_comma : ArrayFields
with_comma = record new_array { comma = true }

put_after_comma : fields_commented (Some (codes " c")) 1 with_comma on_one_line
    ≡ record with_comma { trailing = owned (codes " # c\n") }
put_after_comma = refl

read_again : comment_behind 1 new_array (line_commented (Some (codes " c")) 1 new_array on_one_line)
    ≡ Some (codes " c")
read_again = refl

none_removed : line_commented None 0 new_array on_one_line ≡ on_one_line
none_removed = refl

-- ---- comments above

-- the first line is that of the value before, and empty lines stay
lines_uncommented : uncommented (codes " # one\n  # about\n\n\t# more\n  ")
    ∷ uncommented (codes " # one\r\n# about\r\n") ∷ []
    ≡ codes " # one\n\n  " ∷ codes " # one\r\n" ∷ []
lines_uncommented = refl

value_uncommented : without_comments_above (between (codes "\n# about\n") (codes " # c") 1)
    ∷ without_comments_above (with_decor unset (plain_int 1)) ∷ []
    ≡ between (codes "\n") (codes " # c") 1 ∷ with_decor unset (plain_int 1) ∷ []
value_uncommented = refl

-- ---- values that stay

abbrev three_lines : List Node
three_lines =
    between (codes "\n  ") [] 1 ∷ between (codes " # one\n  # about two\n  ") [] 2
    ∷ between (codes " # two\n  ") (codes " # three\n") 3 ∷ []

middle_removed : lines_kept zero (true ∷ false ∷ true ∷ []) (new_array, three_lines)
    ≡ (
      new_array,
      between (codes "\n  ") [] 1 ∷ between (codes " # one\n  ") (codes " # three\n") 3 ∷ [],
    )
middle_removed = refl

last_two_removed : lines_kept zero (true ∷ false ∷ false ∷ []) (new_array, three_lines)
    ≡ (new_array, one (between (codes "\n  ") (codes " # one\n") 1))
last_two_removed = refl
