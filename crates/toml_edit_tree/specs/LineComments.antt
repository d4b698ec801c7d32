-- What the calls do that set the comment on the line of a value of an array, or remove those above
-- it.
use Rattle.std.specs.Prelude.{◌≡◌, ℕ, suc, Bool, true, false, ◌||◌, not, nat_lt, if◌then◌else◌, List, ◌++◌, length, Option, Some, None}
use Rattle.std.specs.Prelude.{is_some, Result, Ok, Err}
use Rattle.toml_edit_model.specs.Comments.{after_first_line, first_line, side_text, with_first_comment, without_comments, without_first_comment}
use Rattle.toml_edit_model.specs.Text.{Text as TextOf}
use Rattle.toml_edit_model.specs.Tree.{ArrayFields, Node, node_decor, owned}
use Rattle.toml_edit_repr.specs.Comments.{may_stand}
use Rattle.toml_edit_repr.specs.declared.comments.CommentFault.{CommentFault}
use Rattle.toml_edit_repr.specs.declared.comments.CommentFault.TheVariants.{Text, Memory}
use Rattle.toml_edit_tree.specs.ArrayLines.{broken_gap, comment_behind, fields_with_gap, gap, indent_at, is_broken, newline_at}
use Rattle.toml_edit_tree.specs.ArrayLines.{with_gap, with_prefix}

-- ---- the comment on the line

-- the text with this comment on its first line, or with none there
abbrev pub commented : Option TextOf → TextOf → TextOf
commented (Some body) t = with_first_comment body t
commented None t = without_first_comment t

-- The gap at a place, with a newline if a comment is put there: what follows it begins a line.
abbrev pub gap_ended : Option TextOf → ℕ → ArrayFields → List Node → TextOf
gap_ended None i f xs = gap i f xs
gap_ended (Some body) i f xs =
    let g = gap i f xs in
    broken_gap g (newline_at g f xs) (indent_at i xs) (not (nat_lt i (length xs)))

abbrev pub gap_commented : Option TextOf → ℕ → ArrayFields → List Node → TextOf
gap_commented comment i f xs = commented comment (gap_ended comment i f xs)

-- `set_line_comment`: nothing changes where a comment is removed that is not there
abbrev pub changes_comment : Option TextOf → ℕ → ArrayFields → List Node → Bool
changes_comment comment i f xs = is_some comment || is_some (comment_behind i f xs)

abbrev pub line_commented : Option TextOf → ℕ → ArrayFields → List Node → List Node
line_commented comment i f xs =
    if changes_comment comment i f xs
    then with_gap (suc i) (owned (gap_commented comment (suc i) f xs)) f xs else xs

abbrev pub fields_commented : Option TextOf → ℕ → ArrayFields → List Node → ArrayFields
fields_commented comment i f xs =
    if changes_comment comment i f xs
    then fields_with_gap (suc i) (owned (gap_commented comment (suc i) f xs)) f xs else f

-- A comment that may not stand is refused, and all is kept then and after running out of memory.
abbrev pub SetsComment : Option TextOf → Type 0 → Type 0 → Result (Unit {0}) CommentFault → Type 0
SetsComment comment Meant Kept (Ok u) = (may_stand comment ≡ true) × Meant
SetsComment comment Meant Kept (Err Text) = (may_stand comment ≡ false) × Kept
SetsComment comment Meant Kept (Err Memory) = (may_stand comment ≡ true) × Kept

-- ---- the comments above

-- the first line, which is the rest of the line before, and the others without those that have
-- comments
abbrev pub uncommented : TextOf → TextOf
uncommented t = first_line t ++ without_comments (after_first_line t)

-- `remove_comments_before`: the value without the comments of the lines above it
abbrev pub without_comments_above : Node → Node
without_comments_above n =
    let t = side_text (node_decor n).prefix in
    if is_broken t then with_prefix (owned (uncommented t)) n else n
