-- The text at each kind of place, laid out line by line. A comment stays on its line, and each line
-- keeps its newline.
use Rattle.std.specs.Prelude.{ℕ, zero, suc, Bool, true, false, not, ◌==◌, ◌&&◌, ◌||◌, if◌then◌else◌, List, [], ◌∷◌, ◌++◌, chars, drop, filter, flat_map, nat_lt}
use Rattle.std.specs.Prelude.{Option, Some, None, is_some}
use Rattle.std.specs.List.{before_first, list_any}
use Rattle.toml_edit_model.specs.Comments.{comments, first_comment, first_line, lines, words}
use Rattle.toml_edit_model.specs.Mode.{exact, line_newline}
use Rattle.toml_edit_model.specs.Text.{Text, has_byte, is_empty, joined, line_feed}
use Rattle.unicode_width.specs.Width.{str_width}
use Rattle.toml_edit_fmt_laws.specs.Rules.{Indentation, as_it_is, flush, by_depth, Comments, as_they_are, apart, aligned, Rules, spaces, units, made_newline}

-- ---- columns

-- the columns that a text takes
abbrev pub columns : Text → ℕ
columns t = str_width false (chars t)

-- a text after its last newline
abbrev pub last_line : Text → Text
last_line [] = []
last_line (c ∷ t) =
    if c == line_feed then last_line t
    else if has_byte line_feed t then last_line t
    else c ∷ t

-- ---- lines

abbrev pub is_broken : Text → Bool
is_broken t = has_byte line_feed t

-- what a line has but white space before it, and at its end the newline
abbrev pub line_words : Text → Text
line_words l = words (first_line l)

abbrev pub is_empty_line : Text → Bool
is_empty_line l = is_broken l && is_empty (line_words l)

abbrev pub has_empty_line : Text → Bool
has_empty_line t = list_any is_empty_line (lines t)

-- the lines but for the white space after the last newline
abbrev pub is_whole_line : Text → Bool
is_whole_line l = is_broken l || not (is_empty (line_words l))

abbrev pub whole_lines : List Text → List Text
whole_lines ls = filter is_whole_line ls

-- a line moved in; an empty one is only its newline
abbrev pub indented : Text → Text → Text
indented indent l = (if is_empty (line_words l) then [] else indent) ++ words l

-- of elements in a row that pass the test the first ones, so many at most, of which this many may
-- come first
abbrev pub squeezed : {A : Type 0} → (A → Bool) → ℕ → ℕ → List A → List A
squeezed test most left [] = []
squeezed test most zero (l ∷ ls) =
    if test l then squeezed test most 0 ls else l ∷ squeezed test most most ls
squeezed test most (suc left) (l ∷ ls) =
    if test l then l ∷ squeezed test most left ls else l ∷ squeezed test most most ls

-- none that passes at the end
abbrev pub trimmed : {A : Type 0} → (A → Bool) → List A → List A
trimmed test [] = []
trimmed test (l ∷ ls) = if test l && is_empty (trimmed test ls) then [] else l ∷ trimmed test ls

-- Lines of which these are empty: at most so many of them in a row, and none at the start of the text
-- or at its end.
abbrev pub spaced_by : {A : Type 0} → (A → Bool) → Option ℕ → Bool → Bool → List A → List A
spaced_by test None is_start is_end ls = ls
spaced_by test (Some most) is_start is_end ls =
    let few = squeezed test most (if is_start then 0 else most) ls in
    if is_end then trimmed test few else few

abbrev pub spaced : Option ℕ → Bool → Bool → List Text → List Text
spaced = spaced_by is_empty_line

-- the lines as they are, or moved in
abbrev pub laid_lines : Rules → Bool → Bool → Option ℕ → Text → Text
laid_lines r is_start is_end None t = joined (spaced r.blank_lines is_start is_end (lines t))
laid_lines r is_start is_end (Some depth) t =
    flat_map (indented (units r depth)) (spaced r.blank_lines is_start is_end (whole_lines (lines t)))

-- ---- before and after statements

-- before a statement: its lines, and the indentation of its own
abbrev pub leading_as : Indentation → Rules → Bool → ℕ → Text → Text
leading_as as_it_is r is_start depth t = laid_lines r is_start false None t
leading_as flush r is_start depth t = laid_lines r is_start false (Some depth) t ++ units r depth
leading_as by_depth r is_start depth t = laid_lines r is_start false (Some depth) t ++ units r depth

abbrev pub leading : Rules → Bool → ℕ → Text → Text
leading r = leading_as r.indentation r

abbrev pub may_be_empty : Option ℕ → Bool
may_be_empty None = false
may_be_empty (Some most) = nat_lt 0 most

-- One empty line is before a header that does not begin the text, and that nothing but its
-- indentation is before.
abbrev pub header_leading : Rules → Bool → ℕ → Text → Text
header_leading r is_start depth t =
    (if may_be_empty r.blank_lines && not (is_start || is_broken t) then made_newline r else [])
    ++ leading r is_start depth t

-- the end of the text
abbrev pub final_as : Indentation → Rules → Bool → Text → Text
final_as as_it_is r is_start t = laid_lines r is_start true None t
final_as flush r is_start t = laid_lines r is_start true (Some 0) t
final_as by_depth r is_start t = laid_lines r is_start true (Some 0) t

abbrev pub final_text : Rules → Bool → Text → Text
final_text r = final_as r.indentation r

-- after something on its line: a comment after so many spaces, or nothing
abbrev pub rest_as : Comments → ℕ → Text → Text
rest_as as_they_are pad t = t
rest_as (apart n) pad t = (if is_some (first_comment t) then spaces n else []) ++ words t
rest_as (aligned n) pad t = (if is_some (first_comment t) then spaces pad else []) ++ words t

abbrev pub line_rest : Rules → ℕ → Text → Text
line_rest r = rest_as r.comments

-- the spaces where a comment is not aligned
abbrev pub usual_pad : Comments → ℕ
usual_pad as_they_are = 0
usual_pad (apart n) = n
usual_pad (aligned n) = n

-- ---- between brackets

-- the newline that ends the first line, or one that is made
abbrev pub line_break : Rules → Text → Text
line_break r t =
    if is_broken t then line_newline exact (before_first (λ c. c == line_feed) t) else made_newline r

-- the comment on the line of what is before a gap
abbrev pub beside : Rules → ℕ → Text → Text
beside r pad t = if is_some (first_comment t) then line_rest r pad (first_line t) else []

-- A gap with a newline: the comment on the first line after so many spaces, the other lines moved in,
-- and the indentation of the next thing.
abbrev pub gap : Rules → ℕ → Bool → Bool → ℕ → ℕ → Text → Text
gap r pad is_start is_end depth last t =
    beside r pad t ++ (line_break r t
    ++ (laid_lines r is_start is_end (Some depth) (joined (drop 1 (lines t))) ++ units r last))

-- before a comma there is nothing but comments
abbrev pub before_comma : Rules → ℕ → Text → Text
before_comma r depth t =
    if is_empty (comments t) then [] else gap r (usual_pad r.comments) false false depth depth t
