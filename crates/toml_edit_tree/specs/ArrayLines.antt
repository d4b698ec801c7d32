-- What the calls do that insert a value into an array together with its line, and remove it so
-- (TOML 1.1.0, "Array" and "Comment"). The gap at a place is the text before the slot there, after
-- the comma or the bracket; the last gap is before the closing bracket. A gap that has a newline
-- begins with the rest of the line before it, where that line's comment is.
use Rattle.std.specs.Prelude.{ℕ, zero, suc, ◌-◌, ◌==◌, nat_lt, Bool, false, not, ◌&&◌, ◌||◌, if◌then◌else◌, List, [], ◌∷◌, ◌++◌, codes, drop}
use Rattle.std.specs.Prelude.{filter, flat_map, length, map, take_while, Option, None, Some, is_none, is_some, option_and_then}
use Rattle.std.specs.List.{list_all}
use Rattle.std.specs.Option.{option_or, unwrap_or}
use Rattle.toml_edit_model.specs.ArrayCalls.{inserted_at, removed_at, value_at}
use Rattle.toml_edit_model.specs.Comments.{after_first_line, comment_after, first_comment, first_line, lines, side_text, words}
use Rattle.toml_edit_model.specs.Conversions.{with_decor}
use Rattle.toml_edit_model.specs.Mode.{exact}
use Rattle.toml_edit_model.specs.Print.{element_default, one_space}
use Rattle.toml_edit_model.specs.Slots.{changed_at}
use Rattle.toml_edit_model.specs.Text.{Text, carriage_return, has_byte, is_empty, line_feed, newline}
use Rattle.toml_edit_model.specs.Tree.{ArrayFields, Decor, Node, Raw, node_decor, owned, shown_side}
use Rattle.toml_edit_model.specs.Trivia.{is_blank}

-- ---- texts

-- the text has a newline
abbrev pub is_broken : Text → Bool
is_broken t = has_byte line_feed t

-- the newline that a text begins with, and the one that ends its first line: CR LF, or else LF
abbrev pub begun_newline : Text → Text
begun_newline [] = newline
begun_newline (c ∷ t) = if c == carriage_return then carriage_return ∷ newline else newline

abbrev pub first_newline : Text → Text
first_newline t = begun_newline (after_first_line t)

-- the text after the last newline
abbrev pub after_newline : Text → Option Text
after_newline [] = None
after_newline (c ∷ t) = option_or (after_newline t) (if c == line_feed then Some t else None)

-- what the first line has but white space before it, and at its end the newline
abbrev pub line_words : Text → Text
line_words l = words (first_line l)

-- the line on a new one: after this newline and, unless it is empty, this indentation
abbrev pub moved : Text → Text → Text → Text
moved end indent l = end ++ (if is_empty (line_words l) then [] else indent ++ line_words l)

-- the comment on the first line, with its newline
abbrev pub commented_line : Text → Text
commented_line t = if is_some (first_comment t) then first_line t ++ first_newline t else []

-- ---- gaps

-- the sides of the value at a place
abbrev pub prefix_at : ℕ → List Node → Option Raw
prefix_at i xs = option_and_then (λ n. (node_decor n).prefix) (value_at i xs)

abbrev pub suffix_at : ℕ → List Node → Option Raw
suffix_at i xs = option_and_then (λ n. (node_decor n).suffix) (value_at i xs)

-- what is between the last value and the closing bracket, if no comma ends the array
abbrev pub last_suffix : ArrayFields → List Node → Text
last_suffix f xs = if f.comma then [] else side_text (suffix_at (length xs - 1) xs)

abbrev pub last_gap : ArrayFields → List Node → Text
last_gap f xs = last_suffix f xs ++ side_text (Some f.trailing)

abbrev pub gap : ℕ → ArrayFields → List Node → Text
gap i f xs =
    if nat_lt i (length xs) then shown_side exact (element_default (i == 0)) (prefix_at i xs)
    else last_gap f xs

-- the item with another side of its decor, where it is a value
abbrev pub with_prefix : Raw → Node → Node
with_prefix r n = with_decor (record (node_decor n) { prefix = Some r }) n

abbrev pub with_suffix : Raw → Node → Node
with_suffix r n = with_decor (record (node_decor n) { suffix = Some r }) n

-- a comma or no value is before the last gap
abbrev pub is_closed : ArrayFields → List Node → Bool
is_closed f xs = f.comma || is_none (value_at (length xs - 1) xs)

-- The array with this as the gap at a place. It is where parsing puts it: the last one is the suffix
-- of the last value, unless a comma ends the array.
abbrev pub with_gap : ℕ → Raw → ArrayFields → List Node → List Node
with_gap i r f xs =
    if nat_lt i (length xs) then changed_at i (with_prefix r) xs
    else if is_closed f xs then xs
    else changed_at (length xs - 1) (with_suffix r) xs

abbrev pub fields_with_gap : ℕ → Raw → ArrayFields → List Node → ArrayFields
fields_with_gap i r f xs =
    if nat_lt i (length xs) then f
    else record f { trailing = if is_closed f xs then r else owned [] }

-- ---- the lines of an array

-- the first newline of the texts: CR LF, or else LF
abbrev pub newline_in : List Text → Text
newline_in [] = newline
newline_in (t ∷ ts) = if is_broken t then first_newline t else newline_in ts

abbrev pub prefixes : List Node → List Text
prefixes xs = map (λ n. side_text (node_decor n).prefix) xs

-- the newline for lines where this gap is: its own, or else that of the array's gaps
abbrev pub newline_at : Text → ArrayFields → List Node → Text
newline_at g f xs =
    newline_in (g ∷ (prefixes xs ++ (last_suffix f xs ∷ side_text (Some f.trailing) ∷ [])))

-- what is after the last newline before a value, on whichever value's line that is
abbrev pub line_begun : ℕ → List Node → Option Text
line_begun zero xs = after_newline (side_text (prefix_at zero xs))
line_begun (suc i) xs =
    option_or (after_newline (side_text (prefix_at (suc i) xs)))
    (option_or (after_newline (side_text (suffix_at i xs))) (line_begun i xs))

-- the value beside a place: the one there, or the last
abbrev pub beside : ℕ → List Node → ℕ
beside i xs = if nat_lt i (length xs) then i else length xs - 1

-- the white space that begins its line: four spaces if no newline is before it
abbrev pub indent_at : ℕ → List Node → Text
indent_at i xs = take_while is_blank (unwrap_or (line_begun (beside i xs) xs) (codes "    "))

-- ---- insertion

-- whether a line of a value's prefix stays: it ends with a newline, or has more than white space
abbrev pub is_kept : Text → Bool
is_kept l = is_broken l || not (is_empty (line_words l))

-- these lines, but for a first one that is white space: the rest of another line
abbrev pub lines_above : List Text → List Text
lines_above [] = []
lines_above (l ∷ ls) = filter is_kept (if is_empty (line_words l) then ls else l ∷ ls)

abbrev pub text_above : Text → Text → Decor → Text
text_above end indent d = flat_map (moved end indent) (lines_above (lines (side_text d.prefix)))

-- the comment after a value, which goes after its comma, and the lines below that have text
abbrev pub own_comment : Decor → Text
own_comment d = if is_some (comment_after d) then first_line (side_text d.suffix) else []

abbrev pub lines_below : List Text → List Text
lines_below ls = filter (λ l. not (is_empty (line_words l))) (drop 1 ls)

abbrev pub text_after : Text → Text → Decor → Text
text_after end indent d =
    own_comment d ++ flat_map (moved end indent) (lines_below (lines (side_text d.suffix)))

-- the gap at a place with a newline, then a line for what follows: indented, but for the bracket
abbrev pub broken_gap : Text → Text → Text → Bool → Text
broken_gap g end indent is_last =
    if is_broken g then g else end ++ (if is_last then [] else indent)

-- a value there gets lines of its own
abbrev pub takes_lines : Text → Text → Text → Bool
takes_lines g above after = is_broken g || (not (is_empty above) || not (is_empty after))

-- The gaps before and after a value that is put at a place: where it gets no lines of its own, and
-- in all.
abbrev pub gaps_on_line : ℕ → Text → Text → List Node → Text × Text
gaps_on_line i g start xs =
    if nat_lt i (length xs) then (g, one_space)
    else (
      if is_broken (side_text (prefix_at (beside i xs) xs)) then start else element_default (i == 0),
      g,
    )

abbrev pub gaps_around : ℕ → Decor → ArrayFields → List Node → Text × Text
gaps_around i d f xs =
    let g = gap i f xs in
    let end = newline_at g f xs in
    let indent = indent_at i xs in
    let above = text_above end indent d in
    let after = text_after end indent d in
    let h = broken_gap g end indent (not (nat_lt i (length xs))) in
    if takes_lines g above after
    then (first_line h ++ (above ++ (end ++ indent)), after ++ after_first_line h)
    else gaps_on_line i g (end ++ indent) xs

-- the value after a gap
abbrev pub placed : Raw → Node → Node
placed r n = with_decor (record { prefix = Some r; suffix = None }) n

-- At the end, if no comma ends the array, one follows the value that was the last.
abbrev pub followed : ℕ → ArrayFields → List Node → List Node
followed i f xs =
    if f.comma || nat_lt i (length xs) then xs
    else changed_at (length xs - 1) (with_suffix (owned [])) xs

-- `insert_line`: the value in its place, before its second gap is put there
abbrev pub with_line : ℕ → Node → ArrayFields → List Node → List Node
with_line i v f xs =
    inserted_at i (placed (owned (gaps_around i (node_decor v) f xs).0) v) (followed i f xs)

abbrev pub line_inserted : ℕ → Node → ArrayFields → List Node → List Node
line_inserted i v f xs =
    with_gap (suc i) (owned (gaps_around i (node_decor v) f xs).1) f (with_line i v f xs)

abbrev pub fields_inserted : ℕ → Node → ArrayFields → List Node → ArrayFields
fields_inserted i v f xs =
    fields_with_gap (suc i) (owned (gaps_around i (node_decor v) f xs).1) f (with_line i v f xs)

-- ---- removal

-- no other value is on the line of the value between these gaps
abbrev pub is_alone : Text → Text → Bool → Bool
is_alone before after is_first = is_broken after && (is_broken before || is_first)

-- what such a value has before it: the rest of the line before, and then its own
abbrev pub line_before : Text → Text
line_before before = if is_broken before then first_line before else []

abbrev pub lines_before : Text → Text
lines_before before = if is_broken before then after_first_line before else before

-- what is left of the gaps before and after a removed value. The comment that ends the line before
-- the value stays.
abbrev pub left_of : Text → Text → Bool → Bool → Text
left_of before after is_first is_last =
    if is_alone before after is_first then line_before before ++ after_first_line after
    else if is_broken after || is_last then commented_line before ++ after
    else before

-- The decor that the value takes with it, if it is alone on its line: the lines before it, and what
-- is after it on its line, on both sides of the comma.
abbrev pub decor_taken : Text → Text → Text → Bool → Option Decor
decor_taken before suffix after is_first =
    if is_alone before after is_first then
    Some (record {
      prefix = Some (owned (lines_before before));
      suffix = Some (owned (suffix ++ first_line after));
    })
    else None

-- the place is the last one
abbrev pub is_last : ℕ → List Node → Bool
is_last i xs = not (nat_lt (suc i) (length xs))

-- what is between the value and the comma after it
abbrev pub before_comma : ℕ → ArrayFields → List Node → Text
before_comma i f xs = if f.comma || not (is_last i xs) then side_text (suffix_at i xs) else []

-- `remove_line`: the gap that is left at the place, after the suffix of the value before it if that
-- is the last one now
abbrev pub gap_left : ℕ → ArrayFields → List Node → Text
gap_left i f xs =
    (if is_last i xs then last_suffix f (removed_at i xs) else [])
    ++ left_of (gap i f xs) (gap (suc i) f xs) (i == 0) (is_last i xs)

-- the value, with the decor that it takes or else its own
abbrev pub redecorated : Option Decor → Node → Node
redecorated None n = n
redecorated (Some d) n = with_decor d n

abbrev pub line_taken : ℕ → ArrayFields → List Node → Node → Node
line_taken i f xs n =
    redecorated (decor_taken (gap i f xs) (before_comma i f xs) (gap (suc i) f xs) (i == 0)) n

abbrev pub line_removed : ℕ → ArrayFields → List Node → List Node
line_removed i f xs = with_gap i (owned (gap_left i f xs)) f (removed_at i xs)

-- no comma ends an array without slots
abbrev pub comma_kept : List Node → ArrayFields → ArrayFields
comma_kept [] f = record f { comma = false }
comma_kept (n ∷ xs) f = f

abbrev pub fields_removed : ℕ → ArrayFields → List Node → ArrayFields
fields_removed i f xs =
    comma_kept (line_removed i f xs)
    (fields_with_gap i (owned (gap_left i f xs)) f (removed_at i xs))

-- ---- comments

-- what is after the value at a place and its comma
abbrev pub behind : ℕ → ArrayFields → List Node → Text
behind i f xs =
    if not (is_last i xs) then side_text (prefix_at (suc i) xs)
    else if list_all is_blank (last_suffix f xs) then side_text (Some f.trailing)
    else last_suffix f xs

-- `line_comment`
abbrev pub comment_behind : ℕ → ArrayFields → List Node → Option Text
comment_behind i f xs = if nat_lt i (length xs) then first_comment (behind i f xs) else None
