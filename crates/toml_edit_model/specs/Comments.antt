-- The comments of a decor, line by line (TOML 1.1.0, "Comment"), and what a change of them leaves.
-- A decor may be any text: of one that is no trivia, too, a change leaves the rest.
use Rattle.std.specs.Prelude.{◌≡◌, ℕ, suc, ◌-◌, ◌==◌, not, if◌then◌else◌, List, [], ◌∷◌, ◌++◌, length, take, drop, filter, flat_map}
use Rattle.std.specs.Prelude.{take_while, Option, Some, None, is_some, is_none}
use Rattle.std.specs.List.{AllByRecursion, before_first, filter_map, prefix_len, suffix_len}
use Rattle.toml_edit_model.specs.Text.{Text, line_feed, space, hash, one, joined}
use Rattle.toml_edit_model.specs.Mode.{exact, line_end, line_newline}
use Rattle.toml_edit_model.specs.Trivia.{is_blank, comment, Piece, blank, break, remark, piece_text, IsPiece}
use Rattle.toml_edit_model.specs.Tree.{Raw, owned, Decor}

-- ---- lines

-- the byte, and then the lines
abbrev pub begun_with : ℕ → List Text → List Text
begun_with c [] = one (one c)
begun_with c (l ∷ ls) = (c ∷ l) ∷ ls

-- the lines of a text, each with its newline
abbrev pub lines : Text → List Text
lines [] = []
lines (c ∷ t) = if c == line_feed then one c ∷ lines t else begun_with c (lines t)

-- the first line without its newline; a CR at the end of the text is part of one too
abbrev pub first_line : Text → Text
first_line t = line_end exact (before_first (λ c. c == line_feed) t)

-- that newline, and all after it
abbrev pub after_first_line : Text → Text
after_first_line t = drop (length (first_line t)) t

-- what is before the last line feed, if there is one
abbrev pub before_last_feed : Text → Text
before_last_feed t = take (length t - suc (suffix_len (λ c. not (c == line_feed)) t)) t

-- the last newline of a text: CR LF, or else LF
abbrev pub last_newline : Text → Text
last_newline t = line_newline exact (before_last_feed t)

-- a line without the white space that begins it
abbrev pub words : Text → Text
words l = drop (prefix_len is_blank l) l

-- where the white space that ends a line begins
abbrev pub end_of_words : Text → ℕ
end_of_words l = length l - suffix_len is_blank l

-- ---- comments

-- what a line has after its `#`, if only white space is before that
abbrev pub body_in : Text → Option Text
body_in [] = None
body_in (c ∷ l) = if is_blank c then body_in l else (if c == hash then Some l else None)

-- the comment of the first line
abbrev pub first_comment : Text → Option Text
first_comment t = body_in (first_line t)

-- the comments of all lines
abbrev pub comments : Text → List Text
comments t = filter_map first_comment (lines t)

-- the comments of pieces of trivia
abbrev pub bodies : List Piece → List Text
bodies [] = []
bodies (blank c ∷ ps) = bodies ps
bodies (break n ∷ ps) = bodies ps
bodies (remark body n ∷ ps) = body ∷ bodies ps

-- If the text is whole trivia, these are the comments of its pieces.
abbrev pub AreBodies : Text → List Text → Type 0
AreBodies t found =
    (ps : List Piece) → AllByRecursion IsPiece ps → t ≡ flat_map piece_text ps → found ≡ bodies ps

-- ---- changes

-- the text without the lines that have comments
abbrev pub without_comments : Text → Text
without_comments t = joined (filter (λ l. is_none (first_comment l)) (lines t))

-- One more line at the end, with the newline of the last one, and then the white space that the text
-- ended in: it is before both the new comment and what follows.
abbrev pub with_comment_line : Text → Text → Text
with_comment_line body t = t ++ (comment body ++ (last_newline t ++ drop (end_of_words t) t))

-- What is before a comment that is put on the line: the white space before its old one, or else the
-- line without the white space that ends it, and one space.
abbrev pub before_comment : Text → Text
before_comment l =
    if is_some (body_in l) then take_while is_blank l
    else take (end_of_words l) l ++ one space

-- this comment on the first line
abbrev pub with_first_comment : Text → Text → Text
with_first_comment body t =
    before_comment (first_line t) ++ (comment body ++ after_first_line t)

-- none there, nor the white space before it
abbrev pub without_first_comment : Text → Text
without_first_comment t = if is_some (first_comment t) then after_first_line t else t

-- ---- decors

-- the text of a side; an unset side and a span have the empty one
abbrev pub side_text : Option Raw → Text
side_text (Some (owned t)) = t
side_text _ = []

-- a change of a side that is a text
abbrev pub changed_side : (Text → Text) → Option Raw → Option Raw
changed_side f (Some (owned t)) = Some (owned (f t))
changed_side f side = side

abbrev pub comments_before : Decor → List Text
comments_before d = comments (side_text d.prefix)

abbrev pub comment_after : Decor → Option Text
comment_after d = first_comment (side_text d.suffix)

abbrev pub with_comment_before : Text → Decor → Decor
with_comment_before body d =
    record d { prefix = Some (owned (with_comment_line body (side_text d.prefix))) }

abbrev pub without_comments_before : Decor → Decor
without_comments_before d = record d { prefix = changed_side without_comments d.prefix }

abbrev pub with_comment_after : Option Text → Decor → Decor
with_comment_after (Some body) d =
    record d { suffix = Some (owned (with_first_comment body (side_text d.suffix))) }
with_comment_after None d = record d { suffix = changed_side without_first_comment d.suffix }
