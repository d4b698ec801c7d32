-- Reading a string of several lines at the front of a text.
use Rattle.std.specs.Prelude.{ℕ, zero, suc, ◌-◌, min, Bool, not, ◌&&◌, ◌||◌, ◌==◌, nat_lt, nat_le, if◌then◌else◌, [], ◌∷◌, length, take}
use Rattle.std.specs.Prelude.{drop, slice_index, encode_utf8, Option, Some, None, option_map, option_and_then}
use Rattle.std.specs.List.{prefix_len}
use Rattle.toml_edit_model.specs.Text.{Text, line_feed, carriage_return, quote, apostrophe, backslash, has_byte}
use Rattle.toml_edit_model.specs.Trivia.{is_blank}
use Rattle.toml_edit_model.specs.Spelling.{is_plain, is_literal}
use Rattle.toml_edit_laws.specs.reading.Runs.{first, Read}
use Rattle.toml_edit_laws.specs.reading.Tokens.{prepend, escape_at}

-- ---- quotes, newlines and gaps

-- how many bytes c are at the front
abbrev pub run_of : ℕ → Text → ℕ
run_of c t = prefix_len (λ x. x == c) t

-- three bytes c are at the front
abbrev pub has_three : ℕ → Text → Bool
has_three c t = (first t == c && slice_index t 1 == c) && slice_index t 2 == c

-- a string of several lines opens
abbrev pub opens_block : Text → Bool
opens_block t = has_three quote t || has_three apostrophe t

-- the text goes on with no quote
abbrev pub ends_block : Text → Bool
ends_block t = not (first t == quote || first t == apostrophe)

-- the length of the newline at the front, or 0
unfoldable pub newline_len : Text → ℕ
newline_len t =
    if first t == line_feed then 1
    else if first t == carriage_return && slice_index t 1 == line_feed then 2
    else 0

-- the byte c, which `next` follows, is white space or of a newline
abbrev pub is_gap_byte : ℕ → ℕ → Bool
is_gap_byte c next = (is_blank c || c == line_feed) || (c == carriage_return && next == line_feed)

-- how far white space and newlines go
unfoldable pub gap_len : Text → ℕ
gap_len [] = 0
gap_len (c ∷ cs) = if is_gap_byte c (first cs) then suc (gap_len cs) else 0

-- ---- the parts of a line

-- a byte of a literal string
unfoldable pub literal_part_at : Text → Read Text
literal_part_at t = if is_literal (first t) then Some (first t ∷ [], drop 1 t) else None

-- after a backslash, white space and newlines that are dropped, or an escape
unfoldable pub escaped_at : Text → Read Text
escaped_at t =
    if has_byte line_feed (take (gap_len t) t) then Some ([], drop (gap_len t) t)
    else option_map (λ e. (encode_utf8 e.0, e.1)) (escape_at t)

-- a byte of a basic string that stands for itself, or what a backslash begins
unfoldable pub basic_part_at : Text → Read Text
basic_part_at t =
    if is_plain (first t) then Some (first t ∷ [], drop 1 t)
    else if first t == backslash then escaped_at (drop 1 t)
    else None

-- ---- the string

-- A string after its opening and the newline there, in at most n parts. Of three to five quotes the
-- last three close it, and of more the third to fifth.
unfoldable pub parts_at : (Text → Read Text) → ℕ → ℕ → Text → Read Text
parts_at part_at c zero t = None
parts_at part_at c (suc n) t =
    let run = run_of c t in
    if nat_le 3 run then Some (take (min run 5 - 3) t, drop (min run 5) t)
    else if nat_lt 0 run then prepend (take run t) (parts_at part_at c n (drop run t))
    else if nat_lt 0 (newline_len t)
    then prepend (take (newline_len t) t) (parts_at part_at c n (drop (newline_len t) t))
    else option_and_then (λ p. prepend p.0 (parts_at part_at c n p.1)) (part_at t)

-- what follows the opening quotes and a newline there
abbrev pub inside : Text → Text
inside t = drop (newline_len (drop 3 t)) (drop 3 t)

-- a string of several lines
unfoldable pub block_at : Text → Option (Text × Text)
block_at t =
    if has_three quote t then parts_at basic_part_at quote (length t) (inside t)
    else if has_three apostrophe t then parts_at literal_part_at apostrophe (length t) (inside t)
    else None
