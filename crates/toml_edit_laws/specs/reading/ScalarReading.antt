-- Reading a scalar at the front of a text, from left to right.
use Rattle.std.specs.Prelude.{ℕ, ◌+◌, Bool, true, false, ◌&&◌, ◌||◌, ◌==◌, if◌then◌else◌, [], ◌∷◌, take, drop, slice_index, codes, bytes_eq}
use Rattle.std.specs.Prelude.{Option, Some, is_some, option_map}
use Rattle.std.specs.List.{prefix_len}
use Rattle.std.specs.Char.{is_ascii_digit}
use Rattle.toml_edit_model.specs.Text.{Text, line_feed, carriage_return, space, hash}
use Rattle.toml_edit_model.specs.Trivia.{is_blank}
use Rattle.toml_edit_model.specs.Scalars.{Scalar, string, integer, float, boolean, datetime}
use Rattle.toml_edit_laws.specs.reading.FloatReading.{is_float_text}
use Rattle.toml_edit_laws.specs.reading.DatetimeReading.{datetime_of}
use Rattle.toml_edit_laws.specs.reading.BlockReading.{block_at, opens_block}
use Rattle.toml_edit_laws.specs.reading.Runs.{first, is_word_byte, Read}
use Rattle.toml_edit_laws.specs.reading.Tokens.{string_at, integer_of}

-- `#`, LF, CR, `,`, `]` or `}`
abbrev pub is_stop : ℕ → Bool
is_stop c =
    ((c == hash || c == line_feed) || (c == carriage_return || c == 0x2C))
    || (c == 0x5D || c == 0x7D)

-- after spaces and tabs the text ends, or goes on with such a byte
abbrev pub ends_scalar : Text → Bool
ends_scalar [] = true
ends_scalar (c ∷ cs) = if is_blank c then ends_scalar cs else is_stop c

-- ---- words

-- A run of ten bytes is a date as far as its dashes say, and a space and a digit follow.
abbrev pub goes_on : ℕ → Text → Bool
goes_on run t =
    (run == 10 && (slice_index t 4 == 0x2D && slice_index t 7 == 0x2D))
    && (slice_index t 10 == space && is_ascii_digit (slice_index t 11))

-- how long the word at the front is: a run, or a date, a space and the run of a time
unfoldable pub word_len : Text → ℕ
word_len t =
    let run = prefix_len is_word_byte t in
    if goes_on run t then 11 + prefix_len is_word_byte (drop 11 t) else run

-- the scalar that a word spells
unfoldable pub word_scalar : Text → Option Scalar
word_scalar t =
    if bytes_eq t (codes "true") then Some (boolean true)
    else if bytes_eq t (codes "false") then Some (boolean false)
    else if is_some (integer_of t) then option_map (λ z. integer z) (integer_of t)
    else if is_float_text t then Some (float t)
    else option_map (λ d. datetime d) (datetime_of t)

-- ---- scalars

-- a word that is read whole, or a string
unfoldable pub scalar_at : Text → Read Scalar
scalar_at t =
    if is_word_byte (first t)
    then option_map (λ s. (s, drop (word_len t) t)) (word_scalar (take (word_len t) t))
    else option_map (λ p. (string p.0, p.1)) (if opens_block t then block_at t else string_at t)
