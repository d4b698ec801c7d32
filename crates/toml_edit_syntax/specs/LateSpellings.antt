-- The first late part of a text that is spelled, found from left to right.
use Rattle.std.specs.Prelude.{ℕ, ◌+◌, Bool, false, not, ◌&&◌, ◌==◌, nat_lt, if◌then◌else◌, [], ◌∷◌, length, slice_index, Option, Some, None}
use Rattle.std.specs.Prelude.{is_some}
use Rattle.std.specs.Option.{option_or}
use Rattle.toml_edit_model.specs.Text.{Text, quote, backslash}
use Rattle.toml_edit_laws.specs.reading.DatetimeReading.{datetime_of}
use Rattle.toml_edit_syntax.specs.declared.event.Span.{Span}

-- so many bytes from this one on
abbrev pub span_from : ℕ → ℕ → Span
span_from i n = record { start = i; end = i + n }

-- the second byte ends a character
abbrev pub ends_digits : Text → Bool
ends_digits (a ∷ b ∷ t) = nat_lt b 128
ends_digits _ = false

-- the late escape of a backslash at this byte, before this text
abbrev pub escape_at : ℕ → Text → Option Span
escape_at i [] = None
escape_at i (c ∷ t) =
    if c == 0x65 then Some (span_from i 2)
    else if c == 0x78 && ends_digits t then Some (span_from i 4)
    else None

-- the first one of a text that begins at this byte
abbrev pub first_escape : ℕ → Text → Option Span
first_escape i [] = None
first_escape i (c ∷ []) = None
first_escape i (c ∷ d ∷ t) =
    if c == backslash then option_or (escape_at i (d ∷ t)) (first_escape (i + 2) t)
    else first_escape (i + 1) (d ∷ t)

-- the first one of a string or a key
abbrev pub late_escape : ℕ → Text → Option Span
late_escape i [] = None
late_escape i (c ∷ t) = if c == quote then first_escape (i + 1) t else None

-- After the hour and the minute there is no `:`. A time alone has a `:` at its third byte, and one
-- after a date begins at its twelfth.
abbrev pub clock_at : Text → ℕ
clock_at t = if slice_index t 2 == 0x3A then 0 else 11

abbrev pub lacks_seconds : Text → Bool
lacks_seconds t = nat_lt (clock_at t) (length t) && not (slice_index t (clock_at t + 5) == 0x3A)

-- the first late part of a scalar
abbrev pub late_in_scalar : ℕ → Text → Option Span
late_in_scalar i t =
    if is_some (datetime_of t)
    then (if lacks_seconds t then Some (span_from i (length t)) else None) else late_escape i t
