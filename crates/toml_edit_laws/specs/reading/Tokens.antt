-- Reading strings of one line, integers and keys, from left to right.
use Rattle.std.specs.Prelude.{ℕ, zero, suc, ◌+◌, ◌*◌, ℤ, pos, Bool, true, false, not, ◌&&◌, ◌==◌, nat_lt, nat_le, if◌then◌else◌, [], ◌∷◌}
use Rattle.std.specs.Prelude.{◌++◌, length, take, drop, slice_index, encode_utf8, Option, Some, None, option_map, option_and_then}
use Rattle.std.specs.List.{list_all}
use Rattle.std.specs.Char.{is_digit, digit_value}
use Rattle.std.specs.Str.Parse.{digits_value}
use Rattle.toml_edit_model.specs.Text.{Text, quote, apostrophe, backslash, underscore, is_empty}
use Rattle.toml_edit_model.specs.Scalars.{Scalar, fits_integer}
use Rattle.toml_edit_model.specs.Spelling.{short_escape, hex_digits, is_scalar_value, is_plain, is_literal, is_bare_byte, Sign, plus, minus}
use Rattle.toml_edit_model.specs.Spelling.{unsigned, signed, Base, hexadecimal, octal, binary, base_number, is_in_range}
use Rattle.toml_edit_laws.specs.reading.Runs.{Read, first, split_while}

-- the text goes on with no byte of a bare key
abbrev pub ends_key : Text → Bool
ends_key t = not (is_bare_byte (first t))

-- ---- strings

-- a literal string after its opening quote
unfoldable pub literal_at : Text → Read Text
literal_at t =
    let parts = split_while is_literal t in
    if first parts.1 == apostrophe then Some (parts.0, drop 1 parts.1) else None

-- the number that hexadecimal digits write
abbrev pub hex_value : Text → Option ℕ
hex_value digits =
    if list_all (λ d. is_digit d 16) digits then Some (digits_value 16 digits) else None

-- n hexadecimal digits that write a character
unfoldable pub hex_at : ℕ → Text → Read ℕ
hex_at n t =
    let digits = take n t in
    if (nat_le n (length t) && list_all (λ d. is_digit d 16) digits)
    && is_scalar_value (digits_value 16 digits)
    then Some (digits_value 16 digits, drop n t) else None

-- an escape after its backslash
unfoldable pub escape_at : Text → Read ℕ
escape_at t =
    if nat_lt 0 (hex_digits (first t)) then hex_at (hex_digits (first t)) (drop 1 t)
    else option_map (λ c. (c, drop 1 t)) (short_escape (first t))

-- these bytes before what was read
abbrev pub prepend : Text → Read Text → Read Text
prepend bytes r = option_map (λ p. (bytes ++ p.0, p.1)) r

-- a basic string after its opening quote, in at most n parts
unfoldable pub basic_at : ℕ → Text → Read Text
basic_at zero t = None
basic_at (suc n) t =
    if is_plain (first t) then prepend (first t ∷ []) (basic_at n (drop 1 t))
    else if first t == quote then Some ([], drop 1 t)
    else if first t == backslash
    then option_and_then (λ e. prepend (encode_utf8 e.0) (basic_at n e.1))
    (escape_at (drop 1 t))
    else None

-- a string of one line
unfoldable pub string_at : Text → Read Text
string_at t =
    if first t == apostrophe then literal_at (drop 1 t)
    else if first t == quote then basic_at (length t) (drop 1 t)
    else None

-- ---- numbers

-- the number of the digits after those of n, where `after_digit` says that a digit is before
unfoldable pub digits_at : ℕ → Bool → ℕ → Text → Option ℕ
digits_at base after_digit n [] = if after_digit then Some n else None
digits_at base after_digit n (c ∷ cs) =
    if is_digit c base then digits_at base true (n * base + digit_value c) cs
    else if after_digit && c == underscore then digits_at base false n cs
    else None

-- the number that digits write, with single underscores between them
abbrev pub natural_of : ℕ → Text → Option ℕ
natural_of base t = digits_at base false 0 t

-- a 0 is before another byte
abbrev pub leads_with_zero : Text → Bool
leads_with_zero t = first t == 0x30 && nat_lt 1 (length t)

-- the number of decimal digits with this sign
unfoldable pub decimal_of : Sign → Text → Option ℤ
decimal_of s t = if leads_with_zero t then None else option_map (signed s) (natural_of 10 t)

-- the number of digits of this base
unfoldable pub prefixed_of : Base → Text → Option ℤ
prefixed_of b t = option_map pos (natural_of (base_number b) t)

-- the integer that a word spells, of any size
unfoldable pub integer_of : Text → Option ℤ
integer_of t =
    if first t == 0x30 && slice_index t 1 == 0x78 then prefixed_of hexadecimal (drop 2 t)
    else if first t == 0x30 && slice_index t 1 == 0x6F then prefixed_of octal (drop 2 t)
    else if first t == 0x30 && slice_index t 1 == 0x62 then prefixed_of binary (drop 2 t)
    else if first t == 0x2B then decimal_of plus (drop 1 t)
    else if first t == 0x2D then decimal_of minus (drop 1 t)
    else decimal_of unsigned t

-- ---- keys

-- what a simple key says
unfoldable pub key_at : Text → Option (Text × Text)
key_at t = if is_bare_byte (first t) then Some (split_while is_bare_byte t) else string_at t

-- ---- whole texts

-- what was read, where nothing follows it
abbrev pub whole : {A : Type 0} → Read A → Option A
whole r = option_and_then (λ p. if is_empty p.1 then Some p.0 else None) r

-- a number below the limit
abbrev pub if_below : ℕ → Option ℕ → Option ℕ
if_below limit o = option_and_then (λ n. if nat_lt n limit then Some n else None) o

-- an integer of 64 bits
abbrev pub fitting : Option ℤ → Option ℤ
fitting o = option_and_then (λ z. if fits_integer z then Some z else None) o

-- the scalar, where it is in range as this text spells it
abbrev pub ranged : Text → Option Scalar → Option Scalar
ranged t o = option_and_then (λ s. if is_in_range s t then Some s else None) o
