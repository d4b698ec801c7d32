-- Whether a text is a float, tested from left to right.
use Rattle.std.specs.Prelude.{ℕ, Bool, false, not, ◌&&◌, ◌||◌, ◌==◌, if◌then◌else◌, [], ◌∷◌, drop, slice_index, codes, bytes_eq, Option}
use Rattle.std.specs.Prelude.{Some, None}
use Rattle.std.specs.Char.{is_digit, is_ascii_alphanumeric}
use Rattle.toml_edit_model.specs.Text.{Text, underscore, is_empty}
use Rattle.toml_edit_model.specs.Spelling.{is_exponent_mark}
use Rattle.toml_edit_laws.specs.reading.Runs.{first}

-- a letter or a digit of ASCII, a sign, a point or an underscore
abbrev pub is_float_byte : ℕ → Bool
is_float_byte c =
    (is_ascii_alphanumeric c || c == underscore) || ((c == 0x2B || c == 0x2D) || c == 0x2E)

-- a decimal digit or an underscore
abbrev pub is_digits_byte : ℕ → Bool
is_digits_byte c = is_digit c 10 || c == underscore

-- the text after an optional sign
abbrev pub without_sign : Text → Text
without_sign t = if first t == 0x2B || first t == 0x2D then drop 1 t else t

-- the text after digits with single underscores between them, where `after_digit` says that a digit
-- is before
unfoldable pub after_digits : Bool → Text → Option Text
after_digits after_digit [] = if after_digit then Some [] else None
after_digits after_digit (c ∷ cs) =
    if is_digit c 10 || (after_digit && c == underscore) then after_digits (is_digit c 10) cs
    else if after_digit then Some (c ∷ cs) else None

-- the text after the digits is there, and passes
abbrev pub passes : (Text → Bool) → Option Text → Bool
passes p None = false
passes p (Some t) = p t

-- a 0 is before another digit
abbrev pub leads_with_zero : Text → Bool
leads_with_zero t = first t == 0x30 && is_digits_byte (slice_index t 1)

-- the mark, an optional sign and digits
abbrev pub is_exponent : Text → Bool
is_exponent t =
    is_exponent_mark (first t) && passes is_empty (after_digits false (without_sign (drop 1 t)))

-- nothing, or an exponent
abbrev pub is_end_or_exponent : Text → Bool
is_end_or_exponent t = is_empty t || is_exponent t

-- a fraction, an exponent, or both
abbrev pub is_fraction_or_exponent : Text → Bool
is_fraction_or_exponent t =
    if first t == 0x2E then passes is_end_or_exponent (after_digits false (drop 1 t))
    else is_exponent t

-- digits of which no 0 is before another, and a fraction or an exponent
abbrev pub is_decimal_float : Text → Bool
is_decimal_float t =
    not (leads_with_zero t) && passes is_fraction_or_exponent (after_digits false t)

-- infinity, not a number, or a decimal float, without a sign
abbrev pub is_unsigned_float : Text → Bool
is_unsigned_float t = (bytes_eq t (codes "inf") || bytes_eq t (codes "nan")) || is_decimal_float t

-- the text is a float
unfoldable pub is_float_text : Text → Bool
is_float_text t = is_unsigned_float (without_sign t)
