-- Reading a date-time, in range or not: each function reads a part from the front of a text, and
-- gives it with the rest.
use Rattle.std.specs.Prelude.{ℕ, ◌+◌, ◌-◌, ◌*◌, Bool, true, false, ◌&&◌, ◌||◌, ◌==◌, nat_lt, if◌then◌else◌, ℤ, pos, neg_ℤ, [], ◌∷◌, take}
use Rattle.std.specs.Prelude.{drop, slice_index, Option, Some, None, option_map, option_and_then}
use Rattle.std.specs.List.{prefix_len}
use Rattle.std.specs.Char.{is_ascii_digit}
use Rattle.toml_edit_model.specs.Text.{Text}
use Rattle.toml_edit_model.specs.Scalars.{Date, Time, Offset, zulu, shift, Datetime, datetime, is_absent_or, is_real_date, is_real_time}
use Rattle.toml_edit_model.specs.Spelling.{nanoseconds, is_date_time_mark, is_in_range}
use Rattle.toml_edit_laws.specs.reading.Runs.{Read}
pub use Rattle.toml_edit_laws.specs.reading.Tokens.{whole}

-- ---- what is read

-- an offset, and whether the hours and minutes that it is written with are those of a day
pub record OffsetParts : Type 0 where
  pub offset : Offset
  pub is_real : Bool

-- the parts of a date-time
pub record Parts : Type 0 where
  pub date : Option Date
  pub time : Option Time
  pub offset : Option OffsetParts

-- ---- steps

infixl 10 ◌>>=◌
abbrev ◌>>=◌ : {A B : Type 0} → Option A → (A → Option B) → Option B
o >>= f = option_and_then f o

-- what follows this byte
abbrev pub after_byte : ℕ → Text → Option Text
after_byte byte [] = None
after_byte byte (c ∷ rest) = if c == byte then Some rest else None

-- a part after its mark, where the text begins with the mark
abbrev pub optional : ℕ → (Text → Read ℕ) → Text → Read (Option ℕ)
optional mark read text =
    if slice_index text 0 == mark then option_map (λ p. (Some p.0, p.1)) (read (drop 1 text))
    else Some (None, text)

-- ---- fields

-- two digits
unfoldable pub two_at : Text → Read ℕ
two_at (a ∷ b ∷ rest) =
    if is_ascii_digit a && is_ascii_digit b then Some (10 * (a - 48) + (b - 48), rest) else None
two_at _ = None

-- `YYYY-MM-DD`
unfoldable pub date_at : Text → Read Date
date_at text = do
  century ← two_at text
  year ← two_at century.1
  month ← after_byte 0x2D year.1 >>= two_at
  day ← after_byte 0x2D month.1 >>= two_at
  Some (record { year = 100 * century.0 + year.0; month = month.0; day = day.0 }, day.1)

-- `hh:mm`
unfoldable pub clock_at : Text → Read (ℕ × ℕ)
clock_at text = do
  hour ← two_at text
  minute ← after_byte 0x3A hour.1 >>= two_at
  Some ((hour.0, minute.0), minute.1)

-- the digits after a point, as nanoseconds
unfoldable pub fraction_at : Text → Read ℕ
fraction_at text =
    let len = prefix_len is_ascii_digit text in
    if len == 0 then None else Some (nanoseconds (take len text), drop len text)

-- nothing, or `:ss` and perhaps a fraction
unfoldable pub seconds_at : Text → Read (Option ℕ × Option ℕ)
seconds_at text =
    if slice_index text 0 == 0x3A
    then two_at (drop 1 text) >>= (λ second.
    option_map (λ fraction. ((Some second.0, fraction.0), fraction.1))
    (optional 0x2E fraction_at second.1))
    else Some ((None, None), text)

-- a time of day
unfoldable pub time_at : Text → Read Time
time_at text = do
  clock ← clock_at text
  more ← seconds_at clock.1
  Some (
    record {
      hour = clock.0.0;
      minute = clock.0.1;
      second = more.0.0;
      nanosecond = more.0.1;
    },
    more.1,
  )

-- an offset of so many minutes, written by these hours and minutes
abbrev pub shift_parts : ℤ → ℕ → ℕ → OffsetParts
shift_parts all hours minutes = record {
  offset = shift all;
  is_real = nat_lt hours 24 && nat_lt minutes 60;
}

-- `Z` or `z`
abbrev pub is_zulu : ℕ → Bool
is_zulu c = c == 0x5A || c == 0x7A

-- an offset
unfoldable pub offset_at : Text → Read OffsetParts
offset_at [] = None
offset_at (c ∷ rest) =
    if is_zulu c then Some (record { offset = zulu; is_real = true }, rest)
    else if c == 0x2B then option_map
    (λ p. (shift_parts (pos (60 * p.0.0 + p.0.1)) p.0.0 p.0.1, p.1)) (clock_at rest)
    else if c == 0x2D then option_map
    (λ p. (shift_parts (neg_ℤ (pos (60 * p.0.0 + p.0.1))) p.0.0 p.0.1, p.1)) (clock_at rest)
    else None

-- ---- whole texts

-- what follows a date and a time: nothing, or an offset
abbrev pub after_time : Date → Time → Text → Option Parts
after_time date time [] = Some (record { date = Some date; time = Some time; offset = None })
after_time date time (c ∷ rest) =
    option_map (λ o. record { date = Some date; time = Some time; offset = Some o })
    (whole (offset_at (c ∷ rest)))

-- what follows a date: nothing, or a time
unfoldable pub after_date : Date → Text → Option Parts
after_date date [] = Some (record { date = Some date; time = None; offset = None })
after_date date (c ∷ rest) =
    if is_date_time_mark c then time_at rest >>= (λ time. after_time date time.0 time.1) else None

-- the fields of a date-time; a time has a colon after its hour
unfoldable pub parts_of : Text → Option Parts
parts_of text =
    if slice_index text 2 == 0x3A
    then option_map (λ t. record { date = None; time = Some t; offset = None })
    (whole (time_at text))
    else date_at text >>= (λ date. after_date date.0 date.1)

-- ---- what was read

abbrev pub parts_datetime : Parts → Datetime
parts_datetime p = record {
  date = p.date;
  time = p.time;
  offset = option_map (λ o. o.offset) p.offset;
}

-- the date-time that a text spells, in range or not
unfoldable pub datetime_of : Text → Option Datetime
datetime_of text = option_map parts_datetime (parts_of text)

-- the date-time that a text spells and that is in range
unfoldable pub ranged_of : Text → Option Datetime
ranged_of text =
    option_and_then (λ d. if is_in_range (datetime d) text then Some d else None) (datetime_of text)

-- the parts are those of a date and a time that exist
abbrev pub are_real : Parts → Bool
are_real p =
    (is_absent_or is_real_date p.date && is_absent_or is_real_time p.time)
    && is_absent_or (λ o. o.is_real) p.offset

-- a text begins with four digits and `-`, or with two digits, `:` and two digits
abbrev pub starts_datetime : Text → Bool
starts_datetime (a ∷ b ∷ c ∷ d ∷ e ∷ rest) =
    (is_ascii_digit a && is_ascii_digit b)
    && (((is_ascii_digit c && is_ascii_digit d) && e == 0x2D)
    || ((c == 0x3A && is_ascii_digit d) && is_ascii_digit e))
starts_datetime _ = false
