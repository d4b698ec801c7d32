-- The law of offsets: what is computed from the end of a text is true of the offset spelled there.
use Rattle.std.specs.Prelude.{◌≡◌, ◌≢◌, ◌⊎◌, ◌↔◌, ℕ, ◌+◌, ◌*◌, ◌<◌, true, [], ◌++◌, codes, Option, Some, None}
use Rattle.toml_edit_model.specs.Text.{Text}
use Rattle.toml_edit_model.specs.Scalars.{Offset, zulu, shift, Datetime, datetime, is_absent_or, is_real_date, is_real_time}
use Rattle.toml_edit_model.specs.Spelling.{Sign, unsigned, signed, sign_text, clock_text, SpellsOffset, SpellsDatetime, offset_clock}
use Rattle.toml_edit_model.specs.Spelling.{is_real_offset, is_in_range}

-- `Z`, `z`, or a sign and `hh:mm`, the hours and minutes of a day
abbrev pub SpellsRealOffset : Offset → Text → Type 0
SpellsRealOffset zulu t = (t ≡ codes "Z") ⊎ (t ≡ codes "z")
SpellsRealOffset (shift z) t =
    (s : Sign) × (hours minutes : ℕ) × (s ≢ unsigned) × (hours < 24) × (minutes < 60)
    × (z ≡ signed s (60 * hours + minutes)) × (t ≡ sign_text s ++ clock_text hours minutes)

-- The hours and minutes of a text are those that it ends in, whatever stands before them.
abbrev pub ClocksAtEnds : Type 0
ClocksAtEnds =
    (front : Text) (hours minutes : ℕ)
    → offset_clock (front ++ clock_text hours minutes) ≡ clock_text hours minutes

-- An offset at the end of a text is in range exactly if it is spelled so.
abbrev pub RealOffsets : Type 0
RealOffsets =
    (o : Offset) (front t : Text) → SpellsOffset o t
    → (is_real_offset o (front ++ t) ≡ true) ↔ SpellsRealOffset o t

-- nothing, or such an offset
abbrev pub SpellsRealPart : Option Offset → Text → Type 0
SpellsRealPart None t = t ≡ []
SpellsRealPart (Some o) t = SpellsRealOffset o t

-- A date-time that a text spells is in range exactly if its date and time are, and the text ends in
-- its offset, spelled so.
abbrev pub RealDatetimes : Type 0
RealDatetimes =
    (d : Datetime) (t : Text) → SpellsDatetime d t
    → (is_in_range (datetime d) t ≡ true)
    ↔ ((is_absent_or is_real_date d.date ≡ true) × (is_absent_or is_real_time d.time ≡ true)
    × (front last : Text) × (t ≡ front ++ last) × SpellsRealPart d.offset last)

-- A text spells at most one offset.
abbrev pub OneOffset : Type 0
OneOffset = (o p : Offset) (t : Text) → SpellsOffset o t → SpellsOffset p t → o ≡ p
