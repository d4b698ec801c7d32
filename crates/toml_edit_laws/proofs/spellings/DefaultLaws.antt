-- A default spelling spells its scalar, in range, or its key.
use Rattle.std.proofs.Common.{◌≡◌, refl, Bool, true}
use Rattle.std.specs.Prelude.{ℤ}
use Rattle.toml_edit_model.specs.Text.{Text}
use Rattle.toml_edit_model.specs.Scalars.{Datetime, Scalar, string, integer, float, boolean, datetime, fits_integer}
use Rattle.toml_edit_model.specs.Spelling.{IsFloat, SpellsInRange}
use Rattle.toml_edit_model.specs.DefaultSpelling.{default_spelling}
use Rattle.toml_edit_model.specs.Tree.{has_real_parts, IsRealScalar}
use Rattle.toml_edit_laws.specs.DefaultSpellings.{DefaultSpellings}
use Rattle.toml_edit_laws.proofs.spellings.EscapeLaws.{string-spells, key-spells}
use Rattle.toml_edit_laws.proofs.spellings.DecimalLaws.{integer-spells}
use Rattle.toml_edit_laws.proofs.spellings.DatetimeLaws.{datetime-spells}

-- any string
pub default_string_spells : (v : Text) → SpellsInRange (string v) (default_spelling (string v))
default_string_spells v = (string-spells v, refl)

-- an integer of 64 bits
pub default_integer_spells : (z : ℤ) → fits_integer z ≡ true → SpellsInRange (integer z) (default_spelling (integer z))
default_integer_spells z h = (integer-spells z h, h)

-- a float, by its text
pub default_float_spells : (x : Text) → IsFloat x → SpellsInRange (float x) (default_spelling (float x))
default_float_spells x h = ((h, refl), refl)

-- a truth value
pub default_truth_spells : (b : Bool) → SpellsInRange (boolean b) (default_spelling (boolean b))
default_truth_spells b = (refl, refl)

-- a date or time that exists
pub default_datetime_spells : (d : Datetime) → has_real_parts d.date d.time d.offset ≡ true
    → SpellsInRange (datetime d) (default_spelling (datetime d))
default_datetime_spells d h = datetime-spells d h

-- any real scalar
pub default_spells : (s : Scalar) → IsRealScalar s → SpellsInRange s (default_spelling s)
default_spells (string v) h = default_string_spells v
default_spells (integer z) h = default_integer_spells z h
default_spells (float x) h = default_float_spells x h
default_spells (boolean b) h = default_truth_spells b
default_spells (datetime d) h = default_datetime_spells d h

-- Each default spelling spells what it stands for.
pub default_spellings_hold : DefaultSpellings
default_spellings_hold = (default_spells, key-spells)
