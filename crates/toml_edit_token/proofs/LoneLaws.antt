-- The message for a scalar that is out of range.
use Rattle.std.proofs.Common.{◌≡◌, refl, ap, true, false, Option, None, Some}
use Rattle.std.specs.Prelude.{codes, is_some}
use Rattle.toml_edit_model.specs.Text.{Text}
use Rattle.toml_edit_model.specs.Scalars.{Scalar, string, integer, float, boolean, datetime}
use Rattle.toml_edit_model.specs.Spelling.{Spells, is_in_range}
use Rattle.toml_edit_model.specs.Faults.{range_message}
use Rattle.toml_edit_laws.specs.reading.Tokens.{integer_of}
use Rattle.toml_edit_laws.proofs.reading.NumberLaws.{integer_takes, integer_again}
use Rattle.toml_edit_laws.proofs.reading.DatetimeLaws.{datetime-no_integer}

none_some : {A : Type 0} → (o : Option A) → ((a : A) → o ≡ Some a → ⊥) → is_some o ≡ false
none_some None none = refl
none_some (Some a) none = absurd (none a refl)

pub integer_message : (s : Scalar) (t : Text) → Spells s t → is_in_range s t ≡ false → is_some (integer_of t) ≡ true
    → codes "integer number overflowed" ≡ range_message s
integer_message (string v) t spells out number = absurd cc
integer_message (integer z) t spells out number = refl
integer_message (float x) t spells out number = absurd cc
integer_message (boolean b) t spells out number = absurd cc
integer_message (datetime d) t spells out number =
    let none = none_some (integer_of t) (λ z e. datetime-no_integer t d z spells (integer_takes t z e)) in
    absurd cc

pub date_message : (s : Scalar) (t : Text) → Spells s t → is_in_range s t ≡ false → is_some (integer_of t) ≡ false
    → codes "invalid date-time" ≡ range_message s
date_message (string v) t spells out number = absurd cc
date_message (integer z) t spells out number = let some = ap is_some (integer_again t z spells) in absurd cc
date_message (float x) t spells out number = absurd cc
date_message (boolean b) t spells out number = absurd cc
date_message (datetime d) t spells out number = refl
