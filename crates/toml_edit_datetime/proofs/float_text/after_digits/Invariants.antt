-- What is left is read as it is within the whole.
use Rattle.std.proofs.Common.{◌≡◌, false, drop}
use Rattle.toml_edit_laws.specs.reading.FloatReading.{after_digits}
use Rattle.toml_edit_datetime.proofs.float_text.after_digits.Given as goal

abbrev pub invariant-digits : goal.invariant-digits
invariant-digits l = after_digits l.after_digit (drop l.index l.text) ≡ after_digits false l.text
