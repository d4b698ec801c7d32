-- The digits to come are read as they are within the whole.
use Rattle.std.proofs.Common.{◌≡◌, ◌≤◌, ◌^◌, false, drop}
use Rattle.toml_edit_laws.specs.reading.Tokens.{digits_at}
use Rattle.toml_edit_token.proofs.number.natural_number.Given as goal

abbrev pub invariant-digits : goal.invariant-digits
invariant-digits l = record {
  small : l.value ≤ 2 ^ 63;
  read : digits_at l.base l.after_digit l.value (drop l.byte-index l.digits) ≡ digits_at l.base false 0 l.digits;
}
