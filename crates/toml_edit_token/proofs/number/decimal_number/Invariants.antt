-- The digits to come are read as they are within the whole.
use Rattle.std.proofs.Common.{◌≡◌, ◌<◌, ◌^◌, false, drop, nat_lt}
use Rattle.toml_edit_laws.specs.reading.Tokens.{digits_at}
use Rattle.toml_edit_token.proofs.number.decimal_number.Given as goal

abbrev pub invariant-digits : goal.invariant-digits
invariant-digits l = record {
  small : l.value < 10 ^ l.byte-index;
  read : digits_at 10 (nat_lt 0 l.byte-index) l.value (drop l.byte-index l.digits) ≡ digits_at 10 false 0 l.digits;
}
