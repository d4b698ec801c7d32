-- The digits to come are read as they are within the whole, and the number up to here is small.
use Rattle.std.proofs.Common.{◌≡◌, ◌^◌, ◌<◌, drop}
use Rattle.std.specs.List.{list_all}
use Rattle.std.specs.Char.{is_digit}
use Rattle.std.specs.Str.Parse.{digits_value, digits_value_after}
use Rattle.toml_edit_token.proofs.string.hex_value.Given as goal

abbrev pub invariant-digits : goal.invariant-digits
invariant-digits l =
    (l.value < 16 ^ l.byte-index) × (digits_value_after 16 l.value (drop l.byte-index l.digits) ≡ digits_value 16 l.digits)
    × (list_all (λ c. is_digit c 16) (drop l.byte-index l.digits) ≡ list_all (λ c. is_digit c 16) l.digits)
