-- The digits to come decide.
use Rattle.std.proofs.Common.{◌≡◌, drop}
use Rattle.std.specs.Char.{is_ascii_digit}
use Rattle.std.specs.List.{list_all}
use Rattle.toml_edit_edits.proofs.missing.are_digits.Given as goal

abbrev pub invariant-digits : goal.invariant-digits
invariant-digits l = list_all is_ascii_digit (drop l.byte-index l.digits) ≡ list_all is_ascii_digit l.digits
