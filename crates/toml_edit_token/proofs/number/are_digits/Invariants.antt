-- The digits to come are read as they are within the whole.
use Rattle.std.proofs.Common.{◌≡◌, ℕ, false, drop, nat_lt}
use Rattle.toml_edit_laws.specs.reading.Tokens.{digits_at}
use Rattle.toml_edit_token.proofs.number.are_digits.Given as goal

abbrev pub invariant-digits : goal.invariant-digits
invariant-digits l =
    (n : ℕ) × (digits_at 10 (nat_lt 0 l.byte-index) n (drop l.byte-index l.digits) ≡ digits_at 10 false 0 l.digits)
