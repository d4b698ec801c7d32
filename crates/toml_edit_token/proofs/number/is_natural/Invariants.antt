-- The digits to come are read as they are within the whole.
use Rattle.std.proofs.Common.{◌≡◌, ℕ, false, drop}
use Rattle.toml_edit_laws.specs.reading.Tokens.{digits_at}
use Rattle.toml_edit_token.proofs.number.is_natural.Given as goal

abbrev pub invariant-digits : goal.invariant-digits
invariant-digits l = (n : ℕ) × (digits_at l.base l.follows_digit n (drop l.byte-index l.digits) ≡ digits_at l.base false 0 l.digits)
