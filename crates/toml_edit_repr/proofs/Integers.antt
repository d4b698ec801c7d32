-- Integers of 64 bits are in range.
use Rattle.std.specs.Prelude.{ℤ, pos, negsuc}
use Rattle.std.proofs.Common.{◌≡◌, refl, ◌-◌, ◌^◌, ◌<◌, arith, true, FitsSigned, w64}
use Rattle.std.proofs.lemmas.Bool.{le-leb}
use Rattle.toml_edit_model.specs.Scalars.{fits_integer}

pub integer_fits : (z : ℤ) → FitsSigned w64 z → fits_integer z ≡ true
integer_fits (pos n) fits = let below : n < 2 ^ 63 = fits.sfits in le-leb n (2 ^ 63 - 1) (omega arith)
integer_fits (negsuc n) fits = let below : n < 2 ^ 63 = fits.sfits in rw (le-leb n (2 ^ 63 - 1) (omega arith)) refl
