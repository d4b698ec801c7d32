-- An integer of 64 bits is in range.
use Rattle.toml_edit_fits.proofs.MadeLaws.{integer-fits}
use Rattle.toml_edit_fits.proofs.fits.open_number.Goals as goal

pub returns : goal.returns
returns c = integer-fits c.args.number c.ranges.number
