-- Each misfit is a place where its rule is broken.
use Rattle.toml_edit_fits.proofs.BrokenLaws.{misfits_are_broken}
use Rattle.toml_edit_fits.proofs.laws.broken.Goals as goal

pub returns : goal.returns
returns c = misfits_are_broken
