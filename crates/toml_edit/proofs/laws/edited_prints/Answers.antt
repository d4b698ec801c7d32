-- The tree is well made and fits.
use Rattle.toml_edit.proofs.EditedLaws.{edited-prints}
use Rattle.toml_edit.proofs.laws.edited_prints.Goals as goal

pub returns : goal.returns
returns c = edited-prints
