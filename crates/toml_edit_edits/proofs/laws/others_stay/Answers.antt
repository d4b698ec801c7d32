-- The law of the statements that no edit names.
use Rattle.toml_edit_edits.proofs.staying.Edits.{applied-stay}
use Rattle.toml_edit_edits.proofs.laws.others_stay.Goals as goal

pub returns : goal.returns
returns c = record { edits = applied-stay }
