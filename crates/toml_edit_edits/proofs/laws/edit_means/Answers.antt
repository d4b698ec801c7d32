-- The law of what an edit means.
use Rattle.toml_edit_edits.proofs.MeansLaws.{made-means}
use Rattle.toml_edit_edits.proofs.laws.edit_means.Goals as goal

pub returns : goal.returns
returns c = record { means = made-means }
