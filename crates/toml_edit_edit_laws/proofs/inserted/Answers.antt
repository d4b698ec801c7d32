-- A value inserted at a place of a table of a steady tree.
use Rattle.toml_edit_edit_laws.proofs.placing.Lists.{inserted_stands}
use Rattle.toml_edit_edit_laws.proofs.placing.Inserting.{inserted_at, inserted_stays_made}
use Rattle.toml_edit_edit_laws.proofs.placing.Meaning.{inserted_means}
use Rattle.toml_edit_edit_laws.proofs.inserted.Goals as goal

pub returns : goal.returns
returns c = record { change = inserted_at; means = inserted_means; made = inserted_stays_made; stands = inserted_stands }
