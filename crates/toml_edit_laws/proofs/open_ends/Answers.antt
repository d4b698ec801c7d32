-- Open ends of documents and of prints.
use Rattle.toml_edit_laws.proofs.accepted_prints.OpenEnds.{open-ends, open-prints}
use Rattle.toml_edit_laws.proofs.open_ends.Goals as goal

pub returns : goal.returns
returns c = record { documents = open-ends; prints = open-prints }
