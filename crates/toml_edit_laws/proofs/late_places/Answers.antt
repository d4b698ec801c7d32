-- A statement has a late part exactly where it is late.
use Rattle.toml_edit_laws.proofs.versions.LatePlaces.{late-have-places}
use Rattle.toml_edit_laws.proofs.late_places.Goals as goal

pub returns : goal.returns
returns c = late-have-places
