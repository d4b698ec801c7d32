-- The ways of a tree.
use Rattle.toml_edit_laws.proofs.locality.Ways.{reached, entered}
use Rattle.toml_edit_laws.proofs.ways.Goals as goal

pub returns : goal.returns
returns c = record { reached = reached; entered = entered }
