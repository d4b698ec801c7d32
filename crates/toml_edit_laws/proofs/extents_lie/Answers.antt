-- Extents of trees lie in their texts.
use Rattle.toml_edit_laws.proofs.read_trees.TreeExtents.{extents-lie}
use Rattle.toml_edit_laws.proofs.extents_lie.Goals as goal

pub returns : goal.returns
returns c = extents-lie
