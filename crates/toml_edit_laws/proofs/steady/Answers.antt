-- The tree of a text is steady, and in each mode if it is in one.
use Rattle.toml_edit_laws.proofs.steady.Goals as goal
use Rattle.toml_edit_laws.proofs.normal_texts.LinesInModes.{steady_in_each_mode}
use Rattle.toml_edit_laws.proofs.normal_texts.SteadyTrees.{steady-tree}

pub returns : goal.returns
returns c = record { texts = steady-tree; modes = steady_in_each_mode }
