-- Each call has a key less.
use Rattle.std.proofs.Common.{length}
use Rattle.toml_edit_paths.proofs.make.+wrap_below.Given as goal

abbrev pub decreases-wrap_below : goal.decreases-wrap_below
decreases-wrap_below l = length l.path.now
