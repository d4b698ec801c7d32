-- Each call has a shorter path.
use Rattle.std.proofs.Common.{length}
use Rattle.toml_edit_edits.proofs.along.+open_along.Given as goal

abbrev pub decreases-open_along : goal.decreases-open_along
decreases-open_along l = length l.path.now
