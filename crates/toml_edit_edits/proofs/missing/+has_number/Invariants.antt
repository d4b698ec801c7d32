-- Each call has a shorter path.
use Rattle.std.proofs.Common.{length}
use Rattle.toml_edit_edits.proofs.missing.+has_number.Given as goal

abbrev pub decreases-has_number : goal.decreases-has_number
decreases-has_number l = length l.path.now
