-- Each call has a shorter path.
use Rattle.std.proofs.Common.{length}
use Rattle.toml_edit_edits.proofs.missing.+keys_there.Given as goal

abbrev pub decreases-keys_there : goal.decreases-keys_there
decreases-keys_there l = length l.path.now
