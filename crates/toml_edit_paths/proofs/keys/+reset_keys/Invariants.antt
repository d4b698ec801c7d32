-- Each call has a key less.
use Rattle.std.proofs.Common.{length}
use Rattle.toml_edit_paths.proofs.keys.+reset_keys.Given as goal

abbrev pub decreases-reset_keys : goal.decreases-reset_keys
decreases-reset_keys l = length l.path.now
