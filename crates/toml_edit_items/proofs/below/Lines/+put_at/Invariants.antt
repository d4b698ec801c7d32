-- One key less is left.
use Rattle.std.proofs.Common.{length}
use Rattle.toml_edit_items.proofs.below.Lines.+put_at.Given as goal

abbrev pub decreases-put_at : goal.decreases-put_at
decreases-put_at l = length l.keys.now
