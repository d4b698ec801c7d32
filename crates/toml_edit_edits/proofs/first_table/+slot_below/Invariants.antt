-- Each call has a shorter path.
use Rattle.std.proofs.Common.{length}
use Rattle.toml_edit_edits.proofs.first_table.+slot_below.Given as goal

abbrev pub decreases-slot_below : goal.decreases-slot_below
decreases-slot_below l = length l.path.now
