-- Each call has fewer keys of the path, or goes further into what is there.
use Rattle.std.proofs.Common.{◌+◌, ◌*◌, length}
use Rattle.toml_edit_paths.proofs.alter.+change.Given as goal

abbrev pub decreases-change_in_item : goal.decreases-change_in_item
decreases-change_in_item g l = 3 * length l.path.now

abbrev pub decreases-change_in_slots : goal.decreases-change_in_slots
decreases-change_in_slots g l = 3 * length l.rest.now + 2

abbrev pub decreases-change_in_slot : goal.decreases-change_in_slot
decreases-change_in_slot g l = 3 * length l.rest.now + 1
