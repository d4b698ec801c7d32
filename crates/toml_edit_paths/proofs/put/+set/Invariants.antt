-- Each call has fewer keys of the path, or goes on into the slots of an item.
use Rattle.std.proofs.Common.{◌+◌, ◌*◌, length}
use Rattle.toml_edit_paths.proofs.put.+set.Given as goal

abbrev pub decreases-set_in_item : goal.decreases-set_in_item
decreases-set_in_item l = 2 * length l.path.now

abbrev pub decreases-set_in_slots : goal.decreases-set_in_slots
decreases-set_in_slots l = 2 * length l.rest.now + 1
