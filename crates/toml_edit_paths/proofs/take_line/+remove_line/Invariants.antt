-- Each call has fewer keys of the path, or goes further into what is there.
use Rattle.std.proofs.Common.{◌+◌, ◌*◌, length}
use Rattle.toml_edit_paths.proofs.take_line.+remove_line.Given as goal

abbrev pub decreases-remove_line_in_item : goal.decreases-remove_line_in_item
decreases-remove_line_in_item l = 2 * length l.rest.now + 1

abbrev pub decreases-remove_line_in_slots : goal.decreases-remove_line_in_slots
decreases-remove_line_in_slots l = 2 * length l.rest.now
