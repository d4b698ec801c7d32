-- Each call has fewer events of its path, or goes further into the item that is there.
use Rattle.std.proofs.Common.{◌+◌, ◌*◌, length}
use Rattle.toml_edit_parser.proofs.inline_table.+add.Given as goal

abbrev pub decreases-add_entry : goal.decreases-add_entry
decreases-add_entry l = 4 * length l.path.events.now

abbrev pub decreases-add_below : goal.decreases-add_below
decreases-add_below l = 4 * length l.path.events.now + 1

abbrev pub decreases-add_inside : goal.decreases-add_inside
decreases-add_inside l = 4 * length l.path.events.now + 3

abbrev pub decreases-add_in_value : goal.decreases-add_in_value
decreases-add_in_value l = 4 * length l.path.events.now + 2

abbrev pub decreases-add_in_table : goal.decreases-add_in_table
decreases-add_in_table l = 4 * length l.path.events.now + 1
