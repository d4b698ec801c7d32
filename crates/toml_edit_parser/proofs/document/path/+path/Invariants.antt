-- Each call has fewer events of its path, or goes further into the item that is there.
use Rattle.std.proofs.Common.{◌+◌, ◌*◌, length}
use Rattle.toml_edit_parser.proofs.document.path.+path.Given as goal

abbrev pub decreases-add_path : goal.decreases-add_path
decreases-add_path l = 5 * length l.path.events.now

abbrev pub decreases-add_below : goal.decreases-add_below
decreases-add_below l = 5 * length l.path.events.now + 3

abbrev pub decreases-add_in_passed : goal.decreases-add_in_passed
decreases-add_in_passed l = 5 * length l.path.events.now + 2

abbrev pub decreases-add_in_item : goal.decreases-add_in_item
decreases-add_in_item l = 5 * length l.path.events.now + 4

abbrev pub decreases-add_in_table : goal.decreases-add_in_table
decreases-add_in_table l = 5 * length l.path.events.now + 1

abbrev pub decreases-add_in_tables : goal.decreases-add_in_tables
decreases-add_in_tables l = 5 * length l.path.events.now + 3

abbrev pub decreases-add_in_element : goal.decreases-add_in_element
decreases-add_in_element l = 5 * length l.path.events.now + 2

abbrev pub decreases-add_in_slots : goal.decreases-add_in_slots
decreases-add_in_slots l = 5 * length l.path.events.now + 1
