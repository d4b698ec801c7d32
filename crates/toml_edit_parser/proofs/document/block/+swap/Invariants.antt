-- Each call has fewer names, or goes further into the item that is there.
use Rattle.std.proofs.Common.{◌+◌, ◌*◌, length}
use Rattle.toml_edit_parser.proofs.document.block.+swap.Given as goal

abbrev pub decreases-swap_block : goal.decreases-swap_block
decreases-swap_block l = 5 * length l.block.now

abbrev pub decreases-swap_table : goal.decreases-swap_table
decreases-swap_table l = 5 * length l.block.now + 1

abbrev pub decreases-swap_last : goal.decreases-swap_last
decreases-swap_last l = 5 * length l.block.now + 2

abbrev pub decreases-swap_tables : goal.decreases-swap_tables
decreases-swap_tables l = 5 * length l.block.now + 3

abbrev pub decreases-swap_item : goal.decreases-swap_item
decreases-swap_item l = 5 * length l.block.now + 4
