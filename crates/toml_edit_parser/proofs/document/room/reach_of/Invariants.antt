-- Less of the text is left.
use Rattle.std.proofs.Common.{◌-◌, length}
use Rattle.toml_edit_parser.proofs.document.room.reach_of.Given as goal

abbrev pub decreases-steps : goal.decreases-steps
decreases-steps l = length l.text - l.reach
