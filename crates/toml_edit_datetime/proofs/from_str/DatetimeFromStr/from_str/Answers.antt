-- The fault is for what has no date-time in range.
use Rattle.std.proofs.Common.{arith}
use Rattle.std.proofs.lemmas.Grind.{common_steps}
use Rattle.toml_edit_datetime.proofs.RangeLaws.{reads}
use Rattle.toml_edit_datetime.proofs.from_str.DatetimeFromStr.from_str.Goals as goal

pub returns : goal.returns
returns c = reads c.args.text.now _ (grind (arith, common_steps))
