-- What is read is spelled, and what is spelled is read.
use Rattle.std.proofs.Common.{arith}
use Rattle.std.proofs.lemmas.Grind.{common_steps}
use Rattle.toml_edit_laws.specs.reading.DatetimeReading.{datetime_of}
use Rattle.toml_edit_datetime.proofs.RangeLaws.{spelled_or_not}
use Rattle.toml_edit_datetime.proofs.from_str.is_datetime.Goals as goal

pub returns-clause-spelled : goal.returns-clause-spelled
unfolding datetime_of
returns-clause-spelled c = spelled_or_not c.args.text.now c.is_some.result (grind (arith, common_steps))

pub returns-clause-read : goal.returns-clause-read
unfolding datetime_of
returns-clause-read c = grind (arith, common_steps)
