-- The minutes of an offset are the hours' and the minutes'.
use Rattle.std.proofs.Common.{arith}
use Rattle.std.proofs.lemmas.Grind.{common_steps}
use Rattle.toml_edit_laws.specs.reading.DatetimeReading.{offset_at}
use Rattle.toml_edit_datetime.proofs.reading.read_offset.Goals as goal

pub returns-in_ok-hours-in-45 : goal.returns-in_ok-hours-in-45
unfolding offset_at
returns-in_ok-hours-in-45 c = grind (arith, common_steps)
