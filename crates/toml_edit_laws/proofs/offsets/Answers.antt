-- Offsets at the ends of texts.
use Rattle.toml_edit_laws.proofs.reading.OffsetLaws.{one-offset}
use Rattle.toml_edit_laws.proofs.spellings.OffsetsAtEnds.{clocks-at-ends, real-offsets, real-datetimes}
use Rattle.toml_edit_laws.proofs.offsets.Goals as goal

pub returns : goal.returns
returns c = record { clock = clocks-at-ends; range = real-offsets; date_times = real-datetimes; one = one-offset }
