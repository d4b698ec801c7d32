-- The laws of lines.
use Rattle.toml_edit_edits.proofs.LinesStayLaws.{inserted-lines, removed-lines}
use Rattle.toml_edit_edits.proofs.laws.lines_stay.Goals as goal

pub returns : goal.returns
returns c = record { inserted = inserted-lines; removed = removed-lines }
