-- A value added after the lines of a table.
use Rattle.toml_edit_edit_laws.proofs.path_calls.AfterLines.{added_after_lines}
use Rattle.toml_edit_edit_laws.proofs.added_after_lines.Goals as goal

pub returns : goal.returns
returns c = record { change = added_after_lines }
