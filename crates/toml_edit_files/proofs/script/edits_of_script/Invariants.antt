-- The lines before the rest say the edits.
use Rattle.std.proofs.Common.{[], length, take}
use Rattle.std.specs.Str.Lines.{lines}
use Rattle.toml_edit_files.specs.Lines.{SaysLines}
use Rattle.toml_edit_files.specs.Edited.{version_by}
use Rattle.toml_edit_files.proofs.script.edits_of_script.Given as goal

abbrev pub invariant-loop-line : goal.invariant-loop-line
invariant-loop-line l = SaysLines (version_by l.reading) (take (length l.yielded) (lines l.text)) [] l.edits.items
