-- The files up to here are checked.
use Rattle.toml_edit_files.proofs.OutcomeLaws.{SoFar, names_from}
use Rattle.toml_edit_files.specs.Checks.{ChecksFile}
use Rattle.toml_edit_files.specs.Edited.{version_by}
use Rattle.toml_edit_files.proofs.check.check_all.Given as goal

abbrev pub invariant-files : goal.invariant-files
invariant-files g l =
    SoFar (ChecksFile (version_by l.reading)) (names_from 0 l.files) (g.F.Folder.history l.initial.folder) (g.I.Input.remaining l.initial.input)
    (names_from l.file-index l.files) (g.F.Folder.history l.folder) (g.I.Input.remaining l.input) l.tally.told l.tally.undone
