-- The message about a refused file is written.
use Rattle.toml_edit_files.specs.Edited.{version_by}
use Rattle.toml_edit_files.proofs.RunLaws.{checked}
use Rattle.std.proofs.Common.{Err}
use Rattle.toml_edit_files.specs.Outcomes.{WasRead}
use Rattle.toml_edit_files.specs.Stops.{IsFor, reason_of}
use Rattle.toml_edit_files.specs.declared.stop.Reason.TheVariants.{Failed}
use Rattle.toml_edit_files.proofs.StopLaws.{file_reads, leaves_if}
use Rattle.toml_edit_files.proofs.check.check_file.Goals as goal

pub returns-in-Err-clause-checks : goal.returns-in-Err-clause-checks
returns-in-Err-clause-checks g c =
    checked (version_by c.args.reading) c.args.file.now c.told_of_file.result (g.F.Folder.history c.args.folder.now)
    (g.F.Folder.history c.read_accepted.new.folder) (g.I.Input.remaining c.args.input.now) c.in-Err.stop c.in-Err.ensures.refused
    c.read_accepted.ensures.looks c.told_of_file.ensures

pub returns-in-Ok-clause-rest : goal.returns-in-Ok-clause-rest
returns-in-Ok-clause-rest g c = leaves_if (Unit {0}) (WasRead c.new.result) c.args.file.now _ _ (λ read. tt) c.in-Ok.ensures.rest

pub returns-in-Err-clause-rest : goal.returns-in-Err-clause-rest
returns-in-Err-clause-rest g c =
    leaves_if (IsFor Failed (reason_of c.in-Err.stop) → ⊥) (WasRead c.told_of_file.result) c.args.file.now _ _
    (file_reads (Err c.in-Err.stop) c.told_of_file.result c.told_of_file.ensures) c.in-Err.ensures.rest
