-- The bytes are read, or a call fails.
use Rattle.toml_edit_files.specs.Stops.{IsFor, Reads, reason_of}
use Rattle.toml_edit_files.specs.declared.stop.Reason.TheVariants.{Failed}
use Rattle.toml_edit_files.proofs.StopLaws.{leaves_if, reads_passed}
use Rattle.toml_edit_files.proofs.read.text_of.Goals as goal

pub returns-in_err-bytes-clause-rest : goal.returns-in_err-bytes-clause-rest
returns-in_err-bytes-clause-rest g c =
    leaves_if (IsFor Failed (reason_of c.in_err-bytes.field-0.0) → ⊥) (Reads c.from_residual.result) c.args.file.now _ _
    (reads_passed c.from_residual.result c.in_err-bytes.field-0.0 c.from_residual.ensures.1) c.in_err-bytes.ensures.rest

pub returns-clause-rest : goal.returns-clause-rest
returns-clause-rest g c = leaves_if (Unit {0}) (Reads c.text_from.result) c.args.file.now _ _ (λ reads. tt) c.in_ok-bytes.ensures.rest
