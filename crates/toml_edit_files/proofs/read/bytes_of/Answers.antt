-- Standard input is read to its end, or fails.
use Rattle.std.proofs.Common.{◌∙◌, refl, sym}
use Rattle.toml_edit_files.specs.Folders.{is_stream}
use Rattle.toml_edit_files.proofs.RunLaws.{chosen, chosen_not}
use Rattle.toml_edit_files.proofs.StopLaws.{ends}
use Rattle.toml_edit_files.proofs.read.bytes_of.Goals as goal

pub returns-then-eq-clause-rest : goal.returns-then-eq-clause-rest
returns-then-eq-clause-rest g c =
    chosen _ _ (is_stream c.args.file.now) (sym c.eq.ensures ∙ c.if-eq.true)
    (ends c.args.file.now _ c.input_bytes.result c.input_bytes.ensures.end c.input_bytes.ensures.failed)

pub returns-else-eq-clause-rest : goal.returns-else-eq-clause-rest
returns-else-eq-clause-rest g c = chosen_not _ _ (is_stream c.args.file.now) (sym c.eq.ensures ∙ c.if-eq.false) refl
