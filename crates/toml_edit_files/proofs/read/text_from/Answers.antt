-- The bytes are not UTF-8, and that is said.
use Rattle.std.proofs.Common.{◌≡◌, ◌++◌, rules}
use Rattle.std.specs.Prelude.{codes}
use Rattle.std.specs.Str.{IsUtf8}
use Rattle.toml_edit_files.specs.Refusals.{IsNotUtf8}
use Rattle.toml_edit_files.specs.declared.stop.Reason.TheVariants.{Refused}
use Rattle.toml_edit_files.proofs.StopLaws.{saying}
use Rattle.toml_edit_files.proofs.read.text_from.Goals as goal

pub returns-clause-stops : goal.returns-clause-stops
returns-clause-stops c =
    let file = c.args.file.now in
    let bad : ¬ (IsUtf8 c.args.bytes.items) = search rules in
    saying (λ said. said ≡ file ++ (codes ": " ++ codes "not UTF-8")) (IsNotUtf8 file c.args.bytes.items) Refused c.stop_at.result
    (λ said is. (bad, is)) c.stop_at.ensures.says
