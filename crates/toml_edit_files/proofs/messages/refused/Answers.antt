-- What is made is said.
use Rattle.std.proofs.Common.{◌≡◌, string_bytes}
use Rattle.std.specs.Prelude.{IsOkAnd}
use Rattle.toml_edit_files.specs.Refusals.{refusal_text}
use Rattle.toml_edit_files.specs.declared.stop.Reason.TheVariants.{Refused}
use Rattle.toml_edit_files.proofs.StopLaws.{made_says, saying}
use Rattle.toml_edit_files.proofs.messages.refused.Goals as goal

pub returns : goal.returns
returns c =
    let text = refusal_text c.args.file.now c.args.error.now in
    saying (λ t. IsOkAnd c.refusal_text.result (λ s. string_bytes s ≡ t)) (λ said. said ≡ text) Refused c.stop.result
    (λ t is. made_says string_bytes c.refusal_text.result text t is c.refusal_text.ensures) c.stop.ensures.says
