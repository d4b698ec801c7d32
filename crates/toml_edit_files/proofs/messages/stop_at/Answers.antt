-- What is made is said.
use Rattle.std.proofs.Common.{◌≡◌, ◌++◌, string_bytes}
use Rattle.std.specs.Prelude.{IsOkAnd, codes}
use Rattle.toml_edit_files.specs.Stops.{IsAbout}
use Rattle.toml_edit_files.proofs.StopLaws.{made_says, saying}
use Rattle.toml_edit_files.proofs.messages.stop_at.Goals as goal

pub returns-clause-says : goal.returns-clause-says
returns-clause-says c =
    let text = c.args.file.now ++ (codes ": " ++ c.args.why.now) in
    saying (λ t. IsOkAnd c.format.result (λ s. string_bytes s ≡ t)) (λ said. said ≡ text) c.args.reason c.stop.result
    (λ t is. made_says string_bytes c.format.result text t is c.format.ensures.ok) c.stop.ensures.says

pub returns-clause-about : goal.returns-clause-about
returns-clause-about c =
    let text = c.args.file.now ++ (codes ": " ++ c.args.why.now) in
    saying (λ t. IsOkAnd c.format.result (λ s. string_bytes s ≡ t)) (IsAbout c.args.file.now) c.args.reason c.stop.result
    (λ t is. (c.args.why.now, made_says string_bytes c.format.result text t is c.format.ensures.ok)) c.stop.ensures.says
