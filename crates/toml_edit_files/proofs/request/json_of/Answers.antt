-- The operands are a file and perhaps a path.
use Rattle.std.proofs.Common.{List}
use Rattle.toml_edit_model.specs.Text.{Text}
use Rattle.toml_edit_model.specs.Tree.{Key}
use Rattle.toml_edit_files.specs.Requests.{AreFileAndPath, IsNoneBy}
use Rattle.toml_edit_files.specs.Split.{split_of}
use Rattle.toml_edit_files.specs.Stops.{IsMistaken, reason_of}
use Rattle.toml_edit_files.specs.declared.help.Topic.TheVariants as topics
use Rattle.toml_edit_files.proofs.OperandLaws.{of-json}
use Rattle.toml_edit_files.proofs.SplitLaws.{mistaken-for}
use Rattle.toml_edit_files.proofs.StopLaws.{passed}
use Rattle.toml_edit_files.proofs.request.json_of.Goals as goal

pub returns-in_err-file-clause-stops : goal.returns-in_err-file-clause-stops
returns-in_err-file-clause-stops c v =
    let s = split_of c.args.words.now in let stop = c.in_err-file.field-0.0 in
    passed c.from_residual.result stop (λ s. IsMistaken (IsNoneBy v topics.Json (split_of c.args.words.now)) (reason_of s)) c.from_residual.ensures.1
    (mistaken-for ((file : Text) (path : List Key) → AreFileAndPath s.operands file path → ⊥) (IsNoneBy v topics.Json s) (reason_of stop)
    (of-json v s) c.in_err-file.ensures.stops)
