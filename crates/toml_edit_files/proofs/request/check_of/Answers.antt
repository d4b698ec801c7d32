-- The operands are files.
use Rattle.std.proofs.Common.{◌==◌, ◌∙◌, ap, length, refl, Bor}
use Rattle.toml_edit_files.specs.Requests.{IsNoneBy}
use Rattle.toml_edit_files.specs.Split.{split_of}
use Rattle.toml_edit_files.specs.Stops.{reason_of}
use Rattle.toml_edit_files.specs.declared.help.Topic.TheVariants as topics
use Rattle.toml_edit_model.specs.Text.{Text}
use Rattle.toml_edit_files.proofs.OperandLaws.{empty-of, of-check, some-of}
use Rattle.toml_edit_files.proofs.SplitLaws.{by-mistake}
use Rattle.toml_edit_files.proofs.request.check_of.Goals as goal

pub returns-then-is_empty-clause-stops : goal.returns-then-is_empty-clause-stops
returns-then-is_empty-clause-stops c v =
    let ops = c.args.words.operands in
    by-mistake (IsNoneBy v topics.Check (split_of c.args.words)) (reason_of c.wrong_words.result)
    (of-check v (split_of c.args.words)
    (empty-of (λ (w : Bor Text). w.now) ops.items c.is_empty.result (c.is_empty.ensures ∙ ap (λ n. n == 0) ops.ok.0) c.if-is_empty.true))
    c.wrong_words.ensures

pub returns-clause-says : goal.returns-clause-says
returns-clause-says c v =
    let ops = c.args.words.operands in
    (refl, some-of (λ (w : Bor Text). w.now) ops.items c.is_empty.result (c.is_empty.ensures ∙ ap (λ n. n == 0) ops.ok.0) c.if-is_empty.false)
