-- The operands are files, and the options ask for sorts and set rules.
use Rattle.std.proofs.Common.{◌≡◌, ◌==◌, ◌∙◌, List, ap, false, length, refl, Bor}
use Rattle.toml_edit_edits.specs.declared.edit.Edit.{Edit}
use Rattle.toml_edit_files.specs.Requests.{AreSorts, IsNoneBy, are_taken, rules_in}
use Rattle.toml_edit_files.specs.Split.{split_of}
use Rattle.toml_edit_files.specs.Stops.{IsMistaken, reason_of}
use Rattle.toml_edit_files.specs.declared.help.Topic.TheVariants as topics
use Rattle.toml_edit_model.specs.Text.{Text}
use Rattle.toml_edit_files.proofs.OperandLaws.{empty-of, fmt-empty, fmt-refused, fmt-wrong, some-of}
use Rattle.toml_edit_files.proofs.SplitLaws.{by-mistake, mistaken-for}
use Rattle.toml_edit_files.proofs.StopLaws.{passed}
use Rattle.toml_edit_files.proofs.request.fmt_of.Goals as goal

pub returns-then-is_empty-clause-stops : goal.returns-then-is_empty-clause-stops
returns-then-is_empty-clause-stops c v =
    let ops = c.args.words.operands in
    by-mistake (IsNoneBy v topics.Fmt (split_of c.args.words)) (reason_of c.wrong_words.result)
    (fmt-empty v (split_of c.args.words)
    (empty-of (λ (w : Bor Text). w.now) ops.items c.is_empty.result (c.is_empty.ensures ∙ ap (λ n. n == 0) ops.ok.0) c.if-is_empty.true))
    c.wrong_words.ensures

pub returns-in_err-sorts_of-clause-stops : goal.returns-in_err-sorts_of-clause-stops
returns-in_err-sorts_of-clause-stops c v =
    let s = split_of c.args.words in let stop = c.in_err-sorts_of.field-0.0 in
    passed c.from_residual.result stop (λ s. IsMistaken (IsNoneBy v topics.Fmt (split_of c.args.words)) (reason_of s)) c.from_residual.ensures.1
    (mistaken-for ((sorts : List Edit) → AreSorts s.options sorts → ⊥) (IsNoneBy v topics.Fmt s) (reason_of stop) (fmt-wrong v s)
    c.in_err-sorts_of.ensures.stops)

pub returns-in_err-rules_of-clause-stops : goal.returns-in_err-rules_of-clause-stops
returns-in_err-rules_of-clause-stops c v =
    let s = split_of c.args.words in let stop = c.in_err-rules_of.field-0.0 in
    passed c.from_residual-in_err-rules_of.result stop (λ s. IsMistaken (IsNoneBy v topics.Fmt (split_of c.args.words)) (reason_of s))
    c.from_residual-in_err-rules_of.ensures.1
    (mistaken-for (are_taken (rules_in s.options) ≡ false) (IsNoneBy v topics.Fmt s) (reason_of stop) (fmt-refused v s)
    c.in_err-rules_of.ensures.stops)

pub returns-clause-says : goal.returns-clause-says
returns-clause-says c v =
    let ops = c.args.words.operands in
    record {
      files = refl;
      some = some-of (λ (w : Bor Text). w.now) ops.items c.is_empty.result (c.is_empty.ensures ∙ ap (λ n. n == 0) ops.ok.0) c.if-is_empty.false;
      sorts = c.in_ok-sorts_of.ensures.sorts;
      rules = c.in_ok-rules_of.ensures.rules;
      taken = c.in_ok-rules_of.ensures.taken;
      keys = c.has.ensures;
      check = c.has_either-check.ensures;
      diff = c.has-diff.ensures;
      force = c.has-force.ensures;
    }
