-- The operands are a file and edits.
use Rattle.std.proofs.Common.{◌≡◌, ◌∙◌, ◌-◌, ◌∷◌, [], List, ap, drop, length, map, subst, sym, take, Bor, None, arith}
use Rattle.std.specs.Option.{option_copied}
use Rattle.std.specs.Prelude.{codes}
use Rattle.toml_edit_model.specs.Text.{Text}
use Rattle.toml_edit_edits.specs.declared.edit.Edit.{Edit}
use Rattle.toml_edit_files.specs.Edited.{version_by}
use Rattle.toml_edit_files.specs.Requests.{IsNoneBy, SaysApart}
use Rattle.toml_edit_files.specs.Split.{last_of, split_of}
use Rattle.toml_edit_files.specs.Stops.{IsMistaken, reason_of}
use Rattle.toml_edit_files.specs.declared.help.Topic.TheVariants as topics
use Rattle.toml_edit_files.proofs.OperandLaws.{busy-so, edit-empty, edit-nothing, edit-wrong, first-word, idle-so, no-of, word_at}
use Rattle.toml_edit_files.proofs.SplitLaws.{by-mistake, mistaken-for, not-wanting}
use Rattle.toml_edit_files.proofs.StopLaws.{passed}
use Rattle.toml_edit_files.proofs.request.edit_of.Goals as goal

pub returns-in_default-clause-stops : goal.returns-in_default-clause-stops
returns-in_default-clause-stops c =
    let v = version_by c.args.reading in let s = split_of c.args.words.now in let f = λ (w : Bor Text). w.now in
    by-mistake (IsNoneBy v topics.Edit s) (reason_of c.wrong_words.result)
    (edit-empty v s (ap (map f) (sym c.as_slice.ensures.value) ∙ no-of f c.as_slice.result.now c.in_default.len_below)) c.wrong_words.ensures

pub returns-in_err-edits-clause-stops : goal.returns-in_err-edits-clause-stops
returns-in_err-edits-clause-stops c =
    let v = version_by c.args.reading in let ops = c.as_slice.result.now in let f = λ (w : Bor Text). w.now in
    let ws = map f (take (length ops - 1) (drop 1 ops)) in let stop = c.in_err-edits.field-0.0 in let s = split_of c.args.words.now in
    passed c.from_residual.result stop (λ s. IsMistaken (IsNoneBy v topics.Edit (split_of c.args.words.now)) (reason_of s)) c.from_residual.ensures.1
    (mistaken-for ((edits : List Edit) → SaysApart v ws edits → ⊥) (IsNoneBy v topics.Edit s) (reason_of stop)
    (edit-wrong v s (word_at ops 0) ws
    (ap (map f) (sym c.as_slice.ensures.value) ∙ first-word ops c.in-len1-up.len_at_least))
    c.in_err-edits.ensures.stops)

pub returns-then-is_idle-clause-stops : goal.returns-then-is_idle-clause-stops
returns-then-is_idle-clause-stops c =
    let v = version_by c.args.reading in let ops = c.as_slice.result.now in let f = λ (w : Bor Text). w.now in
    let ws = map f (take (length ops - 1) (drop 1 ops)) in let s = split_of c.args.words.now in
    let idle = idle-so c.as_slice-2.result.now c.last-script.result c.is_idle.result c.is_idle.ensures c.if-is_idle.true in
    by-mistake (IsNoneBy v topics.Edit s) (reason_of c.wrong_words-then-is_idle.result)
    (edit-nothing v s (word_at ops 0) ws
    (ap (map f) (sym c.as_slice.ensures.value) ∙ first-word ops c.in-len1-up.len_at_least)
    (subst (SaysApart v ws) (sym c.as_slice-2.ensures.value ∙ idle.0) c.in_ok-edits.ensures.said) (sym c.last-script.ensures ∙ idle.1))
    c.wrong_words-then-is_idle.ensures

pub returns-clause-says : goal.returns-clause-says
returns-clause-says c =
    let ops = c.as_slice.result.now in let f = λ (w : Bor Text). w.now in
    record {
      words = map f (take (length ops - 1) (drop 1 ops));
      operands = ap (map f) (sym c.as_slice.ensures.value)
          ∙ first-word ops c.in-len1-up.len_at_least;
      said = c.in_ok-edits.ensures.said;
      some = λ nil. busy-so c.as_slice-2.result.now c.last-script.result c.is_idle.result c.is_idle.ensures c.if-is_idle.false
          (c.as_slice-2.ensures.value ∙ nil);
      script = c.last-script.ensures;
      output = c.last.ensures;
      dry_run = c.has_either.ensures;
      diff = c.has.ensures;
      locked = c.has-2.ensures;
      force = c.has-3.ensures;
    }
