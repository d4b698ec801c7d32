-- The next word is taken, or stops the rest.
use Rattle.std.proofs.Common.{◌≡◌, ◌≤◌, ◌<◌, ◌+◌, ◌∙◌, ap, arith, drop, length, map, string_bytes, subst, sym, None, Some}
use Rattle.toml_edit_model.specs.Text.{Text}
use Rattle.toml_edit_files.specs.Split.{split_of, split_words, step, steps}
use Rattle.toml_edit_files.specs.Stops.{IsMistaken, reason_of}
use Rattle.toml_edit_files.proofs.SplitLaws.{by-mistake, mistaken-for, next-of, none-of, not-wanting, steps-end, steps-none, steps-on, steps-want, still-wants}
use Rattle.toml_edit_files.proofs.StopLaws.{passed}
use Rattle.toml_edit_files.proofs.split.split_words.Goals as goal

pub words-preserved : goal.words-preserved
words-preserved c =
    let ws = c.args.words.now in let i = c.words.word-index in let old = split_of c.words.split in
    let new = split_of c.take.new.self in let w = c.word-item.result in
    let below : i < length ws = omega arith in
    let took : step c.args.topic old (string_bytes w) ≡ Some new =
    subst (λ (t : Text). step c.args.topic old t ≡ Some new) c.as_str.ensures.value c.in_ok-take.ensures.took in
    c.words.invariant ∙ ap (steps c.args.topic old) (next-of string_bytes ws i w below c.word-item.is)
    ∙ steps-on c.args.topic old new (string_bytes w) (map string_bytes (drop (i + 1) ws)) took

pub returns-in_err-take-clause-stops : goal.returns-in_err-take-clause-stops
returns-in_err-take-clause-stops c =
    let ws = c.args.words.now in let i = c.words.word-index in let old = split_of c.words.split in
    let w = c.word-item.result in let stop = c.in_err-take.field-0.0 in
    let below : i < length ws = omega arith in
    passed c.from_residual.result stop (λ s. IsMistaken (split_words c.args.topic (map string_bytes ws) ≡ None) (reason_of s))
    c.from_residual.ensures.1
    (mistaken-for (step c.args.topic old c.as_str.result.now ≡ None) (split_words c.args.topic (map string_bytes ws) ≡ None) (reason_of stop)
    (λ none. c.words.invariant ∙ ap (steps c.args.topic old) (next-of string_bytes ws i w below c.word-item.is)
    ∙ steps-none c.args.topic old (string_bytes w) (map string_bytes (drop (i + 1) ws))
    (subst (λ (t : Text). step c.args.topic old t ≡ None) c.as_str.ensures.value none))
    c.in_err-take.ensures.stops)

pub returns-then-is_some-clause-stops : goal.returns-then-is_some-clause-stops
returns-then-is_some-clause-stops c =
    let ws = c.args.words.now in let s = split_of c.words.split in
    let past : length ws ≤ c.words.word-index = omega arith in
    by-mistake (split_words c.args.topic (map string_bytes ws) ≡ None) (reason_of c.wrong_words.result)
    (c.words.invariant ∙ ap (steps c.args.topic s) (none-of string_bytes ws c.words.word-index past)
    ∙ steps-want c.args.topic s (still-wants c.words.split.pending (sym c.is_some.ensures ∙ c.if-is_some.true)))
    c.wrong_words.ensures

pub returns-clause-split : goal.returns-clause-split
returns-clause-split c =
    let ws = c.args.words.now in let s = split_of c.words.split in
    let past : length ws ≤ c.words.word-index = omega arith in
    c.words.invariant ∙ ap (steps c.args.topic s) (none-of string_bytes ws c.words.word-index past)
    ∙ steps-end c.args.topic s (not-wanting c.words.split.pending (sym c.is_some.ensures ∙ c.if-is_some.false))
