-- The next word is the operand of an option, or none.
use Rattle.std.proofs.Common.{◌≡◌, ◌∙◌, ap, sym, None, Some}
use Rattle.std.proofs.lemmas.Result.{IfErr-weaker, on_ok_weaker}
use Rattle.std.specs.Option.{option_copied}
use Rattle.toml_edit_files.specs.Split.{is_plain, split_of, step, takes}
use Rattle.toml_edit_files.specs.Stops.{IsMistaken, reason_of}
use Rattle.toml_edit_files.proofs.SplitLaws.{by-memory, mistaken-for, of-option, of-word}
use Rattle.toml_edit_files.proofs.split.Split.take.Goals as goal

pub returns-in-Some-clause-took : goal.returns-in-Some-clause-took
returns-in-Some-clause-took c =
    let s = split_of c.args.self.now in
    on_ok_weaker c.add_option.result
    (λ h. of-option c.args.topic s c.args.word.now c.in-Some.name.now (ap option_copied c.in-Some.is) ∙ ap (λ t. Some t) (sym h))
    c.add_option.ensures.added

pub returns-in-Some-clause-stops : goal.returns-in-Some-clause-stops
returns-in-Some-clause-stops c =
    by-memory (step c.args.topic (split_of c.args.self.now) c.args.word.now ≡ None) c.add_option.result c.add_option.ensures.memory

pub returns-in-None-clause-took : goal.returns-in-None-clause-took
returns-in-None-clause-took c =
    on_ok_weaker c.take_word.result
    (λ h. of-word c.args.topic (split_of c.args.self.now) c.args.word.now (ap option_copied c.in-None.is) ∙ h) c.take_word.ensures.took

pub returns-in-None-clause-stops : goal.returns-in-None-clause-stops
returns-in-None-clause-stops c =
    let topic = c.args.topic in let s = split_of c.args.self.now in let w = c.args.word.now in
    IfErr-weaker c.take_word.result (λ stop. IsMistaken (takes topic s w None (is_plain s) ≡ None) (reason_of stop))
    (λ stop. IsMistaken (step topic s w ≡ None) (reason_of stop))
    (λ stop h. mistaken-for (takes topic s w None (is_plain s) ≡ None) (step topic s w ≡ None) (reason_of stop)
    (λ none. of-word topic s w (ap option_copied c.in-None.is) ∙ none) h)
    c.take_word.ensures.stops
