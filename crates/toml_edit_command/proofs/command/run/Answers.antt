-- What a run has done, and its status and message.
use Rattle.std.proofs.Common.{◌≡◌, ◌⊎◌, sym, subst, ◌∙◌, inl, inr}
use Rattle.toml_edit_command.specs.Run.{written}
use Rattle.toml_edit_command.specs.Steps.{action_of}
use Rattle.toml_edit_command.specs.Words.{request}
use Rattle.toml_edit_parser.specs.Options.{mode_of, version_of}
use Rattle.toml_edit_command.proofs.Ends.{begins, does, mistaken-at-end, not-misworded, refused-at-end, says-command, tells-mistake}
use Rattle.toml_edit_command.proofs.Ends.{tells-refusal, words-mistaken, words-refuse-none, wrong-words}
use Rattle.toml_edit_command.proofs.command.run.Goals as goal

pub returns-in-Err-clause-wrong_words : goal.returns-in-Err-clause-wrong_words
returns-in-Err-clause-wrong_words g c =
    λ wrong.
    let x = wrong-words (request c.args.words.now) c.in-Err.error
    (written g.E.Output.contents g.E.Output.has_failed c.args.errors.now c.report_error.new.errors)
    c.in-Err.ensures.stops wrong c.report_error.ensures.told in
    (c.report_error.ensures.status ∙ x.0, x.1)

pub returns-in-Err-clause-end : goal.returns-in-Err-clause-end
returns-in-Err-clause-end g c =
    λ status.
    words-refuse-none (g.I.Input.remaining c.args.input.now) (request c.args.words.now) c.in-Err.error c.in-Err.ensures.stops
    (subst (λ n. (n ≡ 0) ⊎ (n ≡ 1)) c.report_error.ensures.status status)

pub returns-in-Err-clause-mistaken_end : goal.returns-in-Err-clause-mistaken_end
returns-in-Err-clause-mistaken_end g c =
    λ two. inl (words-mistaken (request c.args.words.now) c.in-Err.error c.in-Err.ensures.stops (sym c.report_error.ensures.status ∙ two))

pub returns-in-Ok-perform-clause-done : goal.returns-in-Ok-perform-clause-done
returns-in-Ok-perform-clause-done g c =
    λ _.
    does (request c.args.words.now) (action_of c.in-Ok.read.0) c.in-Ok.ensures.said (mode_of c.in-Ok.read.1) c.in-Ok.ensures.mode
    (version_of c.in-Ok.read.1) c.in-Ok.ensures.version (g.I.Input.remaining c.args.input.now)
    (written g.O.Output.contents g.O.Output.has_failed c.args.output.now c.perform.new.output) c.in-Ok-perform.ensures.wrote

pub returns-in-Ok-perform-clause-wrong_words : goal.returns-in-Ok-perform-clause-wrong_words
returns-in-Ok-perform-clause-wrong_words g c =
    λ wrong. absurd (wrong (says-command (request c.args.words.now) (action_of c.in-Ok.read.0) c.in-Ok.ensures.said))

pub returns-in-Ok-perform-clause-untouched : goal.returns-in-Ok-perform-clause-untouched
returns-in-Ok-perform-clause-untouched g c =
    λ wrong. absurd (not-misworded (request c.args.words.now) (action_of c.in-Ok.read.0) c.in-Ok.ensures.said wrong)

pub returns-in-Err-perform-clause-refused : goal.returns-in-Err-perform-clause-refused
returns-in-Err-perform-clause-refused g c =
    λ one.
    tells-refusal (request c.args.words.now) (action_of c.in-Ok.read.0) c.in-Ok.ensures.said (mode_of c.in-Ok.read.1) c.in-Ok.ensures.mode
    (version_of c.in-Ok.read.1) c.in-Ok.ensures.version (g.I.Input.remaining c.args.input.now) (g.I.Input.has_failed c.perform.new.input) _
    c.in-Err-perform.error
    (written g.E.Output.contents g.E.Output.has_failed c.args.errors.now c.report_error-in-Err-perform.new.errors)
    c.in-Err-perform.ensures.err
    (sym c.report_error-in-Err-perform.ensures.status ∙ one) c.report_error-in-Err-perform.ensures.told

pub returns-in-Err-perform-clause-mistaken : goal.returns-in-Err-perform-clause-mistaken
returns-in-Err-perform-clause-mistaken g c =
    λ two.
    tells-mistake (request c.args.words.now) (action_of c.in-Ok.read.0) c.in-Ok.ensures.said (mode_of c.in-Ok.read.1) c.in-Ok.ensures.mode
    (version_of c.in-Ok.read.1) c.in-Ok.ensures.version (g.I.Input.remaining c.args.input.now) (g.I.Input.has_failed c.perform.new.input) _
    c.in-Err-perform.error
    (written g.E.Output.contents g.E.Output.has_failed c.args.errors.now c.report_error-in-Err-perform.new.errors)
    c.in-Err-perform.ensures.err
    (sym c.report_error-in-Err-perform.ensures.status ∙ two) c.report_error-in-Err-perform.ensures.told

pub returns-in-Err-perform-clause-end : goal.returns-in-Err-perform-clause-end
returns-in-Err-perform-clause-end g c =
    λ status.
    refused-at-end (g.I.Input.remaining c.perform.new.input) c.in-Err-perform.error c.in-Err-perform.ensures.err_end
    (subst (λ n. (n ≡ 0) ⊎ (n ≡ 1)) c.report_error-in-Err-perform.ensures.status status)

pub returns-in-Err-perform-clause-mistaken_end : goal.returns-in-Err-perform-clause-mistaken_end
returns-in-Err-perform-clause-mistaken_end g c =
    λ two.
    inr
    (mistaken-at-end (g.I.Input.remaining c.perform.new.input) c.in-Err-perform.error c.in-Err-perform.ensures.err_end
    (sym c.report_error-in-Err-perform.ensures.status ∙ two))

pub returns-in-Err-perform-clause-wrong_words : goal.returns-in-Err-perform-clause-wrong_words
returns-in-Err-perform-clause-wrong_words g c =
    λ wrong. absurd (wrong (says-command (request c.args.words.now) (action_of c.in-Ok.read.0) c.in-Ok.ensures.said))

pub returns-in-Err-perform-clause-untouched : goal.returns-in-Err-perform-clause-untouched
returns-in-Err-perform-clause-untouched g c =
    λ wrong. absurd (not-misworded (request c.args.words.now) (action_of c.in-Ok.read.0) c.in-Ok.ensures.said wrong)

pub returns-in-Err-perform-clause-beginning : goal.returns-in-Err-perform-clause-beginning
returns-in-Err-perform-clause-beginning g c =
    λ broken.
    begins (request c.args.words.now) (action_of c.in-Ok.read.0) c.in-Ok.ensures.said (mode_of c.in-Ok.read.1) c.in-Ok.ensures.mode
    (version_of c.in-Ok.read.1) c.in-Ok.ensures.version (g.I.Input.remaining c.args.input.now) (g.I.Input.has_failed c.perform.new.input) _
    c.in-Err-perform.error c.in-Err-perform.ensures.err broken
