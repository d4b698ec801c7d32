-- What stops the action on the document that was read stops the command.
use Rattle.std.proofs.lemmas.Result.{IfErr-weaker}
use Rattle.toml_edit_command.specs.Run.{written}
use Rattle.toml_edit_command.specs.Steps.{StopsActing, StopsDoing, action_of}
use Rattle.toml_edit_command.specs.Written.{held}
use Rattle.toml_edit_parser.specs.Options.{mode_of, version_of}
use Rattle.toml_edit_command.proofs.Ends.{done-at-end, stops-at-end, stops-doing}
use Rattle.toml_edit_command.proofs.act.perform.Goals as goal

pub returns-in-Ok-clause-err : goal.returns-in-Ok-clause-err
returns-in-Ok-clause-err g c =
    let s = written g.O.Output.contents g.O.Output.has_failed c.args.output.now c.act-done.new.output in
    IfErr-weaker c.act-done.result (StopsActing (action_of c.args.command) (held c.in-Ok.document) s)
    (StopsDoing (mode_of c.args.options) (version_of c.args.options) (action_of c.args.command) (g.I.Input.remaining c.args.input.now)
    (g.I.Input.has_failed c.read_document.new.input) s)
    (stops-doing (mode_of c.args.options) (version_of c.args.options) (action_of c.args.command) (held c.in-Ok.document)
    c.in-Ok.ensures.mode
    (g.I.Input.remaining c.args.input.now) c.in-Ok.ensures.read (g.I.Input.has_failed c.read_document.new.input) c.in-Ok.ensures.ok s)
    c.act-done.ensures.err

pub returns-in-Ok-clause-end : goal.returns-in-Ok-clause-end
returns-in-Ok-clause-end g c = done-at-end (g.I.Input.remaining c.read_document.new.input) c.act-done.result c.in-Ok.ensures.end

pub returns-in-Ok-clause-err_end : goal.returns-in-Ok-clause-err_end
returns-in-Ok-clause-err_end g c = stops-at-end (g.I.Input.remaining c.read_document.new.input) c.act-done.result c.in-Ok.ensures.end
