-- Standard input is formatted, or a file, which may be refused.
use Rattle.std.proofs.Common.{◌∙◌, sym}
use Rattle.toml_edit_files.proofs.RunLaws.{formatted_file, formatted_input}
use Rattle.toml_edit_files.specs.Outcomes.{WasRead}
use Rattle.toml_edit_files.specs.Stops.{Reads}
use Rattle.toml_edit_files.proofs.StopLaws.{file_reads, leaves_if, tells_reads}
use Rattle.toml_edit_files.proofs.fmt.fmt_file.Goals as goal

pub returns-then-eq-clause-formats : goal.returns-then-eq-clause-formats
returns-then-eq-clause-formats g c =
    formatted_input c.args.reading c.args.command.now c.args.file.now c.told_of.result (g.F.Folder.history c.args.folder.now)
    (g.F.Folder.history c.done_of-done.new.folder) (g.I.Input.remaining c.args.input.now) c.done_of-done.result (sym c.eq.ensures ∙ c.if-eq.true)
    c.done_of-done.ensures.done c.done_of-done.ensures.quiet c.done_of-done.ensures.stops c.done_of-done.ensures.unmade c.told_of.ensures

pub returns-clause-formats : goal.returns-clause-formats
returns-clause-formats g c =
    formatted_file c.args.reading c.args.command.now c.args.file.now c.told_of_file.result (g.F.Folder.history c.args.folder.now)
    (g.F.Folder.history c.done_of-done.new.folder) (g.I.Input.remaining c.args.input.now) c.done_of-done.result (sym c.eq.ensures ∙ c.if-eq.false)
    c.done_of-done.ensures.done c.done_of-done.ensures.quiet c.done_of-done.ensures.stops c.done_of-done.ensures.unmade c.told_of_file.ensures

pub returns-then-eq-clause-rest : goal.returns-then-eq-clause-rest
returns-then-eq-clause-rest g c =
    leaves_if (Reads c.done_of-done.result) (WasRead c.told_of.result) c.args.file.now _ _
    (tells_reads c.done_of-done.result c.told_of.result c.told_of.ensures) c.done_of-done.ensures.rest

pub returns-clause-rest : goal.returns-clause-rest
returns-clause-rest g c =
    leaves_if (Reads c.done_of-done.result) (WasRead c.told_of_file.result) c.args.file.now _ _
    (file_reads c.done_of-done.result c.told_of_file.result c.told_of_file.ensures) c.done_of-done.ensures.rest
