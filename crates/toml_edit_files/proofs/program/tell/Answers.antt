-- The messages are written, and then the line, or a beginning of the one that fails.
use Rattle.std.proofs.Common.{◌≡◌, ◌∙◌, Bool, false, true, sym}
use Rattle.toml_edit_files.proofs.OutcomeLaws.{is_false, is_true}
use Rattle.toml_edit_files.proofs.RunLaws.{adds-begun, adds-both}
use Rattle.toml_edit_files.proofs.program.tell.Goals as goal

pub returns-then-not-write : goal.returns-then-not-write
returns-then-not-write g c =
    adds-begun (g.E.Output.contents c.args.errors.now) (g.E.Output.contents c.write.new.output) (g.E.Output.has_failed c.write.new.output)
    c.args.notes.now c.args.line.now (is_false _ _ c.write.result c.if-not-write.true c.write.ensures.written)
    (is_false _ _ c.write.result c.if-not-write.true c.write.ensures.failed)

pub returns : goal.returns
returns g c =
    adds-both (g.E.Output.contents c.args.errors.now) (g.E.Output.contents c.write.new.output) (g.E.Output.contents c.write-2.new.output)
    (g.E.Output.has_failed c.write-2.new.output) c.args.notes.now c.args.line.now c.write-2.result
    (is_true _ _ c.write.result c.if-not-write.false c.write.ensures.written) c.write-2.ensures.written
    (λ is. is_false _ _ c.write-2.result is c.write-2.ensures.failed)
