-- The line says that memory ran out.
use Rattle.std.proofs.Common.{List, ℕ, subst}
use Rattle.toml_edit_files.specs.Runs.{Adds}
use Rattle.toml_edit_files.proofs.program.end_without_memory.Goals as goal

pub returns-clause-told : goal.returns-clause-told
returns-clause-told g c =
    let old = g.E.Output.contents c.args.errors.now in
    let new = g.E.Output.contents c.tell.new.errors in
    let failed = g.E.Output.has_failed c.tell.new.errors in
    subst (λ (line : List ℕ). Adds old new failed line) c.last_line.ensures c.tell.ensures
