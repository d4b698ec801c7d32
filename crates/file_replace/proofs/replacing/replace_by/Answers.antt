use Rattle.file_replace.proofs.Asked.{undoes}
use Rattle.file_replace.specs.Replacing.{asked_by}
use Rattle.file_replace.proofs.replacing.replace_by.Goals as goal

pub returns-in-Err : goal.returns-in-Err
returns-in-Err g c =
    undoes (asked_by c.args.asked.now) c.args.beside.now _ _ _ _ _ _ c.fill.ensures c.in-Err.is c.undo.ensures.removed c.undo.ensures.err
