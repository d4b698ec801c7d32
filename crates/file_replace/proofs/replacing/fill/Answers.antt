use Rattle.std.proofs.Common.{sym, subst}
use Rattle.file_replace.proofs.Asked.{IsOther, fills_compare, fills_rename, fills_write}
use Rattle.file_replace.specs.Replacing.{asked_by}
use Rattle.file_replace.proofs.replacing.fill.Goals as goal

pub returns-in_err-write : goal.returns-in_err-write
returns-in_err-write g c =
    fills_write (asked_by c.args.asked.now) c.args.beside.now _ _ _ _ _ _ c.write.ensures c.in_err-write.was c.from_residual.ensures.1
    (λ f is. subst IsOther (sym is) tt)

pub returns-in_err-compare : goal.returns-in_err-compare
returns-in_err-compare g c =
    fills_compare (asked_by c.args.asked.now) c.args.beside.now _ _ _ _ c.write.ensures c.in_ok-write.was _ _ _ _ c.compare.ensures
    c.in_err-compare.was c.from_residual-in_err-compare.ensures.1

pub returns-in_err-rename : goal.returns-in_err-rename
returns-in_err-rename g c =
    fills_rename (asked_by c.args.asked.now) c.args.beside.now _ _ _ _ c.write.ensures c.in_ok-write.was _ _ _ _ _ _ _ _ c.compare.ensures
    c.in_ok-compare.was c.rename.ensures c.in_err-rename.was c.from_residual-in_err-rename.ensures.1 (λ f is. subst IsOther (sym is) tt)
