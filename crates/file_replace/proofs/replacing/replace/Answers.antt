use Rattle.std.proofs.Common.{string_bytes, sym, subst}
use Rattle.file_replace.proofs.Asked.{IsOther, replaces_end, replaces_none}
use Rattle.file_replace.specs.Replacing.{asked_by}
use Rattle.file_replace.proofs.replacing.replace.Goals as goal

pub returns-in_err-beside : goal.returns-in_err-beside
returns-in_err-beside g c =
    replaces_none (asked_by c.args.asked.now) _ _ _ _ _ c.check.ensures c.in_ok-check.was c.clear.ensures string_bytes _ _ c.make.ensures _ _ _ c.in_err-beside.was
    c.from_residual-in_err-beside.ensures.1 (λ f is. subst IsOther (sym is) tt)

pub returns : goal.returns
returns g c =
    replaces_end (asked_by c.args.asked.now) _ _ _ _ _ c.check.ensures c.in_ok-check.was c.clear.ensures string_bytes _ _ c.make.ensures _ _ _ _ c.in_ok-beside.was
    c.as_str.ensures.value c.replace_by.ensures
