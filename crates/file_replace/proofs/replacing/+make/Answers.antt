use Rattle.std.proofs.Common.{string_bytes}
use Rattle.file_replace.proofs.Asked.{makes_more, makes_none}
use Rattle.file_replace.specs.Replacing.{asked_by}
use Rattle.file_replace.proofs.replacing.+make.Goals as goal

pub returns-then-eq : goal.returns-then-eq
returns-then-eq g t c =
    makes_more (asked_by c.args.asked.now) c.args.last.now _ _ _ _ _ _ _ string_bytes _
    (c.as_str.ensures.value, c.in_ok-beside.ensures.other, c.in_ok-beside.ensures.another, c.beside.ensures.history, c.make.ensures, c.in-Err.is)
    _ c.as_str-then-eq.ensures.value _ c.make-then-eq.ensures

pub returns : goal.returns
returns g t c =
    makes_none (asked_by c.args.asked.now) c.args.last.now _ _ _ _ _ _ _
    (c.as_str.ensures.value, c.in_ok-beside.ensures.other, c.in_ok-beside.ensures.another, c.beside.ensures.history, c.make.ensures, c.in-Err.is)
