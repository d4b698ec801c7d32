-- The split is at the last newline.
use Rattle.example_calls.proofs.LineLaws.{indent-is}
use Rattle.example_calls.proofs.adding.indent_of.Goals as goal

pub returns-in-Some : goal.returns-in-Some
returns-in-Some c =
    let all = indent-is c.args.before.now c.rsplit_once.result c.rsplit_once.ensures.cases in
    rw c.in-Some.is at all

pub returns-in-None : goal.returns-in-None
returns-in-None c =
    let all = indent-is c.args.before.now c.rsplit_once.result c.rsplit_once.ensures.cases in
    rw c.in-None.is at all
