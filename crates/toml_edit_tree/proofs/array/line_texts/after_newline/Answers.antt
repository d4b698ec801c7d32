-- The split is at the last newline.
use Rattle.toml_edit_tree.proofs.ArrayLineLaws.{after-is}
use Rattle.toml_edit_tree.proofs.array.line_texts.after_newline.Goals as goal

pub returns-in-Some : goal.returns-in-Some
returns-in-Some c =
    let all = after-is c.args.text.now c.rsplit_once.result c.rsplit_once.ensures.cases in
    rw c.in-Some.is at all

pub returns-in-None : goal.returns-in-None
returns-in-None c =
    let all = after-is c.args.text.now c.rsplit_once.result c.rsplit_once.ensures.cases in
    rw c.in-None.is at all
