-- A value is there, so it may be put.
use Rattle.std.proofs.lemmas.Result.{on_ok_weaker}
use Rattle.toml_edit.specs.DocumentView.{tree_owned}
use Rattle.toml_edit.proofs.PutLaws.{there-may}
use Rattle.toml_edit.proofs.document.DocumentMut.replace_at.Goals as goal

pub returns-in-Some-true-clause-edits : goal.returns-in-Some-true-clause-edits
returns-in-Some-true-clause-edits c =
    let there = c.in-Some-true in
    on_ok_weaker c.set_at.result
    (λ edits flat. edits flat ((there-may (tree_owned c.args.self.now) c.args.path.now there.field-0 there.ensures).0 there.field-0-test))
    c.set_at.ensures.edits
