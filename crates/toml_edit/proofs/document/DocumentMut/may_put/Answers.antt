-- A value is at the path, or its last key is new in a table that a line can be added to.
use Rattle.std.proofs.Common.{ap, ◌∙◌}
use Rattle.toml_edit_model.specs.Keys.{names}
use Rattle.toml_edit.specs.DocumentView.{tree_owned}
use Rattle.toml_edit.specs.Edited.{takes_key}
use Rattle.toml_edit.proofs.PutLaws.{new-may, there-may}
use Rattle.toml_edit.proofs.document.DocumentMut.may_put.Goals as goal

pub returns-in-Some : goal.returns-in-Some
returns-in-Some c = there-may (tree_owned c.args.self.now) c.args.path.now c.in-Some.is_plain c.in-Some.ensures

pub returns-in-Some-split_last : goal.returns-in-Some-split_last
returns-in-Some-split_last c =
    let above = c.in-Some-split_last.above.now in
    let key = c.in-Some-split_last.key.now in
    new-may (tree_owned c.args.self.now) above key c.args.path.now c.takes_key.result c.in-Some-split_last.ensures.cases.0 c.in-None.ensures
    c.takes_key.ensures.spelled
    (c.takes_key.ensures.takes ∙ ap (takes_key key.name (names above)) c.as_item.ensures)
