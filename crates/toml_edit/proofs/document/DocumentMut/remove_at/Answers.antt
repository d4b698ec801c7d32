-- The document's tree is what `remove` makes of it.
use Rattle.std.proofs.Common.{refl}
use Rattle.std.proofs.lemmas.Result.{on_ok_weaker}
use Rattle.toml_edit_edit_laws.specs.Commands.{remove_at}
use Rattle.toml_edit.specs.DocumentView.{tree_owned}
use Rattle.toml_edit.proofs.AtLaws.{remove-root}
use Rattle.toml_edit.proofs.EditedLaws.{done-where-ok, removed-so}
use Rattle.toml_edit.proofs.document.DocumentMut.remove_at.Goals as goal
use Rattle.toml_edit_model.specs.Keys.{names}

pub returns-clause-changes : goal.returns-clause-changes
returns-clause-changes c =
    remove-root c.args.self.now c.as_table_mut.result.now c.remove.new.root c.as_table_mut.ensures.fields c.as_table_mut.ensures.slots
    (names c.args.path.now) c.remove.result c.remove.ensures.changes

pub returns-clause-edits : goal.returns-clause-edits
returns-clause-edits c =
    let path = names c.args.path.now in
    on_ok_weaker c.remove.result
    (λ is. removed-so c.others_stay.ensures.both c.path_edits.ensures.more c.args.self.now _ (refl, refl) c.path_edits.ensures.removes
    c.calls_still_fit.ensures.removes path is)
    (done-where-ok (remove_at path (tree_owned c.args.self.now)) (tree_owned c.args.self.now) _ c.remove.result
    (remove-root c.args.self.now c.as_table_mut.result.now c.remove.new.root c.as_table_mut.ensures.fields c.as_table_mut.ensures.slots path
    c.remove.result c.remove.ensures.changes))
