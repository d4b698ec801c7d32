-- The document's tree is what the renaming of a key makes of it.
use Rattle.std.proofs.Common.{refl}
use Rattle.std.proofs.lemmas.Result.{IfOk-weaker}
use Rattle.toml_edit_model.specs.Keys.{names}
use Rattle.toml_edit_edit_laws.specs.KeyCalls.{rename_at}
use Rattle.toml_edit.specs.DocumentView.{tree_owned}
use Rattle.toml_edit.proofs.AtLaws.{rename-root}
use Rattle.toml_edit.proofs.EditedLaws.{done-where-renamed, renamed-so}
use Rattle.toml_edit.proofs.document.DocumentMut.rename_at.Goals as goal

pub returns-clause-renames : goal.returns-clause-renames
returns-clause-renames c =
    rename-root c.args.self.now c.as_table_mut.result.now c.rename.new.root c.as_table_mut.ensures.fields c.as_table_mut.ensures.slots
    (names c.args.path.now) c.args.name.now c.rename.result c.rename.ensures

pub returns-clause-edits : goal.returns-clause-edits
returns-clause-edits c =
    let path = names c.args.path.now in
    let u = c.args.name.now in
    IfOk-weaker c.rename.result _ _
    (λ told is same. renamed-so c.others_stay.ensures.both c.path_edits.ensures.more c.args.self.now _ (refl, refl) c.path_edits.ensures.renames
    path u (is same))
    (done-where-renamed (rename_at path u (tree_owned c.args.self.now)) (tree_owned c.args.self.now) _ c.rename.result
    (rename-root c.args.self.now c.as_table_mut.result.now c.rename.new.root c.as_table_mut.ensures.fields c.as_table_mut.ensures.slots path u
    c.rename.result c.rename.ensures))
