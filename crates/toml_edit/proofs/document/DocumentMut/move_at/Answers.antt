-- The document's tree is what the move of a key makes of it.
use Rattle.std.proofs.Common.{refl}
use Rattle.toml_edit_model.specs.Keys.{names}
use Rattle.toml_edit_edit_laws.specs.KeyCalls.{move_at}
use Rattle.toml_edit.specs.DocumentView.{tree_owned}
use Rattle.toml_edit.proofs.AtLaws.{move-root}
use Rattle.toml_edit.proofs.EditedLaws.{done-where-moved, moved-so}
use Rattle.toml_edit.proofs.document.DocumentMut.move_at.Goals as goal

pub returns-clause-moves : goal.returns-clause-moves
returns-clause-moves c =
    move-root c.args.self.now c.as_table_mut.result.now c.move_to.new.root c.as_table_mut.ensures.fields c.as_table_mut.ensures.slots
    (names c.args.path.now) c.args.at c.move_to.result c.move_to.ensures

pub returns-clause-edits : goal.returns-clause-edits
returns-clause-edits c =
    let path = names c.args.path.now in
    λ is.
    moved-so c.others_stay.ensures.both c.path_edits.ensures.more c.args.self.now _ (refl, refl) c.path_edits.ensures.moves path c.args.at
    (done-where-moved (move_at path c.args.at (tree_owned c.args.self.now)) (tree_owned c.args.self.now) _ c.move_to.result
    (move-root c.args.self.now c.as_table_mut.result.now c.move_to.new.root c.as_table_mut.ensures.fields c.as_table_mut.ensures.slots path
    c.args.at c.move_to.result c.move_to.ensures) is)
