-- The document's tree is what `set` makes of it.
use Rattle.std.proofs.Common.{refl}
use Rattle.std.proofs.lemmas.Result.{on_ok_weaker}
use Rattle.toml_edit_edit_laws.specs.Commands.{set_at}
use Rattle.toml_edit_tree.specs.View.{value_view}
use Rattle.toml_edit.specs.DocumentView.{tree_owned}
use Rattle.toml_edit.proofs.AtLaws.{set-root}
use Rattle.toml_edit.proofs.EditedLaws.{done-where-ok, set-so}
use Rattle.toml_edit.proofs.document.DocumentMut.set_at.Goals as goal

pub returns-clause-changes : goal.returns-clause-changes
returns-clause-changes c =
    set-root c.args.self.now c.as_table_mut.result.now c.set.new.root c.as_table_mut.ensures.fields c.as_table_mut.ensures.slots
    c.args.path.now
    (value_view c.args.value) c.set.result c.set.ensures

pub returns-clause-edits : goal.returns-clause-edits
returns-clause-edits c =
    let path = c.args.path.now in
    let v = value_view c.args.value in
    let e = c.path_edits.ensures in
    let f = c.calls_still_fit.ensures in
    on_ok_weaker c.set.result
    (λ is flat may. set-so c.others_stay.ensures.both e.more c.args.self.now _ (refl, refl) e.replaces e.adds e.adds_after_lines f.replaces
    f.adds f.adds_after_lines path v is flat may)
    (done-where-ok (set_at path v (tree_owned c.args.self.now)) (tree_owned c.args.self.now) _ c.set.result
    (set-root c.args.self.now c.as_table_mut.result.now c.set.new.root c.as_table_mut.ensures.fields c.as_table_mut.ensures.slots path v
    c.set.result c.set.ensures))
