-- The document's tree is what `set_with_headers` makes of it.
use Rattle.std.proofs.Common.{refl, sym, ap, ◌∙◌}
use Rattle.std.proofs.lemmas.Result.{on_ok_weaker}
use Rattle.toml_edit_edit_laws.specs.Headed.{set_at_with_headers}
use Rattle.toml_edit_tree.specs.View.{value_view}
use Rattle.toml_edit.specs.DocumentView.{tree_owned}
use Rattle.toml_edit.proofs.AtLaws.{headers-root}
use Rattle.toml_edit.proofs.EditedLaws.{done-where-ok, set-so}
use Rattle.toml_edit.proofs.HeadedLaws.{headers-not-made}
use Rattle.toml_edit.proofs.document.DocumentMut.set_at_with_headers.Goals as goal

pub returns-clause-changes : goal.returns-clause-changes
returns-clause-changes c =
    headers-root c.args.self.now c.as_table_mut.result.now c.set_with_headers.new.root c.as_table_mut.ensures.fields
    c.as_table_mut.ensures.slots c.args.path.now (value_view c.args.value) c.set_with_headers.result c.set_with_headers.ensures

pub returns-clause-edits : goal.returns-clause-edits
returns-clause-edits c =
    let path = c.args.path.now in
    let v = value_view c.args.value in
    let t = tree_owned c.args.self.now in
    let e = c.path_edits.ensures in
    let f = c.calls_still_fit.ensures in
    on_ok_weaker c.set_with_headers.result
    (λ is flat may. set-so c.others_stay.ensures.both e.more c.args.self.now _ (refl, refl) e.replaces e.adds e.adds_after_lines f.replaces
    f.adds f.adds_after_lines path v
    (sym (headers-not-made t v path may) ∙ is) flat may)
    (done-where-ok (set_at_with_headers path v t) t _ c.set_with_headers.result
    (headers-root c.args.self.now c.as_table_mut.result.now c.set_with_headers.new.root c.as_table_mut.ensures.fields
    c.as_table_mut.ensures.slots path v c.set_with_headers.result c.set_with_headers.ensures))

pub returns-clause-adds : goal.returns-clause-adds
returns-clause-adds c =
    let path = c.args.path.now in
    let v = value_view c.args.value in
    let t = tree_owned c.args.self.now in
    on_ok_weaker c.set_with_headers.result
    (λ is front w k j more same made steady plain named new. c.path_edits.ensures.adds_table _ t _ front w k j more v made steady plain named
    new (ap (λ q. set_at_with_headers q v t) (sym same) ∙ is))
    (done-where-ok (set_at_with_headers path v t) t _ c.set_with_headers.result
    (headers-root c.args.self.now c.as_table_mut.result.now c.set_with_headers.new.root c.as_table_mut.ensures.fields
    c.as_table_mut.ensures.slots path v c.set_with_headers.result c.set_with_headers.ensures))
