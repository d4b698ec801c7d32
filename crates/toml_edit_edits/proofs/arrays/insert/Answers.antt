-- The last key names the place.
use Rattle.std.proofs.Common.{Some, sym, subst}
use Rattle.toml_edit_model.specs.Keys.{names}
use Rattle.toml_edit_tree.specs.View.{value_view}
use Rattle.toml_edit.specs.DocumentView.{tree_owned}
use Rattle.toml_edit_edits.specs.Effects.{inserted_before}
use Rattle.toml_edit_edits.specs.Elements.{inserted, on_kind}
use Rattle.toml_edit_edits.specs.Outcomes.{Makes}
use Rattle.toml_edit_edits.proofs.OutcomeLaws.{at-end}
use Rattle.toml_edit_edits.proofs.arrays.insert.Goals as goal

pub returns-in-Some-clause-makes : goal.returns-in-Some-clause-makes
returns-in-Some-clause-makes c =
    let t = tree_owned c.args.document.now in
    let v = value_view c.args.value.now in
    subst (λ m. Makes m t (tree_owned c.insert_before.new.document) c.insert_before.result)
    (sym (at-end (λ above k. on_kind (inserted (Some k.name) v) (inserted_before above k.name v t) (names above) t) c.args.path.now
    c.in-Some.above.now c.in-Some.last.now c.in-Some.ensures.cases.0))
    c.insert_before.ensures.makes
