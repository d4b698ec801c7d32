-- The array of tables at the path is changed.
use Rattle.std.proofs.Common.{rules, subst}
use Rattle.toml_edit_model.specs.Keys.{names}
use Rattle.toml_edit.specs.DocumentView.{tree_owned}
use Rattle.toml_edit_edit_laws.specs.Commands.{root_item}
use Rattle.toml_edit_paths.specs.Calls.{item_inside}
use Rattle.toml_edit_tree.specs.View.{value_view}
use Rattle.toml_edit_edits.specs.Along.{AreApartAlong}
use Rattle.toml_edit_edits.specs.Elements.{taken}
use Rattle.toml_edit_edits.proofs.CallLaws.{called-below}
use Rattle.toml_edit_edits.proofs.OutcomeLaws.{nothing-made}
use Rattle.toml_edit_edits.proofs.elements.take_table.Goals as goal

pub returns-in-Some-clause-makes : goal.returns-in-Some-clause-makes
returns-in-Some-clause-makes c =
    called-below _ _ (taken (value_view c.args.value.now)) (names c.args.path.now) (tree_owned c.args.document.now) (tree_owned c.change_at.new.self)
    (subst (AreApartAlong (names c.args.path.now)) c.as_item.ensures c.open_along.ensures) (λ item left r h. search rules) c.in-Some.done
    c.in-Some.ensures.changes

pub returns-in-None-clause-makes : goal.returns-in-None-clause-makes
returns-in-None-clause-makes c =
    let t = tree_owned c.args.document.now in
    nothing-made (taken (value_view c.args.value.now)) (names c.args.path.now) t (tree_owned c.change_at.new.self) (item_inside (names c.args.path.now) (root_item t))
    c.in-None.ensures.changes.0 c.in-None.ensures.changes.1
