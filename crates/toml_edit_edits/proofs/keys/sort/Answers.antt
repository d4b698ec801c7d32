-- The root, or the item at the path, is sorted.
use Rattle.std.proofs.Common.{◌≡◌, ◌∙◌, List, [], length, ap, rules, sym, subst}
use Rattle.toml_edit_model.specs.Keys.{names}
use Rattle.toml_edit_model.specs.Tree.{Key}
use Rattle.toml_edit.specs.DocumentView.{tree_owned}
use Rattle.toml_edit.specs.Roots.{tree_under}
use Rattle.toml_edit_tree.specs.declared.item.Item.TheVariants as items
use Rattle.toml_edit_edits.specs.Along.{AreApartAlong}
use Rattle.toml_edit_edits.specs.Effects.{in_order, sorted}
use Rattle.toml_edit_edits.specs.Outcomes.{Makes}
use Rattle.toml_edit_edit_laws.specs.Commands.{item_at}
use Rattle.toml_edit_edits.proofs.CallLaws.{called-at, inside-root, no-keys}
use Rattle.toml_edit_edits.proofs.OutcomeLaws.{nothing-made}
use Rattle.toml_edit_edits.proofs.RootLaws.{root-made}
use Rattle.toml_edit_edits.proofs.keys.sort.Goals as goal

pub returns-then-is_empty-clause-makes : goal.returns-then-is_empty-clause-makes
returns-then-is_empty-clause-makes c =
    let zero : length c.args.path.now ≡ 0 = search rules in
    let empty : c.args.path.now ≡ [] = no-keys c.args.path.now zero in
    subst (λ (p : List Key). Makes (sorted (names p) (tree_owned c.args.document.now)) (tree_owned c.args.document.now)
    (tree_under (items.Table c.sort_root.new.table) c.args.document.now.trailing)
    c.sort_root.result) (sym empty)
    (root-made c.args.document.now c.as_table_mut.result.now c.sort_root.new.table in_order
    c.sort_root.result c.as_table_mut.ensures.fields c.as_table_mut.ensures.slots c.sort_root.ensures.fields c.sort_root.ensures.makes)

pub returns-in-Some-clause-makes : goal.returns-in-Some-clause-makes
returns-in-Some-clause-makes c =
    let t = tree_owned c.args.document.now in
    let some : length c.args.path.now ≡ 0 → ⊥ = search rules in
    let filled : c.args.path.now ≡ [] → ⊥ = λ e. some (ap length e) in
    called-at _ _ in_order (names c.args.path.now) t (tree_owned c.change_at.new.self)
    (subst (AreApartAlong (names c.args.path.now)) c.as_item.ensures c.open_along.ensures) (λ item left r h. search rules)
    (inside-root c.args.path.now t filled) c.in-Some.done c.in-Some.ensures.changes

pub returns-in-None-clause-makes : goal.returns-in-None-clause-makes
returns-in-None-clause-makes c =
    let t = tree_owned c.args.document.now in
    let some : length c.args.path.now ≡ 0 → ⊥ = search rules in
    let filled : c.args.path.now ≡ [] → ⊥ = λ e. some (ap length e) in
    nothing-made in_order (names c.args.path.now) t (tree_owned c.change_at.new.self)
    (item_at (names c.args.path.now) t) (sym (inside-root c.args.path.now t filled) ∙ c.in-None.ensures.changes.0) c.in-None.ensures.changes.1
