-- The element that a number names.
use Rattle.std.proofs.Common.{◌≡◌, ap, sym, ◌∙◌, subst, true, false, Some, None, arith}
use Rattle.toml_edit_model.specs.Text.{Text}
use Rattle.toml_edit_edit_laws.specs.Commands.{number_of}
use Rattle.toml_edit_tree.specs.declared.item.Item.{Item}
use Rattle.toml_edit_tree.specs.View.{item_view}
use Rattle.toml_edit_paths.specs.Elements.{IsNumberOf}
use Rattle.toml_edit_paths.specs.Items.{kind_of}
use Rattle.toml_edit_paths.proofs.ElementLaws.{named-at, named-behind, none-named}
use Rattle.toml_edit_paths.proofs.element.place_named.Goals as goal

pub returns-in_err-at-clause-place : goal.returns-in_err-at-clause-place
returns-in_err-at-clause-place c =
    c.from_residual.ensures
    ∙ sym (none-named (kind_of c.args.values) c.args.key.now.name c.args.items.now
    (subst (λ (x : Text). IsNumberOf x None) c.get.ensures.name c.in_err-at.ensures) (omega arith))

pub returns-in_err-get-clause-place : goal.returns-in_err-get-clause-place
returns-in_err-get-clause-place c =
    let number = subst (λ (x : Text). number_of x ≡ Some c.in_ok-at.at) c.get.ensures.name c.in_ok-at.ensures in
    c.from_residual-in_err-get.ensures
    ∙ sym (named-behind (kind_of c.args.values) c.args.key.now.name c.args.items.now c.in_ok-at.at number c.in_err-get.ensures.lookup.3)

pub returns-then-is_of_kind-clause-place : goal.returns-then-is_of_kind-clause-place
returns-then-is_of_kind-clause-place c =
    let number = subst (λ (x : Text). number_of x ≡ Some c.in_ok-at.at) c.get.ensures.name c.in_ok-at.ensures in
    let x = c.in_ok-get.field-0.now in
    sym (named-at (kind_of c.args.values) c.args.key.now.name c.args.items.now c.in_ok-at.at x true number c.in_ok-get.ensures.lookup.3.0
    (ap (λ (y : Item). kind_of c.args.values (item_view y)) (sym (c.in_ok-get.ensures.lookup.3.1 x)) ∙ sym c.is_of_kind.ensures
    ∙ c.if-is_of_kind.true))

pub returns-else-is_of_kind-clause-place : goal.returns-else-is_of_kind-clause-place
returns-else-is_of_kind-clause-place c =
    let number = subst (λ (x : Text). number_of x ≡ Some c.in_ok-at.at) c.get.ensures.name c.in_ok-at.ensures in
    let x = c.in_ok-get.field-0.now in
    sym (named-at (kind_of c.args.values) c.args.key.now.name c.args.items.now c.in_ok-at.at x false number c.in_ok-get.ensures.lookup.3.0
    (ap (λ (y : Item). kind_of c.args.values (item_view y)) (sym (c.in_ok-get.ensures.lookup.3.1 x)) ∙ sym c.is_of_kind.ensures
    ∙ c.if-is_of_kind.false))
