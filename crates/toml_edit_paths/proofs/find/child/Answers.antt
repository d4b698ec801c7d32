-- What a segment leads to.
use Rattle.std.proofs.Common.{◌≡◌, sym, ap, ◌∙◌, Some, None}
use Rattle.std.specs.Prelude.{option_map}
use Rattle.toml_edit_model.specs.Slots.{lookup_slot}
use Rattle.toml_edit_model.specs.Text.{Text}
use Rattle.toml_edit_model.specs.Tree.{is_value_node}
use Rattle.toml_edit_edit_laws.specs.Commands.{element_of, present, second}
use Rattle.toml_edit_tree.specs.Indexed.{shown_slots}
use Rattle.toml_edit_tree.specs.View.{item_view}
use Rattle.toml_edit_tree.specs.declared.item.Item.{Item}
use Rattle.toml_edit_tree.specs.Elements.{listed}
use Rattle.toml_edit_paths.specs.Elements.{place_named}
use Rattle.toml_edit_paths.specs.Items.{kind_of}
use Rattle.toml_edit_paths.proofs.ElementLaws.{element-is, no-element}
use Rattle.toml_edit_paths.proofs.StepLaws.{items-child, no-child, slots-child}
use Rattle.toml_edit_paths.proofs.find.child.Goals as goal

pub returns-in-Some : goal.returns-in-Some
returns-in-Some c =
    let es = c.in-Some.slots.now in
    let k = c.args.key.now.name in
    c.filled_item.ensures ∙ ap (λ (x : Text). present (lookup_slot x (shown_slots es))) c.get.ensures.name
    ∙ sym (slots-child k (item_view c.args.item.now) (shown_slots es) (sym c.in-Some.ensures))

pub returns-in_err-items : goal.returns-in_err-items
returns-in_err-items c =
    ap (option_map (λ x. item_view x.now)) c.from_residual.ensures
    ∙ sym (no-child c.args.key.now.name (item_view c.args.item.now) (sym c.in_default.ensures) (sym c.in_err-items.ensures))

pub returns-in_err-at : goal.returns-in_err-at
returns-in_err-at c =
    let n = item_view c.args.item.now in
    let k = c.args.key.now.name in
    let kind = kind_of (is_value_node n) in
    let ns = listed c.in_ok-items.items.now in
    let named : None ≡ place_named kind k ns = c.in_err-at.ensures.place ∙ ap (λ b. place_named (kind_of b) k ns) c.is_value.ensures in
    ap (option_map (λ x. item_view x.now)) c.from_residual-in_err-at.ensures
    ∙ sym (items-child k n ns (sym c.in_ok-items.ensures) ∙ ap second (no-element (element_of kind k ns) named))

pub returns : goal.returns
returns c =
    let n = item_view c.args.item.now in
    let k = c.args.key.now.name in
    let kind = kind_of (is_value_node n) in
    let xs = c.in_ok-items.items.now in
    let at = c.in_ok-at.at in
    let named : Some at ≡ place_named kind k (listed xs) = c.in_ok-at.ensures.place
    ∙ ap (λ b. place_named (kind_of b) k (listed xs)) c.is_value.ensures in
    ap (λ (x : Item). Some (item_view x)) c.index-items-at.is
    ∙ sym (items-child k n (listed xs) (sym c.in_ok-items.ensures)
    ∙ ap second (element-is kind k xs at c.index-items-at.result named c.in_ok-at.ensures.within))
