-- Each exit of the way down to what is removed.
use Rattle.std.proofs.Common.{◌≡◌, ◌<◌, ◌∷◌, refl, ap, subst, sym, ◌∙◌, false, length, List, Some, None, Vec, Global, option_map}
use Rattle.std.specs.Vec.{with_item}
use Rattle.toml_edit_model.specs.Keys.{names, new_key}
use Rattle.toml_edit_model.specs.Lists.{items_in}
use Rattle.toml_edit_model.specs.Text.{Text}
use Rattle.toml_edit_model.specs.Tree.{is_value_node}
use Rattle.toml_edit_edit_laws.specs.Commands.{change_slot}
use Rattle.toml_edit_slots.specs.Slots.{place}
use Rattle.toml_edit_tree.specs.declared.item.Item.{Item}
use Rattle.toml_edit_tree.specs.Elements.{listed}
use Rattle.toml_edit_tree.specs.Indexed.{shown_slots}
use Rattle.toml_edit_tree.specs.View.{item_view}
use Rattle.toml_edit_paths.specs.Changes.{Changes}
use Rattle.toml_edit_paths.specs.Elements.{place_named}
use Rattle.toml_edit_paths.specs.Items.{kind_of}
use Rattle.toml_edit_paths.specs.Lines.{remove_line_below, slot_without_line}
use Rattle.toml_edit_paths.proofs.ChangeLaws.{renamed}
use Rattle.toml_edit_paths.proofs.ElementLaws.{element-changes}
use Rattle.toml_edit_paths.proofs.ElementViews.{items-held, items-seen}
use Rattle.toml_edit_paths.proofs.SlotLaws.{slot-changes, slot-none}
use Rattle.toml_edit_paths.proofs.StepLaws.{items-change, items-go}
use Rattle.toml_edit_paths.proofs.take_line.+remove_line.Goals as goal

pub remove_line_in_slots-returns-in-Some-find : goal.remove_line_in_slots-returns-in-Some-find
remove_line_in_slots-returns-in-Some-find t c =
    let es = c.args.slots.now in
    let k = c.args.key.now.name in
    let go = remove_line_below (c.in-Some.next.now.name ∷ names c.in-Some.rest.now) in
    renamed _ _ _ _ _ _ _ (ap (λ path. slot_without_line k (names path) (shown_slots es)) (sym c.in-Some.ensures.cases.0)) refl refl
    (slot-changes false (new_key k) go es c.in-Some-find.at c.item_mut.result.now c.remove_line_in_item.new.item c.remove_line_in_item.result
    c.as_slice.ensures.apart (sym (c.in-Some-find.ensures.place ∙ ap (λ (x : Text). place x es) c.get-2.ensures.name))
    c.item_mut.ensures.item c.remove_line_in_item.ensures)

pub remove_line_in_slots-returns-in-None : goal.remove_line_in_slots-returns-in-None
remove_line_in_slots-returns-in-None t c =
    let es = c.args.slots.now in
    let k = c.args.key.now.name in
    let go = remove_line_below (c.in-Some.next.now.name ∷ names c.in-Some.rest.now) in
    let none : place k es ≡ None = sym (c.in-None.ensures.place ∙ ap (λ (x : Text). place x es) c.get-2.ensures.name) in (
      ap (λ path. slot_without_line k (names path) (shown_slots es)) c.in-Some.ensures.cases.0
          ∙ ap (change_slot false (new_key k) go (shown_slots es)) (slot-none k es none),
      refl,
    )

pub remove_line_in_item-returns-in-Some-place_named : goal.remove_line_in_item-returns-in-Some-place_named
remove_line_in_item-returns-in-Some-place_named t c =
    let n = item_view c.args.item.now in
    let k = c.args.key.now.name in
    let go = remove_line_below (c.in-Some-split_first.next.now.name ∷ names c.in-Some-split_first.rest.now) in
    let kind = kind_of (is_value_node n) in
    let held = c.in-Some-items_mut.items.now in
    let xs = held.items in
    let is : items_in n ≡ Some (listed xs) =
    sym (ap (option_map (λ (v : Vec Item Global). listed v.items)) c.in-Some-items_mut.ensures.items ∙ items-held c.args.item.now) in
    let at = c.in-Some-place_named.at in
    let named : Some at ≡ place_named kind k (listed xs) =
    c.in-Some-place_named.ensures.place ∙ ap (λ (zs : List Item). place_named (kind_of c.is_value-values.result) k (listed zs))
    c.deref.ensures.value
    ∙ ap (λ b. place_named (kind_of b) k (listed xs)) c.is_value-values.ensures in
    let within : at < length xs = subst (λ (zs : List Item). at < length zs) c.deref.ensures.value c.in-Some-place_named.ensures.within in
    let x = c.index_mut.result.now in
    let y = c.remove_line_in_item.new.item in
    let told = subst (λ (z : Item). Changes (go (item_view z)) (item_view z) (item_view y) c.remove_line_in_item.result)
    c.index_mut.ensures.value c.remove_line_in_item.ensures in
    renamed _ _ _ _ _ _ _
    (items-go false (new_key k) go n (listed xs) is ∙ ap (λ path. remove_line_below (k ∷ names path) n) (sym c.in-Some-split_first.ensures.cases.0))
    refl (sym (items-seen (with_item held at y) c.args.item.now))
    (items-change _ n (listed xs) _ _ is (element-changes kind k go xs at x y c.remove_line_in_item.result named within told))
