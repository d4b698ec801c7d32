-- Each exit of the way down to what is removed.
use Rattle.std.proofs.Common.{◌≡◌, ◌∷◌, refl, ap, subst, sym, ◌∙◌, false, List, Some, None, Vec, Global, option_map}
use Rattle.std.specs.Prelude.{Err}
use Rattle.toml_edit_model.specs.Lists.{items_in, slots_in}
use Rattle.toml_edit_model.specs.Slots.{lookup_slot}
use Rattle.toml_edit_model.specs.Text.{Text}
use Rattle.toml_edit_model.specs.Tree.{is_value_node}
use Rattle.toml_edit_model.specs.Keys.{names, new_key}
use Rattle.toml_edit_edit_laws.specs.Commands.{change_slot, done, drop_slot, element_of, present, remove_below}
use Rattle.toml_edit_slots.specs.Slots.{place}
use Rattle.toml_edit_tree.specs.declared.item.Item.{Item}
use Rattle.toml_edit_tree.specs.Indexed.{shown_slots}
use Rattle.toml_edit_tree.specs.View.{item_view}
use Rattle.toml_edit_tree.specs.Elements.{listed}
use Rattle.toml_edit_paths.specs.Changes.{Changes, removed_element, removed_slot}
use Rattle.toml_edit_paths.specs.Elements.{place_named}
use Rattle.toml_edit_paths.specs.Items.{kind_of}
use Rattle.toml_edit_paths.specs.declared.fault.ChangeFault.TheVariants.{NoSuchPath}
use Rattle.toml_edit_paths.proofs.ChangeLaws.{renamed}
use Rattle.toml_edit_paths.proofs.ElementLaws.{element-changes, element-dropped, no-element}
use Rattle.toml_edit_paths.proofs.ElementViews.{items-held, items-seen}
use Rattle.toml_edit_paths.proofs.SlotLaws.{slot-changes, slot-none}
use Rattle.toml_edit_paths.proofs.StepLaws.{items-change, items-removed, last-element, last-slot, no-removed, none-removed, slots-change}
use Rattle.toml_edit_paths.proofs.StepLaws.{slots-removed}
use Rattle.toml_edit_paths.proofs.take.+remove.Goals as goal

pub remove_in_item-returns-in-Some-clause-changes : goal.remove_in_item-returns-in-Some-clause-changes
remove_in_item-returns-in-Some-clause-changes t c =
    let n = item_view c.args.item.now in
    let es = c.in-Some.slots.now in
    let new = c.remove_in_slots.new.slots in
    let is : slots_in n ≡ Some (shown_slots es) = sym c.in-Some.ensures.slots in
    renamed _ _ _ _ _ _ _ (slots-removed c.args.key.now.name (names c.args.rest.now) n (shown_slots es) is) refl
    (sym (c.as_slots_mut.ensures.others new))
    (slots-change _ n (shown_slots es) (shown_slots new) _ is c.remove_in_slots.ensures.changes)

pub remove_in_item-returns-in-Some-place_named-clause-changes : goal.remove_in_item-returns-in-Some-place_named-clause-changes
remove_in_item-returns-in-Some-place_named-clause-changes t c =
    let n = item_view c.args.item.now in
    let k = c.args.key.now.name in
    let kind = kind_of (is_value_node n) in
    let xs = c.in-Some-items_mut.items.now.items in
    let new = c.remove_in_element.new.items in
    let is : items_in n ≡ Some (listed xs) =
    sym (ap (option_map (λ (v : Vec Item Global). listed v.items)) c.in-Some-items_mut.ensures.items ∙ items-held c.args.item.now) in
    let named : Some c.in-Some-place_named.at ≡ place_named kind k (listed xs) =
    c.in-Some-place_named.ensures.place ∙ ap (λ (zs : List Item). place_named (kind_of c.is_value-values.result) k (listed zs))
    c.deref.ensures.value
    ∙ ap (λ b. place_named (kind_of b) k (listed xs)) c.is_value-values.ensures in
    renamed _ _ _ _ _ _ _ (items-removed k (names c.args.rest.now) n (listed xs) is) refl (sym (items-seen new c.args.item.now))
    (items-change _ n (listed xs) (listed new.items) _ is (c.remove_in_element.ensures.changes kind k named))

pub remove_in_item-returns-in-None-place_named-clause-changes : goal.remove_in_item-returns-in-None-place_named-clause-changes
remove_in_item-returns-in-None-place_named-clause-changes t c =
    let n = item_view c.args.item.now in
    let k = c.args.key.now.name in
    let path = names c.args.rest.now in
    let kind = kind_of (is_value_node n) in
    let held = c.in-Some-items_mut.items.now in
    let ns = listed held.items in
    let is : items_in n ≡ Some ns =
    sym (ap (option_map (λ (v : Vec Item Global). listed v.items)) c.in-Some-items_mut.ensures.items ∙ items-held c.args.item.now) in
    let named : None ≡ place_named kind k ns =
    c.in-None-place_named.ensures.place ∙ ap (λ (zs : List Item). place_named (kind_of c.is_value-values.result) k (listed zs))
    c.deref.ensures.value
    ∙ ap (λ b. place_named (kind_of b) k ns) c.is_value-values.ensures in
    renamed _ _ n _ _ _ (Err NoSuchPath) (items-removed k path n ns is) refl (sym (items-seen held c.args.item.now))
    (items-change (removed_element kind k path ns) n ns ns (Err NoSuchPath) is
    (none-removed kind k path ns (no-element (element_of kind k ns) named), refl))

pub remove_in_item-returns-in-None-clause-changes : goal.remove_in_item-returns-in-None-clause-changes
remove_in_item-returns-in-None-clause-changes t c = (
  no-removed c.args.key.now.name (names c.args.rest.now) (item_view c.args.item.now) (sym c.in_default.ensures.slots)
      (sym (ap (option_map (λ (v : Vec Item Global). listed v.items)) c.in-None.ensures.items ∙ items-held c.args.item.now)),
  refl,
)

pub remove_in_element-returns-in-None-clause-changes : goal.remove_in_element-returns-in-None-clause-changes
remove_in_element-returns-in-None-clause-changes t c =
    λ is k named.
    let xs = c.args.items.now.items in
    last-element is k c.args.rest.now (listed xs) c.in-None.ensures.cases
    ∙ element-dropped is k xs c.args.at c.remove.result named c.requires
    ∙ ap (λ (ys : List Item). done (listed ys)) (sym c.remove.ensures.items)

pub remove_in_element-returns-in-Some-clause-changes : goal.remove_in_element-returns-in-Some-clause-changes
remove_in_element-returns-in-Some-clause-changes t c =
    λ is k named.
    let xs = c.args.items.now.items in
    let x = c.index_mut.result.now in
    let y = c.remove_in_item.new.item in
    let go = remove_below (c.in-Some.key.now.name ∷ names c.in-Some.rest.now) in
    let told = subst (λ (z : Item). Changes (go (item_view z)) (item_view z) (item_view y) c.remove_in_item.result)
    c.index_mut.ensures.value c.remove_in_item.ensures.changes in
    renamed _ _ _ _ _ _ _ (ap (λ path. removed_element is k (names path) (listed xs)) (sym c.in-Some.ensures.cases.0)) refl refl
    (element-changes is k go xs c.args.at x y c.remove_in_item.result named c.requires told)

pub remove_in_slots-returns-in_default-clause-changes : goal.remove_in_slots-returns-in_default-clause-changes
remove_in_slots-returns-in_default-clause-changes t c =
    let ss = shown_slots c.args.slots.now in
    let told =
    subst (λ (x : Text). Changes (drop_slot x ss (present (lookup_slot x ss))) ss (shown_slots c.remove_slot.new.slots)
    c.remove_slot.result) c.get.ensures.name c.remove_slot.ensures.changes in
    renamed _ _ _ _ _ _ _ (sym (last-slot c.args.key.now.name c.args.rest.now ss c.in_default.ensures.cases)) refl refl told

pub remove_in_slots-returns-in-Some-find-clause-changes : goal.remove_in_slots-returns-in-Some-find-clause-changes
remove_in_slots-returns-in-Some-find-clause-changes t c =
    let es = c.args.slots.now in
    let k = c.args.key.now.name in
    let go = remove_below (c.in-Some.next.now.name ∷ names c.in-Some.rest.now) in
    renamed _ _ _ _ _ _ _ (ap (λ path. removed_slot k (names path) (shown_slots es)) (sym c.in-Some.ensures.cases.0)) refl refl
    (slot-changes false (new_key k) go es c.in-Some-find.at c.item_mut.result.now c.remove_in_item.new.item c.remove_in_item.result
    c.as_slice.ensures.apart (sym (c.in-Some-find.ensures.place ∙ ap (λ (x : Text). place x es) c.get-2.ensures.name))
    c.item_mut.ensures.item c.remove_in_item.ensures.changes)

pub remove_in_slots-returns-in-None-clause-changes : goal.remove_in_slots-returns-in-None-clause-changes
remove_in_slots-returns-in-None-clause-changes t c =
    let es = c.args.slots.now in
    let k = c.args.key.now.name in
    let go = remove_below (c.in-Some.next.now.name ∷ names c.in-Some.rest.now) in
    let none : place k es ≡ None = sym (c.in-None.ensures.place ∙ ap (λ (x : Text). place x es) c.get-2.ensures.name) in (
      ap (λ path. removed_slot k (names path) (shown_slots es)) c.in-Some.ensures.cases.0
          ∙ ap (change_slot false (new_key k) go (shown_slots es)) (slot-none k es none),
      refl,
    )
