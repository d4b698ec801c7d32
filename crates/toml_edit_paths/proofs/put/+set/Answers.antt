-- Each exit of the way down to a value that is set.
use Rattle.std.proofs.Common.{◌≡◌, ◌<◌, refl, ap, subst, sym, ◌∙◌, true, rules, List, length, Some, None, Vec, Global}
use Rattle.std.proofs.Common.{option_map}
use Rattle.std.specs.Prelude.{Err}
use Rattle.toml_edit_model.specs.Lists.{items_in, slots_in}
use Rattle.toml_edit_model.specs.Text.{Text}
use Rattle.toml_edit_model.specs.Tree.{nothing, is_value_node}
use Rattle.toml_edit_edit_laws.specs.Commands.{change_element, child_changed, element_of}
use Rattle.toml_edit_slots.specs.Slots.{place}
use Rattle.toml_edit_tree.specs.declared.item.Item.{Item}
use Rattle.toml_edit_tree.specs.Indexed.{shown_slots}
use Rattle.toml_edit_tree.specs.View.{item_view}
use Rattle.toml_edit_tree.specs.Elements.{listed}
use Rattle.toml_edit_paths.specs.Changes.{Changes}
use Rattle.toml_edit_paths.specs.Elements.{place_named}
use Rattle.toml_edit_paths.specs.Items.{kind_of}
use Rattle.toml_edit_paths.specs.Setting.{set_by}
use Rattle.toml_edit_paths.specs.declared.fault.ChangeFault.TheVariants.{NoSuchPath}
use Rattle.toml_edit_paths.proofs.ChangeLaws.{renamed}
use Rattle.toml_edit_paths.proofs.ElementLaws.{element-changes, no-element}
use Rattle.toml_edit_paths.proofs.ElementViews.{items-held, items-seen}
use Rattle.toml_edit_paths.proofs.SetLaws.{new-slot, scalar-refuses, set-end, set-step}
use Rattle.toml_edit_paths.proofs.SlotLaws.{slot-changes, slot-none}
use Rattle.toml_edit_paths.proofs.StepLaws.{items-change, items-go, slots-change, slots-go}
use Rattle.toml_edit_paths.proofs.put.+set.Goals as goal

pub set_in_item-returns-in_default : goal.set_in_item-returns-in_default
set_in_item-returns-in_default t c =
    renamed _ _ _ _ _ _ _ (set-end c.args.headers (item_view c.args.value.now) c.args.path.now (item_view c.args.item.now)
    c.in_default.ensures.cases) refl refl c.set_here.ensures

pub set_in_item-returns-in-Some-as_slots_mut : goal.set_in_item-returns-in-Some-as_slots_mut
set_in_item-returns-in-Some-as_slots_mut t c =
    let n = item_view c.args.item.now in
    let v = item_view c.args.value.now in
    let k = c.in-Some.key.now in
    let rest = c.in-Some.rest.now in
    let es = c.in-Some-as_slots_mut.slots.now in
    let new = c.set_in_slots.new.slots in
    let filled : n ≡ nothing → ⊥ = search rules in
    let is : slots_in n ≡ Some (shown_slots es) = sym c.in-Some-as_slots_mut.ensures.slots in
    renamed _ _ _ _ _ _ _
    (slots-go true k (set_by c.has_headers-headers.result v rest) n (shown_slots es) is
    ∙ ap (λ h. child_changed true k (set_by h v rest) n) c.has_headers-headers.ensures ∙ set-step c.args.headers v k rest n filled
    ∙ ap (λ path. set_by c.args.headers v path n) (sym c.in-Some.ensures.cases.0))
    refl (sym (c.as_slots_mut.ensures.others new))
    (slots-change _ n (shown_slots es) (shown_slots new) _ is c.set_in_slots.ensures)

pub set_in_item-returns-in-Some-place_named : goal.set_in_item-returns-in-Some-place_named
set_in_item-returns-in-Some-place_named t c =
    let n = item_view c.args.item.now in
    let v = item_view c.args.value.now in
    let k = c.in-Some.key.now in
    let rest = c.in-Some.rest.now in
    let go = set_by c.has_headers-headers.result v rest in
    let kind = kind_of (is_value_node n) in
    let xs = c.in-Some-items_mut.items.now.items in
    let at = c.in-Some-place_named.at in
    let x = c.index_mut.result.now in
    let y = c.set_in_item.new.item in
    let filled : n ≡ nothing → ⊥ = search rules in
    let is : items_in n ≡ Some (listed xs) =
    sym (ap (option_map (λ (v : Vec Item Global). listed v.items)) c.in-Some-items_mut.ensures.items ∙ items-held c.args.item.now) in
    let named : Some at ≡ place_named kind k.name (listed xs) =
    c.in-Some-place_named.ensures.place ∙ ap (λ (zs : List Item). place_named (kind_of c.is_value-values.result) k.name (listed zs))
    c.deref.ensures.value
    ∙ ap (λ b. place_named (kind_of b) k.name (listed xs)) c.is_value-values.ensures in
    let within : at < length xs = subst (λ (zs : List Item). at < length zs) c.deref.ensures.value c.in-Some-place_named.ensures.within in
    let told = subst (λ (z : Item). Changes (go (item_view z)) (item_view z) (item_view y) c.set_in_item.result) c.index_mut.ensures.value
    c.set_in_item.ensures in
    renamed _ _ _ _ _ _ _
    (items-go true k go n (listed xs) is
    ∙ ap (λ h. child_changed true k (set_by h v rest) n) c.has_headers-headers.ensures ∙ set-step c.args.headers v k rest n filled
    ∙ ap (λ path. set_by c.args.headers v path n) (sym c.in-Some.ensures.cases.0))
    refl (sym (items-seen _ c.args.item.now))
    (items-change _ n (listed xs) _ _ is (element-changes kind k.name go xs at x y c.set_in_item.result named within told))

pub set_in_item-returns-in-None-place_named : goal.set_in_item-returns-in-None-place_named
set_in_item-returns-in-None-place_named t c =
    let n = item_view c.args.item.now in
    let v = item_view c.args.value.now in
    let k = c.in-Some.key.now in
    let rest = c.in-Some.rest.now in
    let go = set_by c.has_headers-headers.result v rest in
    let kind = kind_of (is_value_node n) in
    let xs = c.in-Some-items_mut.items.now.items in
    let filled : n ≡ nothing → ⊥ = search rules in
    let is : items_in n ≡ Some (listed xs) =
    sym (ap (option_map (λ (v : Vec Item Global). listed v.items)) c.in-Some-items_mut.ensures.items ∙ items-held c.args.item.now) in
    let named : None ≡ place_named kind k.name (listed xs) =
    c.in-None-place_named.ensures.place ∙ ap (λ (zs : List Item). place_named (kind_of c.is_value-values.result) k.name (listed zs))
    c.deref.ensures.value
    ∙ ap (λ b. place_named (kind_of b) k.name (listed xs)) c.is_value-values.ensures in
    renamed _ _ n _ _ _ (Err NoSuchPath)
    (items-go true k go n (listed xs) is
    ∙ ap (λ h. child_changed true k (set_by h v rest) n) c.has_headers-headers.ensures ∙ set-step c.args.headers v k rest n filled
    ∙ ap (λ path. set_by c.args.headers v path n) (sym c.in-Some.ensures.cases.0))
    refl (sym (items-seen c.in-Some-items_mut.items.now c.args.item.now))
    (items-change (change_element go (listed xs) (element_of kind k.name (listed xs))) n (listed xs) (listed xs) (Err NoSuchPath) is
    (ap (change_element go (listed xs)) (no-element (element_of kind k.name (listed xs)) named), refl))

pub set_in_item-returns-in-None : goal.set_in_item-returns-in-None
set_in_item-returns-in-None t c =
    let n = item_view c.args.item.now in
    let v = item_view c.args.value.now in
    let filled : n ≡ nothing → ⊥ = search rules in (
      ap (λ path. set_by c.args.headers v path n) c.in-Some.ensures.cases.0
          ∙ scalar-refuses c.args.headers v c.in-Some.key.now c.in-Some.rest.now n filled
          (sym c.in_default-as_slots_mut.ensures.slots) (sym
          (ap (option_map (λ (v : Vec Item Global). listed v.items)) c.in-None.ensures.items ∙ items-held c.args.item.now)),
      refl,
    )

pub set_in_slots-returns-in-Some : goal.set_in_slots-returns-in-Some
set_in_slots-returns-in-Some t c =
    let es = c.args.slots.now in
    slot-changes true c.args.key.now (set_by c.args.headers (item_view c.args.value.now) c.args.rest.now) es c.in-Some.at
    c.item_mut.result.now c.set_in_item.new.item
    c.set_in_item.result c.as_slice.ensures.apart (sym (c.in-Some.ensures.place ∙ ap (λ (x : Text). place x es) c.get.ensures.name))
    c.item_mut.ensures.item c.set_in_item.ensures

pub set_in_slots-returns-in_ok-push_new-in-None : goal.set_in_slots-returns-in_ok-push_new-in-None
set_in_slots-returns-in_ok-push_new-in-None t c =
    let es = c.args.slots.now in
    let k = c.args.key.now in
    let none : place k.name es ≡ None = sym (c.in-None.ensures.place ∙ ap (λ (x : Text). place x es) c.get.ensures.name) in
    new-slot c.args.headers k (item_view c.args.value.now) c.args.rest.now (shown_slots es) (shown_slots c.push_new.new.slots)
    (item_view c.wrap_below.new.value) (slot-none k.name es none)
    c.in_ok-wrap_below-in-None.ensures
    c.in_ok-push_new-in-None.ensures.made
