-- Each exit of the way down to the item that the closure is called on.
use Rattle.std.proofs.Common.{◌≡◌, ◌<◌, refl, ap, subst, rules, sym, ◌∙◌, List, length, Some, None, Vec, Global, option_map}
use Rattle.std.specs.Vec.{with_item}
use Rattle.toml_edit_model.specs.Lists.{is_item, items_in, only, slots_in}
use Rattle.toml_edit_model.specs.Slots.{lookup_slot}
use Rattle.toml_edit_model.specs.Text.{Text}
use Rattle.toml_edit_model.specs.Tree.{nothing, is_value_node}
use Rattle.toml_edit_model.specs.Keys.{names}
use Rattle.toml_edit_edit_laws.specs.Commands.{and_then, element_of, item_below, present, second}
use Rattle.toml_edit_slots.specs.Slots.{place}
use Rattle.toml_edit_tree.specs.Indexed.{shown_slots, with_slots}
use Rattle.toml_edit_tree.specs.View.{item_view}
use Rattle.toml_edit_tree.specs.declared.item.Item.{Item}
use Rattle.toml_edit_tree.specs.Elements.{listed}
use Rattle.toml_edit_paths.specs.Calls.{ChangesBelow}
use Rattle.toml_edit_paths.specs.Elements.{place_named}
use Rattle.toml_edit_paths.specs.Items.{kind_of, with_items}
use Rattle.toml_edit_paths.proofs.AlterLaws.{filled-only, found-at-end, found-in-items, found-in-slots, in-element, in-items, in-slot}
use Rattle.toml_edit_paths.proofs.AlterLaws.{in-slots, no-slot, renamed, replaced-at-end, takes}
use Rattle.toml_edit_paths.proofs.ElementLaws.{element-is, no-element}
use Rattle.toml_edit_paths.proofs.ElementViews.{items-held, items-seen}
use Rattle.toml_edit_paths.proofs.SlotLaws.{slot-none, slot-some}
use Rattle.toml_edit_paths.proofs.StepLaws.{items-kept, no-child}
use Rattle.toml_edit_paths.proofs.alter.+change.Goals as goal

pub change_in_item-returns-in_default : goal.change_in_item-returns-in_default
change_in_item-returns-in_default g t c =
    let ended : length c.args.path.now ≡ 0 = c.in_default.ensures.cases in
    record {
      item = c.args.item.now;
      left = c.change.new.arg2;
      found_it = found-at-end c.args.path.now (item_view c.args.item.now) ended;
      returned = search rules;
      put_back = replaced-at-end c.args.path.now (item_view c.change.new.arg2) (item_view c.args.item.now) ended;
      unchanged = λ same. same;
    }

pub change_in_item-returns-in-Some-as_slots_mut : goal.change_in_item-returns-in-Some-as_slots_mut
change_in_item-returns-in-Some-as_slots_mut g t c =
    let n = item_view c.args.item.now in
    let k = c.in-Some.key.now.name in
    let path = names c.in-Some.rest.now in
    let es = c.in-Some-as_slots_mut.slots.now in
    let new = c.change_in_slots.new.slots in
    let is : slots_in n ≡ Some (shown_slots es) = sym c.in-Some-as_slots_mut.ensures.slots in
    subst (λ p. ChangesBelow g.F.FnOnce c.args.change (names p) n (item_view (with_slots new c.args.item.now)) c.change_in_slots.result)
    (sym c.in-Some.ensures.cases.0)
    (renamed g.F.FnOnce c.args.change _ _ _ _ _ _ _ refl (sym (c.as_slots_mut.ensures.others new))
    (in-slots g.F.FnOnce c.args.change k path n (shown_slots es) (shown_slots new) _ is c.change_in_slots.ensures))

pub change_in_item-returns-in_default-items_mut : goal.change_in_item-returns-in_default-items_mut
change_in_item-returns-in_default-items_mut g t c =
    let n = item_view c.args.item.now in
    let k = c.in-Some.key.now.name in
    let path = names c.in-Some.rest.now in (
      ap (λ p. item_below (names p) n) c.in-Some.ensures.cases.0
          ∙ ap (and_then (item_below path)) (no-child k n (sym c.in_default-as_slots_mut.ensures.slots)
          (sym (ap (option_map (λ (v : Vec Item Global). listed v.items)) c.in_default-items_mut.ensures.items
          ∙ items-held c.args.item.now))),
      refl,
    )

pub change_in_item-returns-in-Some-place_named : goal.change_in_item-returns-in-Some-place_named
change_in_item-returns-in-Some-place_named g t c =
    let n = item_view c.args.item.now in
    let k = c.in-Some.key.now.name in
    let path = names c.in-Some.rest.now in
    let kind = kind_of (is_value_node n) in
    let held = c.in-Some-items_mut.items.now in
    let xs = held.items in
    let is : items_in n ≡ Some (listed xs) =
    sym (ap (option_map (λ (v : Vec Item Global). listed v.items)) c.in-Some-items_mut.ensures.items ∙ items-held c.args.item.now) in
    let named : Some c.in-Some-place_named.at ≡ place_named kind k (listed xs) =
    c.in-Some-place_named.ensures.place ∙ ap (λ (zs : List Item). place_named (kind_of c.is_value-values.result) k (listed zs))
    c.deref.ensures.value
    ∙ ap (λ b. place_named (kind_of b) k (listed xs)) c.is_value-values.ensures in
    let at = c.in-Some-place_named.at in
    let x = c.index_mut.result.now in
    let within : at < length xs = subst (λ (zs : List Item). at < length zs) c.deref.ensures.value c.in-Some-place_named.ensures.within in
    let y = c.change_in_item.new.item in
    let told = subst (λ (z : Item). ChangesBelow g.F.FnOnce c.args.change path (item_view z) (item_view y) c.change_in_item.result)
    c.index_mut.ensures.value c.change_in_item.ensures in
    subst (λ p. ChangesBelow g.F.FnOnce c.args.change (names p) n (item_view (with_items (with_item held at y) c.args.item.now))
    c.change_in_item.result) (sym c.in-Some.ensures.cases.0)
    (renamed g.F.FnOnce c.args.change _ _ _ _ _ _ _ refl (sym (items-seen (with_item held at y) c.args.item.now))
    (in-items g.F.FnOnce c.args.change k path n (listed xs) _ _ is
    (in-element g.F.FnOnce c.args.change kind k path xs at x y c.change_in_item.result named within told)))

pub change_in_item-returns-in-None : goal.change_in_item-returns-in-None
change_in_item-returns-in-None g t c =
    let n = item_view c.args.item.now in
    let k = c.in-Some.key.now.name in
    let path = names c.in-Some.rest.now in
    let kind = kind_of (is_value_node n) in
    let held = c.in-Some-items_mut.items.now in
    let xs = held.items in
    let is : items_in n ≡ Some (listed xs) =
    sym (ap (option_map (λ (v : Vec Item Global). listed v.items)) c.in-Some-items_mut.ensures.items ∙ items-held c.args.item.now) in
    let named : None ≡ place_named kind k (listed xs) =
    c.in-None.ensures.place ∙ ap (λ (zs : List Item). place_named (kind_of c.is_value-values.result) k (listed zs)) c.deref.ensures.value
    ∙ ap (λ b. place_named (kind_of b) k (listed xs)) c.is_value-values.ensures in (
      ap (λ p. item_below (names p) n) c.in-Some.ensures.cases.0 ∙ found-in-items k path n (listed xs) is
          ∙ ap (λ o. and_then (item_below path) (second o)) (no-element (element_of kind k (listed xs)) named),
      items-seen held c.args.item.now ∙ items-kept n (listed xs) is,
    )

pub change_in_slots-returns-in-Some : goal.change_in_slots-returns-in-Some
change_in_slots-returns-in-Some g t c =
    let es = c.args.slots.now in
    in-slot g.F.FnOnce c.args.change c.args.key.now.name (names c.args.rest.now) es c.in-Some.at c.item_mut.result.now
    c.change_in_slot.new.item c.change_in_slot.result
    c.as_slice.ensures.apart (sym (c.in-Some.ensures.place ∙ ap (λ (x : Text). place x es) c.get.ensures.name)) c.item_mut.ensures.item
    c.change_in_slot.ensures

pub change_in_slots-returns-in-None : goal.change_in_slots-returns-in-None
change_in_slots-returns-in-None g t c =
    let es = c.args.slots.now in
    let k = c.args.key.now.name in
    let none : place k es ≡ None = sym (c.in-None.ensures.place ∙ ap (λ (x : Text). place x es) c.get.ensures.name) in
    no-slot g.F.FnOnce c.args.change k (names c.args.rest.now) (shown_slots es) (slot-none k es none)

-- ---- the closure may be called at each call on the way

pub change_in_item-change_in_slots-requires : goal.change_in_item-change_in_slots-requires
change_in_item-change_in_slots-requires g t c =
    let n = item_view c.args.item.now in
    let k = c.in-Some.key.now.name in
    let path = names c.in-Some.rest.now in
    let es = c.in-Some-as_slots_mut.slots.now in
    let is : slots_in n ≡ Some (shown_slots es) = sym c.in-Some-as_slots_mut.ensures.slots in
    let may = takes g.F.FnOnce c.args.change (and_then (item_below path) (present (lookup_slot k (shown_slots es))))
    (item_below (names c.args.path.now) n)
    (ap (λ p. item_below (names p) n) c.in-Some.ensures.cases.0 ∙ found-in-slots k path n (shown_slots es) is) c.requires in
    λ κs lives. (search rules, (search rules, (search rules, may)))

pub change_in_item-change_in_item-requires : goal.change_in_item-change_in_item-requires
change_in_item-change_in_item-requires g t c =
    let n = item_view c.args.item.now in
    let k = c.in-Some.key.now.name in
    let path = names c.in-Some.rest.now in
    let kind = kind_of (is_value_node n) in
    let held = c.in-Some-items_mut.items.now in
    let xs = held.items in
    let is : items_in n ≡ Some (listed xs) =
    sym (ap (option_map (λ (v : Vec Item Global). listed v.items)) c.in-Some-items_mut.ensures.items ∙ items-held c.args.item.now) in
    let named : Some c.in-Some-place_named.at ≡ place_named kind k (listed xs) =
    c.in-Some-place_named.ensures.place ∙ ap (λ (zs : List Item). place_named (kind_of c.is_value-values.result) k (listed zs))
    c.deref.ensures.value
    ∙ ap (λ b. place_named (kind_of b) k (listed xs)) c.is_value-values.ensures in
    let at = c.in-Some-place_named.at in
    let x = c.index_mut.result.now in
    let within : at < length xs = subst (λ (zs : List Item). at < length zs) c.deref.ensures.value c.in-Some-place_named.ensures.within in
    let may = takes g.F.FnOnce c.args.change (item_below path (item_view x)) (item_below (names c.args.path.now) n)
    (ap (λ p. item_below (names p) n) c.in-Some.ensures.cases.0 ∙ found-in-items k path n (listed xs) is
    ∙ ap (λ o. and_then (item_below path) (second o)) (element-is kind k xs at x named within)
    ∙ ap (λ (z : Item). item_below path (item_view z)) (sym c.index_mut.ensures.value)) c.requires in
    λ κs lives. (search rules, (search rules, (search rules, may)))

pub change_in_slots-change_in_slot-requires : goal.change_in_slots-change_in_slot-requires
change_in_slots-change_in_slot-requires g t c =
    let es = c.args.slots.now in
    let k = c.args.key.now.name in
    let path = names c.args.rest.now in
    let x = c.item_mut.result.now in
    let s = slot-some k es c.in-Some.at x (sym (c.in-Some.ensures.place ∙ ap (λ (y : Text). place y es) c.get.ensures.name))
    c.item_mut.ensures.item in
    let may = takes g.F.FnOnce c.args.change (and_then (item_below path) (only is_item (item_view x)))
    (and_then (item_below path) (present (lookup_slot k (shown_slots es))))
    (ap (λ o. and_then (item_below path) (present o)) s.1) c.requires in
    λ κs lives. (search rules, (search rules, (search rules, may)))

pub change_in_slot-change_in_item-requires : goal.change_in_slot-change_in_item-requires
change_in_slot-change_in_item-requires g t c =
    let n = item_view c.args.item.now in
    let path = names c.args.rest.now in
    let filled : n ≡ nothing → ⊥ = search rules in
    let may = takes g.F.FnOnce c.args.change (item_below path n) (and_then (item_below path) (only is_item n))
    (ap (and_then (item_below path)) (filled-only n filled)) c.requires in
    λ κs lives. (search rules, (search rules, (search rules, may)))
