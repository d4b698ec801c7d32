-- Each place made a value.
use denote.Param.Weighed.{most}
use Rattle.std.proofs.Common.{◌≡◌, ◌<◌, ◌≤◌, ◌+◌, length, map, get_or, arith, sym, ap, subst, ◌∙◌}
use Rattle.toml_edit_model.specs.Conversions.{made_value}
use Rattle.toml_edit_slots.specs.Slots.{on_item}
use Rattle.toml_edit_tree.specs.Containers.{tree_slots}
use Rattle.toml_edit_model.specs.Lists.{items_from}
use Rattle.toml_edit_tree.specs.Converting.{in_new_form}
use Rattle.toml_edit_tree.specs.declared.item.Item.{size-Item}
use Rattle.toml_edit_tree.specs.View.{item_view}
use Rattle.toml_edit_tree.proofs.ConvertLaws.{each-made, each-slot-made, made-inside, made_slot}
use Rattle.toml_edit_tree.proofs.DespanLaws.{deepest, deepest_item, item_depth, no_slot, slot_depth}
use Rattle.toml_edit_tree.proofs.InPlace.{Done, finish, long_as, none_done, same, step}
use Rattle.toml_edit_tree.proofs.OrderLaws.{item-at, item-changed}
use Rattle.toml_edit_tree.proofs.convert.+convert.Goals as goal

-- ---- elements

pub make_items-loop-at-init : goal.make_items-loop-at-init
make_items-loop-at-init t c = none_done item_view made_value c.args.items.now.items

pub make_items-make_inside-requires : goal.make_items-make_inside-requires
make_items-make_inside-requires t c =
    let first = c.args.items.now.items in
    let items = c.loop-at.items.items in
    let at = c.loop-at.at in
    let x = c.index_mut-item.result.now in
    let long = long_as item_view made_value items first at c.loop-at.invariant in
    let within : at < length items = omega (arith, long, c.len-at-end.ensures, c.loop-at-test.true) in
    let here : get_or first at x ≡ x = sym (same item_view made_value items first at c.loop-at.invariant within x)
    ∙ sym c.index_mut-item.ensures.value in
    let first_within : at < length first = omega (arith, long, within) in
    let deep : size-Item x ≤ most item_depth first = rw (← here) (deepest_item first at x first_within) in
    omega (arith, deep)

pub make_items-loop-at-preserved : goal.make_items-loop-at-preserved
make_items-loop-at-preserved t c =
    let first = c.args.items.now.items in
    let items = c.loop-at.items.items in
    let at = c.loop-at.at in
    let x = c.index_mut-item.result.now in
    let long = long_as item_view made_value items first at c.loop-at.invariant in
    let within : at < length items = omega (arith, long, c.len-at-end.ensures, c.loop-at-test.true) in
    step item_view made_value items first at c.loop-at.invariant within x c.renew.new.item
    (c.renew.ensures ∙ ap in_new_form c.make_inside.ensures ∙ made-inside (item_view x)
    ∙ ap (λ y. made_value (item_view y)) c.index_mut-item.ensures.value)

pub make_items-returns : goal.make_items-returns
make_items-returns t c =
    let first = c.args.items.now.items in
    let items = c.loop-at.items.items in
    let at = c.loop-at.at in
    let long = long_as item_view made_value items first at c.loop-at.invariant in
    let past : length items ≤ at = omega (arith, long, c.len-at-end.ensures, c.loop-at-test.false) in
    ap items_from (finish item_view made_value items first at c.loop-at.invariant past) ∙ each-made (map item_view first)

-- ---- slots

pub make_slots-loop-at-init : goal.make_slots-loop-at-init
make_slots-loop-at-init t c = none_done (on_item item_view) made_slot c.args.slots.now

pub make_slots-make_inside-requires : goal.make_slots-make_inside-requires
make_slots-make_inside-requires t c =
    let first = c.args.slots.now in
    let es = c.loop-at.slots in
    let at = c.loop-at.at in
    let x = c.item_mut-item.result.now in
    let long = long_as (on_item item_view) made_slot es first at c.loop-at.invariant in
    let within : at < length es = omega (arith, long, c.len-at-end.ensures, c.loop-at-test.true) in
    let there : x ≡ (get_or es at no_slot).item = item-at es at no_slot x within c.item_mut-item.ensures.item in
    let here : (get_or first at no_slot).item ≡ x =
    ap (λ y. y.item) (sym (same (on_item item_view) made_slot es first at c.loop-at.invariant within no_slot)) ∙ sym there in
    let first_within : at < length first = omega (arith, long, within) in
    let deep : size-Item x ≤ most slot_depth first = rw (← here) (deepest first at no_slot first_within) in
    omega (arith, deep)

pub make_slots-loop-at-preserved : goal.make_slots-loop-at-preserved
make_slots-loop-at-preserved t c =
    let first = c.args.slots.now in
    let es = c.loop-at.slots in
    let at = c.loop-at.at in
    let x = c.item_mut-item.result.now in
    let y = c.renew.new.item in
    let old = get_or es at no_slot in
    let long = long_as (on_item item_view) made_slot es first at c.loop-at.invariant in
    let within : at < length es = omega (arith, long, c.len-at-end.ensures, c.loop-at-test.true) in
    let there : x ≡ old.item = item-at es at no_slot x within c.item_mut-item.ensures.item in
    let made : item_view y ≡ made_value (item_view old.item) =
    c.renew.ensures ∙ ap in_new_form c.make_inside.ensures ∙ made-inside (item_view x) ∙ ap (λ z. made_value (item_view z)) there in
    subst (λ l. Done (on_item item_view) made_slot l first (at + 1)) (sym (item-changed es at no_slot y))
    (step (on_item item_view) made_slot es first at c.loop-at.invariant within no_slot (record { key = old.key; item = y })
    (ap (λ n. record { key = old.key; item = n }) made))

pub make_slots-returns : goal.make_slots-returns
make_slots-returns t c =
    let first = c.args.slots.now in
    let es = c.loop-at.slots in
    let at = c.loop-at.at in
    let long = long_as (on_item item_view) made_slot es first at c.loop-at.invariant in
    let past : length es ≤ at = omega (arith, long, c.len-at-end.ensures, c.loop-at-test.false) in
    ap tree_slots (finish (on_item item_view) made_slot es first at c.loop-at.invariant past)
    ∙ each-slot-made (map (on_item item_view) first)
