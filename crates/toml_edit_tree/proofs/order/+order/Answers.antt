-- Each place in order.
use denote.Param.Weighed.{most}
use Rattle.std.proofs.Common.{◌≡◌, ◌<◌, ◌≤◌, ◌+◌, length, map, get_or, arith, sym, ap, subst, ◌∙◌}
use Rattle.toml_edit_laws.specs.PlaceOrder.{node_by_place}
use Rattle.toml_edit_slots.specs.Slots.{on_item}
use Rattle.toml_edit_model.specs.Lists.{items_from}
use Rattle.toml_edit_tree.specs.declared.item.Item.{size-Item}
use Rattle.toml_edit_tree.specs.View.{item_view, slots_view}
use Rattle.toml_edit_tree.proofs.DespanLaws.{deepest, deepest_item, item_depth, no_slot, slot_depth}
use Rattle.toml_edit_tree.proofs.InPlace.{Done, finish, long_as, none_done, same, step}
use Rattle.toml_edit_tree.proofs.OrderLaws.{item-at, item-changed, ordered-items, ordered_slot, slots-in-order, value-in-order}
use Rattle.toml_edit_tree.proofs.order.+order.Goals as goal

-- ---- elements

pub order_items-loop-at-init : goal.order_items-loop-at-init
order_items-loop-at-init t c = none_done item_view node_by_place c.args.items.now.items

pub order_items-order_item-requires : goal.order_items-order_item-requires
order_items-order_item-requires t c =
    let first = c.args.items.now.items in
    let items = c.loop-at.items.items in
    let at = c.loop-at.at in
    let x = c.index_mut.result.now in
    let long = long_as item_view node_by_place items first at c.loop-at.invariant in
    let within : at < length items = omega (arith, long, c.len-at-end.ensures, c.loop-at-test.true) in
    let here : get_or first at x ≡ x = sym (same item_view node_by_place items first at c.loop-at.invariant within x)
    ∙ sym c.index_mut.ensures.value in
    let first_within : at < length first = omega (arith, long, within) in
    let deep : size-Item x ≤ most item_depth first = rw (← here) (deepest_item first at x first_within) in
    omega (arith, c.requires, deep)

pub order_items-loop-at-preserved : goal.order_items-loop-at-preserved
order_items-loop-at-preserved t c =
    let first = c.args.items.now.items in
    let items = c.loop-at.items.items in
    let at = c.loop-at.at in
    let x = c.index_mut.result.now in
    let long = long_as item_view node_by_place items first at c.loop-at.invariant in
    let within : at < length items = omega (arith, long, c.len-at-end.ensures, c.loop-at-test.true) in
    step item_view node_by_place items first at c.loop-at.invariant within x c.order_item.new.item
    (c.in_ok-order_item.ensures ∙ ap (λ y. node_by_place (item_view y)) c.index_mut.ensures.value)

pub order_items-returns : goal.order_items-returns
order_items-returns t c =
    let first = c.args.items.now.items in
    let items = c.loop-at.items.items in
    let at = c.loop-at.at in
    let long = long_as item_view node_by_place items first at c.loop-at.invariant in
    let past : length items ≤ at = omega (arith, long, c.len-at-end.ensures, c.loop-at-test.false) in
    ap items_from (finish item_view node_by_place items first at c.loop-at.invariant past) ∙ ordered-items (map item_view first)

-- ---- slots

pub put_in_order-loop-at-init : goal.put_in_order-loop-at-init
put_in_order-loop-at-init t c = none_done (on_item item_view) ordered_slot c.args.slots.now

pub put_in_order-order_item-requires : goal.put_in_order-order_item-requires
put_in_order-order_item-requires t c =
    let first = c.args.slots.now in
    let es = c.loop-at.slots in
    let at = c.loop-at.at in
    let x = c.item_mut-item.result.now in
    let long = long_as (on_item item_view) ordered_slot es first at c.loop-at.invariant in
    let within : at < length es = omega (arith, long, c.len-at-end.ensures, c.loop-at-test.true) in
    let there : x ≡ (get_or es at no_slot).item = item-at es at no_slot x within c.item_mut-item.ensures.item in
    let here : (get_or first at no_slot).item ≡ x =
    ap (λ y. y.item) (sym (same (on_item item_view) ordered_slot es first at c.loop-at.invariant within no_slot)) ∙ sym there in
    let first_within : at < length first = omega (arith, long, within) in
    let deep : size-Item x ≤ most slot_depth first = rw (← here) (deepest first at no_slot first_within) in
    omega (arith, c.requires, deep)

pub put_in_order-loop-at-preserved : goal.put_in_order-loop-at-preserved
put_in_order-loop-at-preserved t c =
    let first = c.args.slots.now in
    let es = c.loop-at.slots in
    let at = c.loop-at.at in
    let x = c.item_mut-item.result.now in
    let y = c.order_item.new.item in
    let old = get_or es at no_slot in
    let long = long_as (on_item item_view) ordered_slot es first at c.loop-at.invariant in
    let within : at < length es = omega (arith, long, c.len-at-end.ensures, c.loop-at-test.true) in
    let there : x ≡ old.item = item-at es at no_slot x within c.item_mut-item.ensures.item in
    let made : item_view y ≡ node_by_place (item_view old.item) = c.in_ok-order_item.ensures
    ∙ ap (λ z. node_by_place (item_view z)) there in
    subst (λ l. Done (on_item item_view) ordered_slot l first (at + 1)) (sym (item-changed es at no_slot y))
    (step (on_item item_view) ordered_slot es first at c.loop-at.invariant within no_slot (record { key = old.key; item = y })
    (ap (λ n. record { key = old.key; item = n }) made))

pub put_in_order-returns : goal.put_in_order-returns
put_in_order-returns t c =
    let first = c.args.slots.now in
    let es = c.loop-at.slots in
    let at = c.loop-at.at in
    let long = long_as (on_item item_view) ordered_slot es first at c.loop-at.invariant in
    let past : length es ≤ at = omega (arith, long, c.len-at-end.ensures, c.loop-at-test.false) in
    ap slots_view c.in_ok-sort_by_place.ensures.ok
    ∙ slots-in-order es (map (on_item item_view) first) (finish (on_item item_view) ordered_slot es first at c.loop-at.invariant past)

-- ---- items

pub order_item-returns-in-Value : goal.order_item-returns-in-Value
order_item-returns-in-Value t c = value-in-order c.args.item.now _ c.in-Value.is
