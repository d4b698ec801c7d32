-- Each place without positions.
use denote.Param.Weighed.{most}
use Rattle.std.proofs.Common.{◌≡◌, ◌<◌, ◌≤◌, ◌+◌, List, [], ◌∷◌, length, map, get_or, set, arith, refl, sym}
use Rattle.std.proofs.Common.{ap, subst, ◌∙◌}
use Rattle.toml_edit_model.specs.Lists.{items_from}
use Rattle.toml_edit_model.specs.Positions.{items_without_positions, slots_without_positions, without_positions}
use Rattle.toml_edit_model.specs.Tree.{Node, item, slot}
use Rattle.toml_edit_slots.specs.Slots.{on_item, with_item}
use Rattle.toml_edit_slots.specs.declared.slots.Slot.{Slot}
use Rattle.toml_edit_tree.specs.Containers.{tree_slots}
use Rattle.toml_edit_tree.specs.declared.item.Item.{size-Item}
use Rattle.toml_edit_tree.specs.View.{item_view}
use Rattle.toml_edit_tree.proofs.DespanLaws.{deepest, deepest_item, item_depth, no_slot, slot_depth}
use Rattle.toml_edit_tree.proofs.InPlace.{Done, finish, long_as, none_done, same, step}
use Rattle.toml_edit_tree.proofs.positions.+forget.Goals as goal
use Rattle.toml_edit_tree.proofs.OrderLaws.{item-at, item-changed}

items-forgotten : (ns : List Node) → items_from (map without_positions ns) ≡ items_without_positions (items_from ns)
items-forgotten [] = refl
items-forgotten (n ∷ ns) = ap (item (without_positions n)) (items-forgotten ns)

slots-forgotten : (es : List (Slot Node)) → tree_slots (map (on_item without_positions) es) ≡ slots_without_positions (tree_slots es)
slots-forgotten [] = refl
slots-forgotten (s ∷ es) = ap (slot s.key (without_positions s.item)) (slots-forgotten es)

-- ---- items

pub forget_items-loop-at-init : goal.forget_items-loop-at-init
forget_items-loop-at-init t c = none_done item_view without_positions c.args.items.now.items

pub forget_items-forget_item-requires : goal.forget_items-forget_item-requires
forget_items-forget_item-requires t c =
    let first = c.args.items.now.items in
    let items = c.loop-at.items.items in
    let at = c.loop-at.at in
    let x = c.index_mut.result.now in
    let long = long_as item_view without_positions items first at c.loop-at.invariant in
    let within : at < length items = omega (arith, long, c.len-at-end.ensures, c.loop-at-test.true) in
    let here : get_or first at x ≡ x = sym (same item_view without_positions items first at c.loop-at.invariant within x)
    ∙ sym c.index_mut.ensures.value in
    let first_within : at < length first = omega (arith, long, within) in
    let deep : size-Item x ≤ most item_depth first = rw (← here) (deepest_item first at x first_within) in
    omega (arith, deep)

pub forget_items-loop-at-preserved : goal.forget_items-loop-at-preserved
forget_items-loop-at-preserved t c =
    let first = c.args.items.now.items in
    let items = c.loop-at.items.items in
    let at = c.loop-at.at in
    let x = c.index_mut.result.now in
    let long = long_as item_view without_positions items first at c.loop-at.invariant in
    let within : at < length items = omega (arith, long, c.len-at-end.ensures, c.loop-at-test.true) in
    step item_view without_positions items first at c.loop-at.invariant within x c.forget_item.new.item
    (c.forget_item.ensures ∙ ap (λ y. without_positions (item_view y)) c.index_mut.ensures.value)

pub forget_items-returns : goal.forget_items-returns
forget_items-returns t c =
    let first = c.args.items.now.items in
    let items = c.loop-at.items.items in
    let at = c.loop-at.at in
    let long = long_as item_view without_positions items first at c.loop-at.invariant in
    let past : length items ≤ at = omega (arith, long, c.len-at-end.ensures, c.loop-at-test.false) in
    ap items_from (finish item_view without_positions items first at c.loop-at.invariant past) ∙ items-forgotten (map item_view first)

-- ---- slots

pub forget_slots-loop-at-init : goal.forget_slots-loop-at-init
forget_slots-loop-at-init t c = none_done (on_item item_view) (on_item without_positions) c.args.slots.now

pub forget_slots-forget_item-requires : goal.forget_slots-forget_item-requires
forget_slots-forget_item-requires t c =
    let first = c.args.slots.now in
    let es = c.loop-at.slots in
    let at = c.loop-at.at in
    let x = c.item_mut-item.result.now in
    let long = long_as (on_item item_view) (on_item without_positions) es first at c.loop-at.invariant in
    let within : at < length es = omega (arith, long, c.len-at-end.ensures, c.loop-at-test.true) in
    let there : x ≡ (get_or es at no_slot).item = item-at es at no_slot x within c.item_mut-item.ensures.item in
    let here : (get_or first at no_slot).item ≡ x =
    ap (λ y. y.item) (sym (same (on_item item_view) (on_item without_positions) es first at c.loop-at.invariant within no_slot))
    ∙ sym there in
    let first_within : at < length first = omega (arith, long, within) in
    let deep : size-Item x ≤ most slot_depth first = rw (← here) (deepest first at no_slot first_within) in
    omega (arith, deep)

pub forget_slots-loop-at-preserved : goal.forget_slots-loop-at-preserved
forget_slots-loop-at-preserved t c =
    let first = c.args.slots.now in
    let es = c.loop-at.slots in
    let at = c.loop-at.at in
    let x = c.item_mut-item.result.now in
    let y = c.forget_item.new.item in
    let old = get_or es at no_slot in
    let long = long_as (on_item item_view) (on_item without_positions) es first at c.loop-at.invariant in
    let within : at < length es = omega (arith, long, c.len-at-end.ensures, c.loop-at-test.true) in
    let there : x ≡ old.item = item-at es at no_slot x within c.item_mut-item.ensures.item in
    let made : item_view y ≡ without_positions (item_view old.item) = c.forget_item.ensures
    ∙ ap (λ z. without_positions (item_view z)) there in
    let put : with_item at y es ≡ set es at (record { key = old.key; item = y }) = item-changed es at no_slot y in
    subst (λ l. Done (on_item item_view) (on_item without_positions) l first (at + 1)) (sym put)
    (step (on_item item_view) (on_item without_positions) es first at c.loop-at.invariant within no_slot (record {
      key = old.key;
      item =
          y;
    })
    (ap (λ n. record { key = old.key; item = n }) made))

pub forget_slots-returns : goal.forget_slots-returns
forget_slots-returns t c =
    let first = c.args.slots.now in
    let es = c.loop-at.slots in
    let at = c.loop-at.at in
    let long = long_as (on_item item_view) (on_item without_positions) es first at c.loop-at.invariant in
    let past : length es ≤ at = omega (arith, long, c.len-at-end.ensures, c.loop-at-test.false) in
    ap tree_slots (finish (on_item item_view) (on_item without_positions) es first at c.loop-at.invariant past)
    ∙ slots-forgotten (map (on_item item_view) first)
