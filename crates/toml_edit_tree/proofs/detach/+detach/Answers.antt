-- Each place looks as it did.
use denote.Hole.Carrier.{out}
use denote.Param.Weighed.{most}
use Rattle.std.proofs.Common.{◌≡◌, ℕ, ◌<◌, ◌≤◌, ◌+◌, List, Some, length, get_or, slice_get, arith, sym, ap, subst, ◌∙◌}
use Rattle.toml_edit_model.specs.Lists.{items_from}
use Rattle.toml_edit_slots.specs.Slots.{items_of, on_item, with_item}
use Rattle.toml_edit_slots.specs.declared.slots.Slot.{Slot}
use Rattle.toml_edit_tree.specs.Containers.{array_node, inline_node, tree_slots}
use Rattle.toml_edit_tree.specs.declared.item.Item.{Item, size-Item}
use Rattle.toml_edit_tree.specs.declared.item.Item.TheViews.{out-Value}
use Rattle.toml_edit_tree.specs.declared.value.Value.TheVariants as values
use Rattle.toml_edit_tree.specs.View.{array_view, inline_view, item_view, slots_view, value_view}
use Rattle.toml_edit_tree.proofs.DespanLaws.{deepest, deepest_item, item_depth, no_slot, slot_depth}
use Rattle.toml_edit_tree.proofs.InPlace.{Done, long_as, none_done, same, step, unchanged}
use Rattle.toml_edit_tree.proofs.OrderLaws.{item-at, item-changed}
use Rattle.toml_edit_tree.proofs.ViewLaws.{view-Array, view-InlineTable}
use Rattle.toml_edit_tree.proofs.detach.+detach.Goals as goal

-- ---- items

pub detach_items-loop-at-init : goal.detach_items-loop-at-init
detach_items-loop-at-init t c = none_done item_view (λ n. n) c.args.items.now.items

pub detach_items-detach_item-requires : goal.detach_items-detach_item-requires
detach_items-detach_item-requires t c =
    let first = c.args.items.now.items in
    let items = c.loop-at.items.items in
    let at = c.loop-at.at in
    let x = c.index_mut.result.now in
    let long = long_as item_view (λ n. n) items first at c.loop-at.invariant in
    let within : at < length items = omega (arith, long, c.len-at-end.ensures, c.loop-at-test.true) in
    let here : get_or first at x ≡ x = sym (same item_view (λ n. n) items first at c.loop-at.invariant within x)
    ∙ sym c.index_mut.ensures.value in
    let deep : size-Item x ≤ most item_depth first = rw (← here) (deepest_item first at x (omega (arith, long, within))) in
    omega (arith, deep)

pub detach_items-loop-at-preserved : goal.detach_items-loop-at-preserved
detach_items-loop-at-preserved t c =
    let items = c.loop-at.items.items in
    let at = c.loop-at.at in
    let long = long_as item_view (λ n. n) items c.args.items.now.items at c.loop-at.invariant in
    let within : at < length items = omega (arith, long, c.len-at-end.ensures, c.loop-at-test.true) in
    step item_view (λ n. n) items c.args.items.now.items at c.loop-at.invariant within c.index_mut.result.now c.detach_item.new.item
    (c.detach_item.ensures ∙ ap item_view c.index_mut.ensures.value)

pub detach_items-returns-in_err-detach_item : goal.detach_items-returns-in_err-detach_item
detach_items-returns-in_err-detach_item t c =
    let items = c.loop-at.items.items in
    let at = c.loop-at.at in
    let long = long_as item_view (λ n. n) items c.args.items.now.items at c.loop-at.invariant in
    let within : at < length items = omega (arith, long, c.len-at-end.ensures, c.loop-at-test.true) in
    ap items_from (unchanged item_view _ c.args.items.now.items (at + 1)
    (step item_view (λ n. n) items c.args.items.now.items at c.loop-at.invariant within c.index_mut.result.now c.detach_item.new.item
    (c.detach_item.ensures ∙ ap item_view c.index_mut.ensures.value)))

pub detach_items-returns : goal.detach_items-returns
detach_items-returns t c =
    ap items_from (unchanged item_view c.loop-at.items.items c.args.items.now.items c.loop-at.at c.loop-at.invariant)

-- ---- slots

pub detach_slots-loop-at-init : goal.detach_slots-loop-at-init
detach_slots-loop-at-init t c = none_done (on_item item_view) (λ s. s) c.args.slots.now

pub detach_slots-detach_item-requires : goal.detach_slots-detach_item-requires
detach_slots-detach_item-requires t c =
    let first = c.args.slots.now in
    let es = c.loop-at.slots in
    let at = c.loop-at.at in
    let x = c.item_mut-item.result.now in
    let long = long_as (on_item item_view) (λ s. s) es first at c.loop-at.invariant in
    let within : at < length es = omega (arith, long, c.len-at-end.ensures, c.loop-at-test.true) in
    let there : x ≡ (get_or es at no_slot).item =
    item-at es at no_slot x within (subst (λ ks. Some x ≡ slice_get (items_of ks) at) c.detach_key.ensures c.item_mut-item.ensures.item) in
    let here : (get_or first at no_slot).item ≡ x =
    ap (λ y. y.item) (sym (same (on_item item_view) (λ s. s) es first at c.loop-at.invariant within no_slot)) ∙ sym there in
    let deep : size-Item x ≤ most slot_depth first = rw (← here) (deepest first at no_slot (omega (arith, long, within))) in
    omega (arith, deep)

-- an item there is detached
detached : (es ks first : List (Slot Item)) (at : ℕ) (x y : Item) → Done (on_item item_view) (λ s. s) es first at → at < length es
    → ks ≡ es → Some x ≡ slice_get (items_of ks) at → item_view y ≡ item_view x
    → Done (on_item item_view) (λ s. s) (with_item at y ks) first (at + 1)
detached es ks first at x y done within kept there seen =
    let old = get_or es at no_slot in
    let here : x ≡ old.item = item-at es at no_slot x within (subst (λ ls. Some x ≡ slice_get (items_of ls) at) kept there) in
    subst (λ l. Done (on_item item_view) (λ s. s) l first (at + 1)) (sym (ap (with_item at y) kept ∙ item-changed es at no_slot y))
    (step (on_item item_view) (λ s. s) es first at done within no_slot (record { key = old.key; item = y })
    (ap (λ n. record { key = old.key; item = n }) (seen ∙ ap item_view here)))

pub detach_slots-loop-at-preserved : goal.detach_slots-loop-at-preserved
detach_slots-loop-at-preserved t c =
    let es = c.loop-at.slots in
    let at = c.loop-at.at in
    let long = long_as (on_item item_view) (λ s. s) es c.args.slots.now at c.loop-at.invariant in
    detached es c.detach_key.new.self c.args.slots.now at c.item_mut-item.result.now c.detach_item.new.item c.loop-at.invariant
    (omega (arith, long, c.len-at-end.ensures, c.loop-at-test.true)) c.detach_key.ensures c.item_mut-item.ensures.item c.detach_item.ensures

pub detach_slots-returns-in_err-detach_key : goal.detach_slots-returns-in_err-detach_key
detach_slots-returns-in_err-detach_key t c =
    ap slots_view c.detach_key.ensures
    ∙ ap tree_slots (unchanged (on_item item_view) c.loop-at.slots c.args.slots.now c.loop-at.at c.loop-at.invariant)

pub detach_slots-returns-in_err-detach_item : goal.detach_slots-returns-in_err-detach_item
detach_slots-returns-in_err-detach_item t c =
    let es = c.loop-at.slots in
    let at = c.loop-at.at in
    let long = long_as (on_item item_view) (λ s. s) es c.args.slots.now at c.loop-at.invariant in
    ap tree_slots (unchanged (on_item item_view) _ c.args.slots.now (at + 1)
    (detached es c.detach_key.new.self c.args.slots.now at c.item_mut-item.result.now c.detach_item.new.item c.loop-at.invariant
    (omega (arith, long, c.len-at-end.ensures, c.loop-at-test.true)) c.detach_key.ensures c.item_mut-item.ensures.item c.detach_item.ensures))

pub detach_slots-returns : goal.detach_slots-returns
detach_slots-returns t c =
    ap tree_slots (unchanged (on_item item_view) c.loop-at.slots c.args.slots.now c.loop-at.at c.loop-at.invariant)

-- ---- values

pub detach_value-returns-in-String : goal.detach_value-returns-in-String
unfolding out-Value out
detach_value-returns-in-String t c =
    rw c.in-String.is (ap (λ f. value_view (values.String f)) (c.detach.ensures ∙ c.in-String.scalar-is))

pub detach_value-returns-in-Integer : goal.detach_value-returns-in-Integer
unfolding out-Value out
detach_value-returns-in-Integer t c =
    rw c.in-Integer.is (ap (λ f. value_view (values.Integer f)) (c.detach-in-Integer.ensures ∙ c.in-Integer.scalar-is))

pub detach_value-returns-in-Float : goal.detach_value-returns-in-Float
unfolding out-Value out
detach_value-returns-in-Float t c =
    rw c.in-Float.is (ap (λ f. value_view (values.Float f)) (c.detach-in-Float.ensures ∙ c.in-Float.scalar-is))

pub detach_value-returns-in-Boolean : goal.detach_value-returns-in-Boolean
unfolding out-Value out
detach_value-returns-in-Boolean t c =
    rw c.in-Boolean.is (ap (λ f. value_view (values.Boolean f)) (c.detach-in-Boolean.ensures ∙ c.in-Boolean.scalar-is))

pub detach_value-returns-in-Datetime : goal.detach_value-returns-in-Datetime
unfolding out-Value out
detach_value-returns-in-Datetime t c =
    rw c.in-Datetime.is (ap (λ f. value_view (values.Datetime f)) (c.detach-in-Datetime.ensures ∙ c.in-Datetime.scalar-is))

pub detach_value-returns-in-Array : goal.detach_value-returns-in-Array
unfolding out-Value out
detach_value-returns-in-Array t c =
    rw c.in-Array.is (view-Array c.detach_array.new.array ∙ ap array_node c.detach_array.ensures
    ∙ ap (λ a. array_node (array_view a)) c.in-Array.array-is ∙ sym (view-Array c.in-Array.array))

pub detach_value-returns-in-InlineTable : goal.detach_value-returns-in-InlineTable
unfolding out-Value out
detach_value-returns-in-InlineTable t c =
    rw c.in-InlineTable.is (view-InlineTable c.detach_inline.new.table ∙ ap inline_node c.detach_inline.ensures
    ∙ ap (λ a. inline_node (inline_view a)) c.in-InlineTable.table-is ∙ sym (view-InlineTable c.in-InlineTable.table))
