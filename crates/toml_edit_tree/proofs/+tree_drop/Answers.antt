-- Items get no deeper.
use denote.Hole.Carrier.{out}
use denote.Param.Weighed.{most}
use Rattle.std.proofs.Common.{◌≡◌, ◌<◌, ◌≤◌, length, get_or, arith, sym, ap, subst, ◌∙◌}
use Rattle.std.proofs.lemmas.List.{length-set}
use Rattle.toml_edit_tree.specs.declared.item.Item.{out-Item, size-Item, the_lemmas}
use Rattle.toml_edit_tree.specs.declared.item.Item.TheViews.{out-Value}
use Rattle.toml_edit_tree.specs.Containers.{array_node, inline_node}
use Rattle.toml_edit_tree.specs.Emptied.{emptied}
use Rattle.toml_edit_tree.specs.View.{array_view, inline_view}
use Rattle.toml_edit_tree.specs.declared.array.Array.{size-Array}
use Rattle.toml_edit_tree.specs.declared.array_of_tables.ArrayOfTables.{size-ArrayOfTables}
use Rattle.toml_edit_tree.specs.declared.inline_table.InlineTable.{size-InlineTable}
use Rattle.toml_edit_tree.specs.declared.table.Table.{size-Table}
use Rattle.toml_edit_tree.specs.declared.value.Value.{size-Value}
use Rattle.toml_edit_tree.proofs.ViewLaws.{view-Array, view-InlineTable}
use Rattle.toml_edit_tree.proofs.DespanLaws.{deepest, deepest_item, item_depth, most-set, no_slot, slot_depth}
use Rattle.toml_edit_tree.proofs.OrderLaws.{item-at, item-changed}
use Rattle.toml_edit_tree.proofs.+tree_drop.Goals as goal

pub empty::empty_items-loop-at-preserved : goal.empty::empty_items-loop-at-preserved
empty::empty_items-loop-at-preserved t c =
    let items = c.loop-at.items.items in
    let at = c.loop-at.at in
    let x = c.index_mut.result.now in
    let kept = c.loop-at.invariant in
    let here : get_or items at x ≡ x = sym c.index_mut.ensures.value in
    let within : at < length items = omega (arith, kept.0, c.len-at-end.ensures, c.loop-at-test.true) in
    let deep : size-Item x ≤ most item_depth items = rw (← here) (deepest_item items at x within) in (
      length-set items at c.empty_item.new.item ∙ kept.0,
      most-set item_depth items at c.empty_item.new.item _ kept.1 (omega (arith, c.empty_item.ensures.no_deeper, deep, kept.1)),
    )

pub empty::empty_slots-loop-at-preserved : goal.empty::empty_slots-loop-at-preserved
empty::empty_slots-loop-at-preserved t c =
    let first = c.args.slots.now in
    let es = c.loop-at.slots in
    let at = c.loop-at.at in
    let x = c.item_mut.result.now in
    let y = c.empty_item.new.item in
    let kept = c.loop-at.invariant in
    let within : at < length es = omega (arith, kept.0, c.len-at-end.ensures, c.loop-at-test.true) in
    let here : x ≡ (get_or es at no_slot).item = item-at es at no_slot x within c.item_mut.ensures.item in
    let deep : size-Item x ≤ most slot_depth es = rw here (deepest es at no_slot within) in
    subst (λ l. (length l ≡ length first) × (most slot_depth l ≤ most slot_depth first)) (sym (item-changed es at no_slot y)) (
      length-set es at _ ∙ kept.0,
      most-set slot_depth es at _ _ kept.1 (omega (arith, c.empty_item.ensures.no_deeper, deep, kept.1)),
    )

pub empty::empty_slots-empty_item-requires : goal.empty::empty_slots-empty_item-requires
empty::empty_slots-empty_item-requires t c =
    let es = c.loop-at.slots in
    let at = c.loop-at.at in
    let x = c.item_mut.result.now in
    let kept = c.loop-at.invariant in
    let within : at < length es = omega (arith, kept.0, c.len-at-end.ensures, c.loop-at-test.true) in
    let here : x ≡ (get_or es at no_slot).item = item-at es at no_slot x within c.item_mut.ensures.item in
    let deep : size-Item x ≤ most slot_depth es = rw here (deepest es at no_slot within) in omega (arith, c.decreases, deep, kept.1)

-- ---- items and values that are emptied

pub empty::empty_item-returns-in-Value-clause-no_deeper : goal.empty::empty_item-returns-in-Value-clause-no_deeper
unfolding out-Item out
empty::empty_item-returns-in-Value-clause-no_deeper t c =
    let less : size-Value c.empty_value.new.value ≤ size-Value c.in-Value.value =
    subst (λ v. size-Value c.empty_value.new.value ≤ size-Value v) c.in-Value.value-is c.empty_value.ensures.no_deeper in
    rw c.in-Value.is (grind (arith, the_lemmas, less))

pub empty::empty_item-returns-in-Table-clause-no_deeper : goal.empty::empty_item-returns-in-Table-clause-no_deeper
unfolding out-Item out
empty::empty_item-returns-in-Table-clause-no_deeper t c =
    let less : size-Table c.empty_table.new.table ≤ size-Table c.in-Table.table =
    subst (λ v. size-Table c.empty_table.new.table ≤ size-Table v) c.in-Table.table-is c.empty_table.ensures.no_deeper in
    rw c.in-Table.is (grind (arith, the_lemmas, less))

pub empty::empty_item-returns-in-ArrayOfTables-clause-no_deeper : goal.empty::empty_item-returns-in-ArrayOfTables-clause-no_deeper
unfolding out-Item out
empty::empty_item-returns-in-ArrayOfTables-clause-no_deeper t c =
    let less : size-ArrayOfTables c.empty_tables.new.tables ≤ size-ArrayOfTables c.in-ArrayOfTables.tables =
    subst (λ v. size-ArrayOfTables c.empty_tables.new.tables ≤ size-ArrayOfTables v) c.in-ArrayOfTables.tables-is c.empty_tables.ensures.no_deeper in
    rw c.in-ArrayOfTables.is (grind (arith, the_lemmas, less))

pub empty::empty_value-returns-in-Array-clause-no_deeper : goal.empty::empty_value-returns-in-Array-clause-no_deeper
unfolding out-Value out
empty::empty_value-returns-in-Array-clause-no_deeper t c =
    let less : size-Array c.empty_array.new.array ≤ size-Array c.in-Array.array =
    subst (λ v. size-Array c.empty_array.new.array ≤ size-Array v) c.in-Array.array-is c.empty_array.ensures.no_deeper in
    rw c.in-Array.is (grind (arith, the_lemmas, less))

pub empty::empty_value-returns-in-InlineTable-clause-no_deeper : goal.empty::empty_value-returns-in-InlineTable-clause-no_deeper
unfolding out-Value out
empty::empty_value-returns-in-InlineTable-clause-no_deeper t c =
    let less : size-InlineTable c.empty_inline.new.table ≤ size-InlineTable c.in-InlineTable.table =
    subst (λ v. size-InlineTable c.empty_inline.new.table ≤ size-InlineTable v) c.in-InlineTable.table-is c.empty_inline.ensures.no_deeper in
    rw c.in-InlineTable.is (grind (arith, the_lemmas, less))

pub empty::empty_value-returns-in-Array-clause-emptied : goal.empty::empty_value-returns-in-Array-clause-emptied
unfolding out-Value out
empty::empty_value-returns-in-Array-clause-emptied t c =
    rw c.in-Array.is
    (view-Array c.empty_array.new.array ∙ c.empty_array.ensures.emptied ∙ ap (λ a. emptied (array_node (array_view a))) c.in-Array.array-is
    ∙ sym (ap emptied (view-Array c.in-Array.array)))

pub empty::empty_value-returns-in-InlineTable-clause-emptied : goal.empty::empty_value-returns-in-InlineTable-clause-emptied
unfolding out-Value out
empty::empty_value-returns-in-InlineTable-clause-emptied t c =
    rw c.in-InlineTable.is
    (view-InlineTable c.empty_inline.new.table ∙ c.empty_inline.ensures.emptied ∙ ap (λ a. emptied (inline_node (inline_view a))) c.in-InlineTable.table-is
    ∙ sym (ap emptied (view-InlineTable c.in-InlineTable.table)))
