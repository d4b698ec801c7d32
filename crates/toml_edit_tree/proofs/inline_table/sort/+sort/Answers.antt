-- Each place in turn.
use denote.Hole.Carrier.{out}
use denote.Param.Weighed.{most}
use Rattle.std.proofs.Common.{◌≡◌, ◌<◌, ◌≤◌, true, false, IsPermutation, ap, length, get_or, arith, sym, subst, ◌∙◌}
use Rattle.toml_edit_model.specs.Lists.{is_dotted_inline}
use Rattle.toml_edit_model.specs.Sorting.{IsDeepReorder, IsSortOf, ReordersItem}
use Rattle.toml_edit_tree.specs.declared.item.Item.{size-Item}
use Rattle.toml_edit_tree.specs.declared.item.Item.TheViews.{out-Item, out-Value}
use Rattle.toml_edit_tree.specs.Containers.{inline_node}
use Rattle.toml_edit_tree.specs.InlineSlots.{inline_fields}
use Rattle.toml_edit_tree.specs.Sorts.{ComparesItems, items_seen}
use Rattle.toml_edit_tree.specs.View.{inline_view, item_view, value_view}
use Rattle.toml_edit_tree.proofs.DespanLaws.{if_done, no_slot, slot_depth}
use Rattle.toml_edit_tree.proofs.OrderLaws.{item-at}
use Rattle.toml_edit_tree.proofs.SortLaws.{begins, ends-refused, ends-reordered, ends-sorted, goes-on, long-permuted, passed, stays}
use Rattle.toml_edit_tree.proofs.InlineSortLaws.{inline-entered, item-entered, none-passed, table-passed, tables-passed, value-entered}
use Rattle.toml_edit_tree.proofs.ViewLaws.{view-Array, view-Boolean, view-Datetime, view-Float, view-Integer, view-String}
use Rattle.toml_edit_tree.proofs.inline_table.sort.+sort.Goals as goal

pub sort_slots-loop-at-init : goal.sort_slots-loop-at-init
sort_slots-loop-at-init g t c =
    begins is_dotted_inline (λ lt. ComparesItems g.F.Fn lt c.args.compare.now) c.args.slots.now c.sort_items.new.slots
    c.sort_items.ensures.permutation c.in_ok-sort_items.ensures.sorted

pub sort_slots-item_mut-item-requires : goal.sort_slots-item_mut-item-requires
sort_slots-item_mut-item-requires g t c =
    let first = c.args.slots.now in
    omega (
      arith,
      c.loop-at.invariant.long,
      long-permuted first c.sort_items.new.slots c.sort_items.ensures.permutation,
      c.len-at-end.ensures,
      c.loop-at-test.true,
    )

pub sort_slots-sort_item-requires : goal.sort_slots-sort_item-requires
sort_slots-sort_item-requires g t c =
    let first = c.args.slots.now in
    let es = c.loop-at.slots in
    let at = c.loop-at.at in
    let x = c.item_mut-item.result.now in
    let long = c.loop-at.invariant.long in
    let within : at < length es =
    omega (
      arith,
      long,
      long-permuted first c.sort_items.new.slots c.sort_items.ensures.permutation,
      c.len-at-end.ensures,
      c.loop-at-test.true,
    ) in
    let there : x ≡ (get_or es at no_slot).item = item-at es at no_slot x within c.item_mut-item.ensures.item in
    let deep : size-Item x ≤ most slot_depth first =
    subst (λ y. size-Item y ≤ most slot_depth first) (sym there) (c.loop-at.invariant.shallow at no_slot (omega arith) within) in
    λ κs lives. (omega (arith, c.decreases, deep), (lives, c.requires))

pub sort_slots-loop-at-preserved : goal.sort_slots-loop-at-preserved
sort_slots-loop-at-preserved g t c =
    let first = c.args.slots.now in
    let es = c.loop-at.slots in
    let at = c.loop-at.at in
    let x = c.item_mut-item.result.now in
    let y = c.sort_item.new.item in
    let long = c.loop-at.invariant.long in
    let within : at < length es =
    omega (
      arith,
      long,
      long-permuted first c.sort_items.new.slots c.sort_items.ensures.permutation,
      c.len-at-end.ensures,
      c.loop-at-test.true,
    ) in
    let there : x ≡ (get_or es at no_slot).item = item-at es at no_slot x within c.item_mut-item.ensures.item in
    goes-on is_dotted_inline (λ lt. ComparesItems g.F.Fn lt c.args.compare.now) first es at c.loop-at.invariant within no_slot y
    (subst (λ z. ReordersItem is_dotted_inline IsPermutation (item_view z) (item_view y)) there c.sort_item.ensures.reorders)
    (λ lt by. subst (λ z. ReordersItem is_dotted_inline (IsSortOf lt) (item_view z) (item_view y)) there
    (c.in_ok-sort_item.ensures.sorted lt by))

pub sort_slots-returns-in_err-sort_items-clause-reorders : goal.sort_slots-returns-in_err-sort_items-clause-reorders
sort_slots-returns-in_err-sort_items-clause-reorders g t c =
    let first = c.args.slots.now in
    subst (λ l. IsDeepReorder is_dotted_inline (items_seen first) (items_seen l)) (sym c.in_err-sort_items.ensures.err)
    (stays is_dotted_inline (items_seen first))

pub sort_slots-returns-in_err-sort_item-clause-reorders : goal.sort_slots-returns-in_err-sort_item-clause-reorders
sort_slots-returns-in_err-sort_item-clause-reorders g t c =
    let first = c.args.slots.now in
    let es = c.loop-at.slots in
    let at = c.loop-at.at in
    let x = c.item_mut-item.result.now in
    let y = c.sort_item.new.item in
    let long = c.loop-at.invariant.long in
    let within : at < length es =
    omega (
      arith,
      long,
      long-permuted first c.sort_items.new.slots c.sort_items.ensures.permutation,
      c.len-at-end.ensures,
      c.loop-at-test.true,
    ) in
    let there : x ≡ (get_or es at no_slot).item = item-at es at no_slot x within c.item_mut-item.ensures.item in
    ends-refused is_dotted_inline (λ lt. ComparesItems g.F.Fn lt c.args.compare.now) first es at c.loop-at.invariant within no_slot y
    (subst (λ z. ReordersItem is_dotted_inline IsPermutation (item_view z) (item_view y)) there c.sort_item.ensures.reorders)

pub sort_slots-returns-clause-reorders : goal.sort_slots-returns-clause-reorders
sort_slots-returns-clause-reorders g t c =
    ends-reordered is_dotted_inline (λ lt. ComparesItems g.F.Fn lt c.args.compare.now) c.args.slots.now c.loop-at.slots c.loop-at.at
    c.loop-at.invariant

pub sort_slots-returns-clause-sorted : goal.sort_slots-returns-clause-sorted
sort_slots-returns-clause-sorted g t c =
    let first = c.args.slots.now in
    let es = c.loop-at.slots in
    let at = c.loop-at.at in
    let long = c.loop-at.invariant.long in
    let past : length es ≤ at =
    omega (
      arith,
      long,
      long-permuted first c.sort_items.new.slots c.sort_items.ensures.permutation,
      c.len-at-end.ensures,
      c.loop-at-test.false,
    ) in
    ends-sorted is_dotted_inline (λ lt. ComparesItems g.F.Fn lt c.args.compare.now) first es at c.loop-at.invariant past

-- ---- items

pub sort_item-returns-in-None : goal.sort_item-returns-in-None
sort_item-returns-in-None g t c =
    let other : is_dotted_inline (item_view c.args.item.now) ≡ false = none-passed c.args.item.now c.in-None.is in
    record { reorders = passed is_dotted_inline IsPermutation _ other; sorted = λ lt by. passed is_dotted_inline (IsSortOf lt) _ other }

pub sort_item-returns-in-Table : goal.sort_item-returns-in-Table
sort_item-returns-in-Table g t c =
    let other : is_dotted_inline (item_view c.args.item.now) ≡ false = table-passed c.args.item.now _ c.in-Table.is in
    record { reorders = passed is_dotted_inline IsPermutation _ other; sorted = λ lt by. passed is_dotted_inline (IsSortOf lt) _ other }

pub sort_item-returns-in-ArrayOfTables : goal.sort_item-returns-in-ArrayOfTables
sort_item-returns-in-ArrayOfTables g t c =
    let other : is_dotted_inline (item_view c.args.item.now) ≡ false = tables-passed c.args.item.now _ c.in-ArrayOfTables.is in
    record { reorders = passed is_dotted_inline IsPermutation _ other; sorted = λ lt by. passed is_dotted_inline (IsSortOf lt) _ other }

pub sort_item-returns-in-Value-clause-reorders : goal.sort_item-returns-in-Value-clause-reorders
unfolding out-Item out
sort_item-returns-in-Value-clause-reorders g t c =
    rw c.in-Value.is (item-entered IsPermutation _ c.in-Value.value c.sort_value.new.value c.in-Value.value-is
    c.sort_value.ensures.reorders)

pub sort_item-returns-in-Value-clause-sorted : goal.sort_item-returns-in-Value-clause-sorted
unfolding out-Item out
sort_item-returns-in-Value-clause-sorted g t c =
    rw c.in-Value.is (if_done c.sort_value.result c.sort_value.ensures.sorted
    (λ s lt by. item-entered (IsSortOf lt) _ c.in-Value.value c.sort_value.new.value c.in-Value.value-is (s lt by)))

-- ---- values

pub sort_value-returns-in-String : goal.sort_value-returns-in-String
sort_value-returns-in-String g t c =
    let other : is_dotted_inline (value_view c.args.value.now) ≡ false = ap (λ v. is_dotted_inline (value_view v)) c.in-String.is
    ∙ ap is_dotted_inline (view-String _) in
    record { reorders = passed is_dotted_inline IsPermutation _ other; sorted = λ lt by. passed is_dotted_inline (IsSortOf lt) _ other }

pub sort_value-returns-in-Integer : goal.sort_value-returns-in-Integer
sort_value-returns-in-Integer g t c =
    let other : is_dotted_inline (value_view c.args.value.now) ≡ false = ap (λ v. is_dotted_inline (value_view v)) c.in-Integer.is
    ∙ ap is_dotted_inline (view-Integer _) in
    record { reorders = passed is_dotted_inline IsPermutation _ other; sorted = λ lt by. passed is_dotted_inline (IsSortOf lt) _ other }

pub sort_value-returns-in-Float : goal.sort_value-returns-in-Float
sort_value-returns-in-Float g t c =
    let other : is_dotted_inline (value_view c.args.value.now) ≡ false = ap (λ v. is_dotted_inline (value_view v)) c.in-Float.is
    ∙ ap is_dotted_inline (view-Float _) in
    record { reorders = passed is_dotted_inline IsPermutation _ other; sorted = λ lt by. passed is_dotted_inline (IsSortOf lt) _ other }

pub sort_value-returns-in-Boolean : goal.sort_value-returns-in-Boolean
sort_value-returns-in-Boolean g t c =
    let other : is_dotted_inline (value_view c.args.value.now) ≡ false = ap (λ v. is_dotted_inline (value_view v)) c.in-Boolean.is
    ∙ ap is_dotted_inline (view-Boolean _) in
    record { reorders = passed is_dotted_inline IsPermutation _ other; sorted = λ lt by. passed is_dotted_inline (IsSortOf lt) _ other }

pub sort_value-returns-in-Datetime : goal.sort_value-returns-in-Datetime
sort_value-returns-in-Datetime g t c =
    let other : is_dotted_inline (value_view c.args.value.now) ≡ false = ap (λ v. is_dotted_inline (value_view v)) c.in-Datetime.is
    ∙ ap is_dotted_inline (view-Datetime _) in
    record { reorders = passed is_dotted_inline IsPermutation _ other; sorted = λ lt by. passed is_dotted_inline (IsSortOf lt) _ other }

pub sort_value-returns-in-Array : goal.sort_value-returns-in-Array
sort_value-returns-in-Array g t c =
    let other : is_dotted_inline (value_view c.args.value.now) ≡ false = ap (λ v. is_dotted_inline (value_view v)) c.in-Array.is
    ∙ ap is_dotted_inline (view-Array _) in
    record { reorders = passed is_dotted_inline IsPermutation _ other; sorted = λ lt by. passed is_dotted_inline (IsSortOf lt) _ other }

pub sort_value-returns-in-InlineTable-clause-reorders : goal.sort_value-returns-in-InlineTable-clause-reorders
unfolding out-Value out
sort_value-returns-in-InlineTable-clause-reorders g t c =
    rw c.in-InlineTable.is (value-entered IsPermutation _ c.in-InlineTable.table c.sort_inline.new.table c.in-InlineTable.table-is
    c.sort_inline.ensures.reorders)

pub sort_value-returns-in-InlineTable-clause-sorted : goal.sort_value-returns-in-InlineTable-clause-sorted
unfolding out-Value out
sort_value-returns-in-InlineTable-clause-sorted g t c =
    rw c.in-InlineTable.is (if_done c.sort_inline.result c.sort_inline.ensures.sorted
    (λ s lt by. value-entered (IsSortOf lt) _ c.in-InlineTable.table c.sort_inline.new.table c.in-InlineTable.table-is (s lt by)))

-- ---- inline tables

pub sort_inline-returns-then-is_dotted : goal.sort_inline-returns-then-is_dotted
sort_inline-returns-then-is_dotted g t c =
    let old = c.args.table.now in
    let dotted : (inline_fields old).is_dotted ≡ true = sym c.is_dotted.ensures ∙ c.if-is_dotted.true in
    record {
      reorders = inline-entered IsPermutation old c.sort_slots.new.slots dotted c.sort_slots.ensures.reorders;
      sorted = if_done c.sort_slots.result c.sort_slots.ensures.sorted
          (λ s lt by. inline-entered (IsSortOf lt) old c.sort_slots.new.slots dotted (s lt by));
    }

pub sort_inline-returns-else-is_dotted : goal.sort_inline-returns-else-is_dotted
sort_inline-returns-else-is_dotted g t c =
    let old = c.args.table.now in
    let other : (inline_fields old).is_dotted ≡ false = sym c.is_dotted.ensures ∙ c.if-is_dotted.false in
    record {
      reorders = passed is_dotted_inline IsPermutation (inline_node (inline_view old)) other;
      sorted =
          λ lt by. passed is_dotted_inline (IsSortOf lt) (inline_node (inline_view old)) other;
    }
