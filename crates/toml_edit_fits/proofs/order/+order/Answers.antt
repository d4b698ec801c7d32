-- Each turn passes an element or a slot with its marks, or ends at a header that is not in order.
use Rattle.std.proofs.Common.{◌≡◌, rules, true, false, List, refl, sym, ◌∙◌, ap, subst, ℕ, None, Some}
use Rattle.std.specs.Prelude.{slice_get}
use Rattle.std.specs.Fmt.{decimal}
use Rattle.toml_edit_model.specs.Tree.{Node, table, Slots}
use Rattle.toml_edit_slots.specs.declared.slots.Slot.{Slot}
use Rattle.toml_edit_tree.specs.declared.item.Item.{Item, the_lemmas}
use Rattle.toml_edit_tree.specs.declared.item.Item.TheVariants as items
use Rattle.toml_edit_tree.specs.View.{fields_view, item_view, items_view, slots_view, table_slots}
use Rattle.toml_edit_fits.specs.EarlyTests.{early_item, early_items, early_node, early_slots, low_in, past_item, past_items, past_node}
use Rattle.toml_edit_fits.specs.EarlyTests.{past_slots}
use Rattle.toml_edit_fits.specs.MisfitViews.{Reports}
use Rattle.toml_edit_fits.proofs.FirstLaws.{turn-ended, walk-passed}
use Rattle.toml_edit_fits.proofs.MisfitLaws.{entered-on}
use Rattle.toml_edit_fits.proofs.order.+order.Goals as goal

pub order_slots-returns-in-None : goal.order_slots-returns-in-None
order_slots-returns-in-None g t c =
    let low = c.args.low in
    let w = c.slots.last in
    let here = rw c.in-None.is at c.order_node.ensures in
    turn-ended (λ (i : ℕ) (es : List (Slot Item)). early_slots low w (slots_view es)) (λ s. early_node low w (item_view s.item))
    (λ s i es. early_slots low (past_node w (item_view s.item)) (slots_view es))
    (λ i s. s.key.name) (λ i s es. refl)
    c.as_slice-entries.result.now c.slots.slot-index c.slot-item.result c.slots-test.true c.slot-item.is g.R.Report.tells _ None None _ _ _
    _
    (c.slots.invariant.first ∙ ap (λ es. slice_get (early_slots low c.args.marks (slots_view es)) 0) c.as_slice-entries.ensures.slots)
    (λ e. absurd cc) here c.report_key.ensures

pub order_slots-slots-preserved : goal.order_slots-slots-preserved
order_slots-slots-preserved g t c =
    let low = c.args.low in
    let w = c.slots.last in
    let here = rw c.in-Some.is at c.order_node.ensures in
    let next = walk-passed (λ w (i : ℕ) (es : List (Slot Item)). early_slots low w (slots_view es)) (λ w es. past_slots w (slots_view es))
    (λ s. early_node low w (item_view s.item)) (λ s. past_node w (item_view s.item))
    (λ i s. s.key.name) w c.in-Some.marks (λ i s es. refl) (λ s es. refl)
    c.as_slice-entries.result.now c.slots.slot-index c.slot-item.result c.slots-test.true c.slot-item.is g.R.Report.tells _ here in
    record { first = next.0 ∙ c.slots.invariant.first; end = next.1 ∙ c.slots.invariant.end }

pub order_items-returns-in-None : goal.order_items-returns-in-None
order_items-returns-in-None g t c =
    let low = c.args.low in
    let w = c.items.last in
    let here = rw c.in-None.is at c.order_item.ensures in
    turn-ended (λ i (xs : List Item). early_items low w i (items_view xs)) (λ x. early_item low w (item_view x))
    (λ x i xs. early_items low (past_item w (item_view x)) i (items_view xs))
    (λ i x. decimal i) (λ i x xs. refl)
    c.deref-item-items.result.now c.items.number c.item-item.result c.items-test.true c.item-item.is g.R.Report.tells _ None None _ _ _ _
    (c.items.invariant.first ∙ ap (λ xs. slice_get (early_items low c.args.marks 0 (items_view xs)) 0) c.deref-item-items.ensures.value)
    (λ e. absurd cc) here c.report_element.ensures

pub order_items-items-preserved : goal.order_items-items-preserved
order_items-items-preserved g t c =
    let low = c.args.low in
    let w = c.items.last in
    let here = rw c.in-Some.is at c.order_item.ensures in
    let next = walk-passed (λ w i (xs : List Item). early_items low w i (items_view xs)) (λ w xs. past_items w (items_view xs))
    (λ x. early_item low w (item_view x)) (λ x. past_item w (item_view x))
    (λ i x. decimal i) w c.in-Some.marks (λ i x xs. refl) (λ x xs. refl)
    c.deref-item-items.result.now c.items.number c.item-item.result c.items-test.true c.item-item.is g.R.Report.tells _ here in
    record { first = next.0 ∙ c.items.invariant.first; end = next.1 ∙ c.items.invariant.end }

pub order_item-returns-in-Some : goal.order_item-returns-in-Some
order_item-returns-in-Some g t c =
    let tells = g.R.Report.tells in
    let low = c.args.low in
    let m = c.args.marks in
    let v = c.in-Some.entered in
    let f = fields_view c.in-Table.table in
    let ss = table_slots c.in-Table.table in
    let slots : slots_view c.in-Table.table.slots ≡ table_slots c.in-Table.table = search (rules, the_lemmas) in
    let seen : item_view (items.Table c.in-Table.table) ≡ table (fields_view c.in-Table.table) (table_slots c.in-Table.table) =
    search (rules, the_lemmas) in
    let below = subst (λ (s : Slots). Reports tells (early_slots c.low_in.result v s) (Some (past_slots v s)) None c.order_slots.result
    c.order_slots.new.report) slots c.order_slots.ensures in
    let here = subst (λ l. Reports tells (early_slots l v ss) (Some (past_slots v ss)) None c.order_slots.result c.order_slots.new.report)
    c.low_in.ensures below in
    subst (λ (n : Node). Reports tells (early_item low m n) (Some (past_item m n)) None c.order_slots.result c.order_slots.new.report)
    (sym (ap item_view c.in-Table.is ∙ seen))
    (entered-on tells true low (low_in low m f) m v f ss c.order_slots.result c.order_slots.new.report (rw c.in-Some.is at c.enter.ensures)
    here)

pub order_node-returns-in-Some : goal.order_node-returns-in-Some
order_node-returns-in-Some g t c =
    let tells = g.R.Report.tells in
    let low = c.args.low in
    let m = c.args.marks in
    let v = c.in-Some.entered in
    let f = fields_view c.in-Table.table in
    let ss = table_slots c.in-Table.table in
    let slots : slots_view c.in-Table.table.slots ≡ table_slots c.in-Table.table = search (rules, the_lemmas) in
    let seen : item_view (items.Table c.in-Table.table) ≡ table (fields_view c.in-Table.table) (table_slots c.in-Table.table) =
    search (rules, the_lemmas) in
    let here = subst (λ (s : Slots). Reports tells (early_slots low v s) (Some (past_slots v s)) None c.order_slots.result
    c.order_slots.new.report) slots c.order_slots.ensures in
    subst (λ (n : Node). Reports tells (early_node low m n) (Some (past_node m n)) None c.order_slots.result c.order_slots.new.report)
    (sym (ap item_view c.in-Table.is ∙ seen))
    (entered-on tells false low low m v f ss c.order_slots.result c.order_slots.new.report (rw c.in-Some.is at c.enter.ensures) here)
