-- Each turn passes an element or a slot, or ends with its first misfit.
use Rattle.std.proofs.Common.{◌≡◌, rules, ℕ, true, false, List, ◌++◌, refl, sym, ◌∙◌, ap, subst}
use Rattle.std.specs.Prelude.{slice_get}
use Rattle.std.specs.Fmt.{decimal}
use Rattle.toml_edit_model.specs.Tree.{Slots}
use Rattle.toml_edit_laws.proofs.common.Tests.{true-false}
use Rattle.toml_edit_repr.specs.Modes.{mode_of}
use Rattle.toml_edit_slots.specs.declared.slots.Slot.{Slot}
use Rattle.toml_edit_tree.specs.declared.item.Item.{Item, the_lemmas}
use Rattle.toml_edit_tree.specs.View.{fields_view, item_view, items_view, slots_view, table_slots}
use Rattle.toml_edit_fits.specs.FitTests.{then_key}
use Rattle.toml_edit_fits.specs.Misfits.{element_misfits, elements_misfits, node_misfits, table_misfits, tables_misfits}
use Rattle.toml_edit_fits.specs.MisfitViews.{Reports}
use Rattle.toml_edit_fits.proofs.FirstLaws.{ended, first-after, passed, reports-like, turn-ended, turn-passed}
use Rattle.toml_edit_fits.proofs.table.+tables.Goals as goal

pub tables_fit-returns-then-not-node_fits : goal.tables_fit-returns-then-not-node_fits
tables_fit-returns-then-not-node_fits g t c =
    let mode = mode_of c.args.mode in
    let r = c.args.route in
    let all = λ (i : ℕ) (es : List (Slot Item)). tables_misfits mode r (slots_view es) in
    let end = c.node_fits.result in
    turn-ended all (λ s. node_misfits mode r s.key (item_view s.item)) (λ x. all) (λ i s. s.key.name) (λ i s es. refl)
    c.as_slice-entries.result.now c.slots.slot-index c.slot-item.result c.slots-test.true c.slot-item.is g.R.Report.tells true false end
    true _ _ _
    (c.slots.invariant ∙ ap (λ es. slice_get (all 0 es) 0) c.as_slice-entries.ensures.slots) (λ e. true-false end e c.if-not-node_fits.true)
    c.node_fits.ensures c.report_key.ensures

pub tables_fit-slots-preserved : goal.tables_fit-slots-preserved
tables_fit-slots-preserved g t c =
    let mode = mode_of c.args.mode in
    let r = c.args.route in
    let all = λ (i : ℕ) (es : List (Slot Item)). tables_misfits mode r (slots_view es) in
    let end = c.node_fits.result in
    let none = passed g.R.Report.tells true false end _ _ (λ e. true-false end c.if-not-node_fits.false e) c.node_fits.ensures in
    turn-passed all (λ s. node_misfits mode r s.key (item_view s.item)) (λ x. all) (λ i s. s.key.name) (λ i s es. refl)
    c.as_slice-entries.result.now c.slots.slot-index c.slot-item.result c.slots-test.true c.slot-item.is none.0 ∙ c.slots.invariant

pub elements_fit-returns-then-not-as_element_fits : goal.elements_fit-returns-then-not-as_element_fits
elements_fit-returns-then-not-as_element_fits g t c =
    let mode = mode_of c.args.mode in
    let r = c.args.route in
    let k = c.args.key.now in
    let all = λ (i : ℕ) (xs : List Item). elements_misfits mode r k i (items_view xs) in
    let end = c.as_element_fits.result in
    turn-ended all (λ x. element_misfits mode r k (item_view x)) (λ x. all) (λ i x. decimal i) (λ i x xs. refl)
    c.deref-item-items.result.now c.items.number c.item-item.result c.items-test.true c.item-item.is g.R.Report.tells true false end true _
    _ _
    (c.items.invariant ∙ ap (λ xs. slice_get (all 0 xs) 0) c.deref-item-items.ensures.value)
    (λ e. true-false end e c.if-not-as_element_fits.true) c.as_element_fits.ensures c.report_element.ensures

pub elements_fit-items-preserved : goal.elements_fit-items-preserved
elements_fit-items-preserved g t c =
    let mode = mode_of c.args.mode in
    let r = c.args.route in
    let k = c.args.key.now in
    let all = λ (i : ℕ) (xs : List Item). elements_misfits mode r k i (items_view xs) in
    let end = c.as_element_fits.result in
    let none = passed g.R.Report.tells true false end _ _ (λ e. true-false end c.if-not-as_element_fits.false e)
    c.as_element_fits.ensures in
    turn-passed all (λ x. element_misfits mode r k (item_view x)) (λ x. all) (λ i x. decimal i) (λ i x xs. refl)
    c.deref-item-items.result.now c.items.number c.item-item.result c.items-test.true c.item-item.is none.0 ∙ c.items.invariant

pub subtree_fits-returns-else-table_fits : goal.subtree_fits-returns-else-table_fits
subtree_fits-returns-else-table_fits g t c =
    let mode = mode_of c.args.mode in
    let k = c.args.key.now in
    let ss = table_slots c.args.table.now in
    let tells = g.R.Report.tells in
    let end = c.table_fits.result in
    let own = table_misfits mode c.args.route k c.args.is_element (fields_view c.args.table.now) ss in
    let inside = tables_misfits mode (then_key mode c.args.route k) ss in
    subst (λ b. Reports tells (own ++ inside) true false b c.table_fits.new.report) (sym c.if-table_fits.false)
    (ended tells true false end true false (λ e. true-false end e c.if-table_fits.false) own inside c.table_fits.new.report
    c.table_fits.ensures)

pub subtree_fits-returns-then-table_fits : goal.subtree_fits-returns-then-table_fits
subtree_fits-returns-then-table_fits g t c =
    let mode = mode_of c.args.mode in
    let k = c.args.key.now in
    let ss = table_slots c.args.table.now in
    let tells = g.R.Report.tells in
    let end = c.tables_fit.result in
    let slots : slots_view c.args.table.now.slots ≡ table_slots c.args.table.now = search (rules, the_lemmas) in
    let own = table_misfits mode c.args.route k c.args.is_element (fields_view c.args.table.now) ss in
    let inside = tables_misfits mode (then_key mode c.args.route k) ss in
    let none = (passed tells true false c.table_fits.result own _ (λ e. true-false c.table_fits.result c.if-table_fits.true e)
    c.table_fits.ensures).0 in
    let found = subst (λ r. Reports tells (tables_misfits mode r (slots_view c.args.table.now.slots)) true false end
    c.tables_fit.new.report) c.then_key.ensures c.tables_fit.ensures in
    let below = subst (λ (s : Slots). Reports tells (tables_misfits mode (then_key mode c.args.route k) s) true false end
    c.tables_fit.new.report) slots found in
    reports-like tells true false end inside (own ++ inside) _ (sym (first-after own inside none)) below
