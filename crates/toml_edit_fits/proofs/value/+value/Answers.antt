-- Each turn passes an element or a slot, or ends with its first misfit.
use Rattle.std.proofs.Common.{ℕ, true, false, List, refl, sym, subst, ◌∙◌, ap}
use Rattle.std.specs.Prelude.{slice_get}
use Rattle.std.specs.Fmt.{decimal}
use Rattle.toml_edit_model.specs.Mode.{Mode}
use Rattle.toml_edit_laws.proofs.common.Tests.{true-false}
use Rattle.toml_edit_repr.specs.Modes.{mode_of}
use Rattle.toml_edit_slots.specs.declared.slots.Slot.{Slot}
use Rattle.toml_edit_tree.specs.declared.item.Item.{Item}
use Rattle.toml_edit_tree.specs.declared.table.Table.{out-Table}
use Rattle.toml_edit_tree.specs.View.{item_view, items_view, slots_view, value_view}
use Rattle.toml_edit_fits.specs.declared.route.Route.{Route}
use Rattle.toml_edit_fits.specs.declared.value.Place.{Place}
use Rattle.toml_edit_fits.specs.LinePlaces.{place_misfits, slot_misfits}
use Rattle.toml_edit_fits.specs.FitTests.{then_key}
use Rattle.toml_edit_fits.specs.Misfits.{MisfitView, item_misfits, items_misfits, pair_misfits, value_misfits, within_misfits}
use Rattle.toml_edit_fits.specs.MisfitViews.{Reports}
use Rattle.toml_edit_fits.proofs.LinePlaceLaws.{slot-split, table-left, table-slot, value-slot}
use Rattle.toml_edit_fits.proofs.FirstLaws.{passed, turn-ended, turn-passed}
use Rattle.toml_edit_fits.proofs.value.+value.Goals as goal

-- what an item of an array has of its own, and a slot
abbrev of_item : Mode → ℕ → Item → List MisfitView
of_item mode room x = item_misfits mode (item_view x) (value_misfits mode room (item_view x))

abbrev of_slot : Mode → Place → Route → Slot Item → List MisfitView
of_slot mode p r s = slot_misfits mode p r s.key (item_view s.item)

pub items_fit-returns-then-not-item_fits : goal.items_fit-returns-then-not-item_fits
items_fit-returns-then-not-item_fits g t c =
    let all = λ (i : ℕ) (xs : List Item). items_misfits (mode_of c.args.mode) c.args.room i (items_view xs) in
    let end = c.item_fits.result in
    turn-ended all (of_item (mode_of c.args.mode) c.args.room) (λ x. all) (λ i x. decimal i) (λ i x xs. refl)
    c.deref-item-items.result.now c.items.number c.item-item.result c.items-test.true c.item-item.is g.R.Report.tells true false end true _
    _ _
    (c.items.invariant ∙ ap (λ xs. slice_get (all 0 xs) 0) c.deref-item-items.ensures.value) (λ e. true-false end e c.if-not-item_fits.true)
    c.item_fits.ensures c.report_element.ensures

pub items_fit-items-preserved : goal.items_fit-items-preserved
items_fit-items-preserved g t c =
    let all = λ (i : ℕ) (xs : List Item). items_misfits (mode_of c.args.mode) c.args.room i (items_view xs) in
    let end = c.item_fits.result in
    let none = passed g.R.Report.tells true false end _ _ (λ e. true-false end c.if-not-item_fits.false e) c.item_fits.ensures in
    turn-passed all (of_item (mode_of c.args.mode) c.args.room) (λ x. all) (λ i x. decimal i) (λ i x xs. refl)
    c.deref-item-items.result.now c.items.number c.item-item.result c.items-test.true c.item-item.is none.0 ∙ c.items.invariant

pub lines_fit-returns-then-not-slot_fits : goal.lines_fit-returns-then-not-slot_fits
lines_fit-returns-then-not-slot_fits g t c =
    let mode = mode_of c.args.mode in
    let p = c.args.place in
    let all = λ (i : ℕ) (es : List (Slot Item)). place_misfits mode p c.args.route (slots_view es) in
    let end = c.slot_fits.result in
    turn-ended all (of_slot mode p c.args.route) (λ x. all) (λ i s. s.key.name) (λ i s es. slot-split mode p c.args.route s es)
    c.as_slice-entries.result.now c.slots.slot-index c.slot-item.result c.slots-test.true c.slot-item.is g.R.Report.tells true false end
    true _ _ _
    (c.slots.invariant ∙ ap (λ es. slice_get (all 0 es) 0) c.as_slice-entries.ensures.slots) (λ e. true-false end e c.if-not-slot_fits.true)
    c.slot_fits.ensures c.report_key.ensures

pub lines_fit-slots-preserved : goal.lines_fit-slots-preserved
lines_fit-slots-preserved g t c =
    let mode = mode_of c.args.mode in
    let p = c.args.place in
    let all = λ (i : ℕ) (es : List (Slot Item)). place_misfits mode p c.args.route (slots_view es) in
    let end = c.slot_fits.result in
    let none = passed g.R.Report.tells true false end _ _ (λ e. true-false end c.if-not-slot_fits.false e) c.slot_fits.ensures in
    turn-passed all (of_slot mode p c.args.route) (λ x. all) (λ i s. s.key.name) (λ i s es. slot-split mode p c.args.route s es)
    c.as_slice-entries.result.now c.slots.slot-index c.slot-item.result c.slots-test.true c.slot-item.is none.0 ∙ c.slots.invariant

-- ---- a slot, by where it is

pub slot_fits-returns-in-Value : goal.slot_fits-returns-in-Value
slot_fits-returns-in-Value g t c =
    let mode = mode_of c.args.mode in
    let r = c.args.route in
    let k = c.args.key.now in
    let n = value_view c.in-Value.value in
    let end = c.pair_value_fits.result in
    let left = c.pair_value_fits.new.report in
    subst (λ ms. Reports g.R.Report.tells ms true false end left) (value-slot mode c.args.place r k c.args.item.now c.in-Value.value
    c.in-Value.is)
    (subst (λ room. Reports g.R.Report.tells (pair_misfits mode room r k n (value_misfits mode room n)
    (within_misfits mode room (then_key mode r k) n)) true false end left) c.room_in.ensures c.pair_value_fits.ensures)

pub slot_fits-returns-then-is_entered : goal.slot_fits-returns-then-is_entered
slot_fits-returns-then-is_entered g t c =
    let mode = mode_of c.args.mode in
    let p = c.args.place in
    let r = c.args.route in
    let k = c.args.key.now in
    let end = c.lines_fit.result in
    let left = c.lines_fit.new.report in
    subst (λ ms. Reports g.R.Report.tells ms true false end left) (table-slot mode p r k c.args.item.now c.in-Table.table c.in-Table.is
    (sym c.is_entered.ensures ∙ c.if-is_entered.true))
    (subst (λ q. Reports g.R.Report.tells (place_misfits mode p q (slots_view (out-Table c.in-Table.table).slots)) true false end left)
    c.then_key.ensures c.lines_fit.ensures)

pub slot_fits-returns-else-is_entered : goal.slot_fits-returns-else-is_entered
slot_fits-returns-else-is_entered g t c =
    subst (λ ms. Reports g.R.Report.tells ms true false true c.args.report.now)
    (table-left (mode_of c.args.mode) c.args.place c.args.route c.args.key.now c.args.item.now c.in-Table.table c.in-Table.is
    (sym c.is_entered.ensures ∙ c.if-is_entered.false)) refl
