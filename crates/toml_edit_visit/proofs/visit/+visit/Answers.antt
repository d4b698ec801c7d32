-- Each turn visits the items of a slot or an element.
use Rattle.std.proofs.Common.{◌+◌, ◌≤◌, drop, refl, sym, Bool, List, [], ◌∷◌, ◌++◌, length, ap, ◌∙◌, arith}
use Rattle.std.specs.Prelude.{if◌then◌else◌}
use Rattle.toml_edit_model.specs.Shown.{is_table_node}
use Rattle.toml_edit_model.specs.Tree.{is_value_node}
use Rattle.toml_edit_slots.specs.declared.slots.Slot.{Slot}
use Rattle.toml_edit_tree.specs.declared.item.Item.{Item}
use Rattle.toml_edit_tree.specs.View.{item_view, items_view, slots_view}
use Rattle.toml_edit_tree.specs.Visits.{visits_none}
use Rattle.toml_edit_visit.specs.Below.{element, found, from_elements, from_slots, items_below, key}
use Rattle.toml_edit_visit.specs.Steps.{steps_on}
use Rattle.toml_edit_visit.proofs.BelowLaws.{below-Array, below-ArrayOfTables, below-InlineTable, below-None, below-Table, below-Value}
use Rattle.toml_edit_visit.proofs.BelowLaws.{below-scalar, element-split, of_element, of_slot}
use Rattle.toml_edit_visit.proofs.WalkLaws.{turn, turns-end, visits-append, visits-ended, visits-goes, visits-one, visits-same}
use Rattle.toml_edit_visit.proofs.visit.+visit.Goals as goal

pub visit_slots-slots-init : goal.visit_slots-slots-init
visit_slots-slots-init g t c = ([], visits_none, refl)

pub visit_slots-slots-preserved : goal.visit_slots-slots-preserved
visit_slots-slots-preserved g t c =
    let (done, seen, more) = c.slots.invariant in
    let es = c.as_slice-entries.result.now in
    let p = steps_on c.args.path.now in
    let s = c.slot-item.result in
    let own = visits-same _ _ (visits-goes c.visit_if.ensures c.if-not-visit_if.false)
    (ap (λ (b : Bool). found b (p ++ (key s.key ∷ [])) (item_view s.item)) c.is_filled.ensures) in (
      done ++ of_slot p s,
      visits-append seen own,
      turn (λ i fs. from_slots p (slots_view fs)) (λ i. of_slot p) (λ i. refl) (λ i x xs. refl) es c.slots.slot-index s (omega arith)
          c.slot-item.is done _ more,
    )

pub visit_slots-returns-then-not-visit_if : goal.visit_slots-returns-then-not-visit_if
visit_slots-returns-then-not-visit_if g t c =
    let (done, seen, more) = c.slots.invariant in
    let es = c.as_slice-entries.result.now in
    let p = steps_on c.args.path.now in
    let i = c.slots.slot-index in
    let s = c.slot-item.result in
    let own = visits-same _ _ (visits-goes c.visit_if.ensures c.if-not-visit_if.true)
    (ap (λ (b : Bool). found b (p ++ (key s.key ∷ [])) (item_view s.item)) c.is_filled.ensures) in
    visits-same _ _ (visits-ended (from_slots p (slots_view (drop (i + 1) es))) (visits-append seen own))
    (turn (λ j fs. from_slots p (slots_view fs)) (λ j. of_slot p) (λ j. refl) (λ j x xs. refl) es i s (omega arith) c.slot-item.is done _
    more
    ∙ ap (λ (fs : List (Slot Item)). from_slots p (slots_view fs)) c.as_slice-entries.ensures.slots)

pub visit_slots-returns : goal.visit_slots-returns
visit_slots-returns g t c =
    let (done, seen, more) = c.slots.invariant in
    let es = c.as_slice-entries.result.now in
    let p = steps_on c.args.path.now in
    let past : length es ≤ c.slots.slot-index = omega arith in
    visits-same _ _ seen
    (turns-end (λ j fs. from_slots p (slots_view fs)) (λ j. of_slot p) (λ j. refl) (λ j x xs. refl) es c.slots.slot-index past done _ more
    ∙ ap (λ (fs : List (Slot Item)). from_slots p (slots_view fs)) c.as_slice-entries.ensures.slots)

pub visit_elements-items-init : goal.visit_elements-items-init
visit_elements-items-init g t c = ([], visits_none, refl)

pub visit_elements-items-preserved : goal.visit_elements-items-preserved
visit_elements-items-preserved g t c =
    let (done, seen, more) = c.items.invariant in
    let xs = c.deref-item-items.result.now in
    let p = steps_on c.args.path.now in
    let is = if c.args.values then is_value_node else is_table_node in
    let i = c.items.place in
    let x = c.item-item.result in
    let own = visits-same _ _ (visits-goes c.visit_if.ensures c.if-not-visit_if.false)
    (ap (λ (b : Bool). found b (p ++ (element i ∷ [])) (item_view x)) c.is_of_kind.ensures) in (
      done ++ of_element p is i x,
      visits-append seen own,
      turn (λ j ys. from_elements is p j (items_view ys)) (of_element p is) (λ j. refl) (element-split p is) xs i x (omega arith)
          c.item-item.is done _ more,
    )

pub visit_elements-returns-then-not-visit_if : goal.visit_elements-returns-then-not-visit_if
visit_elements-returns-then-not-visit_if g t c =
    let (done, seen, more) = c.items.invariant in
    let xs = c.deref-item-items.result.now in
    let p = steps_on c.args.path.now in
    let is = if c.args.values then is_value_node else is_table_node in
    let i = c.items.place in
    let x = c.item-item.result in
    let own = visits-same _ _ (visits-goes c.visit_if.ensures c.if-not-visit_if.true)
    (ap (λ (b : Bool). found b (p ++ (element i ∷ [])) (item_view x)) c.is_of_kind.ensures) in
    visits-same _ _ (visits-ended (from_elements is p (i + 1) (items_view (drop (i + 1) xs))) (visits-append seen own))
    (turn (λ j ys. from_elements is p j (items_view ys)) (of_element p is) (λ j. refl) (element-split p is) xs i x (omega arith)
    c.item-item.is done _ more
    ∙ ap (λ (ys : List Item). from_elements is p 0 (items_view ys)) c.deref-item-items.ensures.value)

pub visit_elements-returns : goal.visit_elements-returns
visit_elements-returns g t c =
    let (done, seen, more) = c.items.invariant in
    let xs = c.deref-item-items.result.now in
    let p = steps_on c.args.path.now in
    let is = if c.args.values then is_value_node else is_table_node in
    let past : length xs ≤ c.items.place = omega arith in
    visits-same _ _ seen
    (turns-end (λ j ys. from_elements is p j (items_view ys)) (of_element p is) (λ j. refl) (element-split p is) xs c.items.place past done _
    more
    ∙ ap (λ (ys : List Item). from_elements is p 0 (items_view ys)) c.deref-item-items.ensures.value)

pub visit_if-returns-then-not-shown : goal.visit_if-returns-then-not-shown
visit_if-returns-then-not-shown g t c =
    visits-same _ _ visits_none
    (sym (ap (λ (b : Bool). found b (steps_on c.args.path.now) (item_view c.args.item.now)) c.if-not-shown.true))

pub visit_if-returns-then-not-visit : goal.visit_if-returns-then-not-visit
visit_if-returns-then-not-visit g t c =
    visits-same _ _
    (visits-ended (items_below (steps_on c.args.path.now) (item_view c.args.item.now))
    (visits-goes (visits-one _ c.visit.result c.visit.ensures) c.if-not-visit.true))
    (sym (ap (λ (b : Bool). found b (steps_on c.args.path.now) (item_view c.args.item.now)) c.if-not-shown.false))

pub visit_if-returns : goal.visit_if-returns
visit_if-returns g t c =
    visits-same _ _
    (visits-append (visits-goes (visits-one _ c.visit.result c.visit.ensures) c.if-not-visit.false) c.visit_below.ensures)
    (sym (ap (λ (b : Bool). found b (steps_on c.args.path.now) (item_view c.args.item.now)) c.if-not-shown.false))

pub visit_below-returns-in-None : goal.visit_below-returns-in-None
visit_below-returns-in-None g t c =
    visits-same _ _ visits_none (below-None (steps_on c.args.path.now) c.args.item.now c.in-None.is)

pub visit_below-returns-in-Value : goal.visit_below-returns-in-Value
visit_below-returns-in-Value g t c =
    visits-same _ _ c.visit_in_value.ensures (below-Value (steps_on c.args.path.now) c.args.item.now c.in-Value.value c.in-Value.is)

pub visit_below-returns-in-Table : goal.visit_below-returns-in-Table
visit_below-returns-in-Table g t c =
    visits-same _ _ c.visit_slots.ensures (below-Table (steps_on c.args.path.now) c.args.item.now c.in-Table.table c.in-Table.is)

pub visit_below-returns-in-ArrayOfTables : goal.visit_below-returns-in-ArrayOfTables
visit_below-returns-in-ArrayOfTables g t c =
    visits-same _ _ c.visit_elements.ensures
    (below-ArrayOfTables (steps_on c.args.path.now) c.args.item.now c.in-ArrayOfTables.tables c.in-ArrayOfTables.is)

pub visit_in_value-returns-in-Array : goal.visit_in_value-returns-in-Array
visit_in_value-returns-in-Array g t c =
    visits-same _ _ c.visit_elements.ensures (below-Array (steps_on c.args.path.now) c.args.value.now c.in-Array.array c.in-Array.is)

pub visit_in_value-returns-in-InlineTable : goal.visit_in_value-returns-in-InlineTable
visit_in_value-returns-in-InlineTable g t c =
    visits-same _ _ c.visit_slots.ensures
    (below-InlineTable (steps_on c.args.path.now) c.args.value.now c.in-InlineTable.table c.in-InlineTable.is)

pub visit_in_value-returns-in_default : goal.visit_in_value-returns-in_default
visit_in_value-returns-in_default g t c =
    visits-same _ _ visits_none
    (below-scalar (steps_on c.args.path.now) c.args.value.now c.in_default.not-Array c.in_default.not-InlineTable)
