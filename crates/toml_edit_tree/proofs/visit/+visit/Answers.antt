-- Each turn visits the lines of a slot.
use Rattle.std.proofs.Common.{◌+◌, ◌<◌, ◌≤◌, drop, refl, sym, Bool, true, false, List, [], ◌∷◌, ◌++◌, length, ap, ◌∙◌, inl, inr, arith}
use Rattle.std.specs.Prelude.{◌≡◌, ◌||◌}
use Rattle.toml_edit_slots.specs.declared.slots.Slot.{Slot}
use Rattle.toml_edit_tree.specs.Printing.{keys_on}
use Rattle.toml_edit_tree.specs.View.{item_view, slots_view}
use Rattle.toml_edit_tree.specs.Visits.{visits_none, shown_item, shown_lines}
use Rattle.toml_edit_tree.specs.declared.item.Item.{Item}
use Rattle.toml_edit_tree.proofs.LineValueLaws.{braced-shown, dotted-shown, nothing-shown, other-shown, shown-end, shown-turn, table-left-out}
use Rattle.toml_edit_tree.proofs.LineValueLaws.{table-shown, tables-shown, value-shown}
use Rattle.toml_edit_tree.proofs.VisitLaws.{visits-append, visits-ended, visits-goes, visits-one, visits-same}
use Rattle.toml_edit_tree.proofs.visit.+visit.Goals as goal
use Rattle.toml_edit_tree.proofs.visit.+visit.Goals.{visit_item-then-is_inside, visit_item-else-is_inside}

pub visit_slots-slots-init : goal.visit_slots-slots-init
visit_slots-slots-init g t c = ([], visits_none, refl)

pub visit_slots-slots-preserved : goal.visit_slots-slots-preserved
visit_slots-slots-preserved g t c =
    let (done, seen, more) = c.slots.invariant in
    let es = c.as_slice-entries.result.now in
    let i = c.slots.slot-index in
    let s = c.slot-item.result in
    let ks = keys_on c.args.path.now in
    let below : i < length es = omega arith in (
      done ++ shown_item c.args.is_inside (item_view s.item) (ks ++ (s.key ∷ [])),
      visits-append seen (visits-goes c.visit_item.ensures c.if-not-visit_item.false),
      shown-turn c.args.is_inside es i ks s below c.slot-item.is done _ more,
    )

pub visit_slots-returns-then-not-visit_item : goal.visit_slots-returns-then-not-visit_item
visit_slots-returns-then-not-visit_item g t c =
    let (done, seen, more) = c.slots.invariant in
    let es = c.as_slice-entries.result.now in
    let i = c.slots.slot-index in
    let s = c.slot-item.result in
    let ks = keys_on c.args.path.now in
    let below : i < length es = omega arith in
    visits-same _ _ (visits-ended (shown_lines c.args.is_inside (slots_view (drop (i + 1) es)) ks)
    (visits-append seen (visits-goes c.visit_item.ensures c.if-not-visit_item.true)))
    (shown-turn c.args.is_inside es i ks s below c.slot-item.is done _ more
    ∙ ap (λ (fs : List (Slot Item)). shown_lines c.args.is_inside (slots_view fs) ks) c.as_slice-entries.ensures.slots)

pub visit_slots-returns : goal.visit_slots-returns
visit_slots-returns g t c =
    let (done, seen, more) = c.slots.invariant in
    let es = c.as_slice-entries.result.now in
    let ks = keys_on c.args.path.now in
    let past : length es ≤ c.slots.slot-index = omega arith in
    visits-same _ _ seen
    (shown-end c.args.is_inside es c.slots.slot-index ks past done _ more
    ∙ ap (λ (fs : List (Slot Item)). shown_lines c.args.is_inside (slots_view fs) ks) c.as_slice-entries.ensures.slots)

pub visit_item-returns-in-Value : goal.visit_item-returns-in-Value
visit_item-returns-in-Value g t c =
    visits-same _ _ c.visit_value.ensures
    (value-shown c.args.is_inside c.args.item.now c.in-Value.value (keys_on c.args.path.now ++ (c.args.key.now ∷ [])) c.in-Value.is)

pub visit_item-returns-then-table : goal.visit_item-returns-then-table
visit_item-returns-then-table g t c =
    let enters : c.args.is_inside || c.in-Table.table.dotted ≡ true =
    elim c.if-is_inside.branch [
      | visit_item-then-is_inside w ↦ ap (λ (b : Bool). b || c.in-Table.table.dotted) w.if-is_inside.true
      | visit_item-else-is_inside w ↦
          ap (λ (b : Bool). b || c.in-Table.table.dotted) w.if-is_inside.false ∙ sym w.value-is ∙ c.if-table.true
    ] in
    visits-same _ _ c.visit_slots.ensures
    (table-shown c.args.is_inside c.args.item.now c.in-Table.table (keys_on c.args.path.now ++ (c.args.key.now ∷ [])) c.in-Table.is enters)

pub visit_item-returns-else-table : goal.visit_item-returns-else-table
visit_item-returns-else-table g t c =
    let left = λ (outside : c.args.is_inside ≡ false) (dotted : c.in-Table.table.dotted ≡ false).
    table-left-out c.args.is_inside c.args.item.now c.in-Table.table (keys_on c.args.path.now ++ (c.args.key.now ∷ [])) c.in-Table.is
    outside dotted in
    visits-same _ _ visits_none
    (elim c.if-is_inside.branch [
      | visit_item-then-is_inside w ↦ absurd (let e : true ≡ false = sym w.if-is_inside.true ∙ sym w.value-is ∙ c.if-table.false in cc)
      | visit_item-else-is_inside w ↦ left w.if-is_inside.false (sym w.value-is ∙ c.if-table.false)
    ])

pub visit_item-returns-in-None : goal.visit_item-returns-in-None
visit_item-returns-in-None g t c =
    let ks = keys_on c.args.path.now ++ (c.args.key.now ∷ []) in
    visits-same _ _ visits_none
    (elim c.in-None.is [
      | inl e ↦ nothing-shown c.args.is_inside c.args.item.now ks e
      | inr p ↦ tables-shown c.args.is_inside c.args.item.now p.0 ks p.1
    ])

pub visit_item-returns-in-None-2 : goal.visit_item-returns-in-None-2
visit_item-returns-in-None-2 g t c =
    let ks = keys_on c.args.path.now ++ (c.args.key.now ∷ []) in
    visits-same _ _ visits_none
    (elim c.in-None.is [
      | inl e ↦ nothing-shown c.args.is_inside c.args.item.now ks e
      | inr p ↦ tables-shown c.args.is_inside c.args.item.now p.0 ks p.1
    ])

pub visit_value-returns-then-table : goal.visit_value-returns-then-table
visit_value-returns-then-table g t c =
    visits-same _ _ c.visit_slots.ensures
    (dotted-shown c.args.value.now c.in-InlineTable.table (keys_on c.args.path.now ++ (c.args.key.now ∷ [])) c.in-InlineTable.is
    c.if-table.true)

pub visit_value-returns-else-table : goal.visit_value-returns-else-table
visit_value-returns-else-table g t c =
    visits-same _ _ (visits-one _ c.visit.result c.visit.ensures)
    (braced-shown c.args.value.now c.in-InlineTable.table (keys_on c.args.path.now ++ (c.args.key.now ∷ [])) c.in-InlineTable.is
    c.if-table.false)

pub visit_value-returns-in_default : goal.visit_value-returns-in_default
visit_value-returns-in_default g t c =
    visits-same _ _ (visits-one _ c.visit-in_default.result c.visit-in_default.ensures)
    (other-shown c.args.value.now (keys_on c.args.path.now ++ (c.args.key.now ∷ [])) c.in_default.not-InlineTable)
