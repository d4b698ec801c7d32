-- Each turn adds the lines of a slot.
use Rattle.std.proofs.Common.{◌≡◌, ◌<◌, ◌+◌, Bool, true, false, drop, append-nil, subst, sym, List, ◌∷◌, [], ◌++◌, length, ap, ◌∙◌, arith}
use Rattle.std.specs.Prelude.{OnOk, ◌||◌}
use Rattle.toml_edit_tree.specs.LineValues.{values_read}
use Rattle.toml_edit_tree.specs.Printing.{keys_on}
use Rattle.toml_edit_tree.specs.View.{slots_view}
use Rattle.toml_edit_tree.specs.Visits.{shown_lines}
use Rattle.toml_edit_tree.proofs.LineValueLaws.{Shown, braced-shown, dotted-shown, other-shown, shown-turn, table-left-out, table-shown}
use Rattle.toml_edit_tree.proofs.LineValueLaws.{value-shown}
use Rattle.toml_edit_tree.proofs.lines.+values.Goals as goal
use Rattle.toml_edit_tree.proofs.lines.+values.Goals.{add_item_lines-then-is_inside, add_item_lines-else-is_inside}

pub add_lines-slots-preserved : goal.add_lines-slots-preserved
add_lines-slots-preserved t c =
    let es = c.as_slice-entries.result.now in
    let i = c.slots.slot-index in
    let ks = keys_on c.args.path.now in
    let below : i < length es = omega arith in
    ap (λ (l : List Shown). l ++ shown_lines c.args.is_inside (slots_view (drop (i + 1) es)) ks) c.in_ok-add_item_lines.ensures
    ∙ shown-turn c.args.is_inside es i ks c.slot-item.result below c.slot-item.is (values_read c.slots.lines.items) _ c.slots.invariant

pub add_item_lines-returns-in-Value : goal.add_item_lines-returns-in-Value
add_item_lines-returns-in-Value t c =
    subst (λ (l : List Shown). OnOk c.add_value_lines.result (values_read c.add_value_lines.new.lines.items
    ≡ values_read c.args.lines.now.items ++ l))
    (value-shown c.args.is_inside c.args.item.now c.in-Value.value (keys_on c.args.path.now ++ (c.args.key.now ∷ [])) c.in-Value.is)
    c.add_value_lines.ensures

pub add_item_lines-returns-then-table : goal.add_item_lines-returns-then-table
add_item_lines-returns-then-table t c =
    let enters : c.args.is_inside || c.in-Table.table.dotted ≡ true =
    elim c.if-is_inside.branch [
      | add_item_lines-then-is_inside w ↦ ap (λ (b : Bool). b || c.in-Table.table.dotted) w.if-is_inside.true
      | add_item_lines-else-is_inside w ↦
          ap (λ (b : Bool). b || c.in-Table.table.dotted) w.if-is_inside.false ∙ sym w.value-is ∙ c.if-table.true
    ] in
    subst (λ (l : List Shown). OnOk c.add_lines.result (values_read c.add_lines.new.lines.items
    ≡ values_read c.args.lines.now.items ++ l))
    (table-shown c.args.is_inside c.args.item.now c.in-Table.table (keys_on c.args.path.now ++ (c.args.key.now ∷ [])) c.in-Table.is enters)
    c.add_lines.ensures

pub add_item_lines-returns-else-table : goal.add_item_lines-returns-else-table
add_item_lines-returns-else-table t c =
    let left = λ (outside : c.args.is_inside ≡ false) (dotted : c.in-Table.table.dotted ≡ false).
    table-left-out c.args.is_inside c.args.item.now c.in-Table.table (keys_on c.args.path.now ++ (c.args.key.now ∷ [])) c.in-Table.is
    outside dotted in
    sym (append-nil (values_read c.args.lines.now.items))
    ∙ ap (λ (l : List Shown). values_read c.args.lines.now.items ++ l)
    (elim c.if-is_inside.branch [
      | add_item_lines-then-is_inside w ↦ absurd (let e : true ≡ false = sym w.if-is_inside.true ∙ sym w.value-is ∙ c.if-table.false in cc)
      | add_item_lines-else-is_inside w ↦ left w.if-is_inside.false (sym w.value-is ∙ c.if-table.false)
    ])

pub add_value_lines-returns-then-table : goal.add_value_lines-returns-then-table
add_value_lines-returns-then-table t c =
    subst (λ (l : List Shown). OnOk c.add_lines.result (values_read c.add_lines.new.lines.items
    ≡ values_read c.args.lines.now.items ++ l))
    (dotted-shown c.args.value.now c.in-InlineTable.table (keys_on c.args.path.now ++ (c.args.key.now ∷ [])) c.in-InlineTable.is
    c.if-table.true) c.add_lines.ensures

pub add_value_lines-returns-else-table : goal.add_value_lines-returns-else-table
add_value_lines-returns-else-table t c =
    subst (λ (l : List Shown). OnOk c.add_line.result (values_read c.add_line.new.lines.items
    ≡ values_read c.args.lines.now.items ++ l))
    (braced-shown c.args.value.now c.in-InlineTable.table (keys_on c.args.path.now ++ (c.args.key.now ∷ [])) c.in-InlineTable.is
    c.if-table.false) c.add_line.ensures

pub add_value_lines-returns-in_default : goal.add_value_lines-returns-in_default
add_value_lines-returns-in_default t c =
    subst (λ (l : List Shown). OnOk c.add_line-in_default.result (values_read c.add_line-in_default.new.lines.items
    ≡ values_read c.args.lines.now.items ++ l))
    (other-shown c.args.value.now (keys_on c.args.path.now ++ (c.args.key.now ∷ [])) c.in_default.not-InlineTable)
    c.add_line-in_default.ensures
