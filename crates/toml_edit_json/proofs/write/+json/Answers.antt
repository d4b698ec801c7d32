-- The items and the slots, one after the other, are their texts.
use Rattle.std.proofs.Common.{◌<◌, ◌≤◌, false, [], ◌++◌, length, refl, sym, ap, ◌∙◌, arith}
use Rattle.json.specs.Print.{print_from}
use Rattle.toml_edit_io.proofs.Puts.{put_none, put_two}
use Rattle.toml_edit_tree.specs.View.{item_view, items_view, slots_view}
use Rattle.toml_edit_json.specs.Parts.{comma_after, items_text, pair_text, slots_text}
use Rattle.toml_edit_json.specs.Values.{json_text}
use Rattle.toml_edit_json.proofs.Turns.{gap_turn, item_turn, items_end, placeholder_turn, slot_turn, slots_end}
use Rattle.toml_edit_json.proofs.write.+json.Goals as goal
use Rattle.toml_edit_json.proofs.write.+json.Goals.{put_items-then-is_filled, put_items-else-is_filled, put_slots-then-is_filled, put_slots-else-is_filled}

pub put_items-items-init : goal.put_items-items-init
put_items-items-init g t c = ([], put_none _ _ refl, refl)

pub put_items-items-preserved : goal.put_items-items-preserved
put_items-items-preserved g t c =
    let (done, wrote, more) = c.items.invariant in
    let xs = c.deref-item-items.result.now in
    let i = c.items.item-index in
    let x = c.item-item.result in
    let below : i < length xs = omega arith in
    elim c.if-is_filled.branch [
      | put_items-then-is_filled w ↦
          rw (w.out-is, w.after_value-is) (
            done ++ (comma_after c.items.after_value ++ json_text (item_view x)),
            put_two _ _ _ _ _ _ wrote (put_two _ _ _ _ _ _ w.put_comma.ensures w.put_item.ensures refl) refl,
            item_turn c.items.after_value xs i x below c.item-item.is done _ more (sym c.is_filled.ensures ∙ w.if-is_filled.true),
          )
      | put_items-else-is_filled w ↦
          rw (w.out-is, w.after_value-is) (
            done,
            wrote,
            gap_turn c.items.after_value xs i x below c.item-item.is done _ more (sym c.is_filled.ensures ∙ w.if-is_filled.false),
          )
    ]

pub put_items-returns : goal.put_items-returns
put_items-returns g t c =
    let (done, wrote, more) = c.items.invariant in
    let xs = c.deref-item-items.result.now in
    let past : length xs ≤ c.items.item-index = omega arith in
    put_two _ _ _ _ _ _ wrote c.put.ensures
    (items_end c.items.after_value xs c.items.item-index past done _ more
    ∙ ap (λ ys. items_text false (items_view ys)) c.deref-item-items.ensures.value)

pub put_slots-slots-init : goal.put_slots-slots-init
put_slots-slots-init g t c = ([], put_none _ _ refl, refl)

pub put_slots-slots-preserved : goal.put_slots-slots-preserved
put_slots-slots-preserved g t c =
    let (done, wrote, more) = c.slots.invariant in
    let es = c.as_slice-entries.result.now in
    let i = c.slots.slot-index in
    let s = c.slot-item.result in
    let below : i < length es = omega arith in
    elim c.if-is_filled.branch [
      | put_slots-then-is_filled w ↦
          rw (w.out-is, w.after_value-is) (
            done ++ (comma_after c.slots.after_value ++ pair_text s.key (item_view s.item)),
            put_two _ _ _ _ _ _ wrote (put_two _ _ _ _ _ _ w.put_comma.ensures w.put_pair.ensures refl) refl,
            slot_turn c.slots.after_value es i s below c.slot-item.is done _ more (sym c.is_filled.ensures ∙ w.if-is_filled.true),
          )
      | put_slots-else-is_filled w ↦
          rw (w.out-is, w.after_value-is) (
            done,
            wrote,
            placeholder_turn c.slots.after_value es i s below c.slot-item.is done _ more (sym c.is_filled.ensures ∙ w.if-is_filled.false),
          )
    ]

pub put_slots-returns : goal.put_slots-returns
put_slots-returns g t c =
    let (done, wrote, more) = c.slots.invariant in
    let es = c.as_slice-entries.result.now in
    let past : length es ≤ c.slots.slot-index = omega arith in
    put_two _ _ _ _ _ _ wrote c.put.ensures
    (slots_end c.slots.after_value es c.slots.slot-index past done _ more
    ∙ ap (λ ys. slots_text false (slots_view ys)) c.as_slice-entries.ensures.slots)

pub put_array-returns : goal.put_array-returns
unfolding print_from
put_array-returns g t c = put_two _ _ _ _ _ _ c.put.ensures c.put_items.ensures refl

pub put_object-returns : goal.put_object-returns
unfolding print_from
put_object-returns g t c = put_two _ _ _ _ _ _ c.put.ensures c.put_slots.ensures refl
