-- One more item is there, and what is below it.
use Rattle.std.proofs.Common.{◌<◌, ◌≤◌, ◌∙◌, length, subst, sym, arith}
use Rattle.toml_edit_index.proofs.IndexLaws.{adds_item, element_turn, elements_end, gap_turn, slot_turn, slots_end}
use Rattle.toml_edit_index.specs.Indexed.{entries_of_elements, entries_of_slots}
use Rattle.toml_edit_index.specs.IndexSteps.{Adds}
use Rattle.toml_edit_tree.specs.View.{items_view, slots_view}
use Rattle.toml_edit_index.proofs.found.+index.Goals as goal
use Rattle.toml_edit_index.proofs.found.+index.Goals.{put_slots-then-is_filled+in_ok-put_item, put_slots-else-is_filled}

pub put_slots-slots-preserved : goal.put_slots-slots-preserved
put_slots-slots-preserved t c =
    let es = c.as_slice-entries.result.now in
    let i = c.slots.slot-index in
    let s = c.slot-item.result in
    let parent = c.args.parent in
    let below : i < length es = omega arith in
    elim c.if-is_filled.branch [
      | put_slots-then-is_filled+in_ok-put_item w ↦
          rw w.index-is (record {
            lines = w.in_ok-put_item.ensures.lines ∙ c.slots.invariant.lines;
            rest = λ final more. c.slots.invariant.rest final
                (slot_turn parent es i s below c.slot-item.is (sym c.is_filled.ensures ∙ w.if-is_filled.true) c.slots.index _ final w.in_ok-put_item.ensures more);
          })
      | put_slots-else-is_filled w ↦
          rw w.index-is (record {
            lines = c.slots.invariant.lines;
            rest = λ final more. c.slots.invariant.rest final
                (gap_turn parent es i s below c.slot-item.is (sym c.is_filled.ensures ∙ w.if-is_filled.false) c.slots.index final more);
          })
    ]

pub put_elements-items-preserved : goal.put_elements-items-preserved
put_elements-items-preserved t c =
    let xs = c.deref-item-items.result.now in
    let i = c.items.item-index in
    let below : i < length xs = omega arith in
    record {
      lines = c.in_ok-put_item.ensures.lines ∙ c.items.invariant.lines;
      rest = λ final more. c.items.invariant.rest final
          (element_turn c.args.parent xs i c.item-item.result below c.item-item.is c.items.index _ final c.in_ok-put_item.ensures more);
    }

pub put_slots-returns : goal.put_slots-returns
put_slots-returns t c =
    let es = c.as_slice-entries.result.now in
    let past : length es ≤ c.slots.slot-index = omega arith in
    subst (λ ys. Adds (entries_of_slots c.args.parent (length c.args.index.now.nodes.items) (slots_view ys)) c.args.index.now c.slots.index)
    c.as_slice-entries.ensures.slots
    (c.slots.invariant.rest c.slots.index (slots_end c.args.parent es c.slots.slot-index past c.slots.index))

pub put_elements-returns : goal.put_elements-returns
put_elements-returns t c =
    let xs = c.deref-item-items.result.now in
    let past : length xs ≤ c.items.item-index = omega arith in
    subst (λ ys. Adds (entries_of_elements c.args.parent (length c.args.index.now.nodes.items) (items_view ys)) c.args.index.now c.items.index)
    c.deref-item-items.ensures.value
    (c.items.invariant.rest c.items.index (elements_end c.args.parent xs c.items.item-index past c.items.index))

pub put_item-returns : goal.put_item-returns
put_item-returns t c =
    adds_item c.args.parent c.in_ok-at.at _ _ c.args.index.now c.put_node.new.index c.put_below.new.index c.close.new.index
    c.in_ok-at.ensures.number c.in_ok-at.ensures.node c.in_ok-put_below.ensures c.close.ensures
