-- Each slot without decors.
use Rattle.std.proofs.Common.{◌≡◌, ◌<◌, ◌≤◌, ◌+◌, true, false, length, map, get_or, arith, sym, ap, subst, ◌∙◌}
use Rattle.toml_edit_model.specs.Conversions.{with_decor}
use Rattle.toml_edit_model.specs.Keys.{cleared_key}
use Rattle.toml_edit_model.specs.Tree.{is_value_node, unset}
use Rattle.toml_edit_slots.specs.Slots.{on_item}
use Rattle.toml_edit_tree.specs.Containers.{tree_slots}
use Rattle.toml_edit_tree.specs.View.{item_view}
use Rattle.toml_edit_tree.proofs.ConvertLaws.{as-long, formatted_slot, formatted-slots, keyed, slot-formatted}
use Rattle.toml_edit_tree.proofs.DespanLaws.{no_slot}
use Rattle.toml_edit_tree.proofs.InPlace.{Done, finish, long_as, none_done, step}
use Rattle.toml_edit_tree.proofs.OrderLaws.{item-at, item-changed}
use Rattle.toml_edit_tree.proofs.convert.format_slots.Goals.{then-is_value, else-is_value}
use Rattle.toml_edit_tree.proofs.convert.format_slots.Goals as goal

pub loop-at-init : goal.loop-at-init
loop-at-init c = none_done (on_item item_view) formatted_slot c.args.slots.now

pub clear_decors-requires : goal.clear_decors-requires
clear_decors-requires c =
    let first = c.args.slots.now in
    let es = c.loop-at.slots in
    let at = c.loop-at.at in
    let long = long_as (on_item item_view) formatted_slot es first at c.loop-at.invariant in
    let within : at < length es = omega (arith, long, c.len-at-end.ensures, c.loop-at-test.true) in
    omega (arith, as-long es at c.undecorate-is_value.new.item, within)

pub loop-at-preserved : goal.loop-at-preserved
loop-at-preserved c =
    let first = c.args.slots.now in
    let es = c.loop-at.slots in
    let at = c.loop-at.at in
    let x = c.item_mut.result.now in
    let y = c.undecorate-is_value.new.item in
    let old = get_or es at no_slot in
    let long = long_as (on_item item_view) formatted_slot es first at c.loop-at.invariant in
    let within : at < length es = omega (arith, long, c.len-at-end.ensures, c.loop-at-test.true) in
    let there : x ≡ old.item = item-at es at no_slot x within c.item_mut.ensures.item in
    let bare : item_view y ≡ with_decor unset (item_view old.item) = c.undecorate-is_value.ensures.item
    ∙ ap (λ z. with_decor unset (item_view z)) there in
    let kind = sym (c.undecorate-is_value.ensures.kind ∙ ap (λ z. is_value_node (item_view z)) there) in
    elim c.if-is_value.branch [
      | then-is_value w ↦
          rw w.slots-is (subst (λ l. Done (on_item item_view) formatted_slot l first (at + 1)) (sym (w.clear_decors.ensures
          ∙ keyed es at no_slot cleared_key y))
          (step (on_item item_view) formatted_slot es first at c.loop-at.invariant within no_slot (record {
            key =
                cleared_key old.key;
            item = y;
          })
          (slot-formatted old y true (kind ∙ w.if-is_value.true) bare)))
      | else-is_value w ↦
          rw w.slots-is (subst (λ l. Done (on_item item_view) formatted_slot l first (at + 1)) (sym (item-changed es at no_slot y))
          (step (on_item item_view) formatted_slot es first at c.loop-at.invariant within no_slot (record { key = old.key; item = y })
          (slot-formatted old y false (kind ∙ w.if-is_value.false) bare)))
    ]

pub returns : goal.returns
returns c =
    let first = c.args.slots.now in
    let es = c.loop-at.slots in
    let at = c.loop-at.at in
    let long = long_as (on_item item_view) formatted_slot es first at c.loop-at.invariant in
    let past : length es ≤ at = omega (arith, long, c.len-at-end.ensures, c.loop-at-test.false) in
    ap tree_slots (finish (on_item item_view) formatted_slot es first at c.loop-at.invariant past)
    ∙ formatted-slots (map (on_item item_view) first)
