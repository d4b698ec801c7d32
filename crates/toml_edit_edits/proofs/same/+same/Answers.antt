-- Each value is compared with the one beside it, or under its key.
use Rattle.std.proofs.Common.{◌≡◌, sym, ◌∙◌, ap, rules, length, false, true}
use Rattle.toml_edit_model.specs.Text.{Text}
use Rattle.toml_edit_model.specs.Tree.{is_value_node}
use Rattle.toml_edit_slots.specs.Slots as held
use Rattle.toml_edit_tree.specs.Indexed.{shown_slots}
use Rattle.toml_edit_tree.specs.View.{item_view, value_view}
use Rattle.toml_edit_tree.proofs.ViewLaws.{view-Datetime}
use Rattle.toml_edit_edits.specs.Same.{same_node}
use Rattle.toml_edit_edits.proofs.SameLaws.{dates-same, has_value, lengths-differ, no-value, slots-go-on, slots-stop, value-absent, value-found}
use Rattle.toml_edit_edits.proofs.same.+same.Goals as goal
use Rattle.toml_edit_edits.proofs.same.+same.Goals.{same_slots-then-is_value+in-Some+else-not-same_item, same_slots-else-is_value}

pub same_items-returns-then-len : goal.same_items-returns-then-len
same_items-returns-then-len t c =
    lengths-differ c.args.a.now.items c.args.b.now.items (λ e.
    let a : c.len.result ≡ length c.args.a.now.items = search rules in
    let b : c.len-2.result ≡ length c.args.b.now.items = search rules in c.if-len.true (a ∙ e ∙ sym b))

pub same_slots-returns-then-not-same_item : goal.same_slots-returns-then-not-same_item
same_slots-returns-then-not-same_item t c =
    let s = c.slot-item.result in
    let value : is_value_node (item_view s.item) ≡ true = sym c.is_value.ensures ∙ c.if-is_value.true in
    let none : has_value s (shown_slots c.args.b.now) ≡ false =
    value-found s c.args.b.now c.in-Some.other.now value (c.in-Some.ensures ∙ ap (λ (k : Text). held.lookup k c.args.b.now) c.get.ensures.name)
    ∙ sym c.same_item.ensures ∙ c.if-not-same_item.true in
    slots-stop c.as_slice-entries.result.now c.args.a.now c.slots.slot-index s (shown_slots c.args.b.now) c.slots-test.true c.slot-item.is none
    c.slots.invariant c.as_slice-entries.ensures.slots

pub same_slots-returns-in-None : goal.same_slots-returns-in-None
same_slots-returns-in-None t c =
    let s = c.slot-item.result in
    let value : is_value_node (item_view s.item) ≡ true = sym c.is_value.ensures ∙ c.if-is_value.true in
    let none : has_value s (shown_slots c.args.b.now) ≡ false =
    value-absent s c.args.b.now value (c.in-None.ensures ∙ ap (λ (k : Text). held.lookup k c.args.b.now) c.get.ensures.name) in
    slots-stop c.as_slice-entries.result.now c.args.a.now c.slots.slot-index s (shown_slots c.args.b.now) c.slots-test.true c.slot-item.is none
    c.slots.invariant c.as_slice-entries.ensures.slots

pub same_slots-slots-preserved : goal.same_slots-slots-preserved
same_slots-slots-preserved t c =
    let s = c.slot-item.result in
    let ys = shown_slots c.args.b.now in
    let there : has_value s ys ≡ true = elim c.if-is_value.branch [
      | same_slots-then-is_value+in-Some+else-not-same_item w ↦
          let value : is_value_node (item_view s.item) ≡ true = sym c.is_value.ensures ∙ w.if-is_value.true in
          value-found s c.args.b.now w.in-Some.other.now value (w.in-Some.ensures ∙ ap (λ (k : Text). held.lookup k c.args.b.now) w.get.ensures.name)
          ∙ sym w.same_item.ensures ∙ w.if-not-same_item.false
      | same_slots-else-is_value w ↦ no-value s ys (sym c.is_value.ensures ∙ w.if-is_value.false)
    ] in
    slots-go-on c.as_slice-entries.result.now c.slots.slot-index s ys c.slots-test.true c.slot-item.is there c.slots.invariant

pub same_value-returns-in-Datetime : goal.same_value-returns-in-Datetime
same_value-returns-in-Datetime t c =
    let a = c.in-Datetime.a in
    let view = ap value_view c.in-Datetime.is ∙ view-Datetime a in
    c.eq-in-Datetime.ensures
    ∙ dates-same a.value c.as_datetime.result a.repr a.decor (value_view c.args.b.now) c.value-in-Datetime.result c.value-in-Datetime.ensures.value
    c.as_datetime.ensures
    ∙ ap (λ n. same_node n (value_view c.args.b.now)) (sym view)
