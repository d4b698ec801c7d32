-- The clauses of the slots, as the inline table shows them.
use Rattle.std.proofs.Common.{option_and_then, option_map, sym, ap, ◌∙◌}
use Rattle.toml_edit_model.specs.Conversions.{into_value}
use Rattle.toml_edit_model.specs.InlineCalls.{old_value}
use Rattle.toml_edit_model.specs.Slots.{without}
use Rattle.toml_edit_slots.specs.declared.slots.Slot.{Slot}
use Rattle.toml_edit_tree.specs.View.{item_view, value_view}
use Rattle.toml_edit_tree.specs.declared.inline_table.InlineTable.{out-InlineTable}
use Rattle.toml_edit_tree.proofs.SlotsLaws.{inline-shown, lookup-shown, made_inline-shown, without-shown}
use Rattle.toml_edit_tree.proofs.inline_table.InlineTable.remove.Goals as goal

pub returns-in_err-slot-clause-value : goal.returns-in_err-slot-clause-value
returns-in_err-slot-clause-value c =
    let t = c.args.self.now in
    ap (option_map value_view) c.from_residual.ensures
    ∙ sym (ap (old_value c.args.key.now) (inline-shown t)
    ∙ ap (option_and_then into_value) (lookup-shown c.args.key.now (out-InlineTable t).items
    ∙ ap (λ o. option_map item_view (option_map (λ (s : Slot _). s.item) o)) (sym c.remove.ensures.slot ∙ c.in_err-slot.was)))

pub returns-in_err-slot-clause-slots : goal.returns-in_err-slot-clause-slots
returns-in_err-slot-clause-slots c =
    let t = c.args.self.now in
    made_inline-shown _ ∙ without-shown c.args.key.now (out-InlineTable t).items c.remove.new.self c.remove.ensures.seen
    ∙ ap (without c.args.key.now) (sym (inline-shown t))

pub returns-clause-value : goal.returns-clause-value
returns-clause-value c =
    let t = c.args.self.now in
    c.value_of.ensures ∙ ap (λ x. into_value (item_view x)) c.into_item.ensures
    ∙ sym (ap (old_value c.args.key.now) (inline-shown t)
    ∙ ap (option_and_then into_value) (lookup-shown c.args.key.now (out-InlineTable t).items
    ∙ ap (λ o. option_map item_view (option_map (λ (s : Slot _). s.item) o)) (sym c.remove.ensures.slot ∙ c.in_ok-slot.was)))

pub returns-clause-slots : goal.returns-clause-slots
returns-clause-slots c =
    let t = c.args.self.now in
    made_inline-shown _ ∙ without-shown c.args.key.now (out-InlineTable t).items c.remove.new.self c.remove.ensures.seen
    ∙ ap (without c.args.key.now) (sym (inline-shown t))
