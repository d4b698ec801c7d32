-- The clauses of the slots, as the inline table shows them.
use Rattle.std.proofs.Common.{option_and_then, option_map, sym, ap, ◌∙◌}
use Rattle.toml_edit_model.specs.InlineCalls.{old_slot, value_slot}
use Rattle.toml_edit_model.specs.Slots.{on_item, without}
use Rattle.toml_edit_slots.specs.Seen.{pair_seen}
use Rattle.toml_edit_tree.specs.InlineSlots.{value_taken}
use Rattle.toml_edit_tree.specs.View.{item_view}
use Rattle.toml_edit_tree.specs.declared.inline_table.InlineTable.{out-InlineTable}
use Rattle.toml_edit_tree.proofs.SlotsLaws.{inline-shown, lookup_slot-of, made_inline-shown, without-shown}
use Rattle.toml_edit_tree.proofs.inline_table.InlineTable.remove_entry.Goals as goal

pub returns-in_err-slot-clause-slot : goal.returns-in_err-slot-clause-slot
returns-in_err-slot-clause-slot c =
    let t = c.args.self.now in
    ap (option_map value_taken) c.from_residual.ensures
    ∙ sym (ap (old_slot c.args.key.now) (inline-shown t)
    ∙ ap (option_and_then value_slot) (lookup_slot-of c.args.key.now (out-InlineTable t).items
    ∙ ap (option_map (on_item item_view)) (sym c.remove_entry.ensures.slot ∙ ap (option_map pair_seen) c.in_err-slot.was)))

pub returns-in_err-slot-clause-slots : goal.returns-in_err-slot-clause-slots
returns-in_err-slot-clause-slots c =
    let t = c.args.self.now in
    made_inline-shown _ ∙ without-shown c.args.key.now (out-InlineTable t).items c.remove_entry.new.self c.remove_entry.ensures.slots
    ∙ ap (without c.args.key.now) (sym (inline-shown t))

pub returns-clause-slot : goal.returns-clause-slot
returns-clause-slot c =
    let t = c.args.self.now in
    c.with_value.ensures
    ∙ sym (ap (old_slot c.args.key.now) (inline-shown t)
    ∙ ap (option_and_then value_slot) (lookup_slot-of c.args.key.now (out-InlineTable t).items
    ∙ ap (option_map (on_item item_view)) (sym c.remove_entry.ensures.slot ∙ ap (option_map pair_seen) c.in_ok-slot.was)))

pub returns-clause-slots : goal.returns-clause-slots
returns-clause-slots c =
    let t = c.args.self.now in
    made_inline-shown _ ∙ without-shown c.args.key.now (out-InlineTable t).items c.remove_entry.new.self c.remove_entry.ensures.slots
    ∙ ap (without c.args.key.now) (sym (inline-shown t))
