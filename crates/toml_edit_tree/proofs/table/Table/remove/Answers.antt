-- The clauses of the slots, as the table shows them.
use Rattle.std.proofs.Common.{Some, option_map, sym, ap, ◌∙◌}
use Rattle.toml_edit_model.specs.Slots.{lookup, without}
use Rattle.toml_edit_slots.specs.declared.slots.Slot.{Slot}
use Rattle.toml_edit_tree.specs.View.{item_view}
use Rattle.toml_edit_tree.specs.declared.table.Table.{out-Table}
use Rattle.toml_edit_tree.proofs.SlotsLaws.{lookup-shown, made-shown, table-shown, without-shown}
use Rattle.toml_edit_tree.proofs.table.Table.remove.Goals as goal

pub returns-in_err-slot-clause-item : goal.returns-in_err-slot-clause-item
returns-in_err-slot-clause-item c =
    let t = c.args.self.now in
    ap (option_map item_view) c.from_residual.ensures
    ∙ sym (ap (lookup c.args.key.now) (table-shown t) ∙ lookup-shown c.args.key.now (out-Table t).slots
    ∙ ap (λ o. option_map item_view (option_map (λ (s : Slot _). s.item) o)) (sym c.remove.ensures.slot ∙ c.in_err-slot.was))

pub returns-in_err-slot-clause-slots : goal.returns-in_err-slot-clause-slots
returns-in_err-slot-clause-slots c =
    let t = c.args.self.now in
    made-shown _ ∙ without-shown c.args.key.now (out-Table t).slots c.remove.new.self c.remove.ensures.seen
    ∙ ap (without c.args.key.now) (sym (table-shown t))

pub returns-clause-item : goal.returns-clause-item
returns-clause-item c =
    let t = c.args.self.now in
    ap (λ x. option_map item_view (Some x)) c.into_item.ensures
    ∙ sym (ap (lookup c.args.key.now) (table-shown t) ∙ lookup-shown c.args.key.now (out-Table t).slots
    ∙ ap (λ o. option_map item_view (option_map (λ (s : Slot _). s.item) o)) (sym c.remove.ensures.slot ∙ c.in_ok-slot.was))

pub returns-clause-slots : goal.returns-clause-slots
returns-clause-slots c =
    let t = c.args.self.now in
    made-shown _ ∙ without-shown c.args.key.now (out-Table t).slots c.remove.new.self c.remove.ensures.seen
    ∙ ap (without c.args.key.now) (sym (table-shown t))
