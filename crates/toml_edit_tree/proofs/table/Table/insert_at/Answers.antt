-- The clauses of the slots, as the table shows them.
use Rattle.std.proofs.Common.{◌≤◌, IfErr, length, sym, ap, subst, ◌∙◌}
use Rattle.toml_edit_model.specs.Rearranging.{inserted_slot}
use Rattle.toml_edit_model.specs.Slots.{keyed, place}
use Rattle.toml_edit_slots.specs.Refusals.{IsRefusal}
use Rattle.toml_edit_tree.specs.View.{item_view}
use Rattle.toml_edit_tree.specs.declared.table.Table.{out-Table}
use Rattle.toml_edit_tree.proofs.DespanLaws.{if_done}
use Rattle.toml_edit_tree.proofs.RearrangeLaws.{inserted_slot-shown}
use Rattle.toml_edit_tree.proofs.SlotsLaws.{length-shown, made-shown, table-shown}
use Rattle.toml_edit_tree.proofs.TableEntryLaws.{place-shown}
use Rattle.toml_edit_tree.proofs.table.Table.insert_at.Goals as goal

pub insert_at-requires : goal.insert_at-requires
insert_at-requires c =
    let t = c.args.self.now in
    subst (λ n. c.args.at ≤ n) (ap length (table-shown t) ∙ length-shown (out-Table t).slots) c.requires

pub returns-clause-slots : goal.returns-clause-slots
returns-clause-slots c =
    let t = c.args.self.now in
    if_done c.insert_at.result c.insert_at.ensures.slots
    (λ e. made-shown _ ∙ inserted_slot-shown c.args.at c.args.key c.args.item (out-Table t).slots c.insert_at.new.self e
    ∙ ap (inserted_slot c.args.at (keyed c.args.key (item_view c.args.item))) (sym (table-shown t)))

pub returns-clause-refused : goal.returns-clause-refused
returns-clause-refused c =
    let t = c.args.self.now in
    subst (λ o. IfErr c.insert_at.result (IsRefusal (record { key = c.args.key; item = c.args.item }) o))
    (sym (ap (place c.args.key.name) (table-shown t) ∙ place-shown c.args.key.name (out-Table t).slots))
    c.insert_at.ensures.refused
