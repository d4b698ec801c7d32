-- The clauses of the slots, as the inline table shows them.
use Rattle.std.proofs.Common.{◌≤◌, IfErr, length, sym, ap, subst, ◌∙◌}
use Rattle.toml_edit_model.specs.Rearranging.{inserted_slot}
use Rattle.toml_edit_model.specs.Slots.{keyed, place}
use Rattle.toml_edit_slots.specs.Refusals.{IsRefusal}
use Rattle.toml_edit_tree.specs.View.{value_view}
use Rattle.toml_edit_tree.specs.declared.inline_table.InlineTable.{out-InlineTable}
use Rattle.toml_edit_tree.specs.declared.item.Item.TheVariants as items
use Rattle.toml_edit_tree.specs.Indexed.{shown_slots}
use Rattle.toml_edit_tree.proofs.DespanLaws.{if_done}
use Rattle.toml_edit_tree.proofs.RearrangeLaws.{inserted_slot-shown}
use Rattle.toml_edit_tree.proofs.SlotsLaws.{length-shown, made_inline-shown, inline-shown}
use Rattle.toml_edit_tree.proofs.TableEntryLaws.{place-shown}
use Rattle.toml_edit_tree.proofs.ViewLaws.{view-Value}
use Rattle.toml_edit_tree.proofs.inline_table.InlineTable.insert_at.Goals as goal

pub insert_at-requires : goal.insert_at-requires
insert_at-requires c =
    let t = c.args.self.now in
    subst (λ n. c.args.at ≤ n) (ap length (inline-shown t) ∙ length-shown (out-InlineTable t).items) c.requires

pub returns-clause-slots : goal.returns-clause-slots
returns-clause-slots c =
    let t = c.args.self.now in
    if_done c.insert_at.result c.insert_at.ensures.slots
    (λ e. made_inline-shown _ ∙ inserted_slot-shown c.args.at c.args.key (items.Value c.args.value) (out-InlineTable t).items
    c.insert_at.new.self e
    ∙ ap (λ n. inserted_slot c.args.at (keyed c.args.key n) (shown_slots (out-InlineTable t).items)) (view-Value c.args.value)
    ∙ ap (inserted_slot c.args.at (keyed c.args.key (value_view c.args.value))) (sym (inline-shown t)))

pub returns-clause-refused : goal.returns-clause-refused
returns-clause-refused c =
    let t = c.args.self.now in
    subst (λ o. IfErr c.insert_at.result (IsRefusal (record { key = c.args.key; item = (items.Value c.args.value) }) o))
    (sym (ap (place c.args.key.name) (inline-shown t) ∙ place-shown c.args.key.name (out-InlineTable t).items))
    c.insert_at.ensures.refused
