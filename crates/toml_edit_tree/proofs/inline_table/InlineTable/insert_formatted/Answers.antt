-- The clauses of the slots, as the inline table shows them.
use Rattle.std.proofs.Common.{option_and_then, option_map, sym, ap, ◌∙◌}
use Rattle.toml_edit_model.specs.Conversions.{into_value}
use Rattle.toml_edit_model.specs.InlineCalls.{old_value}
use Rattle.toml_edit_model.specs.Slots.{inserted_formatted}
use Rattle.toml_edit_tree.specs.View.{item_view, value_view}
use Rattle.toml_edit_tree.specs.declared.inline_table.InlineTable.{out-InlineTable}
use Rattle.toml_edit_tree.specs.declared.item.Item.TheVariants as items
use Rattle.toml_edit_tree.specs.Indexed.{shown_slots}
use Rattle.toml_edit_tree.proofs.SlotsLaws.{inline-shown, inserted_formatted-shown, lookup-of, made_inline-shown}
use Rattle.toml_edit_tree.proofs.ViewLaws.{view-Value}
use Rattle.toml_edit_tree.proofs.inline_table.InlineTable.insert_formatted.Goals as goal

pub returns-in-Ok-clause-old : goal.returns-in-Ok-clause-old
returns-in-Ok-clause-old c =
    let t = c.args.self.now in
    c.old_as_value.ensures ∙ ap (λ o. option_and_then into_value (option_map item_view o)) c.in-Ok.ensures.old
    ∙ sym (ap (old_value c.args.key.now.name) (inline-shown t)
    ∙ ap (option_and_then into_value) (lookup-of c.args.key.now.name (out-InlineTable t).items))

pub returns-in-Ok-clause-slots : goal.returns-in-Ok-clause-slots
returns-in-Ok-clause-slots c =
    let t = c.args.self.now in
    let es = (out-InlineTable t).items in
    made_inline-shown _ ∙ inserted_formatted-shown c.args.key.now (items.Value c.args.value) es c.insert_formatted.new.self
    c.in-Ok.ensures.slots
    ∙ ap (λ n. inserted_formatted c.args.key.now n (shown_slots es)) (view-Value c.args.value)
    ∙ ap (inserted_formatted c.args.key.now (value_view c.args.value)) (sym (inline-shown t))
