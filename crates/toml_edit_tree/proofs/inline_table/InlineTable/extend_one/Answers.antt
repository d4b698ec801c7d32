-- The pair that came, as the inline table shows it.
use Rattle.std.proofs.Common.{[], ◌∷◌, sym, ap, ◌∙◌}
use Rattle.toml_edit_model.specs.Slots.{put, with_item}
use Rattle.toml_edit_model.specs.Tree.{Node}
use Rattle.toml_edit_tree.specs.InlineSlots.{value_taken}
use Rattle.toml_edit_tree.specs.View.{value_view}
use Rattle.toml_edit_tree.specs.declared.inline_table.InlineTable.{out-InlineTable}
use Rattle.toml_edit_tree.specs.declared.item.Item.TheVariants as items
use Rattle.toml_edit_tree.specs.Indexed.{shown_slots}
use Rattle.toml_edit_tree.proofs.DespanLaws.{if_done}
use Rattle.toml_edit_tree.proofs.InlineLaws.{made_inline_fields}
use Rattle.toml_edit_tree.proofs.SlotsLaws.{extended-shown, inline-shown, made_inline-shown}
use Rattle.toml_edit_tree.proofs.ViewLaws.{view-Value}
use Rattle.toml_edit_tree.proofs.inline_table.InlineTable.extend_one.Goals as goal

pub returns-clause-slots : goal.returns-clause-slots
returns-clause-slots c =
    let t = c.args.self.now in
    let es = (out-InlineTable t).items in
    let k = c.args.key in
    if_done c.extend_one.result c.extend_one.ensures.slots
    (λ e. made_inline-shown _ ∙ extended-shown ((k, items.Value c.args.value) ∷ []) es c.extend_one.new.self e
    ∙ ap (λ (n : Node). put (with_item n) (record { key = k; item = n }) (shown_slots es)) (view-Value c.args.value)
    ∙ ap (put (with_item (value_view c.args.value)) (value_taken (k, c.args.value))) (sym (inline-shown t)))

pub returns-clause-fields : goal.returns-clause-fields
returns-clause-fields c = made_inline_fields c.args.self.now c.extend_one.new.self
