-- An inline table of one slot.
use Rattle.std.proofs.Common.{◌≡◌, ap, ◌∙◌}
use Rattle.toml_edit_model.specs.Conversions.{new_inline}
use Rattle.toml_edit_model.specs.Keys.{cleared_key}
use Rattle.toml_edit_model.specs.Tree.{Slots, inline, no_slots}
use Rattle.toml_edit_tree.specs.Containers.{InlineView, inline_node}
use Rattle.toml_edit_tree.specs.View.{item_view, slots_view}
use Rattle.toml_edit_paths.proofs.SlotLaws.{none-in-empty, only-slot}
use Rattle.toml_edit_paths.proofs.ViewLaws.{view-InlineTable, view-Value}
use Rattle.toml_edit_paths.proofs.make.wrap_in_inline_table.Goals as goal

pub push_new-requires : goal.push_new-requires
push_new-requires c =
    none-in-empty c.args.key.now.name c.slots_mut.result.now (c.slots_mut.ensures.slots ∙ ap (λ (t : InlineView). t.slots) c.new-table.ensures)

pub returns-in-Ok : goal.returns-in-Ok
returns-in-Ok c =
    let empty : slots_view c.slots_mut.result.now ≡ no_slots = c.slots_mut.ensures.slots
    ∙ ap (λ (t : InlineView). t.slots) c.new-table.ensures in
    ap item_view c.replace.ensures.after ∙ view-Value _ ∙ view-InlineTable _
    ∙ ap inline_node (c.slots_mut.ensures.others c.push_new.new.slots)
    ∙ ap (λ (t : InlineView). inline t.fields (slots_view c.push_new.new.slots)) c.new-table.ensures
    ∙ ap (λ (ss : Slots). inline new_inline ss)
    (only-slot (cleared_key c.args.key.now) (item_view c.args.value.now) c.slots_mut.result.now c.push_new.new.slots empty c.in-Ok.ensures.made)
