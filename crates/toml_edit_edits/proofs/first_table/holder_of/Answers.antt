-- A table of one slot.
use Rattle.std.proofs.Common.{◌≡◌, ◌∙◌, true, ap}
use Rattle.toml_edit_model.specs.Conversions.{new_table}
use Rattle.toml_edit_model.specs.Tree.{Slots, no_slots, table}
use Rattle.toml_edit_paths.proofs.SlotLaws.{none-in-empty, only-slot}
use Rattle.toml_edit_tree.specs.Containers.{TableView, table_node, table_with_implicit}
use Rattle.toml_edit_tree.specs.Indexed.{shown_slots}
use Rattle.toml_edit_tree.specs.View.{slots_view}
use Rattle.toml_edit_tree.proofs.ViewLaws.{view-Table}
use Rattle.toml_edit_edits.specs.Slots.{shown_slot}
use Rattle.toml_edit_edits.proofs.ViewedSlots.{shown-last}
use Rattle.toml_edit_edits.proofs.first_table.holder_of.Goals as goal

pub push-requires : goal.push-requires
push-requires c =
    none-in-empty c.args.held.key.name c.slots_mut.result.now
    (c.slots_mut.ensures.slots ∙ ap (λ (t : TableView). t.slots) c.set_implicit.ensures ∙ ap (λ (t : TableView). t.slots) c.new-holder.ensures)

pub returns-in-Ok : goal.returns-in-Ok
returns-in-Ok c =
    let s = shown_slot c.args.held in
    let new = c.push.new.self in
    let empty : slots_view c.slots_mut.result.now ≡ no_slots =
    c.slots_mut.ensures.slots ∙ ap (λ (t : TableView). t.slots) c.set_implicit.ensures ∙ ap (λ (t : TableView). t.slots) c.new-holder.ensures in
    view-Table _ ∙ ap table_node (c.slots_mut.ensures.others new)
    ∙ ap (λ (t : TableView). table t.fields (slots_view new)) c.set_implicit.ensures
    ∙ ap (λ (t : TableView). table (table_with_implicit true t).fields (slots_view new)) c.new-holder.ensures
    ∙ ap (λ (ss : Slots). table (record new_table { is_implicit = true }) ss)
    (only-slot s.key s.item c.slots_mut.result.now new empty
    (ap shown_slots c.in-Ok.ensures.slots ∙ shown-last c.slots_mut.result.now c.args.held))
