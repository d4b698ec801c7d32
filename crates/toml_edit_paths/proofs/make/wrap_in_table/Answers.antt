-- A table of one slot.
use Rattle.std.proofs.Common.{◌≡◌, ap, ◌∙◌}
use Rattle.toml_edit_model.specs.Conversions.{new_table}
use Rattle.toml_edit_model.specs.Keys.{cleared_key}
use Rattle.toml_edit_model.specs.Tree.{Slots, no_slots, table}
use Rattle.toml_edit_tree.specs.Containers.{TableView, table_node, table_with_implicit}
use Rattle.toml_edit_tree.specs.View.{item_view, slots_view}
use Rattle.toml_edit_paths.proofs.SlotLaws.{none-in-empty, only-slot}
use Rattle.toml_edit_paths.proofs.ViewLaws.{view-Table}
use Rattle.toml_edit_paths.proofs.make.wrap_in_table.Goals as goal

pub push_new-requires : goal.push_new-requires
push_new-requires c =
    none-in-empty c.args.key.now.name c.slots_mut.result.now
    (c.slots_mut.ensures.slots ∙ ap (λ (t : TableView). t.slots) c.set_implicit.ensures
    ∙ ap (λ (t : TableView). t.slots) c.new-table.ensures)

pub returns-in-Ok : goal.returns-in-Ok
returns-in-Ok c =
    let implicit = c.args.implicit in
    let empty : slots_view c.slots_mut.result.now ≡ no_slots =
    c.slots_mut.ensures.slots ∙ ap (λ (t : TableView). t.slots) c.set_implicit.ensures
    ∙ ap (λ (t : TableView). t.slots) c.new-table.ensures in
    ap item_view c.replace.ensures.after ∙ view-Table _
    ∙ ap table_node (c.slots_mut.ensures.others c.push_new.new.slots)
    ∙ ap (λ (t : TableView). table t.fields (slots_view c.push_new.new.slots)) c.set_implicit.ensures
    ∙ ap (λ (t : TableView). table (table_with_implicit implicit t).fields (slots_view c.push_new.new.slots)) c.new-table.ensures
    ∙ ap (λ (ss : Slots). table (record new_table { is_implicit = implicit }) ss)
    (only-slot (cleared_key c.args.key.now) (item_view c.args.item.now) c.slots_mut.result.now c.push_new.new.slots empty c.in-Ok.ensures.made)
