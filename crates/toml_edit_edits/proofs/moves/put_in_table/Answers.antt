-- A table with a slot more.
use Rattle.std.proofs.Common.{ap}
use Rattle.toml_edit_tree.specs.Containers.{TableView}
use Rattle.toml_edit_tree.specs.View.{table_view}
use Rattle.toml_edit_edits.specs.Moves.{slots_with}
use Rattle.toml_edit_edits.specs.Slots.{shown_slot}
use Rattle.toml_edit_edits.proofs.OutcomeLaws.{in-table}
use Rattle.toml_edit_edits.proofs.moves.put_in_table.Goals as goal

pub returns-clause-makes : goal.returns-clause-makes
returns-clause-makes c =
    in-table (slots_with (shown_slot c.args.slot)) (table_view c.args.table.now) _ c.slots_mut.result.now c.push_slot.new.slots
    c.push_slot.result c.slots_mut.ensures.slots (c.slots_mut.ensures.others c.push_slot.new.slots) c.push_slot.ensures

pub returns-clause-fields : goal.returns-clause-fields
returns-clause-fields c = ap (λ (v : TableView). v.fields) (c.slots_mut.ensures.others c.push_slot.new.slots)
