-- A table with other slots.
use Rattle.std.proofs.Common.{ap}
use Rattle.toml_edit_tree.specs.Containers.{TableView}
use Rattle.toml_edit_tree.specs.View.{table_view}
use Rattle.toml_edit_edits.specs.Effects.{slots_renamed}
use Rattle.toml_edit_edits.proofs.OutcomeLaws.{in-table}
use Rattle.toml_edit_edits.proofs.keys.rename_in_table.Goals as goal

pub returns-clause-makes : goal.returns-clause-makes
returns-clause-makes c =
    in-table (slots_renamed c.args.from.now c.args.to.now) (table_view c.args.table.now) _ c.slots_mut.result.now c.rename_slot.new.slots
    c.rename_slot.result c.slots_mut.ensures.slots (c.slots_mut.ensures.others c.rename_slot.new.slots) c.rename_slot.ensures

pub returns-clause-fields : goal.returns-clause-fields
returns-clause-fields c = ap (λ (v : TableView). v.fields) (c.slots_mut.ensures.others c.rename_slot.new.slots)
