-- A table with fewer slots.
use Rattle.std.proofs.Common.{ap, sym}
use Rattle.std.specs.Prelude.{Ok}
use Rattle.toml_edit_tree.specs.Containers.{TableView}
use Rattle.toml_edit_tree.specs.View.{table_view}
use Rattle.toml_edit_edits.specs.Removes.{slots_without, texts}
use Rattle.toml_edit_edits.proofs.OutcomeLaws.{in-table}
use Rattle.toml_edit_edits.proofs.removes.drop_in_table.Goals as goal

pub returns-clause-makes : goal.returns-clause-makes
returns-clause-makes c =
    in-table (slots_without (texts c.args.names.now)) (table_view c.args.table.now) _ c.slots_mut.result.now c.drop_slots.new.slots
    (Ok tt) c.slots_mut.ensures.slots (c.slots_mut.ensures.others c.drop_slots.new.slots) (ap (λ es. Ok es) (sym c.drop_slots.ensures))

pub returns-clause-fields : goal.returns-clause-fields
returns-clause-fields c = ap (λ (v : TableView). v.fields) (c.slots_mut.ensures.others c.drop_slots.new.slots)
