-- The slots of a table are those of an item.
use Rattle.toml_edit_tree.specs.Containers.{table_node}
use Rattle.toml_edit_tree.specs.Indexed.{shown_slots}
use Rattle.toml_edit_tree.specs.View.{table_view}
use Rattle.toml_edit_edit_laws.specs.KeyCalls.{moved_where}
use Rattle.toml_edit_paths.proofs.KeyLaws.{moves-slots}
use Rattle.toml_edit_paths.proofs.StepLaws.{root-left, root-slots}
use Rattle.toml_edit_paths.proofs.keys.move_in_table.Goals as goal

pub returns : goal.returns
returns c =
    let held = table_view c.args.table.now in
    let es = c.slots_mut.result.now in
    let new = c.move_in_slots.new.slots in
    moves-slots (moved_where c.args.at c.args.key.now.name) (table_node held) (shown_slots es) (shown_slots new)
    (root-slots held es c.slots_mut.ensures.slots) _ (root-left held _ new (c.slots_mut.ensures.others new)) c.move_in_slots.result c.move_in_slots.ensures
