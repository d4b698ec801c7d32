-- The slots of a table are those of an item.
use Rattle.std.proofs.Common.{refl}
use Rattle.toml_edit_model.specs.Keys.{names}
use Rattle.toml_edit_tree.specs.Containers.{table_node}
use Rattle.toml_edit_tree.specs.Indexed.{shown_slots}
use Rattle.toml_edit_tree.specs.View.{table_view}
use Rattle.toml_edit_paths.proofs.ChangeLaws.{renamed}
use Rattle.toml_edit_paths.proofs.LineLaws.{slots-without-line}
use Rattle.toml_edit_paths.proofs.StepLaws.{root-left, root-slots, slots-change}
use Rattle.toml_edit_paths.proofs.take_line.remove_line_in_table.Goals as goal

pub returns : goal.returns
returns c =
    let held = table_view c.args.table.now in
    let es = c.slots_mut.result.now in
    let new = c.remove_line_in_slots.new.slots in
    let is = root-slots held es c.slots_mut.ensures.slots in
    renamed _ _ _ _ _ _ _ (slots-without-line c.args.key.now.name (names c.args.rest.now) (table_node held) (shown_slots es) is) refl
    (root-left held _ new (c.slots_mut.ensures.others new))
    (slots-change _ (table_node held) (shown_slots es) (shown_slots new) _ is c.remove_line_in_slots.ensures)
