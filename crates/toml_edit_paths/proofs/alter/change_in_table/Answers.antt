-- The slots of a table are those of an item.
use Rattle.std.proofs.Common.{refl}
use Rattle.toml_edit_model.specs.Slots.{lookup_slot}
use Rattle.toml_edit_model.specs.Keys.{names}
use Rattle.toml_edit_edit_laws.specs.Commands.{and_then, item_below, present}
use Rattle.toml_edit_tree.specs.Containers.{table_node}
use Rattle.toml_edit_tree.specs.Indexed.{shown_slots}
use Rattle.toml_edit_tree.specs.View.{table_view}
use Rattle.toml_edit_paths.proofs.AlterLaws.{found-in-slots, in-slots, renamed, takes}
use Rattle.toml_edit_paths.proofs.StepLaws.{root-left, root-slots}
use Rattle.toml_edit_paths.proofs.alter.change_in_table.Goals as goal

pub returns : goal.returns
returns g c =
    let held = table_view c.args.table.now in
    let es = c.slots_mut.result.now in
    let new = c.change_in_slots.new.slots in
    renamed g.F.FnOnce c.args.change _ _ _ _ _ _ _ refl (root-left held _ new (c.slots_mut.ensures.others new))
    (in-slots g.F.FnOnce c.args.change c.args.key.now.name (names c.args.rest.now) (table_node held) (shown_slots es) (shown_slots new) _
    (root-slots held es c.slots_mut.ensures.slots) c.change_in_slots.ensures)

pub change_in_slots-requires : goal.change_in_slots-requires
change_in_slots-requires g c =
    let held = table_view c.args.table.now in
    let es = c.slots_mut.result.now in
    let k = c.args.key.now.name in
    let path = names c.args.rest.now in
    takes g.F.FnOnce c.args.change (and_then (item_below path) (present (lookup_slot k (shown_slots es)))) _
    (found-in-slots k path (table_node held) (shown_slots es) (root-slots held es c.slots_mut.ensures.slots)) c.requires
