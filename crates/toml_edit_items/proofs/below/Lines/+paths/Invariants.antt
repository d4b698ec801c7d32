-- The paths up to here, and those of the slots or elements to come, are all of them.
use Rattle.std.proofs.Common.{◌≡◌, ◌++◌, drop, string_bytes}
use Rattle.toml_edit_items.specs.Below.{element_paths, path_lines, slot_paths}
use Rattle.toml_edit_visit.specs.Steps.{steps_on}
use Rattle.toml_edit_tree.specs.View.{items_view, slots_view}
use Rattle.toml_edit_items.proofs.below.Lines.+paths.Given as goal

abbrev pub invariant-put_slots-slots : goal.invariant-put_slots-slots
invariant-put_slots-slots l =
    string_bytes l.self.text ++ path_lines (slot_paths (steps_on l.path) (slots_view (drop l.slot-index l.entries)))
    ≡ string_bytes l.initial.self.text ++ path_lines (slot_paths (steps_on l.path) (slots_view l.entries))

abbrev pub invariant-put_elements-items : goal.invariant-put_elements-items
invariant-put_elements-items l =
    string_bytes l.self.text ++ path_lines (element_paths (steps_on l.path) l.at (items_view (drop l.at l.item-items)))
    ≡ string_bytes l.initial.self.text ++ path_lines (element_paths (steps_on l.path) 0 (items_view l.item-items))
