-- The lines up to here, and those of the slots to come, are all lines.
use Rattle.std.proofs.Common.{◌≡◌, ◌++◌, drop}
use Rattle.toml_edit_tree.specs.LineValues.{values_read}
use Rattle.toml_edit_tree.specs.Printing.{keys_on}
use Rattle.toml_edit_tree.specs.View.{slots_view}
use Rattle.toml_edit_tree.specs.Visits.{shown_lines}
use Rattle.toml_edit_tree.proofs.lines.+values.Given as goal

abbrev pub invariant-add_lines-slots : goal.invariant-add_lines-slots
invariant-add_lines-slots l =
    values_read l.lines.items ++ shown_lines l.is_inside (slots_view (drop l.slot-index l.entries)) (keys_on l.path)
    ≡ values_read l.initial.lines.items ++ shown_lines l.is_inside (slots_view l.entries) (keys_on l.path)
