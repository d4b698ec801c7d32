-- What was visited, and the lines of the slots to come, are all lines.
use Rattle.std.proofs.Common.{◌≡◌, List, true, ◌++◌, drop}
use Rattle.toml_edit_model.specs.Tree.{Key, Node}
use Rattle.toml_edit_tree.specs.Printing.{keys_on}
use Rattle.toml_edit_tree.specs.View.{slots_view}
use Rattle.toml_edit_tree.specs.Visits.{VisitsInOrder, shown_lines}
use Rattle.toml_edit_tree.proofs.visit.+visit.Given as goal

abbrev pub invariant-visit_slots-slots : goal.invariant-visit_slots-slots
invariant-visit_slots-slots g l =
    (done : List (List Key × Node)) × VisitsInOrder g.V.LineVisitor.visits done l.initial.visitor true l.visitor
    × (done ++ shown_lines l.is_inside (slots_view (drop l.slot-index l.entries)) (keys_on l.path)
    ≡ shown_lines l.is_inside (slots_view l.entries) (keys_on l.path))
