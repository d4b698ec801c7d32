-- What was visited, and the items to come, are all items.
use Rattle.std.proofs.Common.{◌≡◌, true, List, ◌++◌, drop}
use Rattle.std.specs.Prelude.{if◌then◌else◌}
use Rattle.toml_edit_model.specs.Shown.{is_table_node}
use Rattle.toml_edit_model.specs.Tree.{Node, is_value_node}
use Rattle.toml_edit_tree.specs.View.{items_view, slots_view}
use Rattle.toml_edit_tree.specs.Visits.{VisitsInOrder}
use Rattle.toml_edit_visit.specs.Below.{Step, from_elements, from_slots}
use Rattle.toml_edit_visit.specs.Steps.{steps_on}
use Rattle.toml_edit_visit.proofs.visit.+visit.Given as goal

abbrev pub invariant-visit_slots-slots : goal.invariant-visit_slots-slots
invariant-visit_slots-slots g l =
    (done : List (List Step × Node)) × VisitsInOrder g.V.Visit.visits done l.initial.visitor true l.visitor
    × (done ++ from_slots (steps_on l.path) (slots_view (drop l.slot-index l.entries))
    ≡ from_slots (steps_on l.path) (slots_view l.entries))

abbrev pub invariant-visit_elements-items : goal.invariant-visit_elements-items
invariant-visit_elements-items g l =
    (done : List (List Step × Node)) × VisitsInOrder g.V.Visit.visits done l.initial.visitor true l.visitor
    × (done
    ++ from_elements (if l.values then is_value_node else is_table_node) (steps_on l.path) l.place (items_view (drop l.place l.item-items))
    ≡ from_elements (if l.values then is_value_node else is_table_node) (steps_on l.path) 0 (items_view l.item-items))
