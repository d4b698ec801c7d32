-- What was found, with the tables to come, is what the whole walk finds.
use Rattle.std.proofs.Common.{◌≡◌, [], ◌∷◌, ◌++◌, drop}
use Rattle.toml_edit_laws.specs.PrintByVisits.{walked, walked_items}
use Rattle.toml_edit_tree.specs.Printing.{keys_on}
use Rattle.toml_edit_tree.specs.View.{items_view, slots_view}
use Rattle.toml_edit.specs.HeadersView.{walk_view}
use Rattle.toml_edit.proofs.headers.+walk.Given as goal

abbrev pub invariant-enter_slots-slots : goal.invariant-enter_slots-slots
invariant-enter_slots-slots l =
    walked (slots_view (drop l.slot-index l.entries)) (keys_on l.path) (walk_view l.walk)
    ≡ walked (slots_view l.entries) (keys_on l.path) (walk_view l.initial.walk)

abbrev pub invariant-enter_elements-items : goal.invariant-enter_elements-items
invariant-enter_elements-items l =
    walked_items (items_view (drop l.item-index l.item-items)) (keys_on l.path ++ (l.key ∷ [])) (walk_view l.walk)
    ≡ walked_items (items_view l.item-items) (keys_on l.path ++ (l.key ∷ [])) (walk_view l.initial.walk)
