-- The slots to come lead the walk where all of them do.
use Rattle.std.proofs.Common.{◌≡◌, List, drop}
use Rattle.toml_edit_model.specs.Tree.{Key}
use Rattle.toml_edit_laws.specs.PrintByVisits.{Walked, walked}
use Rattle.toml_edit_tree.specs.View.{slots_view}
use Rattle.toml_edit.proofs.headers.have_tables.Given as goal

abbrev pub invariant-slots : goal.invariant-slots
invariant-slots l =
    (keys : List Key) → (before : Walked) → walked (slots_view (drop l.slot-index l.entries)) keys before
    ≡ walked (slots_view l.entries) keys before
