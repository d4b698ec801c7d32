-- What is left of the path leads on from what its front led to.
use Rattle.std.proofs.Common.{◌≡◌, drop, false}
use Rattle.toml_edit_model.specs.Keys.{names}
use Rattle.toml_edit_edit_laws.specs.Means.{shown_below}
use Rattle.toml_edit_tree.specs.View.{item_view}
use Rattle.toml_edit_paths.proofs.find.get_shown.Given as goal

abbrev pub invariant-keys : goal.invariant-keys
invariant-keys l =
    shown_below false (names l.path) (item_view l.item)
    ≡ shown_below l.in_value (names (drop l.key-index l.path)) (item_view l.found)
