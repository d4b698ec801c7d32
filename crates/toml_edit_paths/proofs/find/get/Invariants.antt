-- What is left of the path leads on from what its front led to.
use Rattle.std.proofs.Common.{◌≡◌, drop}
use Rattle.toml_edit_edit_laws.specs.Commands as commands
use Rattle.toml_edit_tree.specs.View.{item_view}
use Rattle.toml_edit_paths.proofs.find.get.Given as goal
use Rattle.toml_edit_model.specs.Keys.{names}

abbrev pub invariant-keys : goal.invariant-keys
invariant-keys l =
    commands.item_below (names l.path) (item_view l.item) ≡ commands.item_below (names (drop l.key-index l.path)) (item_view l.found)
