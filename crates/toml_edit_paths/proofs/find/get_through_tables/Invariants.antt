-- What is left of the path leads on from what its front led to.
use Rattle.std.proofs.Common.{◌≡◌, drop, false}
use Rattle.toml_edit_model.specs.Keys.{names}
use Rattle.toml_edit_paths.specs.Tables.{item_through_tables}
use Rattle.toml_edit_tree.specs.View.{item_view}
use Rattle.toml_edit_paths.proofs.find.get_through_tables.Given as goal

abbrev pub invariant-keys : goal.invariant-keys
invariant-keys l =
    item_through_tables (names l.path) false (item_view l.item)
    ≡ item_through_tables (names (drop l.key-index l.path)) l.is_element (item_view l.found)
