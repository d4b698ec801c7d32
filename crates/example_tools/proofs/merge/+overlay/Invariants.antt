-- Each call overlays by an item in the second table.
use Rattle.toml_edit.specs.tree.View.{item_view}
use Rattle.example_tools.proofs.Sizes.{size}
use Rattle.example_tools.proofs.merge.+overlay.Given as goal

abbrev pub decreases-overlay : goal.decreases-overlay
decreases-overlay l = size (item_view l.new.now)
