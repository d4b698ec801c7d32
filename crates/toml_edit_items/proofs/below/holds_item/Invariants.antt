-- No slot up to here holds an item.
use Rattle.std.proofs.Common.{◌≡◌, drop}
use Rattle.toml_edit_items.specs.Below.{has_item}
use Rattle.toml_edit_tree.specs.View.{slots_view}
use Rattle.toml_edit_items.proofs.below.holds_item.Given as goal

abbrev pub invariant-slots : goal.invariant-slots
invariant-slots l = has_item (slots_view l.entries) ≡ has_item (slots_view (drop l.slot-index l.entries))
