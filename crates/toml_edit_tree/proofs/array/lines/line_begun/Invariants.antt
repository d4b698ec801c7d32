-- No newline is between here and the value.
use Rattle.std.proofs.Common.{◌≡◌}
use Rattle.toml_edit_tree.specs.ArrayLines.{line_begun}
use Rattle.toml_edit_tree.specs.Elements.{items_of}
use Rattle.toml_edit_tree.proofs.array.lines.line_begun.Given as goal

abbrev pub invariant-places : goal.invariant-places
invariant-places l = line_begun l.fn.at (items_of l.array) ≡ line_begun l.place (items_of l.array)

abbrev pub decreases-places : goal.decreases-places
decreases-places l = l.place
