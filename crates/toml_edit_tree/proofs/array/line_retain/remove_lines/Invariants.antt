-- The values from here on are kept or removed.
use Rattle.std.proofs.Common.{◌≤◌, length}
use Rattle.toml_edit_tree.specs.ElementClosures.{SaysOfValue}
use Rattle.toml_edit_tree.specs.Elements.{array_fields, items_of}
use Rattle.toml_edit_tree.proofs.LineRetainLaws.{RetainsFrom}
use Rattle.toml_edit_tree.proofs.array.line_retain.remove_lines.Given as goal

abbrev pub invariant-places : goal.invariant-places
invariant-places g l = record {
  within : l.at ≤ length (items_of l.whole);
  left : RetainsFrom (SaysOfValue g.F.Fn l.keep) l.at (array_fields l.whole, items_of l.whole)
      (array_fields l.left, items_of l.left);
}

abbrev pub decreases-places : goal.decreases-places
decreases-places g l = l.at
