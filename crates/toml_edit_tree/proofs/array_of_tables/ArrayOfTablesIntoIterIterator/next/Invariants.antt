-- The slots left hold the tables that were left at first.
use Rattle.std.proofs.Common.{◌≡◌, length}
use Rattle.std.specs.Vec.Iter.{into_iter_items}
use Rattle.toml_edit_tree.specs.ElementParts.{owned_tables}
use Rattle.toml_edit_tree.proofs.array_of_tables.ArrayOfTablesIntoIterIterator.next.Given as goal

abbrev pub invariant-loop-item : goal.invariant-loop-item
invariant-loop-item l = owned_tables l.self ≡ owned_tables l.fn.self

abbrev pub decreases-loop-item : goal.decreases-loop-item
decreases-loop-item l = length (into_iter_items l.self.items)
