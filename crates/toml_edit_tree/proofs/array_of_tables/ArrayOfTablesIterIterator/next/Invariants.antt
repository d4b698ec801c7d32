-- The slots left hold the tables that were left at first.
use Rattle.std.proofs.Common.{◌≡◌, length}
use Rattle.std.specs.Slice.Iter.{iter_rest}
use Rattle.toml_edit_tree.specs.ContainerParts.{tables_left}
use Rattle.toml_edit_tree.proofs.array_of_tables.ArrayOfTablesIterIterator.next.Given as goal

abbrev pub invariant-loop-item : goal.invariant-loop-item
invariant-loop-item l = tables_left l.self ≡ tables_left l.fn.self

abbrev pub decreases-loop-item : goal.decreases-loop-item
decreases-loop-item l = length (iter_rest l.self.items)
