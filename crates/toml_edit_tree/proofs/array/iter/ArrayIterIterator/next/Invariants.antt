-- The items left hold what was left at first.
use Rattle.std.proofs.Common.{◌≡◌, length}
use Rattle.std.specs.Slice.Iter.{iter_rest}
use Rattle.toml_edit_tree.specs.ContainerParts.{values_left}
use Rattle.toml_edit_tree.proofs.array.iter.ArrayIterIterator.next.Given as goal

abbrev pub invariant-loop-item : goal.invariant-loop-item
invariant-loop-item l = values_left l.self ≡ values_left l.fn.self

abbrev pub decreases-loop-item : goal.decreases-loop-item
decreases-loop-item l = length (iter_rest l.self.items)
