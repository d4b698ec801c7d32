-- The slots left hold what was left at first.
use Rattle.std.proofs.Common.{◌≡◌, length}
use Rattle.std.specs.Slice.Iter.{iter_rest}
use Rattle.toml_edit_tree.specs.ContainerParts.{pairs_left}
use Rattle.toml_edit_tree.proofs.inline_table.iter.InlineTableIterIterator.next.Given as goal

abbrev pub invariant-loop-slot : goal.invariant-loop-slot
invariant-loop-slot l = pairs_left l.self ≡ pairs_left l.fn.self

abbrev pub decreases-loop-slot : goal.decreases-loop-slot
decreases-loop-slot l = length (iter_rest l.self.slots)
