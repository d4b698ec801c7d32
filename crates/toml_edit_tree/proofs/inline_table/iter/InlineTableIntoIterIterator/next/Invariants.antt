-- The slots left hold the pairs that were left at first.
use Rattle.std.proofs.Common.{◌≡◌, length}
use Rattle.std.specs.Vec.Iter.{into_iter_items}
use Rattle.toml_edit_tree.specs.InlineParts.{owned_pairs}
use Rattle.toml_edit_tree.proofs.inline_table.iter.InlineTableIntoIterIterator.next.Given as goal

abbrev pub invariant-loop-slot : goal.invariant-loop-slot
invariant-loop-slot l = owned_pairs l.self ≡ owned_pairs l.fn.self

abbrev pub decreases-loop-slot : goal.decreases-loop-slot
decreases-loop-slot l = length (into_iter_items l.self.slots)
