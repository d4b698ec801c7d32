-- The slots were sorted, and the tables before the place too.
use Rattle.toml_edit_model.specs.Lists.{is_dotted_table}
use Rattle.toml_edit_tree.specs.Sorts.{ComparesItems}
use Rattle.toml_edit_tree.proofs.SortLaws.{InTurn}
use Rattle.toml_edit_tree.proofs.sort.+sort.Given as goal

abbrev pub invariant-sort_slots-loop-at : goal.invariant-sort_slots-loop-at
invariant-sort_slots-loop-at g l = InTurn is_dotted_table (λ lt. ComparesItems g.F.Fn lt l.fn.compare) l.fn.slots l.slots l.at
