-- The tables up to here are there.
use Rattle.toml_edit_tree.specs.ElementParts.{AddsTables}
use Rattle.toml_edit_tree.proofs.array_of_tables.ArrayOfTables.extend.Given as goal

abbrev pub invariant-loop-table : goal.invariant-loop-table
invariant-loop-table g l = AddsTables l.fn.self l.yielded l.self
