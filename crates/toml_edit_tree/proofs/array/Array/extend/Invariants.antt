-- The values up to here are there.
use Rattle.toml_edit_tree.specs.ElementParts.{AddsValues}
use Rattle.toml_edit_tree.proofs.array.Array.extend.Given as goal

abbrev pub invariant-loop-value : goal.invariant-loop-value
invariant-loop-value g l = AddsValues l.fn.self l.yielded l.self
