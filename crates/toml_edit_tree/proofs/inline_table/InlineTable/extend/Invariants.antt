-- The pairs up to here are in.
use Rattle.toml_edit_tree.specs.InlineParts.{AddsValues}
use Rattle.toml_edit_tree.proofs.inline_table.InlineTable.extend.Given as goal

abbrev pub invariant-loop-key : goal.invariant-loop-key
invariant-loop-key g l = AddsValues l.fn.self l.yielded l.self
