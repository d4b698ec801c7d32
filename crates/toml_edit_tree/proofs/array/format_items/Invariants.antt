-- The items up to here are formatted.
use Rattle.toml_edit_tree.proofs.FormatLaws.{Formats}
use Rattle.toml_edit_tree.proofs.array.format_items.Given as goal

abbrev pub invariant-loop-at : goal.invariant-loop-at
invariant-loop-at l = Formats l.items.items l.fn.items.items l.at l.is_first
