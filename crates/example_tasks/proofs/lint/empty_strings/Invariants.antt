-- The report, and what the slots that are left add to it, are the findings of all.
use Rattle.std.proofs.Common.{◌≡◌, ◌++◌, string_bytes}
use Rattle.toml_edit.specs.DocumentView.{source, tree_read}
use Rattle.toml_edit.specs.model.Iterating.{filled_pairs}
use Rattle.toml_edit.specs.model.Lists.{slot_list}
use Rattle.toml_edit.specs.tree.Held.{held_left}
use Rattle.example_tasks.specs.Findings.{findings}
use Rattle.example_tasks.proofs.lint.empty_strings.Given as goal

abbrev pub invariant-loop-key : goal.invariant-loop-key
invariant-loop-key l =
    string_bytes l.report ++ findings (source l.document) (held_left l.key-iterator)
    ≡ findings (source l.document) (filled_pairs (slot_list (tree_read l.document).slots))
