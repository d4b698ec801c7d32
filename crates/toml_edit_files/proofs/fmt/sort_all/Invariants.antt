-- The sorts to come leave what all of them do.
use Rattle.std.proofs.Common.{◌≡◌, drop}
use Rattle.toml_edit.specs.DocumentView.{IsPrintedAs, tree_owned}
use Rattle.toml_edit_files.specs.FormatFiles.{sorted_by}
use Rattle.toml_edit_files.proofs.fmt.sort_all.Given as goal

abbrev pub invariant-loop-at : goal.invariant-loop-at
invariant-loop-at l =
    (sorted_by (drop l.at l.sorts) (tree_owned l.document) ≡ sorted_by l.sorts (tree_owned l.initial.document))
    × IsPrintedAs l.document l.initial.document
