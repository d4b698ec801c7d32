-- The edits before the place remove keys of these names.
use Rattle.std.proofs.Common.{◌≡◌, take}
use Rattle.indexmap.specs.IndexSet.{index_set_len}
use Rattle.toml_edit_model.specs.Keys.{names}
use Rattle.toml_edit.specs.DocumentView.{tree_owned}
use Rattle.toml_edit_edits.specs.Removes.{RemoveAll, texts}
use Rattle.toml_edit_edits.proofs.removes.names_there.Given as goal

abbrev pub invariant-loop-at : goal.invariant-loop-at
invariant-loop-at l =
    (index_set_len l.names ≡ l.at)
    × RemoveAll (take l.at l.edits) (names l.above) (texts l.names) (tree_owned l.document)
