-- The edits before the place are made.
use Rattle.std.proofs.Common.{◌≡◌, ◌-◌, ◌≤◌, length, take}
use Rattle.std.specs.Prelude.{Ok}
use Rattle.toml_edit.specs.DocumentView.{IsPrintedAs, tree_owned}
use Rattle.toml_edit_edits.specs.Lists.{applied}
use Rattle.toml_edit_edits.proofs.script.make_all.Given as goal

abbrev pub invariant-edits : goal.invariant-edits
invariant-edits l =
    (l.at ≤ length l.edits)
    × (applied (take l.at l.edits) (tree_owned l.initial.document) ≡ Ok (tree_owned l.document))
    × IsPrintedAs l.document l.initial.document

abbrev pub decreases-edits : goal.decreases-edits
decreases-edits l = length l.edits - l.at
