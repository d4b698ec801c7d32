-- The edits so far are those of the words before the rest.
use Rattle.std.proofs.Common.{◌≡◌, ◌++◌, List, length, map}
use Rattle.toml_edit_model.specs.Text.{Text}
use Rattle.toml_edit_parser.specs.Options.{version_of}
use Rattle.toml_edit_edits.specs.Said.{SaysEdits}
use Rattle.toml_edit_edits.proofs.read_edit.edits_of.Given as goal

abbrev pub invariant-loop-rest : goal.invariant-loop-rest
invariant-loop-rest l =
    (front : List Text) × (map (λ w. w.now) l.words ≡ front ++ map (λ w. w.now) l.rest)
    × SaysEdits (version_of l.options) front l.edits.items

abbrev pub decreases-loop-rest : goal.decreases-loop-rest
decreases-loop-rest l = length l.rest
