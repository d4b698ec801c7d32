-- What an edit leaves of a text, or why it leaves nothing.
use Rattle.std.specs.Prelude.{◌≡◌, ◌⊎◌, List, Err}
use Rattle.toml_edit.specs.Documents.{IsOwnedReading, IsRefusal}
use Rattle.toml_edit.specs.Edited.{IsEditedText}
use Rattle.toml_edit.specs.change.Changes.{Changes}
use Rattle.toml_edit.specs.edits.Commands.{Answer, done, refused, no_such_path, taken}
use Rattle.toml_edit.specs.edits.PathEdits.{PathCall}
use Rattle.toml_edit.specs.error.Fault.{IfToml}
use Rattle.toml_edit_error.specs.declared.toml_error.ParseFault.{ParseFault}
use Rattle.toml_edit.specs.model.Fits.{Fits}
use Rattle.toml_edit.specs.model.Text.{Text}
use Rattle.toml_edit.specs.model.Tree.{Tree}
use Rattle.example_proofs.specs.declared.error.Fault.{Fault}
use Rattle.example_proofs.specs.declared.error.Fault.TheVariants.{Read, Change, Missing, Taken, Misfit, Memory}

-- The calls are made in the tree of the text, where what is meant is done.
abbrev pub EditsTree : Text → Tree → List PathCall → Answer Tree → Text → Type 0
EditsTree text tree calls meant out =
    IsEditedText text tree calls out × ((left : Tree) × (meant ≡ done left))

abbrev pub Edits : Text → List PathCall → (Tree → Answer Tree) → Text → Type 0
Edits text calls meant out = (tree : Tree) × EditsTree text tree calls (meant tree) out

-- What is meant of a tree is refused, or leaves what does not fit; or memory ran out.
abbrev pub Refuses : Answer Tree → Tree → Fault → Type 0
Refuses meant tree (Change f) = Changes meant tree tree (Err f)
Refuses meant tree Missing = meant ≡ refused no_such_path
Refuses meant tree Taken = meant ≡ refused taken
Refuses meant tree Misfit = (left : Tree) × (meant ≡ done left) × ¬ (Fits left)
Refuses meant tree Memory = Unit {0}
Refuses meant tree _ = ⊥

-- The text is refused, or its tree for this reason.
abbrev pub Fails : Text → (Tree → Fault → Type 0) → Fault → Type 0
Fails text why f =
    ((p : ParseFault) × (f ≡ Read p) × IfToml p (IsRefusal text))
    ⊎ ((tree : Tree) × IsOwnedReading text tree × why tree f)

-- where what is meant is refused
abbrev pub FailsAt : Text → (Tree → Answer Tree) → Fault → Type 0
FailsAt text meant f = Fails text (λ tree. Refuses (meant tree) tree) f
