-- A tree and what is printed of it.
use Rattle.std.specs.Prelude.{◌≡◌, Bool}
use Rattle.toml_edit.specs.Documents.{MeansWhatIsShown}
use Rattle.toml_edit.specs.laws.AcceptedPrints.{IsFitting}
use Rattle.toml_edit.specs.model.Mode.{Mode}
use Rattle.toml_edit.specs.model.Print.{print_in}
use Rattle.toml_edit.specs.model.Text.{Text}
use Rattle.toml_edit.specs.model.Tree.{Tree}

-- The text is the print of the tree. If that fits, the text is accepted, and means what the tree
-- shows.
abbrev pub ReadsBack : Mode → Bool → Tree → Text → Type 0
ReadsBack mode is_open t out =
    (out ≡ print_in mode is_open t) × (IsFitting mode t → MeansWhatIsShown mode is_open t)
