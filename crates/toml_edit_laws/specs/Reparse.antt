-- The law of what a print means.
use Rattle.std.specs.Prelude.{Bool}
use Rattle.toml_edit_model.specs.Mode.{Mode}
use Rattle.toml_edit_model.specs.Meaning.{SameFacts, meaning}
use Rattle.toml_edit_model.specs.Tree.{Tree}
use Rattle.toml_edit_model.specs.Shown.{shown_meaning}
use Rattle.toml_edit_model.specs.Print.{document_in}
use Rattle.toml_edit_laws.specs.AcceptedPrints.{IsFitting}

module _ (mode : Mode) where
  -- The print of a tree that fits means what the tree shows.
  abbrev pub PrintsMeanWhatIsShown : Type 0
  PrintsMeanWhatIsShown =
      (is_open : Bool) (t : Tree) → IsFitting mode t
      → SameFacts (meaning (document_in mode is_open t)) (shown_meaning t)
