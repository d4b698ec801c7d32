-- The print of a tree that fits means what the tree shows.
use Rattle.toml_edit_model.specs.Mode.{Mode}
use Rattle.toml_edit_laws.specs.Reparse.{PrintsMeanWhatIsShown}
use Rattle.toml_edit_laws.proofs.print_meaning.PrintFacts.{meaning-of-print}

module _ (mode : Mode) where
  pub prints-mean-what-is-shown : PrintsMeanWhatIsShown mode
  prints-mean-what-is-shown = meaning-of-print mode
