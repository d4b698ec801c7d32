-- The print of a tree that is well made and fits means what the tree shows.
use mathlib.Core.Logic.{∥∥₁_map}
use Rattle.std.specs.Prelude.{Bool}
use Rattle.toml_edit_model.specs.Fits.{FitsIn}
use Rattle.toml_edit_model.specs.Mode.{Mode}
use Rattle.toml_edit_model.specs.Tree.{Tree, SlotsAreWellMade}
use Rattle.toml_edit_laws.specs.AcceptedPrints.{IsFitting}
use Rattle.toml_edit_laws.proofs.accepted_prints.PrintedCut.{print-cut}
use Rattle.toml_edit_laws.proofs.accepted_prints.StatementsAgree.{print-agrees}
use Rattle.toml_edit_laws.proofs.print_meaning.ReparseLaws.{prints-mean-what-is-shown}
use Rattle.toml_edit.specs.Documents.{MeansWhatIsShown}

module _ (mode : Mode) (is_open : Bool) (x : Tree) where
  pub made-print : IsFitting mode x → MeansWhatIsShown mode is_open x
  made-print fitting =
      record {
        accepted = ((print-cut mode is_open x fitting).0, print-agrees mode is_open x fitting);
        meaning = prints-mean-what-is-shown mode is_open x fitting;
      }

  pub print-means : ∥ SlotsAreWellMade x.slots ∥₁ → FitsIn mode x → ∥ MeansWhatIsShown mode is_open x ∥₁
  print-means made fits = ∥∥₁_map made (λ m. made-print (record { made = m; fits = fits }))
