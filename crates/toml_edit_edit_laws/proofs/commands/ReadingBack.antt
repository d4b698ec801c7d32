-- What is written after a command reads back.
use Rattle.std.proofs.Common.{Bool}
use Rattle.toml_edit_model.specs.Mode.{Mode}
use Rattle.toml_edit_model.specs.Tree.{Tree, SlotsAreWellMade}
use Rattle.toml_edit_model.specs.Fits.{FitsIn}
use Rattle.toml_edit_laws.specs.AcceptedPrints.{IsFitting}
use Rattle.toml_edit_edit_laws.specs.CommandLaws.{ReadsBack, SetReadsBack, RemoveReadsBack}
use Rattle.toml_edit_laws.proofs.accepted_prints.PrintedCut.{print-cut}
use Rattle.toml_edit_laws.proofs.accepted_prints.StatementsAgree.{print-agrees}
use Rattle.toml_edit_laws.proofs.print_meaning.ReparseLaws.{prints-mean-what-is-shown}
use Rattle.toml_edit_edit_laws.proofs.commands.Keeping.{set_keeps_the_rest, remove_keeps_the_rest}

module _ (mode : Mode) where
  reads-back : (u : Tree) → SlotsAreWellMade u.slots → FitsIn mode u → (is_open : Bool) → ReadsBack mode u is_open
  reads-back u made fits is_open =
      let fitting : IsFitting mode u = record { made = made; fits = fits } in
      record {
        cut = (print-cut mode is_open u fitting).0;
        accepted = print-agrees mode is_open u fitting;
        means =
            prints-mean-what-is-shown mode is_open u fitting;
      }

  pub set_reads_back : SetReadsBack mode
  set_reads_back t u path v made wv sp h fits = reads-back u (set_keeps_the_rest t u path v made wv sp h).made fits

  pub remove_reads_back : RemoveReadsBack mode
  remove_reads_back t u path k made h fits = reads-back u (remove_keeps_the_rest t u path k made h).made fits
