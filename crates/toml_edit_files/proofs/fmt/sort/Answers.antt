-- A path where nothing is is passed over.
use Rattle.std.proofs.Common.{subst, sym}
use Rattle.std.specs.Prelude.{Option}
use Rattle.toml_edit.specs.DocumentView.{tree_owned}
use Rattle.toml_edit_edits.specs.Lists.{effect}
use Rattle.toml_edit_files.specs.FormatFiles.{IsNotSorted, passing_over}
use Rattle.toml_edit_files.specs.declared.stop.Reason.{Reason}
use Rattle.toml_edit_files.proofs.FormatLaws.{not_sorted, passes_done, passes_over}
use Rattle.toml_edit_files.proofs.fmt.sort.Goals as goal

pub returns-in-Ok-clause-sorted : goal.returns-in-Ok-clause-sorted
returns-in-Ok-clause-sorted c = passes_done _ _ _ c.in-Ok.ensures.makes

pub returns-in-NoSuchPath-clause-sorted : goal.returns-in-NoSuchPath-clause-sorted
returns-in-NoSuchPath-clause-sorted c =
    passes_over _ _ _ c.in-Err.fault c.in-NoSuchPath.is c.in-Err.ensures.makes.0 c.in-Err.ensures.makes.1

pub returns-in_ok-refused_edit-in_default-clause-stops : goal.returns-in_ok-refused_edit-in_default-clause-stops
returns-in_ok-refused_edit-in_default-clause-stops c =
    let x = tree_owned c.args.document.now in
    subst (λ (w : Option Reason). IsNotSorted (passing_over x (effect c.args.edit.now x)) w) (sym c.in_ok-refused_edit-in_default.ensures)
    (not_sorted x _ c.in-Err.fault c.in_default.not-NoSuchPath c.in-Err.ensures.makes.0)
