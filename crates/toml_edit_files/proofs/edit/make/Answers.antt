-- One edit is refused, and so there is no tree that all of them leave.
use Rattle.std.proofs.Common.{subst, sym}
use Rattle.std.specs.Prelude.{Option}
use Rattle.toml_edit.specs.DocumentView.{tree_owned}
use Rattle.toml_edit_files.specs.Edited.{IsNotMade}
use Rattle.toml_edit_files.specs.declared.stop.Reason.{Reason}
use Rattle.toml_edit_files.proofs.EditLaws.{not_made}
use Rattle.toml_edit_files.proofs.edit.make.Goals as goal

pub returns-in_ok-refused_edit-in-Err-clause-stops : goal.returns-in_ok-refused_edit-in-Err-clause-stops
returns-in_ok-refused_edit-in-Err-clause-stops c =
    let es = c.args.edits.now in
    let x = tree_owned c.args.document.now in
    let (e, there, made, why) = c.in-Err.ensures.applies in
    subst (λ (r : Option Reason). IsNotMade es x r) (sym c.in_ok-refused_edit-in-Err.ensures)
    (not_made es x _ c.in-Err.refused.at e c.in-Err.refused.fault there made why)
