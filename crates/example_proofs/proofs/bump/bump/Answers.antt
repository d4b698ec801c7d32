-- A string that is put fits.
use Rattle.std.proofs.Common.{[], refl}
use Rattle.toml_edit.specs.DocumentView.{tree_owned}
use Rattle.example_proofs.proofs.bump.bump.Goals as goal

pub returns-clause-bumped : goal.returns-clause-bumped
returns-clause-bumped c =
    let t = tree_owned c.in_ok-document.document in
    let one = c.in_ok-replace_version.ensures.edits c.args.text.now t [] c.in_ok-document.ensures.edits in
    let told = c.edited_prints.ensures c.args.text.now t _ c.replace_version.new.document one (one.fits ((refl, (refl, refl)), tt)) in
    (t, c.in-Some.at, c.in-Some.ensures, (rw c.in_ok-print.ensures told, (_, c.in_ok-replace_version.ensures.changes)))
