-- What the edit leaves.
use Rattle.toml_edit.specs.DocumentView.{tree_owned}
use Rattle.toml_edit_edits.proofs.LeaveLaws.{one-leaves}
use Rattle.toml_edit_edits.proofs.script.apply_edit.Goals as goal

pub returns-clause-leaves : goal.returns-clause-leaves
returns-clause-leaves c =
    one-leaves c.others_stay.ensures.edits c.edit_means.ensures.means c.args.edit.now (tree_owned c.args.document.now) (tree_owned c.make.new.document)
    c.make.result c.make.ensures.makes
