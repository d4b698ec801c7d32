-- What the edits that were made leave.
use Rattle.toml_edit.specs.DocumentView.{tree_owned}
use Rattle.toml_edit_edits.proofs.LeaveLaws.{all-leave}
use Rattle.toml_edit_edits.proofs.script.apply.Goals as goal

pub returns-clause-leaves : goal.returns-clause-leaves
returns-clause-leaves c =
    all-leave c.others_stay.ensures.edits c.edit_means.ensures.means c.args.edits.now (tree_owned c.args.document.now) (tree_owned c.make_all.new.document)
    c.make_all.result c.make_all.ensures.applies
