-- Lists of edits of a steady tree.
use Rattle.toml_edit_laws.proofs.locality.EditLists.{edits_stay_local}
use Rattle.toml_edit_laws.proofs.edits.Goals as goal

pub returns : goal.returns
returns c = edits_stay_local
