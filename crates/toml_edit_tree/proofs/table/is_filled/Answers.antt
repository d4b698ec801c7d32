-- What is no placeholder.
use Rattle.toml_edit_tree.proofs.table.is_filled.Goals as goal
use Rattle.toml_edit_laws.proofs.slots.Those.{is_item-not}

pub returns : goal.returns
returns c = is_item-not c.is_none.result _ c.is_none.ensures
