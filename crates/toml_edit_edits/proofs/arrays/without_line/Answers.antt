-- The array is put together of what it has beside its values, and those.
use Rattle.toml_edit_tree.specs.View.{array_view}
use Rattle.toml_edit_edits.proofs.OutcomeLaws.{array-holds}
use Rattle.toml_edit_edits.proofs.arrays.without_line.Goals as goal

pub returns-in-Ok : goal.returns-in-Ok
returns-in-Ok c = array-holds (array_view c.remove_line.new.self) _ _ c.in-Ok.ensures.fields c.in-Ok.ensures.items
