-- The law of a table more in an array of tables.
use Rattle.toml_edit_edits.proofs.staying.ElementMore.{element-adds}
use Rattle.toml_edit_edits.proofs.staying.FirstMore.{first-adds}
use Rattle.toml_edit_edits.proofs.laws.element_adds.Goals as goal

pub returns : goal.returns
returns c = record { last = element-adds; first = first-adds }
