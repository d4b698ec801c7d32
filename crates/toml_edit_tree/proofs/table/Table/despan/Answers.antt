-- The fields and the slots of a table in owned form.
use Rattle.toml_edit_tree.proofs.DespanLaws.{if_done, same_table}
use Rattle.toml_edit_tree.proofs.table.Table.despan.Goals as goal

pub returns-clause-fields : goal.returns-clause-fields
returns-clause-fields c = if_done c.despan_table.result c.despan_table.ensures (λ e. (same_table _ _ _ _ e).0)

pub returns-clause-slots : goal.returns-clause-slots
returns-clause-slots c = if_done c.despan_table.result c.despan_table.ensures (λ e. (same_table _ _ _ _ e).1)
