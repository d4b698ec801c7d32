-- The slots without decors, as the table shows them.
use Rattle.std.proofs.Common.{sym, ap, ◌∙◌}
use Rattle.toml_edit_laws.proofs.slots.Lists.{slot_list-from}
use Rattle.toml_edit_model.specs.Conversions.{formatted}
use Rattle.toml_edit_model.specs.Lists.{slot_list}
use Rattle.toml_edit_tree.specs.declared.table.Table.{out-Table}
use Rattle.toml_edit_tree.specs.Indexed.{shown_slots}
use Rattle.toml_edit_tree.proofs.SlotsLaws.{made-shown, table-shown}
use Rattle.toml_edit_tree.proofs.table.Table.fmt.Goals as goal

pub returns-clause-slots : goal.returns-clause-slots
returns-clause-slots c =
    made-shown _ ∙ ap slot_list c.format_slots.ensures ∙ slot_list-from (formatted (shown_slots (out-Table c.args.self.now).slots))
    ∙ ap formatted (sym (table-shown c.args.self.now))
