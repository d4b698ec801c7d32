-- The slots of a table as those of an inline table.
use Rattle.std.proofs.Common.{ap, ◌∙◌}
use Rattle.toml_edit_model.specs.Conversions.{new_inline}
use Rattle.toml_edit_model.specs.Tree.{inline}
use Rattle.toml_edit_tree.specs.Converting.{each_slot_made, formatted_slots}
use Rattle.toml_edit_tree.specs.View.{table_slots}
use Rattle.toml_edit_tree.proofs.ConvertLaws.{value-slots}
use Rattle.toml_edit_tree.proofs.table.Table.into_inline_table.Goals as goal

pub returns : goal.returns
returns c =
    c.inline_of.ensures
    ∙ ap (inline new_inline) (ap formatted_slots (c.make_slots.ensures ∙ ap each_slot_made c.into_slots-slots.ensures)
    ∙ value-slots (table_slots c.args.self))
