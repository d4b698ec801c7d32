-- The slots of an array of tables as those of an array.
use Rattle.std.proofs.Common.{sym, ap, ◌∙◌}
use Rattle.toml_edit_model.specs.Conversions.{new_array}
use Rattle.toml_edit_model.specs.Tree.{list}
use Rattle.toml_edit_tree.specs.Converting.{each_made, formatted_elements}
use Rattle.toml_edit_tree.specs.View.{items_view, tables_view}
use Rattle.toml_edit_tree.proofs.ConvertLaws.{value-items}
use Rattle.toml_edit_tree.proofs.ViewLaws.{tables_items}
use Rattle.toml_edit_tree.proofs.array_of_tables.ArrayOfTables.into_array.Goals as goal

pub returns : goal.returns
returns c =
    c.array_of.ensures
    ∙ ap (list new_array) (ap formatted_elements (c.make_items.ensures
    ∙ ap (λ v. each_made (items_view v.items)) c.into_values-items.ensures ∙ ap each_made (sym (tables_items c.args.self)))
    ∙ value-items (tables_view c.args.self).items)
