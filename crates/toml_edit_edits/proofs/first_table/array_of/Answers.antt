-- An array of one table.
use Rattle.std.proofs.Common.{◌∙◌, [], ◌∷◌, None, ap}
use Rattle.toml_edit_model.specs.ArrayCalls.{pushed}
use Rattle.toml_edit_model.specs.Lists.{item_list}
use Rattle.toml_edit_tree.specs.Containers.{TablesView, table_node}
use Rattle.toml_edit_tree.specs.View.{table_view, tables_view}
use Rattle.toml_edit_tree.proofs.ViewLaws.{view-ArrayOfTables}
use Rattle.toml_edit_edits.proofs.ElementLaws.{tables-are}
use Rattle.toml_edit_edits.proofs.first_table.array_of.Goals as goal

pub returns-in-Ok : goal.returns-in-Ok
returns-in-Ok c =
    let n = table_node (table_view c.args.table) in
    view-ArrayOfTables c.push.new.self
    ∙ tables-are (tables_view c.push.new.self) None (n ∷ [])
    (c.in-Ok.ensures.extent ∙ ap (λ (v : TablesView). v.extent) c.new-tables.ensures)
    (c.in-Ok.ensures.items ∙ ap (λ (v : TablesView). pushed n (item_list v.items)) c.new-tables.ensures)
