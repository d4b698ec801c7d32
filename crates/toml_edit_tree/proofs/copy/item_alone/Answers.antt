-- An item alone, as what it holds alone.
use Rattle.std.proofs.Common.{◌∙◌, sym, ap}
use Rattle.toml_edit_tree.specs.Emptied.{emptied}
use Rattle.toml_edit_tree.specs.View.{item_view}
use Rattle.toml_edit_tree.proofs.ViewLaws.{view-ArrayOfTables, view-Table, view-Value}
use Rattle.toml_edit_tree.proofs.copy.item_alone.Goals as goal

pub returns-in_ok-value_alone-in-Value : goal.returns-in_ok-value_alone-in-Value
returns-in_ok-value_alone-in-Value c =
    view-Value c.in_ok-value_alone-in-Value.field-0 ∙ c.in_ok-value_alone-in-Value.ensures
    ∙ sym (ap emptied (view-Value c.in-Value.value)) ∙ sym (ap (λ x. emptied (item_view x)) c.in-Value.is)

pub returns-in_ok-table_alone-in-Table : goal.returns-in_ok-table_alone-in-Table
returns-in_ok-table_alone-in-Table c =
    view-Table c.in_ok-table_alone-in-Table.field-0 ∙ c.in_ok-table_alone-in-Table.ensures
    ∙ sym (ap emptied (view-Table c.in-Table.table)) ∙ sym (ap (λ x. emptied (item_view x)) c.in-Table.is)

pub returns-in-ArrayOfTables : goal.returns-in-ArrayOfTables
returns-in-ArrayOfTables c =
    view-ArrayOfTables c.tables_alone.result ∙ c.tables_alone.ensures
    ∙ sym (ap emptied (view-ArrayOfTables c.in-ArrayOfTables.tables)) ∙ sym (ap (λ x. emptied (item_view x)) c.in-ArrayOfTables.is)
