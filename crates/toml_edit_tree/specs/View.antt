-- The tree that an item, a table and a document represent.
use Rattle.std.specs.Prelude.{List, map, string_bytes}
use Rattle.std.specs.Bool.{then_some}
use Rattle.toml_edit_model.specs.Scalars.{string, integer, float, boolean, datetime}
use Rattle.toml_edit_datetime.specs.DatetimeView.{datetime_view}
use Rattle.toml_edit_model.specs.Tree.{Raw, Node, nothing, leaf, Items, Slots, TableFields, Tree}
use Rattle.toml_edit_slots.specs.declared.slots.Slot as repr
use Rattle.toml_edit_slots.specs.Slots.{on_item}
use Rattle.toml_edit_tree.specs.Containers.{ArrayView, InlineView, TableView, TablesView, array_node, inline_node, table_node, tables_node}
use Rattle.toml_edit_tree.specs.Containers.{tree_slots}
use Rattle.toml_edit_model.specs.Lists.{items_from}
use Rattle.toml_edit_tree.specs.declared.item.Item.{Item, fold-Item}
use Rattle.toml_edit_tree.specs.declared.item.Item.TheOpen.{Item-F, Value-F, Array-F, ArrayOfTables-F, InlineTable-F, Table-F}
use Rattle.toml_edit_tree.specs.declared.value.Value.{Value, fold-Value}
use Rattle.toml_edit_tree.specs.declared.array.Array.{Array, fold-Array}
use Rattle.toml_edit_tree.specs.declared.array_of_tables.ArrayOfTables.{ArrayOfTables, fold-ArrayOfTables}
use Rattle.toml_edit_tree.specs.declared.inline_table.InlineTable.{InlineTable, fold-InlineTable}
use Rattle.toml_edit_tree.specs.declared.table.Table.{Table, fold-Table}

-- one level, with what is inside already seen as its tree
abbrev pub item_step : Item-F Node Node ArrayView TablesView InlineView TableView → Node
item_step Item-F.None = nothing
item_step (Item-F.Value n) = n
item_step (Item-F.Table t) = table_node t
item_step (Item-F.ArrayOfTables a) = tables_node a

abbrev pub value_step : Value-F Node Node ArrayView TablesView InlineView TableView → Node
value_step (Value-F.String f) = leaf (string (string_bytes f.value)) f.repr f.decor
value_step (Value-F.Integer f) = leaf (integer f.value) f.repr f.decor
value_step (Value-F.Float f) = leaf (float f.value) f.repr f.decor
value_step (Value-F.Datetime f) = leaf (datetime (datetime_view f.value)) f.repr f.decor
value_step (Value-F.Boolean f) = leaf (boolean f.value) f.repr f.decor
value_step (Value-F.Array a) = array_node a
value_step (Value-F.InlineTable t) = inline_node t

abbrev pub array_step : Array-F Node Node ArrayView TablesView InlineView TableView → ArrayView
array_step a =
    record {
      fields = record {
        decor = a.decor;
        comma = a.trailing_comma;
        trailing = a.trailing;
        extent = a.span;
      };
      items = items_from a.values.items;
    }

abbrev pub inline_step : InlineTable-F Node Node ArrayView TablesView InlineView TableView
    → InlineView
inline_step t =
    record {
      fields = record {
        decor = t.decor;
        is_dotted = t.dotted;
        comma = t.trailing_comma;
        trailing = t.trailing;
        extent = then_some t.is_read t.span;
      };
      slots = tree_slots t.items;
    }

abbrev pub tables_step : ArrayOfTables-F Node Node ArrayView TablesView InlineView TableView
    → TablesView
tables_step a = record { extent = a.span; items = items_from a.values.items }

abbrev pub table_step : Table-F Node Node ArrayView TablesView InlineView TableView → TableView
table_step t =
    record {
      fields = record {
        decor = t.decor;
        is_implicit = t.implicit;
        is_dotted = t.dotted;
        position = t.position;
        extent = t.span;
      };
      slots = tree_slots t.slots;
    }

abbrev pub item_view : Item → Node
item_view =
    fold-Item Node Node ArrayView TablesView InlineView TableView item_step value_step array_step
    tables_step inline_step table_step

abbrev pub value_view : Value → Node
value_view =
    fold-Value Node Node ArrayView TablesView InlineView TableView item_step value_step array_step
    tables_step inline_step table_step

abbrev pub array_view : Array → ArrayView
array_view =
    fold-Array Node Node ArrayView TablesView InlineView TableView item_step value_step array_step
    tables_step inline_step table_step

abbrev pub inline_view : InlineTable → InlineView
inline_view =
    fold-InlineTable Node Node ArrayView TablesView InlineView TableView item_step value_step
    array_step tables_step inline_step table_step

abbrev pub tables_view : ArrayOfTables → TablesView
tables_view =
    fold-ArrayOfTables Node Node ArrayView TablesView InlineView TableView item_step value_step
    array_step tables_step inline_step table_step

abbrev pub table_view : Table → TableView
table_view =
    fold-Table Node Node ArrayView TablesView InlineView TableView item_step value_step array_step
    tables_step inline_step table_step

abbrev pub items_view : List Item → Items
items_view xs = items_from (map item_view xs)

abbrev pub slots_view : List (repr.Slot Item) → Slots
slots_view es = tree_slots (map (on_item item_view) es)

-- what a table has beside its slots, and those
abbrev pub fields_view : Table → TableFields
fields_view t = (table_view t).fields

abbrev pub table_slots : Table → Slots
table_slots t = (table_view t).slots

abbrev pub tree_view : Table → Raw → Tree
tree_view root trailing = record {
  root = fields_view root;
  slots = table_slots root;
  trailing = trailing;
}
