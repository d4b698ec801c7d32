-- The views of each level.
use Rattle.std.proofs.Common.{◌≡◌, ℤ, Bool, String, string_bytes, ap, ◌∙◌, rules}
use Rattle.std.specs.declared.alloc.Global.{Global}
use Rattle.toml_edit_model.specs.Conversions.{with_decor}
use Rattle.toml_edit_model.specs.Scalars.{string, integer, float, boolean, datetime}
use Rattle.toml_edit_model.specs.Text.{Text}
use Rattle.toml_edit_model.specs.Tree.{Decor, nothing, leaf}
use Rattle.toml_edit_datetime.specs.DatetimeView.{datetime_view}
use Rattle.toml_edit_datetime.specs.declared.datetime.Datetime as code
use Rattle.toml_edit_repr.specs.Views.{FormattedView}
use Rattle.toml_edit_tree.specs.Casts.{decorated, decorated_open}
use Rattle.toml_edit_tree.specs.Containers.{array_node, inline_node, table_node, tables_node}
use Rattle.toml_edit_tree.specs.declared.array.Array.{Array, out-Array}
use Rattle.toml_edit_tree.specs.declared.array_of_tables.ArrayOfTables.{ArrayOfTables, out-ArrayOfTables}
use Rattle.toml_edit_tree.specs.declared.inline_table.InlineTable.{InlineTable, out-InlineTable}
use Rattle.toml_edit_tree.specs.declared.item.Item.{Item, the_lemmas}
use Rattle.toml_edit_tree.specs.declared.item.Item.TheOpen.{Value-F}
use Rattle.toml_edit_tree.specs.declared.item.Item.TheVariants as items
use Rattle.toml_edit_tree.specs.declared.item.Item.TheViews.{roll-Value}
use Rattle.toml_edit_tree.specs.declared.table.Table.{Table, out-Table}
use Rattle.toml_edit_tree.specs.declared.value.Value.{Value, out-Value}
use Rattle.toml_edit_tree.specs.declared.value.Value.TheVariants as values
use Rattle.toml_edit_tree.specs.View.{array_view, inline_view, item_view, items_view, slots_view, table_view, tables_view, value_view}

-- an item is a placeholder, or what it holds is
pub view-None : item_view items.None ≡ nothing
view-None = search (rules, the_lemmas)

pub view-Value : (v : Value) → item_view (items.Value v) ≡ value_view v
view-Value v = search (rules, the_lemmas)

pub view-Table : (t : Table) → item_view (items.Table t) ≡ table_node (table_view t)
view-Table t = search (rules, the_lemmas)

pub view-ArrayOfTables : (a : ArrayOfTables) → item_view (items.ArrayOfTables a) ≡ tables_node (tables_view a)
view-ArrayOfTables a = search (rules, the_lemmas)

-- an array and an inline table as values
pub view-Array : (a : Array) → value_view (values.Array a) ≡ array_node (array_view a)
view-Array a = search (rules, the_lemmas)

pub view-InlineTable : (t : InlineTable) → value_view (values.InlineTable t) ≡ inline_node (inline_view t)
view-InlineTable t = search (rules, the_lemmas)

-- what they hold
pub array_items : (a : Array) → (array_view a).items ≡ items_view (out-Array a).values.items
array_items a = search (rules, the_lemmas)

pub inline_slots : (t : InlineTable) → (inline_view t).slots ≡ slots_view (out-InlineTable t).items
inline_slots t = search (rules, the_lemmas)

pub table_slots : (t : Table) → (table_view t).slots ≡ slots_view (out-Table t).slots
table_slots t = search (rules, the_lemmas)

pub tables_items : (a : ArrayOfTables) → (tables_view a).items ≡ items_view (out-ArrayOfTables a).values.items
tables_items a = search (rules, the_lemmas)

-- scalars as values
pub view-String : (f : FormattedView (String Global)) → value_view (values.String f) ≡ leaf (string (string_bytes f.value)) f.repr f.decor
view-String f = search (rules, the_lemmas)

pub view-Integer : (f : FormattedView ℤ) → value_view (values.Integer f) ≡ leaf (integer f.value) f.repr f.decor
view-Integer f = search (rules, the_lemmas)

pub view-Float : (f : FormattedView Text) → value_view (values.Float f) ≡ leaf (float f.value) f.repr f.decor
view-Float f = search (rules, the_lemmas)

pub view-Boolean : (f : FormattedView Bool) → value_view (values.Boolean f) ≡ leaf (boolean f.value) f.repr f.decor
view-Boolean f = search (rules, the_lemmas)

pub view-Datetime : (f : FormattedView code.Datetime) → value_view (values.Datetime f)
    ≡ leaf (datetime (datetime_view f.value)) f.repr f.decor
view-Datetime f = search (rules, the_lemmas)

-- another decor is seen as one
decorated-open : (d : Decor) (o : Value-F Item Value Array ArrayOfTables InlineTable Table) → value_view (decorated_open d o)
    ≡ with_decor d (value_view (roll-Value o))
decorated-open d (Value-F.String f) = search (rules, the_lemmas)
decorated-open d (Value-F.Integer f) = search (rules, the_lemmas)
decorated-open d (Value-F.Float f) = search (rules, the_lemmas)
decorated-open d (Value-F.Boolean f) = search (rules, the_lemmas)
decorated-open d (Value-F.Datetime f) = search (rules, the_lemmas)
decorated-open d (Value-F.Array a) = search (rules, the_lemmas)
decorated-open d (Value-F.InlineTable t) = search (rules, the_lemmas)

pub rolled : (v : Value) → roll-Value (out-Value v) ≡ v
rolled v = search (rules, the_lemmas)

pub decorated-view : (d : Decor) (v : Value) → value_view (decorated d v) ≡ with_decor d (value_view v)
decorated-view d v = decorated-open d (out-Value v) ∙ ap (λ w. with_decor d (value_view w)) (rolled v)
