-- What the variants of items and values are seen as.
use Rattle.std.proofs.Common.{◌≡◌, ℤ, Bool, String, string_bytes, rules}
use Rattle.std.specs.declared.alloc.Global.{Global}
use Rattle.toml_edit_model.specs.Scalars.{string, integer, float, boolean, datetime}
use Rattle.toml_edit_model.specs.Text.{Text}
use Rattle.toml_edit_model.specs.Tree.{nothing, leaf}
use Rattle.toml_edit_datetime.specs.DatetimeView.{datetime_view}
use Rattle.toml_edit_datetime.specs.declared.datetime.Datetime as code
use Rattle.toml_edit_repr.specs.Views.{FormattedView}
use Rattle.toml_edit_tree.specs.Containers.{array_node, inline_node, table_node}
use Rattle.toml_edit_tree.specs.declared.array.Array.{Array}
use Rattle.toml_edit_tree.specs.declared.inline_table.InlineTable.{InlineTable}
use Rattle.toml_edit_tree.specs.declared.item.Item.{the_lemmas}
use Rattle.toml_edit_tree.specs.declared.item.Item.TheVariants as items
use Rattle.toml_edit_tree.specs.declared.item.Item.TheViews.{roll-Value}
use Rattle.toml_edit_tree.specs.declared.value.Value.{Value, out-Value}
use Rattle.toml_edit_tree.specs.declared.value.Value.TheVariants as values
use Rattle.toml_edit_tree.specs.View.{array_view, inline_view, item_view, value_view, table_view}
use Rattle.toml_edit_tree.specs.declared.table.Table.{Table}

-- an item is a placeholder, or what its value or table is
pub view-None : item_view items.None ≡ nothing
view-None = search (rules, the_lemmas)

pub view-Value : (v : Value) → item_view (items.Value v) ≡ value_view v
view-Value v = search (rules, the_lemmas)

pub view-Table : (t : Table) → item_view (items.Table t) ≡ table_node (table_view t)
view-Table t = search (rules, the_lemmas)

-- an array and an inline table as values
pub view-Array : (a : Array) → value_view (values.Array a) ≡ array_node (array_view a)
view-Array a = search (rules, the_lemmas)

pub view-InlineTable : (t : InlineTable) → value_view (values.InlineTable t) ≡ inline_node (inline_view t)
view-InlineTable t = search (rules, the_lemmas)

-- scalars as values
pub view-String : (f : FormattedView (String Global)) → value_view (values.String f) ≡ leaf (string (string_bytes f.value)) f.repr f.decor
view-String f = search (rules, the_lemmas)

pub view-Integer : (f : FormattedView ℤ) → value_view (values.Integer f) ≡ leaf (integer f.value) f.repr f.decor
view-Integer f = search (rules, the_lemmas)

pub view-Float : (f : FormattedView Text) → value_view (values.Float f) ≡ leaf (float f.value) f.repr f.decor
view-Float f = search (rules, the_lemmas)

pub view-Boolean : (f : FormattedView Bool) → value_view (values.Boolean f) ≡ leaf (boolean f.value) f.repr f.decor
view-Boolean f = search (rules, the_lemmas)

pub view-Datetime : (f : FormattedView code.Datetime) → value_view (values.Datetime f)
    ≡ leaf (datetime (datetime_view f.value)) f.repr f.decor
view-Datetime f = search (rules, the_lemmas)

-- each value is one of its variants
pub rolled : (v : Value) → roll-Value (out-Value v) ≡ v
rolled v = search (rules, the_lemmas)
