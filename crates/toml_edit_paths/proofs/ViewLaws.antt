-- What items and values are seen as.
use Rattle.std.proofs.Common.{◌≡◌, ap, ◌∙◌, rules, Vec}
use Rattle.std.specs.declared.alloc.Global.{Global}
use Rattle.toml_edit_model.specs.Conversions.{with_decor}
use Rattle.toml_edit_model.specs.Tree.{Decor}
use Rattle.toml_edit_tree.specs.Casts.{decorated, decorated_open}
use Rattle.toml_edit_tree.specs.Containers.{array_node, inline_node, table_node, tables_node}
use Rattle.toml_edit_tree.specs.declared.array.Array.{Array, out-Array, roll-Array}
use Rattle.toml_edit_tree.specs.declared.array_of_tables.ArrayOfTables.{ArrayOfTables, out-ArrayOfTables, roll-ArrayOfTables}
use Rattle.toml_edit_tree.specs.declared.inline_table.InlineTable.{InlineTable}
use Rattle.toml_edit_tree.specs.declared.item.Item.{Item, the_lemmas}
use Rattle.toml_edit_tree.specs.declared.item.Item.TheOpen.{Value-F}
use Rattle.toml_edit_tree.specs.declared.item.Item.TheVariants as items
use Rattle.toml_edit_tree.specs.declared.item.Item.TheViews.{roll-Value}
use Rattle.toml_edit_tree.specs.declared.table.Table.{Table}
use Rattle.toml_edit_tree.specs.declared.value.Value.{Value, out-Value}
use Rattle.toml_edit_tree.specs.declared.value.Value.TheVariants as values
use Rattle.toml_edit_tree.specs.View.{array_view, inline_view, item_view, items_view, table_view, tables_view, value_view}

pub view-Value : (v : Value) → item_view (items.Value v) ≡ value_view v
view-Value v = search (rules, the_lemmas)

pub view-Table : (t : Table) → item_view (items.Table t) ≡ table_node (table_view t)
view-Table t = search (rules, the_lemmas)

pub view-ArrayOfTables : (a : ArrayOfTables) → item_view (items.ArrayOfTables a) ≡ tables_node (tables_view a)
view-ArrayOfTables a = search (rules, the_lemmas)

pub view-Array : (a : Array) → value_view (values.Array a) ≡ array_node (array_view a)
view-Array a = search (rules, the_lemmas)

pub view-InlineTable : (t : InlineTable) → value_view (values.InlineTable t) ≡ inline_node (inline_view t)
view-InlineTable t = search (rules, the_lemmas)

-- another decor is seen as one
decorated-open : (d : Decor) (o : Value-F Item Value Array ArrayOfTables InlineTable Table) → value_view (decorated_open d o)
    ≡ with_decor d (value_view (roll-Value o))
decorated-open d (Value-F.String f) = search (rules, the_lemmas)
decorated-open d (Value-F.Integer f) = search (rules, the_lemmas)
decorated-open d (Value-F.Float f) = search (rules, the_lemmas)
decorated-open d (Value-F.Boolean f) = search (rules, the_lemmas)
decorated-open d (Value-F.Datetime f) = search (rules, the_lemmas)
decorated-open d (Value-F.Array a) = search (rules, the_lemmas)
decorated-open d (Value-F.InlineTable t) = search (rules, the_lemmas)

pub rolled : (v : Value) → roll-Value (out-Value v) ≡ v
rolled v = search (rules, the_lemmas)

pub decorated-view : (d : Decor) (v : Value) → value_view (decorated d v) ≡ with_decor d (value_view v)
decorated-view d v = decorated-open d (out-Value v) ∙ ap (λ w. with_decor d (value_view w)) (rolled v)

-- ---- arrays and arrays of tables with other items

pub array-items : (a : Array) → (array_view a).items ≡ items_view (out-Array a).values.items
array-items a = search (rules, the_lemmas)

pub array-made : (a : Array) (v : Vec Item Global)
    → array_view
    (roll-Array (record {
      values = v;
      decor = (out-Array a).decor;
      trailing = (out-Array a).trailing;
      trailing_comma = (out-Array a).trailing_comma;
      span = (out-Array a).span;
    }))
    ≡ record { fields = (array_view a).fields; items = items_view v.items }
array-made a v = search (rules, the_lemmas)

pub tables-items : (a : ArrayOfTables) → (tables_view a).items ≡ items_view (out-ArrayOfTables a).values.items
tables-items a = search (rules, the_lemmas)

pub tables-made : (a : ArrayOfTables) (v : Vec Item Global)
    → tables_view (roll-ArrayOfTables (record { values = v; span = (out-ArrayOfTables a).span }))
    ≡ record { extent = (tables_view a).extent; items = items_view v.items }
tables-made a v = search (rules, the_lemmas)
