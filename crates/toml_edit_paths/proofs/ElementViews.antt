-- Items with other items in them, as they are seen.
use Rattle.std.proofs.Common.{◌≡◌, ◌∙◌, sym, ap, subst, rules, Some, Vec, option_map}
use Rattle.std.specs.declared.alloc.Global.{Global}
use Rattle.toml_edit_model.specs.Lists.{item_list, items_in, on_items}
use Rattle.toml_edit_model.specs.Tree.{list, tables}
use Rattle.toml_edit_laws.proofs.locality.Slots.{items_from-list}
use Rattle.toml_edit_tree.specs.Containers.{array_node, tables_node}
use Rattle.toml_edit_tree.specs.View.{array_view, item_view, items_view, tables_view, value_view}
use Rattle.toml_edit_tree.specs.declared.array.Array.{Array}
use Rattle.toml_edit_tree.specs.declared.array_of_tables.ArrayOfTables.{ArrayOfTables}
use Rattle.toml_edit_tree.specs.declared.inline_table.InlineTable.{InlineTable}
use Rattle.toml_edit_tree.specs.declared.item.Item.{Item, out-Item, the_lemmas}
use Rattle.toml_edit_tree.specs.declared.item.Item.TheOpen.{Item-F, Value-F}
use Rattle.toml_edit_tree.specs.declared.item.Item.TheViews.{roll-Item, roll-Value}
use Rattle.toml_edit_tree.specs.declared.table.Table.{Table}
use Rattle.toml_edit_tree.specs.declared.value.Value.{Value, out-Value}
use Rattle.toml_edit_tree.specs.Elements.{listed}
use Rattle.toml_edit_paths.specs.Items.{item_items, item_with, items_held, value_items, value_with, with_items}
use Rattle.toml_edit_paths.proofs.ViewLaws.{array-items, array-made, rolled, tables-items, tables-made, view-Array, view-ArrayOfTables}
use Rattle.toml_edit_paths.proofs.ViewLaws.{view-Value}

module _ (v : Vec Item Global) where
  array-with : (a : Array) → array_node (array_view (record a { values = v })) ≡ on_items (λ _. listed v.items) (array_node (array_view a))
  array-with a = ap array_node (array-made a v) ∙ ap (list (array_view a).fields) (sym (items_from-list (items_view v.items)))

  tables-with : (a : ArrayOfTables) → tables_node (tables_view (record a { values = v }))
      ≡ on_items (λ _. listed v.items) (tables_node (tables_view a))
  tables-with a = ap tables_node (tables-made a v) ∙ ap (tables (tables_view a).extent) (sym (items_from-list (items_view v.items)))

  value-open : (o : Value-F Item Value Array ArrayOfTables InlineTable Table)
      → value_view (value_with o v (roll-Value o)) ≡ on_items (λ _. listed v.items) (value_view (roll-Value o))
  unfolding roll-Value denote.Hole.Carrier.roll
  value-open (Value-F.Array a) = view-Array (record a { values = v }) ∙ array-with a
      ∙ ap (on_items (λ _. listed v.items)) (sym (view-Array a))
  value-open (Value-F.String f) = search (rules, the_lemmas)
  value-open (Value-F.Integer f) = search (rules, the_lemmas)
  value-open (Value-F.Float f) = search (rules, the_lemmas)
  value-open (Value-F.Boolean f) = search (rules, the_lemmas)
  value-open (Value-F.Datetime f) = search (rules, the_lemmas)
  value-open (Value-F.InlineTable t) = search (rules, the_lemmas)

  value-with : (x : Value) → value_view (value_with (out-Value x) v x) ≡ on_items (λ _. listed v.items) (value_view x)
  value-with x = subst (λ y. value_view (value_with (out-Value x) v y)
      ≡ on_items (λ _. listed v.items) (value_view y)) (rolled x) (value-open (out-Value x))

  item-open : (o : Item-F Item Value Array ArrayOfTables InlineTable Table)
      → item_view (item_with o v (roll-Item o)) ≡ on_items (λ _. listed v.items) (item_view (roll-Item o))
  unfolding roll-Item denote.Hole.Carrier.roll
  item-open (Item-F.Value x) = view-Value _ ∙ value-with x ∙ ap (on_items (λ _. listed v.items)) (sym (view-Value x))
  item-open (Item-F.ArrayOfTables a) = view-ArrayOfTables (record a { values = v }) ∙ tables-with a
      ∙ ap (on_items (λ _. listed v.items)) (sym (view-ArrayOfTables a))
  item-open (Item-F.Table t) = search (rules, the_lemmas)
  item-open Item-F.None = search (rules, the_lemmas)

rolled-item : (x : Item) → roll-Item (out-Item x) ≡ x
rolled-item x = search (rules, the_lemmas)

-- ---- the items of one

value-held : (o : Value-F Item Value Array ArrayOfTables InlineTable Table) → option_map (λ v. listed v.items) (value_items o)
    ≡ items_in (value_view (roll-Value o))
unfolding roll-Value denote.Hole.Carrier.roll
value-held (Value-F.Array a) = ap (λ xs. Some (item_list xs)) (sym (array-items a)) ∙ ap items_in (sym (view-Array a))
value-held (Value-F.String f) = search (rules, the_lemmas)
value-held (Value-F.Integer f) = search (rules, the_lemmas)
value-held (Value-F.Float f) = search (rules, the_lemmas)
value-held (Value-F.Boolean f) = search (rules, the_lemmas)
value-held (Value-F.Datetime f) = search (rules, the_lemmas)
value-held (Value-F.InlineTable t) = search (rules, the_lemmas)

item-held : (o : Item-F Item Value Array ArrayOfTables InlineTable Table) → option_map (λ v. listed v.items) (item_items o)
    ≡ items_in (item_view (roll-Item o))
unfolding roll-Item denote.Hole.Carrier.roll
item-held (Item-F.Value x) = value-held (out-Value x) ∙ ap (λ y. items_in (value_view y)) (rolled x) ∙ ap items_in (sym (view-Value x))
item-held (Item-F.ArrayOfTables a) = ap (λ xs. Some (item_list xs)) (sym (tables-items a)) ∙ ap items_in (sym (view-ArrayOfTables a))
item-held (Item-F.Table t) = search (rules, the_lemmas)
item-held Item-F.None = search (rules, the_lemmas)

pub items-held : (x : Item) → option_map (λ v. listed v.items) (items_held x) ≡ items_in (item_view x)
items-held x = item-held (out-Item x) ∙ ap (λ y. items_in (item_view y)) (rolled-item x)

-- the item after its items are written back
pub items-seen : (v : Vec Item Global) (x : Item) → item_view (with_items v x) ≡ on_items (λ _. listed v.items) (item_view x)
items-seen v x = subst (λ y. item_view (item_with (out-Item x) v y)
    ≡ on_items (λ _. listed v.items) (item_view y)) (rolled-item x) (item-open v (out-Item x))
