-- What is below each kind of item.
use Rattle.std.proofs.Common.{◌≡◌, refl, sym, ap, ◌∙◌, ℕ, ◌+◌, Bool, List, [], ◌∷◌, ◌++◌, rules}
use Rattle.std.proofs.Common.{add-one}
use Rattle.std.specs.Prelude.{is_some}
use Rattle.toml_edit_model.specs.Lists.{is_item}
use Rattle.toml_edit_model.specs.Shown.{is_table_node}
use Rattle.toml_edit_model.specs.Tree.{Node, nothing, leaf, list, inline, table, tables, is_value_node}
use Rattle.toml_edit_slots.specs.declared.slots.Slot.{Slot}
use Rattle.toml_edit_tree.specs.Containers.{array_node, inline_node, table_in, table_node, tables_node}
use Rattle.toml_edit_tree.specs.declared.array.Array.{Array, out-Array}
use Rattle.toml_edit_tree.specs.declared.array_of_tables.ArrayOfTables.{ArrayOfTables, out-ArrayOfTables}
use Rattle.toml_edit_tree.specs.declared.inline_table.InlineTable.{InlineTable, out-InlineTable}
use Rattle.toml_edit_tree.specs.declared.item.Item.{Item, the_lemmas}
use Rattle.toml_edit_tree.specs.declared.item.Item.TheOpen.{Value-F}
use Rattle.toml_edit_tree.specs.declared.item.Item.TheVariants as items
use Rattle.toml_edit_tree.specs.declared.item.Item.TheViews.{roll-Value}
use Rattle.toml_edit_tree.specs.declared.table.Table.{Table, out-Table}
use Rattle.toml_edit_tree.specs.declared.value.Value.{Value, out-Value}
use Rattle.toml_edit_tree.specs.declared.value.Value.TheVariants as values
use Rattle.toml_edit_tree.specs.View.{array_view, inline_view, item_view, items_view, slots_view, table_view, tables_view, value_view}
use Rattle.toml_edit_visit.specs.Below.{Step, element, found, from_elements, from_slots, items_below, key}

abbrev pub Shown : Type 0
Shown = List Step × Node

-- ---- views

view-Value : (v : Value) → item_view (items.Value v) ≡ value_view v
view-Value v = search (rules, the_lemmas)

view-Table : (t : Table) → item_view (items.Table t) ≡ table_node (table_view t)
view-Table t = search (rules, the_lemmas)

view-ArrayOfTables : (a : ArrayOfTables) → item_view (items.ArrayOfTables a) ≡ tables_node (tables_view a)
view-ArrayOfTables a = search (rules, the_lemmas)

view-Array : (a : Array) → value_view (values.Array a) ≡ array_node (array_view a)
view-Array a = search (rules, the_lemmas)

view-InlineTable : (t : InlineTable) → value_view (values.InlineTable t) ≡ inline_node (inline_view t)
view-InlineTable t = search (rules, the_lemmas)

array_items : (a : Array) → (array_view a).items ≡ items_view (out-Array a).values.items
array_items a = search (rules, the_lemmas)

inline_slots : (t : InlineTable) → (inline_view t).slots ≡ slots_view (out-InlineTable t).items
inline_slots t = search (rules, the_lemmas)

table_slots : (t : Table) → (table_view t).slots ≡ slots_view (out-Table t).slots
table_slots t = search (rules, the_lemmas)

tables_items : (a : ArrayOfTables) → (tables_view a).items ≡ items_view (out-ArrayOfTables a).values.items
tables_items a = search (rules, the_lemmas)

rolled : (v : Value) → v ≡ roll-Value (out-Value v)
rolled v = search (rules, the_lemmas)

-- ---- kinds

pub table-kind : (n : Node) → is_some (table_in n) ≡ is_table_node n
table-kind nothing = refl
table-kind (leaf s spelling d) = refl
table-kind (list f xs) = refl
table-kind (inline f ss) = refl
table-kind (table f ss) = refl
table-kind (tables e xs) = refl

-- ---- what is below

module _ (p : List Step) where
  pub below-table : (t : Table) → from_slots p (slots_view (out-Table t).slots) ≡ items_below p (table_node (table_view t))
  below-table t = ap (from_slots p) (sym (table_slots t))

  pub below-Table : (x : Item) (t : Table) → x ≡ items.Table t → from_slots p (slots_view (out-Table t).slots) ≡ items_below p (item_view x)
  below-Table x t is = below-table t ∙ sym (ap (items_below p) (ap item_view is ∙ view-Table t))

  pub below-ArrayOfTables : (x : Item) (a : ArrayOfTables) → x ≡ items.ArrayOfTables a
      → from_elements is_table_node p 0 (items_view (out-ArrayOfTables a).values.items) ≡ items_below p (item_view x)
  below-ArrayOfTables x a is =
      ap (from_elements is_table_node p 0) (sym (tables_items a)) ∙ sym (ap (items_below p) (ap item_view is ∙ view-ArrayOfTables a))

  pub below-Value : (x : Item) (v : Value) → x ≡ items.Value v → items_below p (value_view v) ≡ items_below p (item_view x)
  below-Value x v is = sym (ap (items_below p) (ap item_view is ∙ view-Value v))

  pub below-None : (x : Item) → x ≡ items.None → [] ≡ items_below p (item_view x)
  below-None x is = sym (ap (λ y. items_below p (item_view y)) is ∙ none)
    where
      none : items_below p (item_view items.None) ≡ []
      none = ap (items_below p) view-None
        where
          view-None : item_view items.None ≡ nothing
          view-None = search (rules, the_lemmas)

  pub below-Array : (v : Value) (a : Array) → v ≡ values.Array a
      → from_elements is_value_node p 0 (items_view (out-Array a).values.items) ≡ items_below p (value_view v)
  below-Array v a is =
      ap (from_elements is_value_node p 0) (sym (array_items a)) ∙ sym (ap (items_below p) (ap value_view is ∙ view-Array a))

  pub below-InlineTable : (v : Value) (t : InlineTable) → v ≡ values.InlineTable t
      → from_slots p (slots_view (out-InlineTable t).items) ≡ items_below p (value_view v)
  below-InlineTable v t is =
      ap (from_slots p) (sym (inline_slots t)) ∙ sym (ap (items_below p) (ap value_view is ∙ view-InlineTable t))

  scalar-open : (o : Value-F Item Value Array ArrayOfTables InlineTable Table) → ((a : Array) → roll-Value o ≡ values.Array a → ⊥)
      → ((t : InlineTable) → roll-Value o ≡ values.InlineTable t → ⊥) → [] ≡ items_below p (value_view (roll-Value o))
  scalar-open (Value-F.String f) h k = search (rules, the_lemmas)
  scalar-open (Value-F.Integer f) h k = search (rules, the_lemmas)
  scalar-open (Value-F.Float f) h k = search (rules, the_lemmas)
  scalar-open (Value-F.Boolean f) h k = search (rules, the_lemmas)
  scalar-open (Value-F.Datetime f) h k = search (rules, the_lemmas)
  scalar-open (Value-F.Array a) h k = absurd (h a (search (rules, the_lemmas)))
  scalar-open (Value-F.InlineTable t) h k = absurd (k t (search (rules, the_lemmas)))

  pub below-scalar : (v : Value) → ((a : Array) → v ≡ values.Array a → ⊥) → ((t : InlineTable) → v ≡ values.InlineTable t → ⊥)
      → [] ≡ items_below p (value_view v)
  below-scalar v h k =
      scalar-open (out-Value v) (λ a e. h a (rolled v ∙ e)) (λ t e. k t (rolled v ∙ e))
      ∙ ap (λ w. items_below p (value_view w)) (sym (rolled v))

  -- ---- slots and elements

  abbrev pub of_slot : Slot Item → List Shown
  of_slot s = found (is_item (item_view s.item)) (p ++ (key s.key ∷ [])) (item_view s.item)

  abbrev pub of_element : (Node → Bool) → ℕ → Item → List Shown
  of_element is i x = found (is (item_view x)) (p ++ (element i ∷ [])) (item_view x)

  pub element-split : (is : Node → Bool) (i : ℕ) (x : Item) (xs : List Item)
      → from_elements is p i (items_view (x ∷ xs)) ≡ of_element is i x ++ from_elements is p (i + 1) (items_view xs)
  element-split is i x xs = ap (λ j. of_element is i x ++ from_elements is p j (items_view xs)) (sym (add-one i))
