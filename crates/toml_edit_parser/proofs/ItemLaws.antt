-- What the variants of items are seen as.
use Rattle.std.proofs.Common.{◌≡◌, ℕ, suc, ◌-◌, ◌<◌, true, List, [], ◌∷◌, length, get_or, set, refl, ap, subst, sym, arith, rules, Some}
use Rattle.toml_edit_model.specs.Tree.{item, is_value_node}
use Rattle.toml_edit_laws.specs.AddPath.{last_item, with_last}
use Rattle.toml_edit_tree.specs.declared.array.Array.{Array}
use Rattle.toml_edit_tree.specs.declared.array_of_tables.ArrayOfTables.{ArrayOfTables, out-ArrayOfTables, roll-ArrayOfTables}
use Rattle.std.specs.Vec.{with_item}
use Rattle.toml_edit_tree.specs.declared.inline_table.InlineTable.{InlineTable}
use Rattle.toml_edit_tree.specs.declared.item.Item.{Item, the_lemmas}
use Rattle.toml_edit_tree.specs.declared.item.Item.TheOpen.{Value-F}
use Rattle.toml_edit_tree.specs.declared.item.Item.TheViews.{roll-Value}
use Rattle.toml_edit_tree.specs.declared.table.Table.{Table}
use Rattle.toml_edit_tree.specs.declared.value.Value.{Value, out-Value}
use Rattle.toml_edit_tree.specs.View.{item_view, items_view, tables_view, value_view}
use Rattle.toml_edit_parser.proofs.ViewLaws.{rolled}

value_open : (o : Value-F Item Value Array ArrayOfTables InlineTable Table) → is_value_node (value_view (roll-Value o)) ≡ true
value_open (Value-F.String f) = search (rules, the_lemmas)
value_open (Value-F.Integer f) = search (rules, the_lemmas)
value_open (Value-F.Float f) = search (rules, the_lemmas)
value_open (Value-F.Boolean f) = search (rules, the_lemmas)
value_open (Value-F.Datetime f) = search (rules, the_lemmas)
value_open (Value-F.Array a) = search (rules, the_lemmas)
value_open (Value-F.InlineTable t) = search (rules, the_lemmas)

-- a value is seen as one
pub value-node : (v : Value) → is_value_node (value_view v) ≡ true
value-node v = subst (λ (w : Value). is_value_node (value_view w) ≡ true) (rolled v) (value_open (out-Value v))

-- ---- arrays of tables

pub tables-is : (a : ArrayOfTables) → (tables_view a).items ≡ items_view (out-ArrayOfTables a).values.items
tables-is a = search (rules, the_lemmas)

pub last-at : (xs : List Item) (d : Item) → 0 < length xs → last_item (items_view xs) ≡ Some (item_view (get_or xs (length xs - 1) d))
last-at [] d h = absurd (omega arith)
last-at (y ∷ []) d h = refl
last-at (y ∷ z ∷ xs) d h =
    let e : length (y ∷ z ∷ xs) - 1 ≡ suc (length (z ∷ xs) - 1) = omega arith in
    subst (λ (n : ℕ). last_item (items_view (z ∷ xs)) ≡ Some (item_view (get_or (y ∷ z ∷ xs) n d))) (sym e) (last-at (z
    ∷ xs) d (omega arith))

pub last-set : (xs : List Item) (y : Item) → items_view (set xs (length xs - 1) y) ≡ with_last (item_view y) (items_view xs)
last-set [] y = refl
last-set (x ∷ []) y = refl
last-set (x ∷ z ∷ xs) y =
    let e : length (x ∷ z ∷ xs) - 1 ≡ suc (length (z ∷ xs) - 1) = omega arith in
    subst (λ (n : ℕ). items_view (set (x ∷ z ∷ xs) n y)
    ≡ with_last (item_view y) (items_view (x ∷ z ∷ xs))) (sym e) (ap (item (item_view x)) (last-set (z ∷ xs) y))

pub no-items : (xs : List Item) → (0 < length xs → ⊥) → xs ≡ []
no-items [] h = refl
no-items (x ∷ xs) h = absurd (h (omega arith))

-- an array of tables with another item at a place
pub tables-set : (a : ArrayOfTables) (at : ℕ) (y : Item) → items_view (set (out-ArrayOfTables a).values.items at y)
    ≡ with_last (item_view y) (items_view (out-ArrayOfTables a).values.items)
    → tables_view (roll-ArrayOfTables (record { values = with_item (out-ArrayOfTables a).values at y; span = (out-ArrayOfTables a).span }))
    ≡ record { extent = (tables_view a).extent; items = with_last (item_view y) (tables_view a).items }
tables-set a at y e = rw (tables-is a, ← e) (search (rules, the_lemmas))
