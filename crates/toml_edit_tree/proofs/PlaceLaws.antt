-- What stands at a place of a list of items, by what is seen of them.
use Rattle.std.proofs.Common.{◌≡◌, ℕ, is_some, zero, suc, ◌≤◌, List, [], ◌∷◌, length, map, slice_get, Option, Some, None, option_map}
use Rattle.std.proofs.Common.{option_and_then, refl, sym, ap, subst, ◌∙◌}
use Rattle.std.proofs.lemmas.Option.{slice_get_past}
use Rattle.toml_edit_model.specs.ArrayCalls.{value_at}
use Rattle.toml_edit_model.specs.Lists.{only}
use Rattle.toml_edit_model.specs.Shown.{is_table_node}
use Rattle.toml_edit_model.specs.TablesCalls.{table_at}
use Rattle.toml_edit_model.specs.Tree.{Node, nothing, leaf, list, inline, table, tables, is_value_node}
use Rattle.toml_edit_tree.specs.Containers.{table_in, table_node}
use Rattle.toml_edit_tree.specs.ElementHolds.{table_held, value_held}
use Rattle.toml_edit_tree.specs.declared.item.Item.{Item}
use Rattle.toml_edit_tree.specs.Elements.{listed}
use Rattle.toml_edit_tree.specs.View.{item_view, table_view, value_view}
use Rattle.toml_edit_tree.proofs.ElementLaws.{listed-length, listed-map}
use Rattle.toml_edit_tree.proofs.HoldsLaws.{table-seen, value-seen}

seen-at : (xs : List Item) (i : ℕ) → slice_get (map item_view xs) i ≡ option_map item_view (slice_get xs i)
seen-at [] i = refl
seen-at (x ∷ xs) zero = refl
seen-at (x ∷ xs) (suc i) = seen-at xs i

pub slot_at : (xs : List Item) (i : ℕ) → slice_get (listed xs) i ≡ option_map item_view (slice_get xs i)
slot_at xs i = ap (λ l. slice_get l i) (listed-map xs) ∙ seen-at xs i

pub slot_here : (xs : List Item) (i : ℕ) (x : Item) → Some x ≡ slice_get xs i → Some (item_view x) ≡ slice_get (listed xs) i
slot_here xs i x e = ap (option_map item_view) e ∙ sym (slot_at xs i)

pub slot_past : (xs : List Item) (i : ℕ) → length xs ≤ i → None ≡ slice_get (listed xs) i
slot_past xs i h = sym (slice_get_past (listed xs) i (subst (λ n. n ≤ i) (sym (listed-length xs)) h))

-- ---- what holds a value, or a table

value-in : (o : Option Item) → option_map value_view (option_and_then value_held o)
    ≡ option_and_then (only is_value_node) (option_map item_view o)
value-in None = refl
value-in (Some x) = value-seen x

pub value_seen_at : (xs : List Item) (i : ℕ) → option_map value_view (option_and_then value_held (slice_get xs i)) ≡ value_at i (listed xs)
value_seen_at xs i = value-in (slice_get xs i) ∙ sym (ap (option_and_then (only is_value_node)) (slot_at xs i))

table-in : (o : Option Item) → option_map (λ t. table_node (table_view t)) (option_and_then table_held o)
    ≡ option_and_then (only is_table_node) (option_map item_view o)
table-in None = refl
table-in (Some x) = table-seen x

pub table_seen_at : (xs : List Item) (i : ℕ) → option_map (λ t. table_node (table_view t)) (option_and_then table_held (slice_get xs i))
    ≡ table_at i (listed xs)
table_seen_at xs i = table-in (slice_get xs i) ∙ sym (ap (option_and_then (only is_table_node)) (slot_at xs i))

seen-table : (n : Node) → is_some (only is_table_node n) ≡ is_some (table_in n)
seen-table nothing = refl
seen-table (leaf s r d) = refl
seen-table (list f xs) = refl
seen-table (inline f ss) = refl
seen-table (table f ss) = refl
seen-table (tables e xs) = refl

some-seen : {E : Type 0} (view : E → Node) (o : Option E) → is_some o ≡ is_some (option_map view o)
some-seen view None = refl
some-seen view (Some e) = refl

-- an item holds a table where it is seen as one
pub table_some : (x : Item) → is_some (table_held x) ≡ is_some (table_in (item_view x))
table_some x = some-seen (λ t. table_node (table_view t)) (table_held x) ∙ ap is_some (table-seen x) ∙ seen-table (item_view x)
