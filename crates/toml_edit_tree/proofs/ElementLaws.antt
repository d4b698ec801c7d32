-- The elements of arrays and arrays of tables, by the code's lists of items.
use Rattle.std.proofs.Common.{◌≡◌, ℕ, zero, suc, ◌<◌, Bool, true, false, cond, List, [], ◌∷◌, ◌++◌, length, map, insert, remove, set}
use Rattle.std.proofs.Common.{slice_get, Some, None, IsSome, option_map, option_and_then, unwrap_or, refl, sym, ap, subst}
use Rattle.std.proofs.Common.{◌∙◌, arith}
use Rattle.std.proofs.lemmas.List.{map-set, map-append}
use Rattle.toml_edit_model.specs.Text.{one}
use Rattle.toml_edit_model.specs.Tree.{Decor, Node, nothing, node_decor, is_value_node}
use Rattle.toml_edit_model.specs.Lists.{item_list, items_from, only}
use Rattle.toml_edit_model.specs.ArrayCalls.{inserted_at, pushed, removed_at, replaced_at, value_at, written_at}
use Rattle.toml_edit_model.specs.Conversions.{with_decor}
use Rattle.toml_edit_laws.proofs.slots.Places.{changed_at-set}
use Rattle.toml_edit_tree.specs.Containers.{table_node}
use Rattle.toml_edit_tree.specs.declared.item.Item.{Item}
use Rattle.toml_edit_tree.specs.declared.table.Table.{Table}
use Rattle.toml_edit_tree.specs.declared.value.Value.{Value}
use Rattle.toml_edit_tree.specs.Elements.{listed}
use Rattle.toml_edit_tree.specs.View.{item_view, table_view, value_view}

-- ---- as lists

list-from : (xs : List Node) → item_list (items_from xs) ≡ xs
list-from [] = refl
list-from (x ∷ xs) = ap (λ l. x ∷ l) (list-from xs)

pub listed-map : (xs : List Item) → listed xs ≡ map item_view xs
listed-map xs = list-from (map item_view xs)

-- ---- a view and an edit change places

module _ {X Y : Type 0} (h : X → Y) where
  pub length-map : (xs : List X) → length (map h xs) ≡ length xs
  length-map [] = refl
  length-map (x ∷ xs) = ap suc (length-map xs)

  remove-map : (xs : List X) (i : ℕ) → map h (remove xs i) ≡ remove (map h xs) i
  remove-map [] zero = refl
  remove-map [] (suc i) = refl
  remove-map (x ∷ xs) zero = refl
  remove-map (x ∷ xs) (suc i) = ap (λ l. h x ∷ l) (remove-map xs i)

  insert-map : (xs : List X) (i : ℕ) (y : X) → map h (insert xs i y) ≡ insert (map h xs) i (h y)
  insert-map [] zero y = refl
  insert-map [] (suc i) y = refl
  insert-map (x ∷ xs) zero y = refl
  insert-map (x ∷ xs) (suc i) y = ap (λ l. h x ∷ l) (insert-map xs i y)

-- ---- edits

pub listed-length : (xs : List Item) → length (listed xs) ≡ length xs
listed-length xs = ap length (listed-map xs) ∙ length-map item_view xs

pub removed-listed : (xs : List Item) (i : ℕ) → listed (remove xs i) ≡ removed_at i (listed xs)
removed-listed xs i = listed-map (remove xs i) ∙ remove-map item_view xs i ∙ ap (removed_at i) (sym (listed-map xs))

pub inserted-listed : (xs : List Item) (i : ℕ) (x : Item) → listed (insert xs i x) ≡ inserted_at i (item_view x) (listed xs)
inserted-listed xs i x =
    listed-map (insert xs i x) ∙ insert-map item_view xs i x ∙ ap (inserted_at i (item_view x)) (sym (listed-map xs))

pub pushed-listed : (xs : List Item) (x : Item) → listed (xs ++ x ∷ []) ≡ pushed (item_view x) (listed xs)
pushed-listed xs x =
    listed-map (xs ++ x ∷ []) ∙ map-append item_view xs (x ∷ []) ∙ ap (pushed (item_view x)) (sym (listed-map xs))

pub written-listed : (xs : List Item) (i : ℕ) (x : Item) → i < length xs → listed (set xs i x) ≡ written_at i (item_view x) (listed xs)
written-listed xs i x h =
    listed-map (set xs i x) ∙ map-set item_view xs i x
    ∙ sym (changed_at-set (λ _. item_view x) (map item_view xs) i nothing (subst (λ n. i < n) (sym (length-map item_view xs)) h))
    ∙ ap (written_at i (item_view x)) (sym (listed-map xs))

-- ---- what stands at a place

-- it stands inside the list
inside-map : (test : Node → Bool) (xs : List Item) (i : ℕ) → IsSome (option_and_then (only test) (slice_get (map item_view xs) i))
    → i < length xs
inside-map test [] i s = absurd cc
inside-map test (x ∷ xs) zero s = omega arith
inside-map test (x ∷ xs) (suc i) s = omega (arith, inside-map test xs i s)

pub inside : (test : Node → Bool) (xs : List Item) (i : ℕ) → IsSome (option_and_then (only test) (slice_get (listed xs) i)) → i < length xs
inside test xs i s = inside-map test xs i (subst (λ l. IsSome (option_and_then (only test) (slice_get l i))) (listed-map xs) s)

-- ---- tables in items

pub none-there : (xs : List Node) → length xs ≡ 0 → xs ≡ []
none-there [] e = refl
none-there (x ∷ xs) e = absurd (omega (arith, e))

-- ---- a value in the place and the decor of another

decor-found : (b : Bool) (n : Node) (d : Decor) → Some d ≡ option_map node_decor (cond b (Some n) None) → d ≡ node_decor n
decor-found true n d e = ap (λ o. unwrap_or o d) e
decor-found false n d e = absurd cc

pub replaced-written : (i : ℕ) (xs : List Node) (d : Decor) (v : Node) → Some d ≡ option_map node_decor (value_at i xs)
    → written_at i (with_decor d v) xs ≡ replaced_at i v xs
replaced-written i [] d v e = refl
replaced-written zero (x ∷ xs) d v e = ap (λ s. with_decor s v ∷ xs) (decor-found (is_value_node x) x d e)
replaced-written (suc i) (x ∷ xs) d v e = ap (λ l. x ∷ l) (replaced-written i xs d v e)

-- ---- one more at the end

more : (xs ys : List Node) (n : Node) → (xs ++ ys) ++ n ∷ [] ≡ xs ++ (ys ++ n ∷ [])
more [] ys n = refl
more (x ∷ xs) ys n = ap (λ l. x ∷ l) (more xs ys n)

pub value_last : (xs : List Node) (vs : List Value) (v : Value)
    → (xs ++ map value_view vs) ++ one (value_view v) ≡ xs ++ map value_view (vs ++ v ∷ [])
value_last xs vs v = more xs (map value_view vs) (value_view v) ∙ ap (λ l. xs ++ l) (sym (map-append value_view vs (v ∷ [])))

pub table_last : (xs : List Node) (ts : List Table) (t : Table)
    → (xs ++ map (λ s. table_node (table_view s)) ts) ++ one (table_node (table_view t)) ≡ xs
    ++ map (λ s. table_node (table_view s)) (ts ++ t ∷ [])
table_last xs ts t =
    more xs (map (λ s. table_node (table_view s)) ts) (table_node (table_view t))
    ∙ ap (λ l. xs ++ l) (sym (map-append (λ s. table_node (table_view s)) ts (t ∷ [])))
