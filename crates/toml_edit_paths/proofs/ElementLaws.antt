-- Elements by the places that texts name, and what is left where one is changed or taken out.
use Rattle.std.proofs.Common.{◌≡◌, refl, sym, ◌∙◌, ap, subst, ℕ, zero, suc, ◌^◌, ◌<◌, ◌≤◌, Bool, true, false, List, [], ◌∷◌, length, get_or}
use Rattle.std.proofs.Common.{set, Option, Some, None, arith}
use Rattle.std.specs.Prelude.{if◌then◌else◌, slice_get, is_some, option_map, remove, Result}
use Rattle.toml_edit_model.specs.Text.{Text}
use Rattle.toml_edit_model.specs.Tree.{Node, nothing, leaf, list, inline, table, tables}
use Rattle.toml_edit_edit_laws.specs.Commands.{Answer, done, number_of, kept_item, at_number, element_of, change_element, drop_element}
use Rattle.toml_edit_model.specs.Shown.{is_table_node}
use Rattle.toml_edit_model.specs.ArrayCalls.{written_at, removed_at}
use Rattle.toml_edit_edit_laws.proofs.commands.Apart.{named}
use Rattle.toml_edit_laws.proofs.common.OptionSteps.{map_some, some-is}
use Rattle.toml_edit_tree.specs.Containers.{table_in}
use Rattle.toml_edit_tree.specs.View.{item_view}
use Rattle.toml_edit_tree.specs.declared.item.Item.{Item}
use Rattle.toml_edit_tree.specs.Elements.{listed}
use Rattle.toml_edit_paths.specs.Changes.{Changes}
use Rattle.toml_edit_paths.specs.Elements.{IsNumberOf, place_named}
use Rattle.toml_edit_paths.specs.declared.fault.ChangeFault.{ChangeFault}
use Rattle.toml_edit_paths.proofs.ChangeLaws.{carried}

-- ---- places

pub node-at : (xs : List Item) (i : ℕ) (d : Item) → i < length xs → slice_get (listed xs) i ≡ Some (item_view (get_or xs i d))
node-at [] i d h = absurd (omega arith)
node-at (x ∷ xs) zero d h = refl
node-at (x ∷ xs) (suc i) d h = node-at xs i d (omega arith)

pub node-behind : (xs : List Item) (i : ℕ) → length xs ≤ i → slice_get (listed xs) i ≡ None
node-behind [] i h = refl
node-behind (x ∷ xs) zero h = absurd (omega arith)
node-behind (x ∷ xs) (suc i) h = node-behind xs i (omega arith)

-- a text that names no small number names no element
pub none-named : (is : Node → Bool) (k : Text) (xs : List Item) → IsNumberOf k None → length xs < 2 ^ 64 → place_named is k (listed xs)
    ≡ None
none-named is k xs h small = by_number (number_of k) refl
  where
    by_number : (o : Option ℕ) → number_of k ≡ o → place_named is k (listed xs) ≡ None
    by_number None e = ap (λ o. option_map (λ (x : ℕ × Node). x.0) (at_number is (listed xs) o)) e
    by_number (Some i) e =
        ap (λ o. option_map (λ (x : ℕ × Node). x.0) (at_number is (listed xs) o)) e
        ∙ ap (λ o. option_map (λ (x : ℕ × Node). x.0) (kept_item is i o)) (node-behind xs i (let far = h i e in omega arith))

-- nor does one that names a place past the last
pub named-behind : (is : Node → Bool) (k : Text) (xs : List Item) (i : ℕ) → number_of k ≡ Some i → length xs ≤ i
    → place_named is k (listed xs) ≡ None
named-behind is k xs i e h =
    ap (λ o. option_map (λ (x : ℕ × Node). x.0) (at_number is (listed xs) o)) e
    ∙ ap (λ o. option_map (λ (x : ℕ × Node). x.0) (kept_item is i o)) (node-behind xs i h)

-- and an element of another kind is not named
pub named-at : (is : Node → Bool) (k : Text) (xs : List Item) (i : ℕ) (d : Item) (b : Bool) → number_of k ≡ Some i → i < length xs
    → is (item_view (get_or xs i d)) ≡ b
    → place_named is k (listed xs) ≡ (if b then Some i else None)
named-at is k xs i d b e h kind =
    ap (λ o. option_map (λ (x : ℕ × Node). x.0) (at_number is (listed xs) o)) e
    ∙ ap (λ o. option_map (λ (x : ℕ × Node). x.0) (kept_item is i o)) (node-at xs i d h) ∙ by_kind b kind
  where
    by_kind : (b : Bool) → is (item_view (get_or xs i d)) ≡ b
        → option_map (λ (x : ℕ × Node). x.0) (kept_item is i (Some (item_view (get_or xs i d)))) ≡ (if b then Some i else None)
    by_kind true g = ap (λ t. option_map (λ (x : ℕ × Node). x.0) (if t then Some (i, item_view (get_or xs i d)) else None)) g
    by_kind false g = ap (λ t. option_map (λ (x : ℕ × Node). x.0) (if t then Some (i, item_view (get_or xs i d)) else None)) g

pub table-kind : (n : Node) → is_some (table_in n) ≡ is_table_node n
table-kind (table f ss) = refl
table-kind (tables e xs) = refl
table-kind (leaf s r d) = refl
table-kind (list f xs) = refl
table-kind (inline f ss) = refl
table-kind nothing = refl

-- ---- one element

pub nodes-set : (xs : List Item) (i : ℕ) (y : Item) → listed (set xs i y) ≡ written_at i (item_view y) (listed xs)
nodes-set [] i y = refl
nodes-set (x ∷ xs) zero y = refl
nodes-set (x ∷ xs) (suc i) y = ap (λ ns. item_view x ∷ ns) (nodes-set xs i y)

pub nodes-same : (xs : List Item) (i : ℕ) (d : Item) → i < length xs → written_at i (item_view (get_or xs i d)) (listed xs) ≡ listed xs
nodes-same [] i d h = absurd (omega arith)
nodes-same (x ∷ xs) zero d h = refl
nodes-same (x ∷ xs) (suc i) d h = ap (λ ns. item_view x ∷ ns) (nodes-same xs i d (omega arith))

nodes-removed : (xs : List Item) (i : ℕ) → listed (remove xs i) ≡ removed_at i (listed xs)
nodes-removed [] zero = refl
nodes-removed [] (suc i) = refl
nodes-removed (x ∷ xs) zero = refl
nodes-removed (x ∷ xs) (suc i) = ap (λ ns. item_view x ∷ ns) (nodes-removed xs i)

-- the element that stands where the text names one
pub element-is : (is : Node → Bool) (k : Text) (xs : List Item) (i : ℕ) (d : Item) → Some i ≡ place_named is k (listed xs) → i < length xs
    → element_of is k (listed xs) ≡ Some (i, item_view (get_or xs i d))
element-is is k xs i d h inside =
    let m = map_some (element_of is k (listed xs)) (λ (x : ℕ × Node). x.0) i (sym h) in
    let r = named is k (listed xs) m.0 m.1 in
    let there : slice_get (listed xs) i ≡ Some m.0.1 = subst (λ j. slice_get (listed xs) j ≡ Some m.0.1) m.2 r.item in
    let same : m.0.1 ≡ item_view (get_or xs i d) = some-is m.0.1 _ (sym there ∙ node-at xs i d inside) in
    m.1 ∙ ap Some (ap (λ (j : ℕ). (j, m.0.1)) m.2 ∙ ap (λ (n : Node). (i, n)) same)

-- one that is changed
pub element-changes : (is : Node → Bool) (k : Text) (go : Node
    → Answer Node) (xs : List Item) (i : ℕ) (d y : Item) (r : Result (Unit {0}) ChangeFault)
    → Some i ≡ place_named is k (listed xs) → i < length xs
    → Changes (go (item_view (get_or xs i d))) (item_view (get_or xs i d)) (item_view y) r
    → Changes (change_element go (listed xs) (element_of is k (listed xs))) (listed xs) (listed (set xs i y)) r
element-changes is k go xs i d y r h inside change =
    let F = λ (m : Node). written_at i m (listed xs) in
    let told = carried F (go (item_view (get_or xs i d))) (item_view (get_or xs i d)) (item_view y) r change in
    subst (λ o. Changes (change_element go (listed xs) o) (listed xs) (listed (set xs i y)) r) (sym (element-is is k xs i d h inside))
    (subst (λ ns. Changes (change_element go (listed xs) (Some (i, item_view (get_or xs i d)))) (listed xs) ns r) (sym (nodes-set xs i y))
    (subst (λ ns. Changes (change_element go (listed xs) (Some (i, item_view (get_or xs i d)))) ns (F (item_view y)) r)
    (nodes-same xs i d inside) told))

-- one that is taken out
pub element-dropped : (is : Node → Bool) (k : Text) (xs : List Item) (i : ℕ) (d : Item) → Some i ≡ place_named is k (listed xs)
    → i < length xs
    → drop_element (listed xs) (element_of is k (listed xs)) ≡ done (listed (remove xs i))
element-dropped is k xs i d h inside = ap (drop_element (listed xs)) (element-is is k xs i d h inside) ∙ ap done (sym (nodes-removed xs i))

-- none
pub no-element : (o : Option (ℕ × Node)) → None ≡ option_map (λ x. x.0) o → o ≡ None
no-element None h = refl
no-element (Some x) h = absurd cc
