-- The elements of arrays of tables: the first that is equal, and what edits leave. The text of a comment.
use Rattle.std.proofs.Common.{◌≡◌, ◌∙◌, refl, sym, ap, arith, cond, ℕ, ◌+◌, ◌<◌, ◌≤◌, Bool, true, false, List, [], ◌∷◌, ◌++◌, length, map, get_or, Option, Some, None}
use Rattle.std.proofs.lemmas.Bool.{eqb-true, lt-ltb}
use Rattle.std.proofs.lemmas.List.{get_or-map, length-map}
use Rattle.std.proofs.lemmas.List.Sums.{position_or_len_is}
use Rattle.std.specs.List.{position_or_len}
use Rattle.std.specs.Char.{encode_utf8}
use Rattle.std.specs.Option.{ok_or}
use Rattle.std.specs.Prelude.{◌==◌, is_some, nat_lt, if◌then◌else◌, Result, Ok, Err}
use Rattle.toml_edit_model.specs.ArrayCalls.{removed_at}
use Rattle.toml_edit_model.specs.Conversions.{made_table, made_value}
use Rattle.toml_edit_model.specs.Lists.{is_inline_node, item_list, items_from}
use Rattle.toml_edit_model.specs.Text.{Text, hash, space}
use Rattle.toml_edit_model.specs.Tree.{Extent, Node, nothing, leaf, list, inline, table, tables}
use Rattle.toml_edit_laws.proofs.locality.Slots.{items_from-list}
use Rattle.toml_edit_tree.specs.Casts.{inline_in}
use Rattle.toml_edit_tree.specs.Containers.{TablesView, tables_node}
use Rattle.toml_edit_tree.specs.Elements.{listed}
use Rattle.toml_edit_tree.specs.View.{item_view}
use Rattle.toml_edit_tree.specs.declared.item.Item.{Item}
use Rattle.toml_edit_tree.proofs.ElementLaws.{listed-length, listed-map}
use Rattle.toml_edit_edits.specs.Effects.{comment_text, first_same}
use Rattle.toml_edit_edits.specs.Elements.{inserted, moved_among, moved_from, place_in, place_of_table, table_of, taken, with_element}
use Rattle.toml_edit_edits.specs.Outcomes.{and_then}
use Rattle.toml_edit_edits.specs.Same.{same_node}
use Rattle.toml_edit_edits.specs.declared.fault.EditFault.{EditFault}
use Rattle.toml_edit_edits.specs.declared.fault.EditFault.TheVariants.{NoSuchElement, NoSuchPath, WrongKind}
use Rattle.toml_edit_edits.proofs.SameLaws.{further, none-same}

-- ---- the first element that is equal

module _ (v : Node) (xs : List Item) where
  abbrev pub looked : List Node
  looked = map made_value (listed xs)

  long : length looked ≡ length xs
  long = length-map (listed xs) made_value ∙ listed-length xs

  stands : (i : ℕ) (x : Item) (d : Node) → i < length xs → x ≡ get_or xs i x → get_or looked i d ≡ made_value (item_view x)
  stands i x d within is =
      get_or-map made_value (listed xs) i (item_view x) d (omega (arith, within, listed-length xs))
      ∙ ap made_value
      (ap (λ (ns : List Node). get_or ns i (item_view x)) (listed-map xs) ∙ get_or-map item_view xs i x (item_view x) within ∙ ap item_view (sym is))

  pub first-made : (i : ℕ) (x : Item) → i < length xs → x ≡ get_or xs i x → same_node (made_value (item_view x)) v ≡ true
      → ((k : ℕ) (d : Node) → k < i → same_node (get_or looked k d) v ≡ false) → Some i ≡ first_same v looked
  first-made i x within is same before =
      let there : i < length looked = omega (arith, within, long) in
      let at : position_or_len (λ n. same_node n v) looked ≡ i =
      position_or_len_is (λ n. same_node n v) looked i (item_view x) (omega (arith, there)) (λ k l. before k (item_view x) l)
      (λ l. ap (λ n. same_node n v) (stands i x (item_view x) within is) ∙ same) in
      sym (ap (λ n. cond (nat_lt n (length looked)) (Some n) None) at ∙ ap (λ b. cond b (Some i) None) (lt-ltb i (length looked) there))

  pub differs-made : (i : ℕ) (x : Item) → i < length xs → x ≡ get_or xs i x → same_node (made_value (item_view x)) v ≡ false
      → ((k : ℕ) (d : Node) → k < i → same_node (get_or looked k d) v ≡ false) → (k : ℕ) (d : Node) → k < i + 1
      → same_node (get_or looked k d) v ≡ false
  differs-made i x within is other before =
      further v looked i before (λ d. ap (λ n. same_node n v) (stands i x d within is) ∙ other)

  pub none-made : (i : ℕ) → length xs ≤ i → ((k : ℕ) (d : Node) → k < i → same_node (get_or looked k d) v ≡ false)
      → None ≡ first_same v looked
  none-made i past before = none-same v looked i (omega (arith, past, long)) before

-- ---- what is left of an array of tables

pub pairs-are : (n : Node) → is_some (inline_in n) ≡ true → is_inline_node n ≡ true
pairs-are nothing h = absurd cc
pairs-are (leaf s r d) h = absurd cc
pairs-are (list f xs) h = absurd cc
pairs-are (inline f ss) h = refl
pairs-are (table f ss) h = absurd cc
pairs-are (tables e xs) h = absurd cc

pub tables-are : (v : TablesView) (e : Extent) (ns : List Node) → v.extent ≡ e → item_list v.items ≡ ns → tables_node v ≡ tables e (items_from ns)
tables-are v e ns extent items =
    ap (λ x. tables x v.items) extent ∙ ap (tables e) (sym (items_from-list v.items) ∙ ap items_from items)

module _ (old new : TablesView) (kept : new.extent ≡ old.extent) where
  abbrev ns : List Node
  ns = item_list old.items

  left : (ms : List Node) → item_list new.items ≡ ms → ◌≡◌ {A = Result Node EditFault} (Ok (tables old.extent (items_from ms))) (Ok (tables_node new))
  left ms is = ap (λ n. Ok n) (sym (tables-are new old.extent ms kept is))

  pub inserted-made : (k : Option Text) (v n : Node) (i : ℕ) → place_in (length ns) k ≡ Some i → table_of v ≡ Ok n
      → item_list new.items ≡ with_element i n ns → inserted k v (tables_node old) ≡ Ok (tables_node new)
  inserted-made k v n i place made is =
      ap (λ o. and_then (λ ms. Ok (tables old.extent (items_from ms)))
      (and_then (λ j. and_then (λ m. Ok (with_element j m ns)) (table_of v)) (ok_or o NoSuchPath))) place
      ∙ ap (λ r. and_then (λ ms. Ok (tables old.extent (items_from ms))) (and_then (λ m. Ok (with_element i m ns)) r)) made
      ∙ left (with_element i n ns) is

  pub taken-made : (v : Node) (i : ℕ) → is_inline_node v ≡ true → Some i ≡ first_same v (map made_value ns)
      → item_list new.items ≡ removed_at i ns → taken v (tables_node old) ≡ Ok (tables_node new)
  taken-made v i pairs found is =
      ap (λ b. and_then (λ ms. Ok (tables old.extent (items_from ms)))
      (and_then (λ m. and_then (λ j. Ok (removed_at j ns)) (ok_or (first_same v (map made_value ns)) NoSuchElement))
      (if b then Ok (made_table v) else Err WrongKind))) pairs
      ∙ ap (λ o. and_then (λ ms. Ok (tables old.extent (items_from ms))) (and_then (λ j. Ok (removed_at j ns)) (ok_or o NoSuchElement))) (sym found)
      ∙ left (removed_at i ns) is

  pub moved-made : (k u : Text) (i : ℕ) → place_of_table k ns ≡ Some i → moved_from i ns u ≡ Ok (item_list new.items)
      → moved_among k u (tables_node old) ≡ Ok (tables_node new)
  moved-made k u i place moved =
      ap (λ o. and_then (λ ms. Ok (tables old.extent (items_from ms))) (and_then (λ j. moved_from j ns u) (ok_or o NoSuchPath))) place
      ∙ ap (and_then (λ ms. Ok (tables old.extent (items_from ms)))) moved
      ∙ left (item_list new.items) refl

-- ---- the text of a comment

pub spaced-is : (s : Text) → (length s == 0) ≡ false → ((rest : Text) → s ≡ encode_utf8 hash ++ rest → ⊥) → comment_text s ≡ space ∷ s
unfolding encode_utf8
spaced-is [] full none = absurd cc
spaced-is (c ∷ s) full none = by_test (c == hash) refl
  where
    by_test : (b : Bool) → (c == hash) ≡ b → (if b then s else space ∷ c ∷ s) ≡ space ∷ c ∷ s
    by_test true e = absurd (none s (ap (λ d. d ∷ s) (eqb-true c hash e)))
    by_test false e = refl
