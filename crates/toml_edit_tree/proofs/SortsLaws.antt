-- A sort of items by what they hold, as it is seen in their trees.
use Rattle.std.proofs.Common.{◌≡◌, Bool, true, false, cond, ◌&&◌, if◌then◌else◌, List, Option, Some, None, option_map, IsPermutation}
use Rattle.std.proofs.Common.{unwrap_or, refl, sym, subst}
use Rattle.std.proofs.lemmas.List.Sorted.{IsPermutation-map}
use Rattle.toml_edit_slots.specs.Sorts.{held_lt}
use Rattle.toml_edit_laws.proofs.slots.Sorts.{sorts-seen}
use Rattle.toml_edit_model.specs.Lists.{only}
use Rattle.toml_edit_model.specs.Sorting.{IsSortOf, others_first}
use Rattle.toml_edit_model.specs.Tree.{Node}
use Rattle.toml_edit_tree.specs.declared.item.Item.{Item}
use Rattle.toml_edit_tree.specs.Elements.{listed}
use Rattle.toml_edit_tree.specs.View.{item_view}
use Rattle.toml_edit_tree.proofs.ElementLaws.{listed-map}

pub permuted-listed : (xs ys : List Item) → IsPermutation xs ys → IsPermutation (listed xs) (listed ys)
permuted-listed xs ys p =
    subst (λ l. IsPermutation l (listed ys)) (sym (listed-map xs))
    (subst (IsPermutation _) (sym (listed-map ys)) (IsPermutation-map item_view xs ys p))

module _ {E : Type 0} (held : Item → Option E) (view : E → Node) (test : Node → Bool) (same : (x : Item) → option_map view (held x)
    ≡ only test (item_view x)) (lt : Node → Node → Bool) where
  abbrev seen_lt : E → E → Bool
  seen_lt d e = lt (view d) (view e)

  lt-seen : (o p : Option E) (m n : Node) (b c : Bool) → option_map view o ≡ cond b (Some m) None → option_map view p ≡ cond c (Some n) None
      → held_lt seen_lt o p ≡ (if b then c && lt m n else c)
  lt-seen None None m n true c e f = absurd cc
  lt-seen None None m n false true e f = absurd cc
  lt-seen None None m n false false e f = refl
  lt-seen None (Some q) m n true c e f = absurd cc
  lt-seen None (Some q) m n false true e f = refl
  lt-seen None (Some q) m n false false e f = absurd cc
  lt-seen (Some o) None m n true true e f = absurd cc
  lt-seen (Some o) None m n true false e f = refl
  lt-seen (Some o) None m n false c e f = absurd cc
  lt-seen (Some o) (Some q) m n true true e f = λ i. lt (unwrap_or (e i) m) (unwrap_or (f i) n)
  lt-seen (Some o) (Some q) m n true false e f = absurd cc
  lt-seen (Some o) (Some q) m n false c e f = absurd cc

  pub sorts-held : (xs ys : List Item) → IsSortOf (λ x y. held_lt seen_lt (held x) (held y)) xs ys
      → IsSortOf (others_first test lt) (listed xs) (listed ys)
  sorts-held xs ys s =
      subst (λ l. IsSortOf (others_first test lt) l (listed ys)) (sym (listed-map xs))
      (subst (IsSortOf (others_first test lt) _) (sym (listed-map ys))
      (sorts-seen item_view (others_first test lt) xs ys
      (subst (λ r. IsSortOf r xs ys) (λ i x y. lt-seen (held x) (held y) (item_view x) (item_view y) (test (item_view x))
      (test (item_view y)) (same x) (same y) i) s)))
