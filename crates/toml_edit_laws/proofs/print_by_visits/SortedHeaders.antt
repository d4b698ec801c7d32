-- What std says of a stable sort, of tables with their places: the result is the order of headers.
use Rattle.std.proofs.Common.{◌≡◌, sym, ap, ◌∙◌, ℤ, List}
use Rattle.std.specs.Prelude.{map, int_le}
use Rattle.std.specs.Fn.{Called, Mut}
use Rattle.std.specs.List.Sorted.{IsSortedByKey, IsSortedByKeyClosure}
use Rattle.std.specs.List.Sorted.{IsStableByKey, IsStableByKeyClosure}
use Rattle.std.specs.Ordering.{int_cmp}
use Rattle.std.proofs.lemmas.Fn.{always_returns_same}
use denote.Ref.{Bor}
use Rattle.toml_edit_laws.specs.PrintByVisits.{Headed, by_place}
use Rattle.toml_edit_laws.proofs.common.OrderLaws.{sorted-alike, sorted-image}
use Rattle.toml_edit_laws.proofs.print_by_visits.StableSort.{sorted-by_place}
use Rattle.toml_edit_laws.proofs.common.Each.{trivially}
use Rattle.toml_edit_model.specs.Order.{sorted_by}

-- ---- tables with places, below the root

-- The tables of a program, seen as those that are collected: sorted by their place, they are seen in order of place.
module _ {A : Type 0} (view : A → Headed) (place : A → ℤ) (same : (a : A) → place a ≡ (view a).place) where
  by-view : (xs : List A) → map view (sorted_by (λ x y. int_le (place x) (place y)) xs) ≡ sorted_by by_place (map view xs)
  by-view xs =
      ap (map view) (sorted-alike (λ x. Unit {0}) (λ x y. int_le (place x) (place y)) (λ x y. by_place (view x) (view y))
      (λ x y p q. two x y) xs (trivially xs))
      ∙ sym (sorted-image view by_place xs)
    where
      two : (x y : A) → int_le (place x) (place y) ≡ by_place (view x) (view y)
      two x y = ap (λ z. int_le z (place y)) (same x) ∙ ap (λ z. int_le ((view x).place) z) (same y)

  pub sorted-views : (xs ys : List A) → IsSortedByKey place int_cmp ys → IsStableByKey place int_cmp xs ys
      → map view ys ≡ sorted_by by_place (map view xs)
  sorted-views xs ys up stable = ap (map view) (sorted-by_place place xs ys up stable) ∙ by-view xs

  -- from the clauses of `sort_by_key`, where each call gives the place
  pub sorted-views-by_key : {F : Type 0} {g : Mut F (Bor A × Unit {0}) ℤ} {f : F} (xs ys : List A)
      → IsSortedByKeyClosure g int_cmp f ys → IsStableByKeyClosure g int_cmp f xs ys
      → ((a : Bor A × Unit {0}) (r : ℤ) (f' : F) → Called g f a r f' → (r ≡ place a.0.now) × (f' ≡ f))
      → map view ys ≡ sorted_by by_place (map view xs)
  sorted-views-by_key {g = g} {f = f} xs ys up stable calls =
      let computes = always_returns_same g (λ a r. r ≡ place a.0.now) f calls in
      sorted-views xs ys (up place computes) (stable place computes)
