-- What std says of a stable sort by numbers: the result is the sort by insertion.
use Rattle.std.proofs.Common.{◌≡◌, ℕ, Bool, true, false, cond, ltb, Less, Equal, Greater, refl, ap, ◌∙◌, List, arith}
use Rattle.std.specs.Prelude.{not, ◌==◌, nat_le}
use Rattle.std.specs.Fn.{Called, Mut}
use Rattle.std.specs.List.Sorted.{IsSortedByKey, IsSortedByKeyClosure, IsStableByKey, IsStableByKeyClosure}
use Rattle.std.specs.Ordering.{nat_cmp, is_lt}
use Rattle.std.proofs.lemmas.Bool.Decides.{nat_tests}
use Rattle.std.proofs.lemmas.Cmp.{nat_cmp_total}
use Rattle.std.proofs.lemmas.Fn.{always_returns_same}
use Rattle.std.proofs.lemmas.List.Sorted.{ranks_by}
use denote.Ref.{Bor}
use Rattle.toml_edit_laws.proofs.common.OrderLaws.{sorted-alike}
use Rattle.toml_edit_laws.proofs.common.Each.{trivially}
use Rattle.toml_edit_laws.proofs.print_by_visits.StableSort.{stable-sort}
use Rattle.toml_edit_model.specs.Order.{sorted_by}

lt-case : (c d : Bool) → is_lt (cond c Less (cond d Equal Greater)) ≡ c
lt-case true d = refl
lt-case false true = refl
lt-case false false = refl

not-below-is : (x y : ℕ) → not (ltb x y) ≡ nat_le y x
not-below-is x y = grind (arith, nat_tests)

not-above : (x y : ℕ) → not (is_lt (nat_cmp y x)) ≡ nat_le x y
not-above x y = ap not (lt-case (ltb y x) (y == x)) ∙ not-below-is y x

-- a stable sort by a number is the sort by insertion
sorted-by-key : {A : Type 0} (key : A → ℕ) (xs ys : List A) → IsSortedByKey key nat_cmp ys → IsStableByKey key nat_cmp xs ys
    → ys ≡ sorted_by (λ x y. nat_le (key x) (key y)) xs
sorted-by-key key xs ys up stable =
    stable-sort (λ x y. is_lt (nat_cmp (key x) (key y))) (ranks_by nat_cmp_total key) xs ys up stable
    ∙ sorted-alike (λ x. Unit {0}) (λ x y. not (is_lt (nat_cmp (key y) (key x)))) (λ x y. nat_le (key x) (key y))
    (λ x y p q. not-above (key x) (key y)) xs (trivially xs)

-- from the clauses of `sort_by_key`, where each call gives the number
pub sorted_by_number : {A F : Type 0} {g : Mut F (Bor A × Unit {0}) ℕ} {f : F} (key : A → ℕ) (xs ys : List A)
    → IsSortedByKeyClosure g nat_cmp f ys → IsStableByKeyClosure g nat_cmp f xs ys
    → ((a : Bor A × Unit {0}) (r : ℕ) (f' : F) → Called g f a r f' → (r ≡ key a.0.now) × (f' ≡ f))
    → ys ≡ sorted_by (λ x y. nat_le (key x) (key y)) xs
sorted_by_number {g = g} {f = f} key xs ys up stable calls =
    let computes = always_returns_same g (λ a r. r ≡ key a.0.now) f calls in
    sorted-by-key key xs ys (up key computes) (stable key computes)
