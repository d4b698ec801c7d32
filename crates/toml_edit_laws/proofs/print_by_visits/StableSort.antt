-- A stable sort by an order is the sort by insertion.
use Rattle.std.proofs.Common.{◌≡◌, ℕ, suc, ◌<◌, ◌≤◌, ℤ, pos, negsuc, Bool, true, false, cond, ltb, leb, Less, Equal, Greater, List, [], ◌∷◌}
use Rattle.std.proofs.Common.{length, get_or, refl, sym, ap, subst, ◌∙◌, inl, inr, arith}
use Rattle.std.specs.Prelude.{filter, not, ◌&&◌, int_le, if◌then◌else◌}
use Rattle.std.specs.Cmp.{IsStrictWeakOrder, int_cmp_total}
use Rattle.std.specs.List.{AllByRecursion}
use Rattle.std.specs.List.Sorted.{ties, IsSortedBy, IsSortedByKey, IsStableBy, IsStableByKey}
use Rattle.std.specs.Ordering.{int_cmp, is_lt}
use Rattle.std.proofs.lemmas.Bool.{cases_Bool}
use Rattle.std.proofs.lemmas.Bool.Decides.{nat_tests}
use Rattle.std.proofs.lemmas.List.Sorted.{ranks_by, sorted_far}
use Rattle.toml_edit_laws.proofs.common.OrderLaws.{sorted-alike}
use Rattle.toml_edit_laws.proofs.common.Each.{trivially, all-filter, all-map}
use Rattle.toml_edit_model.specs.Order.{insert_by, sorted_by}

both-false : (a b : Bool) → (not a && not b) ≡ true → (a ≡ false) × (b ≡ false)
both-false false false h = (refl, refl)
both-false true b h = absurd cc
both-false false true h = absurd cc

both-not : (a b : Bool) → a ≡ false → b ≡ false → (not a && not b) ≡ true
both-not a b e f = rw (e, f) refl

module _ {A : Type 0} (lt : A → A → Bool) (o : IsStrictWeakOrder lt) where
  -- none is above one that stands later
  abbrev IsUp : List A → Type 0
  IsUp [] = Unit {0}
  IsUp (x ∷ xs) = AllByRecursion (λ y. lt y x ≡ false) xs × IsUp xs

  abbrev pub not_above : A → A → Bool
  not_above a b = not (lt b a)

  all-insert : (P : A → Type 0) (a : A) (xs : List A) → P a → AllByRecursion P xs → AllByRecursion P (insert_by not_above a xs)
  all-insert P a [] p h = (p, tt)
  all-insert P a (x ∷ xs) p h =
      elim (cases_Bool (lt x a)) [
        | inl e ↦ rw e (h.0, all-insert P a xs p h.1)
        | inr e ↦ rw e (p, h)
      ]

  up-insert : (a : A) (xs : List A) → IsUp xs → IsUp (insert_by not_above a xs)
  up-insert a [] h = (tt, tt)
  up-insert a (x ∷ xs) h =
      elim (cases_Bool (lt x a)) [
        | inl e ↦ rw e (all-insert (λ y. lt y x ≡ false) a xs (o.one_way x a e) h.0, up-insert a xs h.1)
        | inr e ↦ rw e ((e, all-map (λ y. lt y x ≡ false) (λ y. lt y a ≡ false) xs (λ y p. o.chain y x a p e) h.0), h)
      ]

  up-sorted : (xs : List A) → IsUp (sorted_by not_above xs)
  up-sorted [] = tt
  up-sorted (x ∷ xs) = up-insert x (sorted_by not_above xs) (up-sorted xs)

  -- ---- ties keep their order

  passed : (a b : A) (ta tb : Bool) → (ta ≡ true → tb ≡ true → ⊥) → (ys zs : List A) → ys ≡ (if ta then a ∷ zs else zs)
      → (if tb then b ∷ ys else ys) ≡ (if ta then a ∷ (if tb then b ∷ zs else zs) else (if tb then b ∷ zs else zs))
  passed a b true true none ys zs e = absurd (none refl refl)
  passed a b true false none ys zs e = e
  passed a b false tb none ys zs e = ap (λ (l : List A). if tb then b ∷ l else l) e

  apart : (x a b : A) → lt b a ≡ true → ties lt x a ≡ true → ties lt x b ≡ true → ⊥
  apart x a b e p q =
      let below = o.chain b x a (both-false (lt x b) (lt b x) q).1 (both-false (lt x a) (lt a x) p).0 in absurd cc

  ties-insert : (x a : A) (xs : List A) → filter (ties lt x) (insert_by not_above a xs) ≡ filter (ties lt x) (a ∷ xs)
  ties-insert x a [] = refl
  ties-insert x a (b ∷ xs) =
      elim (cases_Bool (lt b a)) [
        | inl e ↦ rw e (passed a b (ties lt x a) (ties lt x b) (apart x a b e) (filter (ties lt x) (insert_by not_above a xs))
            (filter (ties lt x) xs) (ties-insert x a xs))
        | inr e ↦ rw e refl
      ]

  ties-sorted : (x : A) (xs : List A) → filter (ties lt x) (sorted_by not_above xs) ≡ filter (ties lt x) xs
  ties-sorted x [] = refl
  ties-sorted x (a ∷ xs) =
      ties-insert x a (sorted_by not_above xs) ∙ ap (λ (l : List A). if ties lt x a then a ∷ l else l) (ties-sorted x xs)

  -- ---- one order

  own : (x : A) → lt x x ≡ false
  own x =
      elim (cases_Bool (lt x x)) [
        | inl e ↦ o.one_way x x e
        | inr e ↦ e
      ]

  own-tie : (x : A) → ties lt x x ≡ true
  own-tie x = both-not (lt x x) (lt x x) (own x) (own x)

  kept-first : (x : A) (xs : List A) → filter (ties lt x) (x ∷ xs) ≡ x ∷ filter (ties lt x) xs
  kept-first x xs = rw (own-tie x) refl

  -- one whose ties begin another list is not below the first there
  not-below : (x y : A) (rest ys : List A) → AllByRecursion (λ z. lt z y ≡ false) ys → x ∷ rest ≡ filter (ties lt x) (y ∷ ys) → lt x y
      ≡ false
  not-below x y rest ys h e =
      (subst (AllByRecursion (λ z. lt z y ≡ false)) (sym e) (all-filter (λ z. lt z y ≡ false) (ties lt x) (y ∷ ys) (own y, h))).0

  first-same : (x y : A) (xs ys : List A) → ties lt x y ≡ true → x ∷ xs ≡ (if ties lt x y then y ∷ ys else ys) → x ≡ y
  first-same x y xs ys t e = let same : x ∷ xs ≡ y ∷ ys = e ∙ ap (λ (b : Bool). if b then y ∷ ys else ys) t in cc

  rest-same : (b : Bool) (x : A) (xs ys : List A) → (if b then x ∷ xs else xs) ≡ (if b then x ∷ ys else ys) → xs ≡ ys
  rest-same true x xs ys e = cc
  rest-same false x xs ys e = e

  same-up : (xs ys : List A) → IsUp xs → IsUp ys → ((x : A) → filter (ties lt x) xs ≡ filter (ties lt x) ys) → xs ≡ ys
  same-up [] [] u v f = refl
  same-up [] (y ∷ ys) u v f = let e : [] ≡ y ∷ filter (ties lt y) ys = f y ∙ kept-first y ys in absurd cc
  same-up (x ∷ xs) [] u v f = let e : x ∷ filter (ties lt x) xs ≡ [] = sym (kept-first x xs) ∙ f x in absurd cc
  same-up (x ∷ xs) (y ∷ ys) u v f =
      let one : x ∷ filter (ties lt x) xs ≡ filter (ties lt x) (y ∷ ys) = sym (kept-first x xs) ∙ f x in
      let two : y ∷ filter (ties lt y) ys ≡ filter (ties lt y) (x ∷ xs) = sym (f y ∙ kept-first y ys) in
      let tie : ties lt x y ≡ true = both-not (lt x y) (lt y x) (not-below x y _ ys v.0 one) (not-below y x _ xs u.0 two) in
      let same : x ≡ y = first-same x y _ (filter (ties lt x) ys) tie one in
      let more : (z : A) → filter (ties lt z) (x ∷ xs) ≡ filter (ties lt z) (x ∷ ys) = λ z. f z
      ∙ ap (λ (w : A). filter (ties lt z) (w ∷ ys)) (sym same) in
      ap (λ (w : A). w ∷ xs) same
      ∙ ap (λ (l : List A). y ∷ l) (same-up xs ys u.1 v.1
      (λ z. rest-same (ties lt z x) x (filter (ties lt z) xs) (filter (ties lt z) ys) (more z)))

  -- ---- the sort

  all_of : (x : A) (ys : List A) → ((j : ℕ) (d : A) → j < length ys → lt (get_or ys j d) x ≡ false)
      → AllByRecursion (λ y. lt y x ≡ false) ys
  all_of x [] h = tt
  all_of x (y ∷ ys) h = (h 0 y (omega arith), all_of x ys (λ j d l. h (suc j) d (omega (arith, l))))

  up_of : (ys : List A) → ((i j : ℕ) (d : A) → i ≤ j → j < length ys → lt (get_or ys j d) (get_or ys i d) ≡ false) → IsUp ys
  up_of [] h = tt
  up_of (y ∷ ys) h = (
    all_of y ys (λ j d l. h 0 (suc j) d (omega arith) (omega (arith, l))),
    up_of ys (λ i j d m l. h (suc i) (suc j) d (omega (arith, m)) (omega (arith, l))),
  )

  pub stable-sort : (xs ys : List A) → IsSortedBy lt ys → IsStableBy lt xs ys → ys ≡ sorted_by not_above xs
  stable-sort xs ys up stable =
      same-up ys (sorted_by not_above xs) (up_of ys (sorted_far lt o ys up)) (up-sorted xs) (λ x. stable x ∙ sym (ties-sorted x xs))

-- ---- by places

lt-case : (c d : Bool) → is_lt (cond c Less (cond d Greater Equal)) ≡ c
lt-case true d = refl
lt-case false true = refl
lt-case false false = refl

not-below-is : (x y : ℕ) → not (ltb x y) ≡ leb y x
not-below-is x y = grind (arith, nat_tests)

-- a place that is not above another
pub not-above : (x y : ℤ) → not (is_lt (int_cmp y x)) ≡ int_le x y
not-above (pos a) (pos b) = ap not (lt-case (ltb b a) (ltb a b)) ∙ not-below-is b a
not-above (pos a) (negsuc b) = refl
not-above (negsuc a) (pos b) = refl
not-above (negsuc a) (negsuc b) = ap not (lt-case (ltb a b) (ltb b a)) ∙ not-below-is a b

-- a stable sort by a place is the sort by insertion
pub sorted-by_place : {A : Type 0} (key : A → ℤ) (xs ys : List A) → IsSortedByKey key int_cmp ys → IsStableByKey key int_cmp xs ys
    → ys ≡ sorted_by (λ x y. int_le (key x) (key y)) xs
sorted-by_place key xs ys up stable =
    stable-sort (λ x y. is_lt (int_cmp (key x) (key y))) (ranks_by int_cmp_total key) xs ys up stable
    ∙ sorted-alike (λ x. Unit {0}) (λ x y. not (is_lt (int_cmp (key y) (key x)))) (λ x y. int_le (key x) (key y))
    (λ x y p q. not-above (key x) (key y)) xs (trivially xs)
