-- The sort by insertion is a list in order: the same elements, sorted, and stable.
use Rattle.std.proofs.Common.{◌≡◌, refl, ◌∙◌, ap, Bool, true, false, pos, List, [], ◌∷◌}
use Rattle.std.specs.Prelude.{filter, if◌then◌else◌}
use Rattle.std.specs.List.Sorted.{IsPermutation}
use Rattle.std.proofs.lemmas.List.Sorted.{IsPermutation-refl, IsPermutation-sym, IsPermutation-cons, IsPermutation-trans}
use Rattle.std.proofs.lemmas.List.Sorted.{IsPermutation-middle}
use Rattle.toml_edit_model.specs.Order.{is_level, is_sorted_by, IsInOrder, insert_by, sorted_by}
use Rattle.toml_edit_model.specs.Paths.{Mention, Source, Placed}
use Rattle.toml_edit_model.specs.Normal.{is_line, line_before, ordered}
use Rattle.toml_edit_model.specs.HeaderOrder.{comes_before, walk, places_from}
use Rattle.toml_edit_laws.specs.InOrder.{HeadersInOrder}
use Rattle.toml_edit_laws.proofs.common.Tests.{and_left, and_right, and_both, true-false}
use Rattle.toml_edit_laws.proofs.common.Visits.{before-total, before-trans}

-- ---- the same elements

module _ {A : Type 0} (before : A → A → Bool) where
  kept-insert : (a : A) (xs : List A) → IsPermutation (a ∷ xs) (insert_by before a xs)
  kept-insert a [] = IsPermutation-refl (a ∷ [])
  kept-insert a (b ∷ xs) = by_test (before a b) (kept-insert a xs)
    where
      by_test : (t : Bool) → IsPermutation (a ∷ xs) (insert_by before a xs)
          → IsPermutation (a ∷ b ∷ xs) (if t then a ∷ b ∷ xs else b ∷ insert_by before a xs)
      by_test true h = IsPermutation-refl (a ∷ b ∷ xs)
      by_test false h =
          IsPermutation-trans (a ∷ b ∷ xs) (b ∷ a ∷ xs) (b ∷ insert_by before a xs)
          (IsPermutation-sym (b ∷ a ∷ xs) (a ∷ b ∷ xs) (IsPermutation-middle (b ∷ []) a xs)) (IsPermutation-cons b (a
          ∷ xs) (insert_by before a xs) h)

  pub kept-sorted : (xs : List A) → IsPermutation xs (sorted_by before xs)
  kept-sorted [] = IsPermutation-refl []
  kept-sorted (a ∷ xs) =
      IsPermutation-trans (a ∷ xs) (a ∷ sorted_by before xs) (insert_by before a (sorted_by before xs))
      (IsPermutation-cons a xs (sorted_by before xs) (kept-sorted xs)) (kept-insert a (sorted_by before xs))

pub kept-lines : (mss : List (List (Mention Source))) (xs : List Placed) → IsPermutation xs (ordered mss xs)
kept-lines mss [] = IsPermutation-refl []
kept-lines mss (s ∷ rest) = by_kind (is_line s.source.statement) (IsPermutation-cons s rest (ordered mss rest) (kept-lines mss rest))
  where
    by_kind : (b : Bool) → IsPermutation (s ∷ rest) (s ∷ ordered mss rest)
        → IsPermutation (s ∷ rest) (if b then insert_by (line_before mss) s (ordered mss rest) else s ∷ ordered mss rest)
    by_kind true h =
        IsPermutation-trans (s ∷ rest) (s ∷ ordered mss rest) (insert_by (line_before mss) s (ordered mss rest)) h
        (kept-insert (line_before mss) s (ordered mss rest))
    by_kind false h = h

-- ---- sorted, and stable

module _ {A : Type 0} (before : A → A → Bool) (total : (a b : A) → before a b ≡ false → before b a ≡ true) (goes_on : (a b c : A)
    → before a b ≡ true → before b c ≡ true → before a c ≡ true) where
  tail-sorted : (b : A) (xs : List A) → is_sorted_by before (b ∷ xs) ≡ true → is_sorted_by before xs ≡ true
  tail-sorted b [] h = refl
  tail-sorted b (c ∷ xs) h = and_right (before b c) (is_sorted_by before (c ∷ xs)) h

  behind-one : (b a : A) (xs : List A) → before b a ≡ true → is_sorted_by before (b ∷ xs) ≡ true
      → is_sorted_by before (insert_by before a xs) ≡ true
      → is_sorted_by before (b ∷ insert_by before a xs) ≡ true
  behind-one b a [] p h g = and_both (before b a) true p refl
  behind-one b a (c ∷ xs) p h g = by_test (before a c) g
    where
      by_test : (t : Bool) → is_sorted_by before (if t then a ∷ c ∷ xs else c ∷ insert_by before a xs) ≡ true
          → is_sorted_by before (b ∷ (if t then a ∷ c ∷ xs else c ∷ insert_by before a xs)) ≡ true
      by_test true g = and_both (before b a) (is_sorted_by before (a ∷ c ∷ xs)) p g
      by_test false g = and_both (before b c) (is_sorted_by before (c ∷ insert_by before a xs))
          (and_left (before b c) (is_sorted_by before (c ∷ xs)) h) g

  sorted-insert : (a : A) (xs : List A) → is_sorted_by before xs ≡ true → is_sorted_by before (insert_by before a xs) ≡ true
  sorted-insert a [] h = refl
  sorted-insert a (b ∷ xs) h = by_test (before a b) refl (sorted-insert a xs (tail-sorted b xs h))
    where
      by_test : (t : Bool) → before a b ≡ t → is_sorted_by before (insert_by before a xs) ≡ true
          → is_sorted_by before (if t then a ∷ b ∷ xs else b ∷ insert_by before a xs) ≡ true
      by_test true e g = and_both (before a b) (is_sorted_by before (b ∷ xs)) e h
      by_test false e g = behind-one b a xs (total a b e) h g

  sorted-sorted : (xs : List A) → is_sorted_by before (sorted_by before xs) ≡ true
  sorted-sorted [] = refl
  sorted-sorted (a ∷ xs) = sorted-insert a (sorted_by before xs) (sorted-sorted xs)

  passed : (a b : A) (ta tb : Bool) → (ta ≡ true → tb ≡ true → ⊥) → (ys zs : List A) → ys ≡ (if ta then a ∷ zs else zs)
      → (if tb then b ∷ ys else ys) ≡ (if ta then a ∷ (if tb then b ∷ zs else zs) else (if tb then b ∷ zs else zs))
  passed a b true true none ys zs e = absurd (none refl refl)
  passed a b true false none ys zs e = e
  passed a b false tb none ys zs e = ap (λ (l : List A). if tb then b ∷ l else l) e

  not-level : (x a b : A) → before a b ≡ false → is_level before x a ≡ true → is_level before x b ≡ true → ⊥
  not-level x a b e p q =
      true-false (before a b) (goes_on a x b (and_right (before x a) (before a x) p) (and_left (before x b) (before b x) q)) e

  level-insert : (x a : A) (xs : List A) → filter (is_level before x) (insert_by before a xs) ≡ filter (is_level before x) (a ∷ xs)
  level-insert x a [] = refl
  level-insert x a (b ∷ xs) = by_test (before a b) refl (level-insert x a xs)
    where
      by_test : (t : Bool) → before a b ≡ t → filter (is_level before x) (insert_by before a xs) ≡ filter (is_level before x) (a ∷ xs)
          → filter (is_level before x) (if t then a ∷ b ∷ xs else b ∷ insert_by before a xs) ≡ filter (is_level before x) (a ∷ b ∷ xs)
      by_test true e g = refl
      by_test false e g =
          passed a b (is_level before x a) (is_level before x b) (not-level x a b e) (filter (is_level before x) (insert_by before a xs))
          (filter (is_level before x) xs) g

  level-sorted : (x : A) (xs : List A) → filter (is_level before x) (sorted_by before xs) ≡ filter (is_level before x) xs
  level-sorted x [] = refl
  level-sorted x (a ∷ xs) =
      level-insert x a (sorted_by before xs) ∙ ap (λ (l : List A). if is_level before x a then a ∷ l else l) (level-sorted x xs)

  -- The sort by insertion is the list in order.
  pub in-order : (xs : List A) → IsInOrder before xs (sorted_by before xs)
  in-order xs = record { permutation = kept-sorted before xs; sorted = sorted-sorted xs; stable = λ x. level-sorted x xs }

-- ---- the order of headers

pub headers-in-order : HeadersInOrder
headers-in-order t = in-order comes_before before-total before-trans (places_from (pos 0) (walk t))
