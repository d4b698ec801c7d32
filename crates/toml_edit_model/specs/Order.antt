-- Lists put in an order.
use Rattle.std.specs.Prelude.{◌≡◌, Bool, true, ◌&&◌, if◌then◌else◌, List, [], ◌∷◌, filter}
use Rattle.std.specs.List.Sorted.{IsPermutation}

-- each of the two may come before the other
abbrev pub is_level : {A : Type 0} → (A → A → Bool) → A → A → Bool
is_level before a b = before a b && before b a

-- neighbours are in the order
abbrev pub is_sorted_by : {A : Type 0} → (A → A → Bool) → List A → Bool
is_sorted_by before [] = true
is_sorted_by before (a ∷ []) = true
is_sorted_by before (a ∷ b ∷ rest) = before a b && is_sorted_by before (b ∷ rest)

-- The second list is the first in an order: its elements, in the order; those that may come before
-- one another stay as they were.
pub record IsInOrder {A : Type 0} (before : A → A → Bool) (xs ys : List A) : Type 0 where
  pub permutation : IsPermutation xs ys
  pub sorted : is_sorted_by before ys ≡ true
  pub stable : (a : A) → filter (is_level before a) ys ≡ filter (is_level before a) xs

-- What computes the list in order, where `before` is an order: each element goes before the first
-- that it comes before.
abbrev pub insert_by : {A : Type 0} → (A → A → Bool) → A → List A → List A
insert_by before a [] = a ∷ []
insert_by before a (b ∷ rest) = if before a b then a ∷ b ∷ rest else b ∷ insert_by before a rest

abbrev pub sorted_by : {A : Type 0} → (A → A → Bool) → List A → List A
sorted_by before [] = []
sorted_by before (a ∷ rest) = insert_by before a (sorted_by before rest)
