-- The order of keys is lawful, and a sort by insertion is stable.
use Rattle.std.proofs.Common.{◌≡◌, ◌⊎◌, ℕ, zero, suc, ◌+◌, Bool, true, false, not, ◌&&◌, cond, if◌then◌else◌, List, [], ◌∷◌, map, filter}
use Rattle.std.proofs.Common.{length, get_or, inl, inr, ◌<◌, IsPermutation, IsSortedBy, refl, sym, ap, ◌∙◌, arith}
use Rattle.std.proofs.lemmas.Bool.{cases_Bool, false≢true}
use Rattle.std.proofs.lemmas.List.MinMax.{ranks_by}
use Rattle.std.proofs.lemmas.List.Sorted.{IsPermutation-refl, IsPermutation-trans, IsPermutation-cons, IsPermutation-swap}
use Rattle.std.proofs.lemmas.List.Sorted.{IsPermutation-map}
use Rattle.std.specs.List.Sorted.{IsStableBy, ties}
use Rattle.std.specs.Cmp.{IsStrictWeakOrder}
use Rattle.std.specs.Cmp.Lexicographic.{nat_list_cmp_total}
use Rattle.toml_edit_model.specs.Order.{insert_by, sorted_by}
use Rattle.toml_edit_model.specs.Tree.{Node, Slots, no_slots, slot}
use Rattle.toml_edit_model.specs.Slots.{Slot, on_item}
use Rattle.toml_edit_model.specs.Lists.{slot_list}
use Rattle.toml_edit_model.specs.Sorting.{IsSortOf, name_lt, sorted_item}
use Rattle.toml_edit_model.specs.Sorting.{sorted_slots}

-- the order of keys
pub name_lt-lawful : {T : Type 0} → IsStrictWeakOrder (name_lt {T = T})
name_lt-lawful = ranks_by nat_list_cmp_total (λ s. s.key.name)

-- ---- a sort by insertion

module _ {X : Type 0} (lt : X → X → Bool) where
  -- no greater than
  abbrev fits : X → X → Bool
  fits x y = not (lt y x)

  insert_either : (b : Bool) (x y : X) (ys zs : List X) → IsPermutation (x ∷ ys) zs
      → IsPermutation (x ∷ y ∷ ys) (if b then x ∷ y ∷ ys else y ∷ zs)
  insert_either true x y ys zs p = IsPermutation-refl (x ∷ y ∷ ys)
  insert_either false x y ys zs p = IsPermutation-trans (x ∷ y ∷ ys) (y ∷ x ∷ ys) (y ∷ zs)
      (IsPermutation-swap (x ∷ y ∷ ys) (y ∷ x ∷ ys) 0 1 (omega arith) (omega arith) refl) (IsPermutation-cons y (x ∷ ys) zs p)

  insert-permutes : (x : X) (ys : List X) → IsPermutation (x ∷ ys) (insert_by fits x ys)
  insert-permutes x [] = IsPermutation-refl (x ∷ [])
  insert-permutes x (y ∷ ys) = insert_either (fits x y) x y ys (insert_by fits x ys) (insert-permutes x ys)

  sorted-permutes : (xs : List X) → IsPermutation xs (sorted_by fits xs)
  sorted-permutes [] = IsPermutation-refl []
  sorted-permutes (x ∷ xs) = IsPermutation-trans (x ∷ xs) (x ∷ sorted_by fits xs) (insert_by fits x (sorted_by fits xs))
      (IsPermutation-cons x xs (sorted_by fits xs) (sorted-permutes xs)) (insert-permutes x (sorted_by fits xs))

  -- no element is less than the one before it
  abbrev pub Rises : List X → Type 0
  Rises [] = Unit {0}
  Rises (x ∷ []) = Unit {0}
  Rises (x ∷ y ∷ ys) = (lt y x ≡ false) × Rises (y ∷ ys)

  rises-sorted : (xs : List X) → Rises xs → IsSortedBy lt xs
  rises-sorted [] r k d low high = absurd (omega arith)
  rises-sorted (x ∷ []) r k d low high = absurd (omega arith)
  rises-sorted (x ∷ y ∷ ys) r zero d low high = r.0
  rises-sorted (x ∷ y ∷ ys) r (suc k) d low high =
      let e : suc k + 1 ≡ suc (k + 1) = omega arith in rw e (rises-sorted (y ∷ ys) r.1 k d (omega arith) (omega arith))

  module _ (o : IsStrictWeakOrder lt) where
    onto : (b : Bool) (y x z : X) (xs zs : List X) → lt x y ≡ false → lt z y ≡ false → Rises (if b then x ∷ xs else z ∷ zs)
        → Rises (y ∷ (if b then x ∷ xs else z ∷ zs))
    onto true y x z xs zs e f r = (e, r)
    onto false y x z xs zs e f r = (f, r)

    below : (y x : X) (ys : List X) → lt x y ≡ false → Rises (y ∷ ys) → Rises (insert_by fits x ys) → Rises (y ∷ insert_by fits x ys)
    below y x [] e r s = (e, tt)
    below y x (z ∷ ys) e r s = onto (fits x z) y x z (z ∷ ys) (insert_by fits x ys) e r.0 s

    pub tail_rises : (y : X) (ys : List X) → Rises (y ∷ ys) → Rises ys
    tail_rises y [] r = tt
    tail_rises y (z ∷ ys) r = r.1

    rises_either : (b : Bool) (x y : X) (ys : List X) → b ≡ fits x y → Rises (y ∷ ys) → Rises (insert_by fits x ys)
        → Rises (if b then x ∷ y ∷ ys else y ∷ insert_by fits x ys)
    rises_either true x y ys e r s = (falls (lt y x) e, r)
      where
        falls : (c : Bool) → true ≡ not c → c ≡ false
        falls true e = absurd (false≢true (sym e))
        falls false e = refl
    rises_either false x y ys e r s = below y x ys (o.one_way y x (holds (lt y x) e)) r s
      where
        holds : (c : Bool) → false ≡ not c → c ≡ true
        holds true e = refl
        holds false e = absurd (false≢true e)

    insert-rises : (x : X) (ys : List X) → Rises ys → Rises (insert_by fits x ys)
    insert-rises x [] r = tt
    insert-rises x (y ∷ ys) r = rises_either (fits x y) x y ys refl r (insert-rises x ys (tail_rises y ys r))

    sorted-rises : (xs : List X) → Rises (sorted_by fits xs)
    sorted-rises [] = tt
    sorted-rises (x ∷ xs) = insert-rises x (sorted_by fits xs) (sorted-rises xs)

    -- what ties with one element ties
    pub both_false : (b c : Bool) → not b && not c ≡ true → (b ≡ false) × (c ≡ false)
    both_false true c e = absurd (false≢true e)
    both_false false true e = absurd (false≢true e)
    both_false false false e = (refl, refl)

    tied : (z x y : X) → ties lt z x ≡ true → ties lt z y ≡ true → lt y x ≡ false
    tied z x y e f = o.chain y z x (both_false (lt z y) (lt y z) f).1 (both_false (lt z x) (lt x z) e).0

    -- two elements of which one at most passes change places in a filter
    cross : (b c : Bool) (x y : X) (l : List X) → (b ≡ true → c ≡ true → ⊥) → cond c (y ∷ cond b (x ∷ l) l) (cond b (x ∷ l) l)
        ≡ cond b (x ∷ cond c (y ∷ l) l) (cond c (y ∷ l) l)
    cross true true x y l n = absurd (n refl refl)
    cross true false x y l n = refl
    cross false true x y l n = refl
    cross false false x y l n = refl

    stable_either : (b : Bool) (z x y : X) (ys : List X) → b ≡ fits x y → filter (ties lt z) (insert_by fits x ys)
        ≡ filter (ties lt z) (x ∷ ys)
        → filter (ties lt z) (if b then x ∷ y ∷ ys else y ∷ insert_by fits x ys) ≡ filter (ties lt z) (x ∷ y ∷ ys)
    stable_either true z x y ys e h = refl
    stable_either false z x y ys e h =
        ap (λ l. cond (ties lt z y) (y ∷ l) l) h
        ∙ cross (ties lt z x) (ties lt z y) x y (filter (ties lt z) ys) (λ p q. clash (lt y x) e (tied z x y p q))
      where
        clash : (c : Bool) → false ≡ not c → c ≡ false → ⊥
        clash true e f = false≢true (sym f)
        clash false e f = false≢true e

    insert-stable : (x : X) (ys : List X) (z : X) → filter (ties lt z) (insert_by fits x ys) ≡ filter (ties lt z) (x ∷ ys)
    insert-stable x [] z = refl
    insert-stable x (y ∷ ys) z = stable_either (fits x y) z x y ys refl (insert-stable x ys z)

    sorted-stable : (xs : List X) → IsStableBy lt xs (sorted_by fits xs)
    sorted-stable [] z = refl
    sorted-stable (x ∷ xs) z = insert-stable x (sorted_by fits xs) z ∙ ap (λ l. cond (ties lt z x) (x ∷ l) l) (sorted-stable xs z)

  pub sorted-sorts : (xs : List X) → IsSortOf lt xs (sorted_by fits xs)
  sorted-sorts xs = record {
    permutation = sorted-permutes xs;
    stable = λ o. sorted-stable o xs;
    sorted =
        λ o. rises-sorted (sorted_by fits xs) (sorted-rises o xs);
  }

-- ---- along a view: a sort of what is there is a sort of what is seen

module _ {X Y : Type 0} (h : X → Y) (lt : Y → Y → Bool) where
  abbrev seen_lt : X → X → Bool
  seen_lt x y = lt (h x) (h y)

  get_seen : (xs : List X) (k : ℕ) (d : Y) (e : X) → k < length xs → get_or (map h xs) k d ≡ h (get_or xs k e)
  get_seen [] k d e low = absurd (omega arith)
  get_seen (x ∷ xs) zero d e low = refl
  get_seen (x ∷ xs) (suc k) d e low = get_seen xs k d e (omega arith)

  length_seen : (xs : List X) → length (map h xs) ≡ length xs
  length_seen [] = refl
  length_seen (x ∷ xs) = ap suc (length_seen xs)

  filter_seen : (p : Y → Bool) (xs : List X) → filter p (map h xs) ≡ map h (filter (λ x. p (h x)) xs)
  filter_seen p [] = refl
  filter_seen p (x ∷ xs) = ap (λ l. cond (p (h x)) (h x ∷ l) l) (filter_seen p xs) ∙ either (p (h x)) (filter (λ y. p (h y)) xs)
    where
      either : (b : Bool) (l : List X) → cond b (h x ∷ map h l) (map h l) ≡ map h (cond b (x ∷ l) l)
      either true l = refl
      either false l = refl

  filter_alike : (p q : X → Bool) → ((x : X) → p x ≡ q x) → (xs : List X) → filter p xs ≡ filter q xs
  filter_alike p q e [] = refl
  filter_alike p q e (x ∷ xs) = λ i. cond (e x i) (x ∷ filter_alike p q e xs i) (filter_alike p q e xs i)

  -- some element passes, or none is left
  passes : (p : X → Bool) (xs : List X) → ((x : X) × (p x ≡ true)) ⊎ (filter p xs ≡ [])
  passes p [] = inr refl
  passes p (x ∷ xs) =
      elim (cases_Bool (p x)) [
        | inl holds ↦ inl (x, holds)
        | inr fails ↦ elim (passes p xs) [ inl some ↦ inl some | inr none_left ↦ inr (rw fails none_left) ]
      ]

  module _ (o : IsStrictWeakOrder lt) where
    pub seen-lawful : IsStrictWeakOrder seen_lt
    seen-lawful = record { one_way = λ x y. o.one_way (h x) (h y); chain = λ x y z. o.chain (h x) (h y) (h z) }

    sorted_seen : (xs : List X) → IsSortedBy seen_lt xs → IsSortedBy lt (map h xs)
    sorted_seen [] s k d low high = absurd (omega arith)
    sorted_seen (x ∷ xs) s k d low high =
        let n = length_seen (x ∷ xs) in
        rw (get_seen (x ∷ xs) (k + 1) d x (omega arith), get_seen (x ∷ xs) k d x (omega arith)) (s k x low (omega arith))

    same_bool : (b c : Bool) → (b ≡ false → c ≡ false) → (c ≡ false → b ≡ false) → b ≡ c
    same_bool true true f g = refl
    same_bool true false f g = absurd (false≢true (sym (g refl)))
    same_bool false true f g = absurd (false≢true (sym (f refl)))
    same_bool false false f g = refl

    -- what ties stands alike to all
    tied_alike : (z x w : Y) → ties lt z x ≡ true → ties lt z w ≡ ties lt x w
    tied_alike z x w e =
        let q = both_false lt o (lt z x) (lt x z) e in
        λ i. not (same_bool (lt z w) (lt x w) (λ f. o.chain x z w q.1 f) (λ f. o.chain z x w q.0 f) i)
        && not (same_bool (lt w z) (lt w x) (λ f. o.chain w z x f q.0) (λ f. o.chain w x z f q.1) i)

    stable_seen : (xs ys : List X) → IsStableBy seen_lt xs ys → (z : Y) → filter (λ x. ties lt z (h x)) ys
        ≡ filter (λ x. ties lt z (h x)) xs
    stable_seen xs ys s z =
        elim (passes (λ x. ties lt z (h x)) ys) [
          | inl some ↦ at some.0 some.1
          | inr none_left ↦ elim (passes (λ x. ties lt z (h x)) xs) [
            | inl some ↦ at some.0 some.1
            | inr none_before ↦ none_left
                ∙ sym none_before
          ]
        ]
      where
        at : (y : X) → ties lt z (h y) ≡ true → filter (λ x. ties lt z (h x)) ys ≡ filter (λ x. ties lt z (h x)) xs
        at y e =
            filter_alike _ _ (λ x. tied_alike z (h y) (h x) e) ys ∙ s y ∙ sym (filter_alike _ _ (λ x. tied_alike z (h y) (h x) e) xs)

  pub sorts-seen : (xs ys : List X) → IsSortOf seen_lt xs ys → IsSortOf lt (map h xs) (map h ys)
  sorts-seen xs ys s =
      record {
        permutation = IsPermutation-map h xs ys s.permutation;
        stable = λ o z. filter_seen (ties lt z) ys ∙ ap (map h) (stable_seen o xs ys (s.stable (seen-lawful o)) z)
            ∙ sym (filter_seen (ties lt z) xs);
        sorted = λ o. sorted_seen o ys (s.sorted (seen-lawful o));
      }

-- ---- the sort by key text, with the tables inside

module _ (enters : Node → Bool) where
  -- a slot with its own slots sorted
  abbrev pub settled : Slot Node → Slot Node
  settled = on_item (sorted_item enters)

  abbrev pub in_order : List (Slot Node) → List (Slot Node)
  in_order = sorted_by (fits name_lt)

  insert-settled : (s : Slot Node) (es : List (Slot Node)) → insert_by (fits name_lt) (settled s) (map settled es)
      ≡ map settled (insert_by (fits name_lt) s es)
  insert-settled s [] = refl
  insert-settled s (r ∷ es) =
      ap (λ l. if fits name_lt s r then settled s ∷ settled r ∷ map settled es else settled r ∷ l) (insert-settled s es)
      ∙ either (fits name_lt s r)
    where
      either : (b : Bool) → (if b then settled s ∷ settled r ∷ map settled es else settled r ∷ map settled (insert_by (fits name_lt) s es))
          ≡ map settled (if b then s ∷ r ∷ es else r ∷ insert_by (fits name_lt) s es)
      either true = refl
      either false = refl

  pub sorted_slots-map : (ss : Slots) → sorted_slots enters ss ≡ map settled (in_order (slot_list ss))
  sorted_slots-map no_slots = refl
  sorted_slots-map (slot k n ss) =
      ap (insert_by (fits name_lt) (record { key = k; item = sorted_item enters n })) (sorted_slots-map ss)
      ∙ insert-settled (record { key = k; item = n }) (in_order (slot_list ss))
