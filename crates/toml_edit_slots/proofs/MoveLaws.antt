-- An element moved to another place, and slots of which one was moved.
use Rattle.std.proofs.Common.{◌≡◌, ℕ, zero, suc, ◌+◌, ◌-◌, ◌<◌, ◌≤◌, List, [], ◌∷◌, ◌++◌, Option, Some, None, option_map, length, take}
use Rattle.std.proofs.Common.{drop, insert, remove, slice_get, refl, sym, ap, subst, ◌∙◌, inl, inr, arith, IsPermutation, append_assoc}
use Rattle.std.proofs.lemmas.List.{take-take}
use Rattle.std.proofs.lemmas.List.Sorted.{IsPermutation-insert, IsPermutation-remove, IsPermutation-trans}
use Rattle.std.proofs.lemmas.Option.{slice_get_cases, slice_get_within}
use Rattle.std.specs.Option.{option_map_or}
use Rattle.toml_edit_laws.proofs.slots.Places.{lookup_slot-none, none_at}
use Rattle.toml_edit_model.specs.Rearranging.{inserted_slot, moved_slot}
use Rattle.toml_edit_model.specs.Slots as model
use Rattle.toml_edit_model.specs.Text.{Text}
use Rattle.toml_edit_slots.specs.InPlace.{moved}
use Rattle.toml_edit_slots.specs.Seen.{seen}
use Rattle.toml_edit_slots.specs.Slots.{AreApart, place}
use Rattle.toml_edit_slots.specs.declared.slots.Slot.{Slot}
use Rattle.toml_edit_slots.proofs.SeenLaws.{lookup_slot-seen, one_seen, place-seen, without-at-seen}
use Rattle.toml_edit_slots.proofs.SlotLaws.{lookup_slot-present, place-within}

-- what is put before each of two lists
before : {A X : Type 0} (x : X) (f : A → List X) (o : Option A) (d : List X) → option_map_or (λ y. x ∷ f y) o (x ∷ d) ≡ x
    ∷ option_map_or f o d
before x f None d = refl
before x f (Some y) d = refl

module _ {X : Type 0} where
  moved-next : (x : X) (xs : List X) (i j : ℕ) → moved (suc i) (suc j) (x ∷ xs) ≡ x ∷ moved i j xs
  moved-next x xs i j = before x (λ y. insert (remove xs i) j y) (slice_get xs i) xs

  moved-is : (xs : List X) (i j : ℕ) (x : X) → slice_get xs i ≡ Some x → moved i j xs ≡ insert (remove xs i) j x
  moved-is xs i j x is = ap (λ o. option_map_or (λ y. insert (remove xs i) j y) o xs) is

  -- ---- parts of a list that are turned by one

  -- k elements from i on, of which the first goes last
  turned-left : (xs : List X) (i j n : ℕ) → j ≡ i + n → j < length xs
      → take i xs ++ ((drop 1 (take (suc n) (drop i xs)) ++ take 1 (take (suc n) (drop i xs))) ++ drop (suc n) (drop i xs)) ≡ moved i j xs
  turned-left [] i j n is within = absurd (omega (arith, within))
  turned-left (x ∷ xs) zero j n is within =
      let same : n ≡ j = omega (arith, is) in
      append_assoc (take n xs) (x ∷ []) (drop n xs) ∙ ap (λ m. insert xs m x) same
  turned-left (x ∷ xs) (suc i) zero n is within = absurd (omega (arith, is))
  turned-left (x ∷ xs) (suc i) (suc j) n is within =
      ap (λ l. x ∷ l) (turned-left xs i j n (omega (arith, is)) (omega (arith, within))) ∙ sym (moved-next x xs i j)

  -- the last of the first elements
  last-cut : (xs : List X) (n : ℕ) (x : X) → slice_get xs n ≡ Some x → drop n (take (suc n) xs) ≡ x ∷ []
  last-cut [] n x is = absurd (omega (arith, slice_get_within [] n x is))
  last-cut (y ∷ xs) zero x is = ap (λ o. option_map_or (λ z. z ∷ []) o []) is
  last-cut (y ∷ xs) (suc n) x is = last-cut xs n x is

  -- k elements from j on, of which the last goes first
  turned-right : (xs : List X) (i j n : ℕ) → i ≡ j + n → i < length xs
      → take j xs ++ ((drop n (take (suc n) (drop j xs)) ++ take n (take (suc n) (drop j xs))) ++ drop (suc n) (drop j xs)) ≡ moved i j xs
  turned-right xs i zero n is within =
      let same : n ≡ i = omega (arith, is) in
      elim (slice_get_cases xs n).1 [
        | inl (x, below, here, own) ↦
            ap (λ l. (l ++ take n (take (suc n) xs)) ++ drop (suc n) xs) (last-cut xs n x here)
            ∙ ap (λ l. x ∷ (l ++ drop (suc n) xs)) (take-take n (suc n) xs (omega arith))
            ∙ sym (moved-is xs n 0 x here) ∙ ap (λ m. moved m 0 xs) same
        | inr (past, none) ↦ absurd (omega (arith, past, same, within))
      ]
  turned-right [] i (suc j) n is within = absurd (omega (arith, within))
  turned-right (x ∷ xs) zero (suc j) n is within = absurd (omega (arith, is))
  turned-right (x ∷ xs) (suc i) (suc j) n is within =
      ap (λ l. x ∷ l) (turned-right xs i j n (omega (arith, is)) (omega (arith, within))) ∙ sym (moved-next x xs i j)

  -- the same, as the calls' clauses have it
  pub moved-left : (xs : List X) (i j k : ℕ) (ys : List X) → i < j → j < length xs → k ≡ j + 1 - i
      → ys ≡ drop 1 (take k (drop i xs)) ++ take 1 (take k (drop i xs)) → take i xs ++ (ys ++ drop k (drop i xs)) ≡ moved i j xs
  moved-left xs i j k ys less within long is =
      let one : k ≡ suc (j - i) = omega (arith, less, long) in
      ap (λ l. take i xs ++ (l ++ drop k (drop i xs))) is
      ∙ ap (λ m. take i xs ++ ((drop 1 (take m (drop i xs)) ++ take 1 (take m (drop i xs))) ++ drop m (drop i xs))) one
      ∙ turned-left xs i j (j - i) (omega (arith, less)) within

  pub moved-right : (xs : List X) (i j k l : ℕ) (ys : List X) → j ≤ i → i < length xs → k ≡ i + 1 - j → l ≡ i - j
      → ys ≡ drop l (take k (drop j xs)) ++ take l (take k (drop j xs)) → take j xs ++ (ys ++ drop k (drop j xs)) ≡ moved i j xs
  moved-right xs i j k l ys more within long last is =
      let one : k ≡ suc (i - j) = omega (arith, more, long) in
      ap (λ z. take j xs ++ (z ++ drop k (drop j xs))) is
      ∙ ap (λ m. take j xs ++ ((drop l (take m (drop j xs)) ++ take l (take m (drop j xs))) ++ drop m (drop j xs))) one
      ∙ ap (λ m. take j xs ++ ((drop m (take (suc (i - j)) (drop j xs)) ++ take m (take (suc (i - j)) (drop j xs)))
      ++ drop (suc (i - j)) (drop j xs))) last
      ∙ turned-right xs i j (i - j) (omega (arith, more)) within

  -- ---- what is moved

  pub moved-permutes : (xs : List X) (i j : ℕ) → i < length xs → IsPermutation xs (moved i j xs)
  moved-permutes xs i j within =
      elim (slice_get_cases xs i).1 [
        | inl (x, below, here, own) ↦
            subst (IsPermutation xs) (sym (moved-is xs i j x here))
            (IsPermutation-trans xs (x ∷ remove xs i) (insert (remove xs i) j x) (IsPermutation-remove xs i x below (sym own))
            (IsPermutation-insert (remove xs i) j x))
        | inr (past, none) ↦ absurd (omega (arith, past, within))
      ]

  -- to its own place
  pub moved-same : (xs : List X) (i : ℕ) → i < length xs → moved i i xs ≡ xs
  moved-same [] i within = absurd (omega (arith, within))
  moved-same (x ∷ xs) zero within = refl
  moved-same (x ∷ xs) (suc i) within = moved-next x xs i i ∙ ap (λ l. x ∷ l) (moved-same xs i (omega (arith, within)))

  get-end : (xs : List X) (x : X) → slice_get (xs ++ x ∷ []) (length xs) ≡ Some x
  get-end [] x = refl
  get-end (y ∷ xs) x = get-end xs x

  remove-end : (xs : List X) (x : X) → remove (xs ++ x ∷ []) (length xs) ≡ xs
  remove-end [] x = refl
  remove-end (y ∷ xs) x = ap (λ l. y ∷ l) (remove-end xs x)

  -- an element that was pushed
  pub moved-end : (xs : List X) (j : ℕ) (x : X) → moved (length xs) j (xs ++ x ∷ []) ≡ insert xs j x
  moved-end xs j x = moved-is (xs ++ x ∷ []) (length xs) j x (get-end xs x) ∙ ap (λ l. insert l j x) (remove-end xs x)

-- ---- as slots are seen
module _ {T : Type 0} where
  pub insert-seen : (es : List (Slot T)) (j : ℕ) (s : Slot T) → seen (insert es j s) ≡ inserted_slot j (one_seen s) (seen es)
  insert-seen [] zero s = refl
  insert-seen [] (suc j) s = refl
  insert-seen (e ∷ es) zero s = refl
  insert-seen (e ∷ es) (suc j) s = ap (λ l. one_seen e ∷ l) (insert-seen es j s)

  pub moved-seen : (t : Text) (es : List (Slot T)) (i j : ℕ) → AreApart es → place t es ≡ Some i → seen (moved i j es)
      ≡ moved_slot t j (seen es)
  moved-seen t es i j apart at =
      elim (slice_get_cases es i).1 [
        | inl (s, below, here, own) ↦
            let found : model.lookup_slot t (seen es) ≡ Some (one_seen s) =
            lookup_slot-seen t es ∙ ap (option_map one_seen) (lookup_slot-present t es i s at ∙ ap Some own) in
            ap seen (moved-is es i j s here) ∙ insert-seen (remove es i) j s
            ∙ ap (inserted_slot j (one_seen s)) (without-at-seen t es i s apart at)
            ∙ sym (ap (λ o. option_map_or (λ x. inserted_slot j x (model.without t (seen es))) o (seen es)) found)
        | inr (past, none) ↦ absurd (omega (arith, past, place-within t es i at))
      ]

  pub moved-none-seen : (t : Text) (es : List (Slot T)) (j : ℕ) → place t es ≡ None → seen es ≡ moved_slot t j (seen es)
  moved-none-seen t es j none =
      sym (ap (λ o. option_map_or (λ x. inserted_slot j x (model.without t (seen es))) o (seen es))
      (lookup_slot-none t (seen es) (none_at t (seen es) (place-seen t es ∙ none))))
