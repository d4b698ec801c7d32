-- A list that a loop changes in place, one place after another.
use Rattle.std.proofs.Common.{◌≡◌, ℕ, ◌+◌, ◌<◌, ◌≤◌, List, [], ◌∷◌, ◌++◌, length, map, get_or, set, refl, sym, ap, ◌∙◌, arith}
use Rattle.std.proofs.lemmas.List.{map-append, map-id}

-- the items before the place have been changed, and the others are as they were at first
pub record Done {X Y : Type 0} (f : X → Y) (g : Y → Y) (items first : List X) (at : ℕ) : Type 0 where
  pub done : List X
  pub was : List X
  pub rest : List X
  pub items_are : items ≡ done ++ rest
  pub first_were : first ≡ was ++ rest
  pub done_long : length done ≡ at
  pub was_long : length was ≡ at
  pub changed : map f done ≡ map g (map f was)

module _ {X Y : Type 0} (f : X → Y) (g : Y → Y) where
  pub none_done : (items : List X) → Done f g items items 0
  none_done items =
      record { done = []; was = []; rest = items; items_are = refl; first_were = refl; done_long = refl; was_long = refl; changed = refl }

  append-nil : (xs : List X) → xs ++ [] ≡ xs
  append-nil [] = refl
  append-nil (x ∷ xs) = ap (λ l. x ∷ l) (append-nil xs)

  set-middle : (done rest : List X) (x y : X) → set (done ++ x ∷ rest) (length done) y ≡ (done ++ y ∷ []) ++ rest
  set-middle [] rest x y = refl
  set-middle (w ∷ done) rest x y = ap (λ l. w ∷ l) (set-middle done rest x y)

  get-middle : (done rest : List X) (x d : X) → get_or (done ++ x ∷ rest) (length done) d ≡ x
  get-middle [] rest x d = refl
  get-middle (w ∷ done) rest x d = get-middle done rest x d

  length-more : (done : List X) (x : X) → length (done ++ x ∷ []) ≡ length done + 1
  length-more [] x = refl
  length-more (w ∷ done) x = omega (arith, length-more done x)

  map-more : (done : List X) (x : X) → map f (done ++ x ∷ []) ≡ map f done ++ f x ∷ []
  map-more [] x = refl
  map-more (w ∷ done) x = ap (λ l. f w ∷ l) (map-more done x)

  map-more-g : (ys : List Y) (y : Y) → map g (ys ++ y ∷ []) ≡ map g ys ++ g y ∷ []
  map-more-g [] y = refl
  map-more-g (w ∷ ys) y = ap (λ l. g w ∷ l) (map-more-g ys y)

  short : (done : List X) → length (done ++ []) ≡ length done
  short done = ap length (append-nil done)

  regroup : (was rest : List X) (x : X) → was ++ x ∷ rest ≡ (was ++ x ∷ []) ++ rest
  regroup [] rest x = refl
  regroup (w ∷ was) rest x = ap (λ l. w ∷ l) (regroup was rest x)

  long : (done rest : List X) → length (done ++ rest) ≡ length done + length rest
  long [] rest = omega arith
  long (x ∷ done) rest = omega (arith, long done rest)

  step_at : (done was rest : List X) (at : ℕ) → length done ≡ at → length was ≡ at → map f done ≡ map g (map f was)
      → at < length (done ++ rest)
      → (d y : X) → f y ≡ g (f (get_or (done ++ rest) at d)) → Done f g (set (done ++ rest) at y) (was ++ rest) (at + 1)
  step_at done was [] at n m v h d y e = absurd (omega (arith, n, short done))
  step_at done was (x ∷ rest) at n m v h d y e =
      record {
        done = done ++ y ∷ [];
        was = was ++ x ∷ [];
        rest = rest;
        items_are = rw (← n) (set-middle done rest x y);
        first_were = regroup was rest x;
        done_long = rw (length-more done y, n) refl;
        was_long = rw (length-more was x, m) refl;
        changed = rw (map-more done y, map-more was x, map-more-g (map f was) (f x), v, e, ← n, get-middle done rest x d) refl;
      }

  -- the item at the place is changed
  pub step : (items first : List X) (at : ℕ) → Done f g items first at → at < length items → (d y : X) → f y ≡ g (f (get_or items at d))
      → Done f g (set items at y) first (at + 1)
  step items first at h l d y e =
      rw (h.items_are, h.first_were)
      (step_at h.done h.was h.rest at h.done_long h.was_long h.changed (rw h.items_are at l) d y (rw h.items_are at e))

  same_at : (done was rest : List X) (at : ℕ) → length done ≡ at → length was ≡ at → at < length (done ++ rest) → (d : X)
      → get_or (done ++ rest) at d ≡ get_or (was ++ rest) at d
  same_at done was [] at n m h d = absurd (omega (arith, n, short done))
  same_at done was (x ∷ rest) at n m h d = rw (← n) (get-middle done rest x d ∙ sym (rw (n, ← m) (get-middle was rest x d)))

  -- an item that is still to come is as it was
  pub same : (items first : List X) (at : ℕ) → Done f g items first at → at < length items → (d : X) → get_or items at d ≡ get_or first at d
  same items first at h l d =
      rw (h.items_are, h.first_were) (same_at h.done h.was h.rest at h.done_long h.was_long (rw h.items_are at l) d)

  -- there are as many as at first
  pub long_as : (items first : List X) (at : ℕ) → Done f g items first at → length items ≡ length first
  long_as items first at h =
      rw (h.items_are, h.first_were, long h.done h.rest, long h.was h.rest, h.done_long, h.was_long) refl

  finish_at : (done was rest : List X) (at : ℕ) → length done ≡ at → map f done ≡ map g (map f was) → length (done ++ rest) ≤ at
      → map f (done ++ rest) ≡ map g (map f (was ++ rest))
  finish_at done was [] at n v h = rw (append-nil done, append-nil was) v
  finish_at done was (x ∷ rest) at n v h = absurd (omega (arith, n, long done (x ∷ rest)))

  -- past the last place all are changed
  pub finish : (items first : List X) (at : ℕ) → Done f g items first at → length items ≤ at → map f items ≡ map g (map f first)
  finish items first at h l =
      rw (h.items_are, h.first_were) (finish_at h.done h.was h.rest at h.done_long h.changed (rw h.items_are at l))

-- where no change is seen
pub unchanged : {X Y : Type 0} (f : X → Y) (items first : List X) (at : ℕ) → Done f (λ y. y) items first at → map f items ≡ map f first
unchanged f items first at h =
    rw (h.items_are, h.first_were, map-append f h.done h.rest, map-append f h.was h.rest, h.changed, map-id (map f h.was)) refl
