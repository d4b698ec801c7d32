-- Lists with at most so many elements in a row that pass a test, and none at an end.
use Rattle.std.proofs.Common.{◌≡◌, refl, sym, ap, ◌∙◌, inl, inr, ℕ, zero, suc, Bool, true, false, List, [], ◌∷◌, ◌++◌, Option, Some, None}
use Rattle.std.specs.Prelude.{◌&&◌, if◌then◌else◌, map}
use Rattle.std.specs.List.{AllByRecursion, cons_option, filter_map}
use Rattle.std.proofs.lemmas.Bool.{cases_Bool}
use Rattle.toml_edit_model.specs.Text.{is_empty}
use Rattle.toml_edit_laws.proofs.common.Tests.{and_left, and_right}
use Rattle.toml_edit_fmt_laws.specs.Laying.{squeezed, trimmed, spaced_by}

module _ {A : Type 0} (test : A → Bool) (most : ℕ) where
  -- ---- steps: an element that passes goes where none is left

  pub squeezed-none : (x : A) (xs : List A) → test x ≡ true → squeezed test most 0 (x ∷ xs) ≡ squeezed test most 0 xs
  squeezed-none x xs e = ap (λ b. if b then squeezed test most 0 xs else x ∷ squeezed test most most xs) e

  pub squeezed-pass : (left : ℕ) (x : A) (xs : List A) → test x ≡ true
      → squeezed test most (suc left) (x ∷ xs) ≡ x ∷ squeezed test most left xs
  squeezed-pass left x xs e = ap (λ b. if b then x ∷ squeezed test most left xs else x ∷ squeezed test most most xs) e

  pub squeezed-other : (left : ℕ) (x : A) (xs : List A) → test x ≡ false
      → squeezed test most left (x ∷ xs) ≡ x ∷ squeezed test most most xs
  squeezed-other zero x xs e = ap (λ b. if b then squeezed test most 0 xs else x ∷ squeezed test most most xs) e
  squeezed-other (suc left) x xs e = ap (λ b. if b then x ∷ squeezed test most left xs else x ∷ squeezed test most most xs) e

module _ {A : Type 0} (test : A → Bool) where
  trimmed-step : (x : A) (xs : List A) (b : Bool) → (test x && is_empty (trimmed test xs)) ≡ b
      → trimmed test (x ∷ xs) ≡ (if b then [] else x ∷ trimmed test xs)
  trimmed-step x xs b e = ap (λ b. if b then [] else x ∷ trimmed test xs) e

  -- ---- twice

  pub squeezed-again : (most left : ℕ) (xs : List A) → squeezed test most left (squeezed test most left xs) ≡ squeezed test most left xs
  squeezed-again most left [] = refl
  squeezed-again most left (x ∷ xs) =
      elim (cases_Bool (test x)) [
        | inl e ↦ passes left e (λ n. squeezed-again most n xs)
        | inr e ↦ ap (squeezed test most left) (squeezed-other test most left x xs e)
            ∙ squeezed-other test most left x (squeezed test most most xs) e
            ∙ ap (λ ys. x ∷ ys) (squeezed-again most most xs) ∙ sym (squeezed-other test most left x xs e)
      ]
    where
      passes : (n : ℕ) → test x ≡ true → ((k : ℕ) → squeezed test most k (squeezed test most k xs) ≡ squeezed test most k xs)
          → squeezed test most n (squeezed test most n (x ∷ xs)) ≡ squeezed test most n (x ∷ xs)
      passes zero e ih =
          ap (squeezed test most 0) (squeezed-none test most x xs e) ∙ ih 0
          ∙ sym (squeezed-none test most x xs e)
      passes (suc n) e ih =
          ap (squeezed test most (suc n)) (squeezed-pass test most n x xs e)
          ∙ squeezed-pass test most n x (squeezed test most n xs) e
          ∙ ap (λ ys. x ∷ ys) (ih n) ∙ sym (squeezed-pass test most n x xs e)

  trimmed-again : (xs : List A) → trimmed test (trimmed test xs) ≡ trimmed test xs
  trimmed-again [] = refl
  trimmed-again (x ∷ xs) =
      elim (cases_Bool (test x && is_empty (trimmed test xs))) [
        | inl e ↦ ap (trimmed test) (trimmed-step x xs true e) ∙ sym (trimmed-step x xs true e)
        | inr e ↦
            ap (trimmed test) (trimmed-step x xs false e)
            ∙ trimmed-step x (trimmed test xs) false (ap (λ ys. test x && is_empty ys) (trimmed-again xs) ∙ e)
            ∙ ap (λ ys. x ∷ ys) (trimmed-again xs) ∙ sym (trimmed-step x xs false e)
      ]

  -- what is trimmed has no more in a row
  trimmed-squeezed : (most left : ℕ) (xs : List A)
      → squeezed test most left (trimmed test (squeezed test most left xs)) ≡ trimmed test (squeezed test most left xs)
  trimmed-squeezed most left [] = refl
  trimmed-squeezed most left (x ∷ xs) =
      elim (cases_Bool (test x)) [
        | inl e ↦ passes left e (λ n. trimmed-squeezed most n xs)
        | inr e ↦ ap (λ ys. squeezed test most left (trimmed test ys)) (squeezed-other test most left x xs e)
            ∙ by_end left most (λ zs. squeezed-other test most left x zs e) (trimmed-squeezed most most xs)
            ∙ sym (ap (trimmed test) (squeezed-other test most left x xs e))
      ]
    where
      by_end : (n k : ℕ) → ((zs : List A) → squeezed test most n (x ∷ zs) ≡ x ∷ squeezed test most k zs)
          → squeezed test most k (trimmed test (squeezed test most k xs)) ≡ trimmed test (squeezed test most k xs)
          → squeezed test most n (trimmed test (x ∷ squeezed test most k xs)) ≡ trimmed test (x ∷ squeezed test most k xs)
      by_end n k step ih = by_test (test x && is_empty (trimmed test (squeezed test most k xs)))
        where
          by_test : (b : Bool) → squeezed test most n (if b then [] else x ∷ trimmed test (squeezed test most k xs))
              ≡ (if b then [] else x ∷ trimmed test (squeezed test most k xs))
          by_test true = refl
          by_test false = step (trimmed test (squeezed test most k xs)) ∙ ap (λ ys. x ∷ ys) ih

      passes : (n : ℕ) → test x ≡ true
          → ((k : ℕ) → squeezed test most k (trimmed test (squeezed test most k xs)) ≡ trimmed test (squeezed test most k xs))
          → squeezed test most n (trimmed test (squeezed test most n (x ∷ xs))) ≡ trimmed test (squeezed test most n (x ∷ xs))
      passes zero e ih =
          ap (λ ys. squeezed test most 0 (trimmed test ys)) (squeezed-none test most x xs e) ∙ ih 0
          ∙ sym (ap (trimmed test) (squeezed-none test most x xs e))
      passes (suc n) e ih =
          ap (λ ys. squeezed test most (suc n) (trimmed test ys)) (squeezed-pass test most n x xs e)
          ∙ by_end (suc n) n (λ zs. squeezed-pass test most n x zs e) (ih n)
          ∙ sym (ap (trimmed test) (squeezed-pass test most n x xs e))

  pub spaced-again : (o : Option ℕ) (is_start is_end : Bool) (xs : List A)
      → spaced_by test o is_start is_end (spaced_by test o is_start is_end xs) ≡ spaced_by test o is_start is_end xs
  spaced-again None s e xs = refl
  spaced-again (Some most) s true xs =
      let left = if s then 0 else most in
      ap (trimmed test) (trimmed-squeezed most left xs) ∙ trimmed-again (squeezed test most left xs)
  spaced-again (Some most) s false xs = squeezed-again most (if s then 0 else most) xs

  -- ---- an element at the end that does not pass

  squeezed-end : (most left : ℕ) (xs : List A) (y : A) → test y ≡ false
      → squeezed test most left (xs ++ (y ∷ [])) ≡ squeezed test most left xs ++ (y ∷ [])
  squeezed-end most left [] y h = squeezed-other test most left y [] h
  squeezed-end most left (x ∷ xs) y h =
      elim (cases_Bool (test x)) [
        | inl e ↦ passes left e (λ n. squeezed-end most n xs y h)
        | inr e ↦ squeezed-other test most left x (xs ++ (y ∷ [])) e
            ∙ ap (λ ys. x ∷ ys) (squeezed-end most most xs y h)
            ∙ sym (ap (λ ys. ys ++ (y ∷ [])) (squeezed-other test most left x xs e))
      ]
    where
      passes : (n : ℕ) → test x ≡ true
          → ((k : ℕ) → squeezed test most k (xs ++ (y ∷ [])) ≡ squeezed test most k xs ++ (y ∷ []))
          → squeezed test most n (x ∷ (xs ++ (y ∷ []))) ≡ squeezed test most n (x ∷ xs) ++ (y ∷ [])
      passes zero e ih =
          squeezed-none test most x (xs ++ (y ∷ [])) e ∙ ih 0
          ∙ sym (ap (λ ys. ys ++ (y ∷ [])) (squeezed-none test most x xs e))
      passes (suc n) e ih =
          squeezed-pass test most n x (xs ++ (y ∷ [])) e ∙ ap (λ ys. x ∷ ys) (ih n)
          ∙ sym (ap (λ ys. ys ++ (y ∷ [])) (squeezed-pass test most n x xs e))

  trimmed-end : (xs : List A) (y : A) → test y ≡ false → trimmed test (xs ++ (y ∷ [])) ≡ xs ++ (y ∷ [])
  trimmed-end [] y h = ap (λ b. if b && true then [] else y ∷ []) h
  trimmed-end (x ∷ xs) y h =
      ap (λ ys. if test x && is_empty ys then [] else x ∷ ys) (trimmed-end xs y h)
      ∙ ap (λ b. if test x && b then [] else x ∷ (xs ++ (y ∷ []))) (some xs)
      ∙ ap (λ b. if b then [] else x ∷ (xs ++ (y ∷ []))) (and-false (test x))
    where
      some : (zs : List A) → is_empty (zs ++ (y ∷ [])) ≡ false
      some [] = refl
      some (z ∷ zs) = refl

      and-false : (b : Bool) → (b && false) ≡ false
      and-false true = refl
      and-false false = refl

  pub spaced-end : (o : Option ℕ) (is_start : Bool) (xs : List A) (y : A) → test y ≡ false
      → spaced_by test o is_start true (xs ++ (y ∷ [])) ≡ spaced_by test o is_start false xs ++ (y ∷ [])
  spaced-end None s xs y h = refl
  spaced-end (Some most) s xs y h =
      let left = if s then 0 else most in
      ap (trimmed test) (squeezed-end most left xs y h) ∙ trimmed-end (squeezed test most left xs) y h

  pub spaced-more : (o : Option ℕ) (is_start : Bool) (xs : List A) (y : A) → test y ≡ false
      → spaced_by test o is_start false (xs ++ (y ∷ [])) ≡ spaced_by test o is_start false xs ++ (y ∷ [])
  spaced-more None s xs y h = refl
  spaced-more (Some most) s xs y h = squeezed-end most (if s then 0 else most) xs y h

  -- ---- what holds of each element still does

  all-squeezed : (P : A → Type 0) (most left : ℕ) (xs : List A) → AllByRecursion P xs → AllByRecursion P (squeezed test most left xs)
  all-squeezed P most left [] h = tt
  all-squeezed P most zero (x ∷ xs) h = by_test (test x) (all-squeezed P most 0 xs h.1) (all-squeezed P most most xs h.1)
    where
      by_test : (b : Bool) → AllByRecursion P (squeezed test most 0 xs) → AllByRecursion P (squeezed test most most xs)
          → AllByRecursion P (if b then squeezed test most 0 xs else x ∷ squeezed test most most xs)
      by_test true none more = none
      by_test false none more = (h.0, more)
  all-squeezed P most (suc left) (x ∷ xs) h = by_test (test x) (all-squeezed P most left xs h.1) (all-squeezed P most most xs h.1)
    where
      by_test : (b : Bool) → AllByRecursion P (squeezed test most left xs) → AllByRecursion P (squeezed test most most xs)
          → AllByRecursion P (if b then x ∷ squeezed test most left xs else x ∷ squeezed test most most xs)
      by_test true few more = (h.0, few)
      by_test false few more = (h.0, more)

  all-trimmed : (P : A → Type 0) (xs : List A) → AllByRecursion P xs → AllByRecursion P (trimmed test xs)
  all-trimmed P [] h = tt
  all-trimmed P (x ∷ xs) h = by_test (test x && is_empty (trimmed test xs)) (all-trimmed P xs h.1)
    where
      by_test : (b : Bool) → AllByRecursion P (trimmed test xs) → AllByRecursion P (if b then [] else x ∷ trimmed test xs)
      by_test true ih = tt
      by_test false ih = (h.0, ih)

  pub all-spaced : (P : A → Type 0) (o : Option ℕ) (is_start is_end : Bool) (xs : List A) → AllByRecursion P xs
      → AllByRecursion P (spaced_by test o is_start is_end xs)
  all-spaced P None s e xs h = h
  all-spaced P (Some most) s true xs h =
      all-trimmed P (squeezed test most (if s then 0 else most) xs) (all-squeezed P most (if s then 0 else most) xs h)
  all-spaced P (Some most) s false xs h = all-squeezed P most (if s then 0 else most) xs h

  -- ---- what those that pass do not have is all there

  module _ {B : Type 0} (g : A → Option B) (none : (x : A) → test x ≡ true → g x ≡ None) where
    squeezed-found : (most left : ℕ) (xs : List A) → filter_map g (squeezed test most left xs) ≡ filter_map g xs
    squeezed-found most left [] = refl
    squeezed-found most left (x ∷ xs) =
        elim (cases_Bool (test x)) [
          | inl e ↦ passes left e (λ n. squeezed-found most n xs)
          | inr e ↦ ap (filter_map g) (squeezed-other test most left x xs e) ∙ ap (cons_option (g x)) (squeezed-found most most xs)
        ]
      where
        passes : (n : ℕ) → test x ≡ true → ((k : ℕ) → filter_map g (squeezed test most k xs) ≡ filter_map g xs)
            → filter_map g (squeezed test most n (x ∷ xs)) ≡ cons_option (g x) (filter_map g xs)
        passes zero e ih =
            ap (filter_map g) (squeezed-none test most x xs e) ∙ ih 0
            ∙ sym (ap (λ o. cons_option o (filter_map g xs)) (none x e))
        passes (suc n) e ih =
            ap (filter_map g) (squeezed-pass test most n x xs e) ∙ ap (cons_option (g x)) (ih n)

    trimmed-found : (xs : List A) → filter_map g (trimmed test xs) ≡ filter_map g xs
    trimmed-found [] = refl
    trimmed-found (x ∷ xs) =
        elim (cases_Bool (test x && is_empty (trimmed test xs))) [
          | inl e ↦ ap (filter_map g) (trimmed-step x xs true e)
              ∙ sym (ap (λ o. cons_option o (filter_map g xs)) (none x (and_left (test x) _ e))
              ∙ sym (trimmed-found xs) ∙ ap (filter_map g) (is-nil (trimmed test xs) (and_right (test x) _ e)))
          | inr e ↦ ap (filter_map g) (trimmed-step x xs false e) ∙ ap (cons_option (g x)) (trimmed-found xs)
        ]
      where
        is-nil : (ys : List A) → is_empty ys ≡ true → ys ≡ []
        is-nil [] h = refl
        is-nil (y ∷ ys) h = cc

    pub spaced-found : (o : Option ℕ) (is_start is_end : Bool) (xs : List A)
        → filter_map g (spaced_by test o is_start is_end xs) ≡ filter_map g xs
    spaced-found None s e xs = refl
    spaced-found (Some most) s true xs =
        trimmed-found (squeezed test most (if s then 0 else most) xs) ∙ squeezed-found most (if s then 0 else most) xs
    spaced-found (Some most) s false xs = squeezed-found most (if s then 0 else most) xs

-- ---- through a function

module _ {A B : Type 0} (f : A → B) (on_b : B → Bool) (on_a : A → Bool) (P : A → Type 0)
    (agrees : (x : A) → P x → on_b (f x) ≡ on_a x) where
  squeezed-map : (most left : ℕ) (xs : List A) → AllByRecursion P xs
      → squeezed on_b most left (map f xs) ≡ map f (squeezed on_a most left xs)
  squeezed-map most left [] h = refl
  squeezed-map most zero (x ∷ xs) h =
      ap (λ b. if b then squeezed on_b most 0 (map f xs) else f x ∷ squeezed on_b most most (map f xs)) (agrees x h.0)
      ∙ ap (λ ys. if on_a x then ys else f x ∷ squeezed on_b most most (map f xs)) (squeezed-map most 0 xs h.1)
      ∙ ap (λ ys. if on_a x then map f (squeezed on_a most 0 xs) else f x ∷ ys) (squeezed-map most most xs h.1)
      ∙ by_test (on_a x)
    where
      by_test : (b : Bool) → (if b then map f (squeezed on_a most 0 xs) else f x ∷ map f (squeezed on_a most most xs))
          ≡ map f (if b then squeezed on_a most 0 xs else x ∷ squeezed on_a most most xs)
      by_test true = refl
      by_test false = refl
  squeezed-map most (suc left) (x ∷ xs) h =
      ap (λ b. if b then f x ∷ squeezed on_b most left (map f xs) else f x ∷ squeezed on_b most most (map f xs)) (agrees x h.0)
      ∙ ap (λ ys. if on_a x then f x ∷ ys else f x ∷ squeezed on_b most most (map f xs)) (squeezed-map most left xs h.1)
      ∙ ap (λ ys. if on_a x then f x ∷ map f (squeezed on_a most left xs) else f x ∷ ys) (squeezed-map most most xs h.1)
      ∙ by_test (on_a x)
    where
      by_test : (b : Bool) → (if b then f x ∷ map f (squeezed on_a most left xs) else f x ∷ map f (squeezed on_a most most xs))
          ≡ map f (if b then x ∷ squeezed on_a most left xs else x ∷ squeezed on_a most most xs)
      by_test true = refl
      by_test false = refl

  trimmed-map : (xs : List A) → AllByRecursion P xs → trimmed on_b (map f xs) ≡ map f (trimmed on_a xs)
  trimmed-map [] h = refl
  trimmed-map (x ∷ xs) h =
      let ih = trimmed-map xs h.1 in
      ap (λ b. if b then [] else f x ∷ trimmed on_b (map f xs)) (same ih)
      ∙ by_test (on_a x && is_empty (trimmed on_a xs)) ih
    where
      empty-map : (ys : List A) → is_empty (map f ys) ≡ is_empty ys
      empty-map [] = refl
      empty-map (y ∷ ys) = refl

      same : trimmed on_b (map f xs) ≡ map f (trimmed on_a xs)
          → (on_b (f x) && is_empty (trimmed on_b (map f xs))) ≡ (on_a x && is_empty (trimmed on_a xs))
      same ih =
          ap (λ b. b && is_empty (trimmed on_b (map f xs))) (agrees x h.0)
          ∙ ap (λ ys. on_a x && is_empty ys) ih ∙ ap (λ b. on_a x && b) (empty-map (trimmed on_a xs))

      by_test : (b : Bool) → trimmed on_b (map f xs) ≡ map f (trimmed on_a xs)
          → (if b then [] else f x ∷ trimmed on_b (map f xs)) ≡ map f (if b then [] else x ∷ trimmed on_a xs)
      by_test true ih = refl
      by_test false ih = ap (λ ys. f x ∷ ys) ih

  pub spaced-map : (o : Option ℕ) (is_start is_end : Bool) (xs : List A) → AllByRecursion P xs
      → spaced_by on_b o is_start is_end (map f xs) ≡ map f (spaced_by on_a o is_start is_end xs)
  spaced-map None s e xs h = refl
  spaced-map (Some most) s true xs h =
      let left = if s then 0 else most in
      ap (trimmed on_b) (squeezed-map most left xs h)
      ∙ trimmed-map (squeezed on_a most left xs) (all-squeezed on_a P most left xs h)
  spaced-map (Some most) s false xs h = squeezed-map most (if s then 0 else most) xs h
