-- Lists sorted by a number: what a test keeps of them, and that a list in order is told by what each number keeps.
use Rattle.std.proofs.Common.{◌≡◌, ◌≤◌, refl, sym, ◌∙◌, ap, ℕ, suc, arith, Bool, true, false, List, [], ◌∷◌, ◌++◌, inl, inr}
use Rattle.std.specs.Prelude.{◌<◌, nat_le, filter, flat_map, ◌==◌, if◌then◌else◌}
use Rattle.std.specs.List.{AllByRecursion}
use Rattle.std.proofs.lemmas.Bool.{cases_Bool, leb-true, leb-false, eq-eqb, ne_eqb, cases_lt}
use Rattle.toml_edit_laws.proofs.common.Tests.{true-false}
use Rattle.toml_edit_laws.proofs.common.Each.{all-insert, all-filter, all-map}
use Rattle.toml_edit_model.specs.Order.{insert_by, sorted_by}

abbrev pub by_key : {A : Type 0} → (A → ℕ) → A → A → Bool
by_key key a b = nat_le (key a) (key b)

-- no later element has a lesser number
abbrev pub IsAscending : {A : Type 0} → (A → ℕ) → List A → Type 0
IsAscending key [] = Unit {0}
IsAscending key (x ∷ xs) = AllByRecursion (λ y. key x ≤ key y) xs × IsAscending key xs

insert-ascending : {A : Type 0} (key : A → ℕ) (a : A) (xs : List A) → IsAscending key xs → IsAscending key (insert_by (by_key key) a xs)
insert-ascending key a [] h = (tt, tt)
insert-ascending key a (x ∷ xs) h =
    elim (cases_Bool (by_key key a x)) [
      | inl e ↦
          let less : key a ≤ key x = leb-true (key a) (key x) e in
          rw e ((less, all-map (λ y. key x ≤ key y) (λ y. key a ≤ key y) xs (λ y g. let more : key x ≤ key y = g in omega arith) h.0), h)
      | inr e ↦
          let more : key x ≤ key a = (let above : key x < key a = leb-false (key a) (key x) e in omega arith) in
          rw e (all-insert (λ y. key x ≤ key y) (by_key key) a xs more h.0, insert-ascending key a xs h.1)
    ]

pub sorted-ascending : {A : Type 0} (key : A → ℕ) (xs : List A) → IsAscending key (sorted_by (by_key key) xs)
sorted-ascending key [] = tt
sorted-ascending key (x ∷ xs) = insert-ascending key x (sorted_by (by_key key) xs) (sorted-ascending key xs)

pub filter-ascending : {A : Type 0} (key : A → ℕ) (test : A → Bool) (xs : List A) → IsAscending key xs → IsAscending key (filter test xs)
filter-ascending key test [] h = tt
filter-ascending key test (x ∷ xs) h =
    elim (cases_Bool (test x)) [
      | inl e ↦ rw e (all-filter (λ y. key x ≤ key y) test xs h.0, filter-ascending key test xs h.1)
      | inr e ↦ rw e (filter-ascending key test xs h.1)
    ]

-- ---- what a test keeps

-- those that pass all stand before one another
abbrev pub AreTied : {A : Type 0} → (A → A → Bool) → (A → Bool) → Type 0
AreTied {A} before test = (a b : A) → test a ≡ true → test b ≡ true → before a b ≡ true

insert-kept : {A : Type 0} (before : A → A → Bool) (test : A → Bool) → AreTied before test
    → (a : A) (xs : List A) → filter test (insert_by before a xs) ≡ filter test (a ∷ xs)
insert-kept before test tied a [] = refl
insert-kept {A = A} before test tied a (b ∷ xs) = by_tests (before a b) (test a) (test b) refl refl refl (insert-kept before test tied a xs)
  where
    by_tests : (x y z : Bool) → before a b ≡ x → test a ≡ y → test b ≡ z
        → filter test (insert_by before a xs) ≡ (if y then a ∷ filter test xs else filter test xs)
        → filter test (if x then a ∷ b ∷ xs else b ∷ insert_by before a xs)
        ≡ (if y then a ∷ (if z then b ∷ filter test xs else filter test xs) else (if z then b ∷ filter test xs else filter test xs))
    by_tests true y z e f g ih = rw (f, g) refl
    by_tests false true true e f g ih = true-false (before a b) (tied a b f g) e
    by_tests false true false e f g ih = rw g ih
    by_tests false false z e f g ih = rw g (ap (λ ys. if z then b ∷ ys else ys) ih)

pub sorted-kept : {A : Type 0} (before : A → A → Bool) (test : A → Bool) → AreTied before test → (xs : List A)
    → filter test (sorted_by before xs) ≡ filter test xs
sorted-kept before test tied [] = refl
sorted-kept before test tied (x ∷ xs) =
    insert-kept before test tied x (sorted_by before xs)
    ∙ ap (λ ys. if test x then x ∷ ys else ys) (sorted-kept before test tied xs)

-- ---- lists in order

none-less : {A : Type 0} (key : A → ℕ) (n : ℕ) (xs : List A) → AllByRecursion (λ y. suc n ≤ key y) xs → filter (λ y. key y == n) xs ≡ []
none-less key n [] h = refl
none-less key n (x ∷ xs) h =
    let apart : (key x == n) ≡ false =
    (let less : suc n ≤ key x = h.0 in ne_eqb (key x) n (λ e. let same : key x ≡ n = e in absurd (omega arith))) in
    rw apart (none-less key n xs h.1)

-- where no element has the number of another list's first
first-clash : {A : Type 0} (key : A → ℕ) (x : A) (xs ys : List A) → AllByRecursion (λ y. suc (key x) ≤ key y) ys
    → filter (λ y. key y == key x) (x ∷ xs) ≡ filter (λ y. key y == key x) ys → ⊥
first-clash key x xs ys h e =
    let one : (key x == key x) ≡ true = eq-eqb (key x) (key x) refl in
    let f : x ∷ filter (λ z. key z == key x) xs ≡ [] = sym (rw one refl) ∙ e ∙ none-less key (key x) ys h in cc

rest-same : {A : Type 0} (b : Bool) (x y : A) (us vs : List A) → x ≡ y → (if b then x ∷ us else us) ≡ (if b then y ∷ vs else vs) → us ≡ vs
rest-same true x y us vs e h = cc
rest-same false x y us vs e h = h

-- Two lists in order are one where each number keeps the same of both.
pub ascending-same : {A : Type 0} (key : A → ℕ) (xs ys : List A) → IsAscending key xs → IsAscending key ys
    → ((n : ℕ) → filter (λ y. key y == n) xs ≡ filter (λ y. key y == n) ys) → xs ≡ ys
ascending-same key [] [] h g same = refl
ascending-same key [] (y ∷ ys) h g same = absurd (first-clash key y ys [] tt (sym (same (key y))))
ascending-same key (x ∷ xs) [] h g same = absurd (first-clash key x xs [] tt (same (key x)))
ascending-same {A = A} key (x ∷ xs) (y ∷ ys) h g same =
    elim (cases_lt (key x) (key y)) [
      | inl less ↦
          absurd
          (first-clash key x xs (y ∷ ys) (
            less,
            all-map (λ z. key y ≤ key z) (λ z. suc (key x) ≤ key z) ys (λ z e. let more : key y ≤ key z = e in omega arith) g.0,
          ) (same (key x)))
      | inr more ↦
          elim (cases_lt (key y) (key x)) [
            | inl less ↦
                absurd
                (first-clash key y ys (x ∷ xs) (
                  less,
                  all-map (λ z. key x ≤ key z) (λ z. suc (key y) ≤ key z) xs (λ z e. let above : key x ≤ key z = e in omega arith) h.0,
                ) (sym (same (key y))))
            | inr above ↦
                let e : key x ≡ key y = omega arith in
                let first : x ≡ y = first_of e in
                let rest : xs ≡ ys =
                ascending-same key xs ys h.1 g.1 (λ n.
                rest-same (key x == n) x y (filter (λ z. key z == n) xs) (filter (λ z. key z == n) ys) first
                (same n ∙ ap (λ m. if m == n then y ∷ filter (λ z. key z == n) ys else filter (λ z. key z == n) ys) (sym e))) in
                cc
          ]
    ]
  where
    first_of : key x ≡ key y → x ≡ y
    first_of e =
        let own : (key x == key x) ≡ true = eq-eqb (key x) (key x) refl in
        let other : (key y == key x) ≡ true = eq-eqb (key y) (key x) (sym e) in
        let heads : x ∷ filter (λ z. key z == key x) xs ≡ y ∷ filter (λ z. key z == key x) ys = sym (rw own refl) ∙ same (key x)
        ∙ rw other refl in
        cc

-- ---- what makes nothing may be left out

pub flat_map-kept : {A B : Type 0} (f : A → List B) (test : A → Bool) (xs : List A) → AllByRecursion (λ x. test x ≡ false → f x ≡ []) xs
    → flat_map f xs ≡ flat_map f (filter test xs)
flat_map-kept f test [] h = refl
flat_map-kept f test (x ∷ xs) h =
    elim (cases_Bool (test x)) [
      | inl e ↦ rw e (ap (λ ys. f x ++ ys) (flat_map-kept f test xs h.1))
      | inr e ↦ rw (e, h.0 e) (flat_map-kept f test xs h.1)
    ]
