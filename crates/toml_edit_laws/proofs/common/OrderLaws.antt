-- Lists put in an order by insertion, and which of two tests passes first.
use Rattle.std.proofs.Common.{◌≡◌, refl, sym, ◌∙◌, ap, ℕ, ◌+◌, arith, Bool, true, false, List, [], ◌∷◌, ◌++◌, inl, inr, ℤ, subst}
use Rattle.std.specs.Prelude.{◌&&◌, not, nat_lt, filter, map, if◌then◌else◌, int_le}
use Rattle.std.specs.List.{AllByRecursion, position_or_len}
use Rattle.std.proofs.lemmas.Bool.{lt-ltb, le-ltb, cases_Bool, cases_lt, not-true}
use Rattle.toml_edit_laws.proofs.common.Each.{all-insert, all_pass, all-map}
use Rattle.std.proofs.lemmas.Int.{ints}
use Rattle.toml_edit_laws.proofs.common.Tests.{true-false}
use Rattle.toml_edit_laws.proofs.common.Members.{Among, all-among}
use Rattle.toml_edit_laws.proofs.common.Pairs.{AllPairs}
use Rattle.toml_edit_model.specs.Order.{insert_by, sorted_by}

-- ---- what holds of each element

pub all-sorted : {A : Type 0} (P : A → Type 0) (before : A → A → Bool) (xs : List A) → AllByRecursion P xs
    → AllByRecursion P (sorted_by before xs)
all-sorted P before [] h = tt
all-sorted P before (x ∷ xs) h = all-insert P before x (sorted_by before xs) h.0 (all-sorted P before xs h.1)

-- ---- filtered lists

pub none-left : {A : Type 0} (test : A → Bool) (xs : List A) → AllByRecursion (λ x. test x ≡ false) xs → filter test xs ≡ []
none-left test [] h = refl
none-left test (x ∷ xs) h = rw h.0 (none-left test xs h.1)

pub filter-twice : {A : Type 0} (P : A → Type 0) (first second both : A → Bool) → ((x : A) → P x → (first x && second x) ≡ both x)
    → (xs : List A) → AllByRecursion P xs → filter second (filter first xs) ≡ filter both xs
filter-twice P first second both same [] h = refl
filter-twice P first second both same (x ∷ xs) h =
    elim (cases_Bool (first x)) [
      | inl e ↦
          let is : both x ≡ second x = sym (same x h.0) ∙ ap (λ b. b && second x) e in
          rw (e, is) (ap (λ ys. if second x then x ∷ ys else ys) (filter-twice P first second both same xs h.1))
      | inr e ↦
          let is : both x ≡ false = sym (same x h.0) ∙ ap (λ b. b && second x) e in
          rw (e, is) (filter-twice P first second both same xs h.1)
    ]

-- ---- lists in an order

-- orders that agree on the elements sort alike
insert-alike : {A : Type 0} (P : A → Type 0) (first second : A → A → Bool) → ((a b : A) → P a → P b → first a b ≡ second a b)
    → (a : A) (xs : List A) → P a → AllByRecursion P xs → insert_by first a xs ≡ insert_by second a xs
insert-alike P first second same a [] p h = refl
insert-alike P first second same a (x ∷ xs) p h =
    rw (same a x p h.0) (ap (λ ys. if second a x then a ∷ x ∷ xs else x ∷ ys) (insert-alike P first second same a xs p h.1))

pub sorted-alike : {A : Type 0} (P : A → Type 0) (first second : A → A → Bool) → ((a b : A) → P a → P b → first a b ≡ second a b)
    → (xs : List A) → AllByRecursion P xs → sorted_by first xs ≡ sorted_by second xs
sorted-alike P first second same [] h = refl
sorted-alike P first second same (x ∷ xs) h =
    insert-alike P first second same x (sorted_by first xs) h.0 (all-sorted P first xs h.1)
    ∙ ap (insert_by second x) (sorted-alike P first second same xs h.1)

-- elements that are images of others are sorted as these are
insert-image : {A B : Type 0} (f : A → B) (before : B → B → Bool) (a : A) (xs : List A)
    → insert_by before (f a) (map f xs) ≡ map f (insert_by (λ x y. before (f x) (f y)) a xs)
insert-image f before a [] = refl
insert-image f before a (x ∷ xs) =
    elim (cases_Bool (before (f a) (f x))) [
      | inl e ↦ rw e refl
      | inr e ↦ rw e (ap (λ ys. f x ∷ ys) (insert-image f before a xs))
    ]

pub sorted-image : {A B : Type 0} (f : A → B) (before : B → B → Bool) (xs : List A)
    → sorted_by before (map f xs) ≡ map f (sorted_by (λ x y. before (f x) (f y)) xs)
sorted-image f before [] = refl
sorted-image f before (x ∷ xs) =
    ap (insert_by before (f x)) (sorted-image f before xs) ∙ insert-image f before x (sorted_by (λ x y. before (f x) (f y)) xs)

-- what goes before a whole list goes into the list in front of it, and what goes before none of it into the list behind it
insert-front : {A : Type 0} (before : A → A → Bool) (a : A) (xs ys : List A) → AllByRecursion (λ y. before a y ≡ true) ys
    → insert_by before a (xs ++ ys) ≡ insert_by before a xs ++ ys
insert-front before a [] [] h = refl
insert-front before a [] (y ∷ ys) h = rw h.0 refl
insert-front before a (x ∷ xs) ys h =
    elim (cases_Bool (before a x)) [
      | inl e ↦ rw e refl
      | inr e ↦ rw e (ap (λ zs. x ∷ zs) (insert-front before a xs ys h))
    ]

insert-behind : {A : Type 0} (before : A → A → Bool) (a : A) (xs ys : List A) → AllByRecursion (λ x. before a x ≡ false) xs
    → insert_by before a (xs ++ ys) ≡ xs ++ insert_by before a ys
insert-behind before a [] ys h = refl
insert-behind before a (x ∷ xs) ys h = rw h.0 (ap (λ zs. x ∷ zs) (insert-behind before a xs ys h.1))

-- A list whose passing elements stand before the others is sorted part by part.
pub sorted-parts : {A : Type 0} (P : A → Type 0) (test : A → Bool) (before : A → A → Bool)
    → ((a b : A) → P a → P b → test a ≡ true → test b ≡ false → (before a b ≡ true) × (before b a ≡ false))
    → (xs : List A) → AllByRecursion P xs
    → sorted_by before xs ≡ sorted_by before (filter test xs) ++ sorted_by before (filter (λ x. not (test x)) xs)
sorted-parts P test before apart [] h = refl
sorted-parts P test before apart (x ∷ xs) h =
    elim (cases_Bool (test x)) [
      | inl e ↦ ap (insert_by before x) (sorted-parts P test before apart xs h.1)
          ∙ insert-front before x (sorted_by before (filter test xs)) (sorted_by before (filter (λ y. not (test y)) xs))
          (all-map (λ y. P y × (not (test y) ≡ true)) (λ y. before x y ≡ true) (sorted_by before (filter (λ y. not (test y)) xs))
          (λ y p. (apart x y h.0 p.0 e (not-true (test y) p.1)).0)
          (all-sorted (λ y. P y × (not (test y) ≡ true)) before (filter (λ y. not (test y)) xs) (all_pass P (λ y. not (test y)) xs h.1)))
          ∙ rw e refl
      | inr e ↦ ap (insert_by before x) (sorted-parts P test before apart xs h.1)
          ∙ insert-behind before x (sorted_by before (filter test xs)) (sorted_by before (filter (λ y. not (test y)) xs))
          (all-map (λ y. P y × (test y ≡ true)) (λ y. before x y ≡ false) (sorted_by before (filter test xs))
          (λ y p. (apart y x p.0 h.0 p.1 e).1)
          (all-sorted (λ y. P y × (test y ≡ true)) before (filter test xs) (all_pass P test xs h.1)))
          ∙ rw e refl
    ]

-- ---- which test passes first

-- the first test passes at an earlier element than the second
abbrev pub passes_first : {A : Type 0} → (A → Bool) → (A → Bool) → List A → Bool
passes_first test other [] = false
passes_first test other (x ∷ xs) = if other x then false else (if test x then true else passes_first test other xs)

pub place-first : {A : Type 0} (test other : A → Bool) (xs : List A) → nat_lt (position_or_len test xs) (position_or_len other xs)
    ≡ passes_first test other xs
place-first test other [] = refl
place-first test other (x ∷ xs) =
    by_test (test x) (other x) (position_or_len test xs) (position_or_len other xs) (passes_first test other xs) (place-first test other xs)
  where
    by_test : (b c : Bool) (m n : ℕ) (d : Bool) → nat_lt m n ≡ d
        → nat_lt (if not b then 1 + m else 0) (if not c then 1 + n else 0) ≡ (if c then false else (if b then true else d))
    by_test true true m n d h = refl
    by_test false true m n d h = le-ltb (1 + m) 0 (omega arith)
    by_test true false m n d h = lt-ltb 0 (1 + n) (omega arith)
    by_test false false m n d h =
        elim (cases_lt m n) [
          | inl p ↦ lt-ltb (1 + m) (1 + n) (omega arith) ∙ sym (lt-ltb m n p) ∙ h
          | inr p ↦ le-ltb (1 + m) (1 + n) (omega arith) ∙ sym (le-ltb m n p) ∙ h
        ]

pub first-map : {A B : Type 0} (f : A → B) (test other : B → Bool) (xs : List A)
    → passes_first test other (map f xs) ≡ passes_first (λ x. test (f x)) (λ x. other (f x)) xs
first-map f test other [] = refl
first-map f test other (x ∷ xs) = ap (λ b. if other (f x) then false else (if test (f x) then true else b)) (first-map f test other xs)

-- tests that fail outside a part of the list
pub first-filter : {A : Type 0} (part test other : A → Bool) (xs : List A)
    → passes_first (λ x. part x && test x) (λ x. part x && other x) xs ≡ passes_first test other (filter part xs)
first-filter part test other [] = refl
first-filter part test other (x ∷ xs) =
    elim (cases_Bool (part x)) [
      | inl e ↦ rw e (ap (λ b. if other x then false else (if test x then true else b)) (first-filter part test other xs))
      | inr e ↦ rw e (first-filter part test other xs)
    ]

-- tests that agree on the elements
pub first-alike : {A : Type 0} (P : A → Type 0) (test other test2 other2 : A → Bool)
    → ((x : A) → P x → (test x ≡ test2 x) × (other x ≡ other2 x))
    → (xs : List A) → AllByRecursion P xs → passes_first test other xs ≡ passes_first test2 other2 xs
first-alike P test other test2 other2 same [] h = refl
first-alike P test other test2 other2 same (x ∷ xs) h =
    rw (same x h.0).0 (rw (same x h.0).1 (ap (λ b. if other2 x then false
    else (if test2 x then true else b)) (first-alike P test other test2 other2 same xs h.1)))

pub int_le-total : (a b : ℤ) → int_le a b ≡ false → int_le b a ≡ true
int_le-total a b h = grind (arith, ints)

pub int_le-trans : (a b c : ℤ) → int_le a b ≡ true → int_le b c ≡ true → int_le a c ≡ true
int_le-trans a b c h g = grind (arith, ints)

pub and-clash : (a b : Bool) → (a && b) ≡ false → a ≡ true → b ≡ true → ⊥
and-clash true true h p q = cc
and-clash true false h p q = cc
and-clash false b h p q = cc

-- where no element passes both, and some passes the second, the second passes first unless the first does
pub passes-back : {A : Type 0} (test other : A → Bool) (xs : List A) (y : A) → AllByRecursion (λ x. (test x && other x) ≡ false) xs
    → Among y xs → other y ≡ true
    → passes_first test other xs ≡ false → passes_first other test xs ≡ true
passes-back test other [] y h m e f = elim m [ ]
passes-back test other (x ∷ xs) y h m e f =
    elim (cases_Bool (test x)) [
      | inl p ↦
          elim (cases_Bool (other x)) [
            | inl q ↦ absurd (and-clash (test x) (other x) h.0 p q)
            | inr q ↦ (let g : true ≡ false = rw (q, p) at f in absurd cc)
          ]
      | inr p ↦
          elim (cases_Bool (other x)) [
            | inl q ↦ rw (p, q) refl
            | inr q ↦
                let g : passes_first test other xs ≡ false = rw (q, p) at f in
                rw (p, q)
                (elim m [
                  | inl is ↦ true-false (other x) (ap other (sym is) ∙ e) q
                  | inr n ↦ passes-back test other xs y h.1 n e g
                ])
          ]
    ]

-- the first element of a kind, and where those of another stand
pub first-of : {A : Type 0} (test other : A → Bool) (R : A → A → Type 0) (xs : List A) → passes_first test other xs ≡ true → AllPairs R xs
    → (u : A) × Among u xs × (test u ≡ true) × AllByRecursion (λ w. other w ≡ true → R u w) xs
first-of test other R [] h g = absurd cc
first-of test other R (x ∷ xs) h g =
    elim (cases_Bool (other x)) [
      | inl q ↦ (let f : false ≡ true = rw q at h in absurd cc)
      | inr q ↦
          elim (cases_Bool (test x)) [
            | inl p ↦ (x, inl refl, p, ((λ e. true-false (other x) e q), all-map (R x) (λ w. other w ≡ true → R x w) xs (λ w r e. r) g.0))
            | inr p ↦
                let f : passes_first test other xs ≡ true = rw (q, p) at h in
                let rest = first-of test other R xs f g.1 in
                (rest.0, inr rest.1, rest.2, ((λ e. true-false (other x) e q), rest.3))
          ]
    ]

-- an element of a kind that goes before all of another kind makes its kind first
pub goes-first : {A : Type 0} (test other : A → Bool) (R : A → A → Type 0) → ((x y : A) → R x y → R y x → ⊥) → (xs : List A) (u : A)
    → AllPairs R xs
    → Among u xs → test u ≡ true → AllByRecursion (λ w. other w ≡ true → R u w) xs → passes_first test other xs ≡ true
goes-first test other R clash [] u g m e h = elim m [ ]
goes-first test other R clash (x ∷ xs) u g m e h =
    elim (cases_Bool (other x)) [
      | inl q ↦
          let r : R u x = h.0 q in
          elim m [
            | inl is ↦ absurd (clash u x r (subst (λ y. R x y) (sym is) (subst (λ y. R y x) is r)))
            | inr n ↦ absurd (clash u x r (all-among (R x) u xs g.0 n))
          ]
      | inr q ↦
          elim (cases_Bool (test x)) [
            | inl p ↦ rw (q, p) refl
            | inr p ↦
                rw (q, p)
                (elim m [
                  | inl is ↦ true-false (test x) (ap test (sym is) ∙ e) p
                  | inr n ↦ goes-first test other R clash xs u g.1 n e h.1
                ])
          ]
    ]
