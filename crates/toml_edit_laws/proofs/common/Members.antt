-- Which elements a list has, element by element.
use Rattle.std.proofs.Common.{◌≡◌, ◌⊎◌, sym, ap, subst, ◌∙◌, ◌<◌, arith, inl, inr, true, Bool, List, [], ◌∷◌, ◌++◌, refl, false}
use Rattle.std.specs.Prelude.{Contains, map, filter, if◌then◌else◌}
use Rattle.std.specs.List.{list_all, AllByRecursion}
use Rattle.std.proofs.lemmas.List.Elements.{Contains-append_left, Contains-append_right, Contains-append_cases, Contains-push}
use Rattle.std.proofs.lemmas.List.Elements.{Contains-push_cases}
use Rattle.toml_edit_laws.proofs.common.Tests.{and_left, and_right}
use Rattle.toml_edit_laws.proofs.common.Each.{all-map}

-- x is one of the list
abbrev pub Among : {A : Type 0} → A → List A → Type 0
Among x [] = ⊥
Among x (y ∷ ys) = (x ≡ y) ⊎ Among x ys

pub among-left : {A : Type 0} (x : A) (xs ys : List A) → Among x xs → Among x (xs ++ ys)
among-left x [] ys h = elim h [ ]
among-left x (z ∷ xs) ys (inl e) = inl e
among-left x (z ∷ xs) ys (inr h) = inr (among-left x xs ys h)

pub among-right : {A : Type 0} (x : A) (xs ys : List A) → Among x ys → Among x (xs ++ ys)
among-right x [] ys h = h
among-right x (z ∷ xs) ys h = inr (among-right x xs ys h)

pub among-cases : {A : Type 0} (x : A) (xs ys : List A) → Among x (xs ++ ys) → Among x xs ⊎ Among x ys
among-cases x [] ys h = inr h
among-cases x (z ∷ xs) ys (inl e) = inl (inl e)
among-cases x (z ∷ xs) ys (inr h) = elim (among-cases x xs ys h) [ inl l ↦ inl (inr l) | inr r ↦ inr r ]

-- what passes for all passes for each
pub passes-among : {A : Type 0} (p : A → Bool) (x : A) (xs : List A) → list_all p xs ≡ true → Among x xs → p x ≡ true
passes-among p x [] h m = elim m [ ]
passes-among p x (y ∷ ys) h (inl e) = ap p e ∙ and_left (p y) (list_all p ys) h
passes-among p x (y ∷ ys) h (inr m) = passes-among p x ys (and_right (p y) (list_all p ys) h) m

-- ---- the same by index

pub none-contained : {A : Type 0} (x : A) → Contains [] x → ⊥
none-contained x c = let h : c.0 < 0 = c.1 in absurd (omega arith)

pub from-contained : {A : Type 0} (x : A) (xs : List A) → Contains xs x → Among x xs
from-contained x [] c = none-contained x c
from-contained x (y ∷ ys) c =
    elim (Contains-append_cases (y ∷ []) ys x c) [
      | inl d ↦ elim (Contains-push_cases [] y x d) [ inl e ↦ absurd (none-contained x e) | inr e ↦ inl (sym e) ]
      | inr d ↦ inr (from-contained x ys d)
    ]

pub to-contained : {A : Type 0} (x : A) (xs : List A) → Among x xs → Contains xs x
to-contained x [] h = elim h [ ]
to-contained x (y ∷ ys) (inl e) = subst (λ z. Contains (y ∷ ys) z) (sym e) (Contains-append_left (y ∷ []) ys y (Contains-push [] y))
to-contained x (y ∷ ys) (inr h) = Contains-append_right (y ∷ []) ys x (to-contained x ys h)

pub all-among : {A : Type 0} (P : A → Type 0) (x : A) (xs : List A) → AllByRecursion P xs → Among x xs → P x
all-among P x [] h a = elim a [ ]
all-among P x (y ∷ xs) h (inl e) = subst P (sym e) h.0
all-among P x (y ∷ xs) h (inr a) = all-among P x xs h.1 a

pub among-image : {A B : Type 0} (f : A → B) (y : B) (xs : List A) → Among y (map f xs) → (x : A) × Among x xs × (y ≡ f x)
among-image f y [] h = elim h [ ]
among-image f y (a ∷ xs) (inl e) = (a, inl refl, e)
among-image f y (a ∷ xs) (inr h) = let t = among-image f y xs h in (t.0, inr t.1, t.2)

pub image-among : {A B : Type 0} (f : A → B) (x : A) (xs : List A) → Among x xs → Among (f x) (map f xs)
image-among f x [] h = elim h [ ]
image-among f x (a ∷ xs) (inl e) = inl (ap f e)
image-among f x (a ∷ xs) (inr h) = inr (image-among f x xs h)

pub all-of-among : {A : Type 0} (P : A → Type 0) (xs : List A) → ((x : A) → Among x xs → P x) → AllByRecursion P xs
all-of-among P [] h = tt
all-of-among P (x ∷ xs) h = (h x (inl refl), all-of-among P xs (λ y a. h y (inr a)))

pub of-filtered : {A : Type 0} (test : A → Bool) (x : A) (xs : List A) → Among x (filter test xs) → Among x xs
of-filtered test x [] h = elim h [ ]
of-filtered test x (y ∷ ys) h = by_test (test y) h (of-filtered test x ys)
  where
    by_test : (b : Bool) → Among x (if b then y ∷ filter test ys else filter test ys) → (Among x (filter test ys) → Among x ys)
        → Among x (y ∷ ys)
    by_test true (inl e) ih = inl e
    by_test true (inr g) ih = inr (ih g)
    by_test false g ih = inr (ih g)

pub among-filtered : {A : Type 0} (test : A → Bool) (x : A) (xs : List A) → Among x xs → test x ≡ true → Among x (filter test xs)
among-filtered test x [] a e = elim a [ ]
among-filtered {A = A} test x (y ∷ xs) (inl g) e = rw (ap test (sym g) ∙ e) (inl g)
among-filtered {A = A} test x (y ∷ xs) (inr a) e = by_test (test y) (among-filtered test x xs a e)
  where
    by_test : (b : Bool) → Among x (filter test xs) → Among x (if b then y ∷ filter test xs else filter test xs)
    by_test true h = inr h
    by_test false h = h

pub among-each : {A : Type 0} (xs : List A) → AllByRecursion (λ x. Among x xs) xs
among-each [] = tt
among-each (x ∷ xs) = (inl refl, all-map (λ y. Among y xs) (λ y. Among y (x ∷ xs)) xs (λ y m. inr m) (among-each xs))
