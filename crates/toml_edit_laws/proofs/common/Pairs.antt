-- What holds of each element of a list and each later one.
use Rattle.std.proofs.Common.{List, ◌∷◌, Bool, inl, inr, [], ◌++◌}
use Rattle.std.specs.List.{AllByRecursion}
use Rattle.std.proofs.lemmas.Bool.{cases_Bool}
use Rattle.std.specs.Prelude.{filter, map}
use Rattle.toml_edit_laws.proofs.common.Each.{all-append, all-back, all-filter, all-map}

abbrev pub AllPairs : {A : Type 0} → (A → A → Type 0) → List A → Type 0
AllPairs R [] = Unit {0}
AllPairs R (x ∷ xs) = AllByRecursion (R x) xs × AllPairs R xs

pub pairs-filter : {A : Type 0} (R : A → A → Type 0) (test : A → Bool) (xs : List A) → AllPairs R xs → AllPairs R (filter test xs)
pairs-filter R test [] h = tt
pairs-filter R test (x ∷ xs) h =
    elim (cases_Bool (test x)) [
      | inl e ↦ rw e (all-filter (R x) test xs h.0, pairs-filter R test xs h.1)
      | inr e ↦ rw e (pairs-filter R test xs h.1)
    ]

-- what holds of each of one list and each of another
pub all-across : {A : Type 0} (P Q : A → Type 0) (R : A → A → Type 0) (xs ys : List A) → ((x y : A) → P x → Q y → R x y)
    → AllByRecursion P xs → AllByRecursion Q ys → AllByRecursion (λ x. AllByRecursion (R x) ys) xs
all-across P Q R [] ys f h g = tt
all-across P Q R (x ∷ xs) ys f h g = (all-map Q (R x) ys (λ y q. f x y h.0 q) g, all-across P Q R xs ys f h.1 g)

pub pairs-append : {A : Type 0} (R : A → A → Type 0) (xs ys : List A) → AllPairs R xs → AllPairs R ys
    → AllByRecursion (λ x. AllByRecursion (R x) ys) xs → AllPairs R (xs ++ ys)
pairs-append R [] ys h g f = g
pairs-append R (x ∷ xs) ys h g f = (all-append (R x) xs ys h.0 f.0, pairs-append R xs ys h.1 g f.1)

pub pairs-image : {A B : Type 0} (f : A → B) (R : B → B → Type 0) (xs : List A) → AllPairs (λ a b. R (f a) (f b)) xs → AllPairs R (map f xs)
pairs-image f R [] h = tt
pairs-image {A} f R (x ∷ xs) h = (each xs h.0, pairs-image f R xs h.1)
  where
    each : (ys : List A) → AllByRecursion (λ b. R (f x) (f b)) ys → AllByRecursion (R (f x)) (map f ys)
    each [] g = tt
    each (y ∷ ys) g = (g.0, each ys g.1)

pub pairs-map : {A : Type 0} (R S : A → A → Type 0) (xs : List A) → ((x y : A) → R x y → S x y) → AllPairs R xs → AllPairs S xs
pairs-map R S [] f h = tt
pairs-map R S (x ∷ xs) f h = (all-map (R x) (S x) xs (f x) h.0, pairs-map R S xs f h.1)

-- the pairs of what holds of each
pub pairs-of : {A : Type 0} (P : A → Type 0) (R S : A → A → Type 0) (xs : List A) → ((x y : A) → P x → P y → R x y → S x y)
    → AllByRecursion P xs → AllPairs R xs → AllPairs S xs
pairs-of P R S [] f h g = tt
pairs-of {A} P R S (x ∷ xs) f h g = (each xs h.1 g.0, pairs-of P R S xs f h.1 g.1)
  where
    each : (ys : List A) → AllByRecursion P ys → AllByRecursion (R x) ys → AllByRecursion (S x) ys
    each [] p r = tt
    each (y ∷ ys) p r = (f x y h.0 p.0 r.0, each ys p.1 r.1)

pub pairs-across : {A : Type 0} (R : A → A → Type 0) (xs ys : List A) → AllPairs R (xs ++ ys)
    → AllByRecursion (λ x. AllByRecursion (R x) ys) xs
pairs-across R [] ys h = tt
pairs-across R (x ∷ xs) ys h = (all-back (R x) xs ys h.0, pairs-across R xs ys h.1)

pub pairs-right : {A : Type 0} (R : A → A → Type 0) (xs ys : List A) → AllPairs R (xs ++ ys) → AllPairs R ys
pairs-right R [] ys h = h
pairs-right R (x ∷ xs) ys h = pairs-right R xs ys h.1
