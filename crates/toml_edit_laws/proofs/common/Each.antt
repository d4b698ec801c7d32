-- What holds of each element of a list.
use Rattle.std.proofs.Common.{Bool, inl, List, inr, ℕ, ◌∙◌, refl, ◌∷◌, ◌++◌, true, ◌≡◌, []}
use Rattle.std.proofs.lemmas.Bool.{cases_Bool}
use Rattle.std.proofs.lemmas.List.Folds.{list_all-append}
use Rattle.toml_edit_model.specs.Text.{Text}
use Rattle.toml_edit_model.specs.Trivia.{Each}
use Rattle.std.specs.List.{AllByRecursion, list_all}
use Rattle.toml_edit_laws.proofs.common.Tests.{and_right, and_left}
use Rattle.toml_edit_model.specs.Order.{insert_by}
use Rattle.std.specs.Prelude.{filter, map}

pub all-insert : {A : Type 0} (P : A → Type 0) (before : A → A → Bool) (a : A) (xs : List A) → P a → AllByRecursion P xs
    → AllByRecursion P (insert_by before a xs)
all-insert P before a [] p h = (p, tt)
all-insert P before a (x ∷ xs) p h =
    elim (cases_Bool (before a x)) [
      | inl e ↦ rw e (p, h)
      | inr e ↦ rw e (h.0, all-insert P before a xs p h.1)
    ]

pub all-both : {A : Type 0} (P Q : A → Type 0) (xs : List A) → AllByRecursion P xs → AllByRecursion Q xs
    → AllByRecursion (λ x. P x × Q x) xs
all-both P Q [] h g = tt
all-both P Q (x ∷ xs) h g = ((h.0, g.0), all-both P Q xs h.1 g.1)

pub all-append : {X : Type 0} (P : X → Type 0) (xs ys : List X) → AllByRecursion P xs → AllByRecursion P ys → AllByRecursion P (xs ++ ys)
all-append P [] ys g h = h
all-append P (x ∷ xs) ys g h = (g.0, all-append P xs ys g.1 h)

pub all-front : {A : Type 0} (P : A → Type 0) (xs ys : List A) → AllByRecursion P (xs ++ ys) → AllByRecursion P xs
all-front P [] ys h = tt
all-front P (x ∷ xs) ys h = (h.0, all-front P xs ys h.1)

pub all-back : {A : Type 0} (P : A → Type 0) (xs ys : List A) → AllByRecursion P (xs ++ ys) → AllByRecursion P ys
all-back P [] ys h = h
all-back P (x ∷ xs) ys h = all-back P xs ys h.1

pub all-of : {A : Type 0} (test : A → Bool) (xs : List A) → list_all test xs ≡ true → AllByRecursion (λ x. test x ≡ true) xs
all-of test [] h = tt
all-of test (x ∷ xs) h = (and_left (test x) (list_all test xs) h, all-of test xs (and_right (test x) (list_all test xs) h))

pub trivially : {A : Type 0} (xs : List A) → AllByRecursion (λ x. Unit {0}) xs
trivially [] = tt
trivially (x ∷ xs) = (tt, trivially xs)

pub all-filter : {A : Type 0} (P : A → Type 0) (test : A → Bool) (xs : List A) → AllByRecursion P xs → AllByRecursion P (filter test xs)
all-filter P test [] h = tt
all-filter P test (x ∷ xs) h =
    elim (cases_Bool (test x)) [
      | inl e ↦ rw e (h.0, all-filter P test xs h.1)
      | inr e ↦ rw e (all-filter P test xs h.1)
    ]

-- an element of the filtered list passes, beside what holds of each
pub all_pass : {A : Type 0} (P : A → Type 0) (test : A → Bool) (xs : List A) → AllByRecursion P xs
    → AllByRecursion (λ x. P x × (test x ≡ true)) (filter test xs)
all_pass P test [] h = tt
all_pass P test (x ∷ xs) h =
    elim (cases_Bool (test x)) [
      | inl e ↦ rw e ((h.0, e), all_pass P test xs h.1)
      | inr e ↦ rw e (all_pass P test xs h.1)
    ]

pub all-map : {A : Type 0} (P Q : A → Type 0) (xs : List A) → ((x : A) → P x → Q x) → AllByRecursion P xs → AllByRecursion Q xs
all-map P Q [] f h = tt
all-map P Q (x ∷ xs) f h = (f x h.0, all-map P Q xs f h.1)

pub filter-passes : {A : Type 0} (test : A → Bool) (xs : List A) → AllByRecursion (λ x. test x ≡ true) (filter test xs)
filter-passes test xs =
    all-map (λ x. Unit {0} × (test x ≡ true)) (λ x. test x
    ≡ true) (filter test xs) (λ x h. h.1) (all_pass (λ x. Unit {0}) test xs (trivially xs))

pub all-image : {A B : Type 0} (f : A → B) (P : B → Type 0) (xs : List A) → AllByRecursion (λ x. P (f x)) xs → AllByRecursion P (map f xs)
all-image f P [] h = tt
all-image f P (x ∷ xs) h = (h.0, all-image f P xs h.1)

-- bytes of two texts that pass, pass together
pub each-append : (p : ℕ → Bool) (s t : Text) → Each p s → Each p t → Each p (s ++ t)
each-append p s t h g = list_all-append p s t ∙ rw (h, g) refl
