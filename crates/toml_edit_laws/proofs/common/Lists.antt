-- Lists put together: which are empty, how they are regrouped, and filtered images.
use Rattle.std.proofs.Common.{Bool, inl, ap, List, inr, refl, ◌≡◌, ◌∷◌, false, ◌++◌, append_assoc, []}
use Rattle.std.proofs.lemmas.Bool.{cases_Bool}
use Rattle.std.specs.Prelude.{map, filter}
use Rattle.toml_edit_model.specs.Text.{is_empty, Text}

pub filter-image : {A B : Type 0} (f : A → B) (test : B → Bool) (xs : List A) → filter test (map f xs) ≡ map f (filter (λ x. test (f x)) xs)
filter-image f test [] = refl
filter-image f test (x ∷ xs) =
    elim (cases_Bool (test (f x))) [
      | inl e ↦ rw e (ap (λ ys. f x ∷ ys) (filter-image f test xs))
      | inr e ↦ rw e (filter-image f test xs)
    ]

pub not_empty-last : {A : Type 0} (xs : List A) (x : A) → is_empty (xs ++ (x ∷ [])) ≡ false
not_empty-last [] x = refl
not_empty-last (y ∷ xs) x = refl

pub left-empty : {A : Type 0} (xs ys : List A) → xs ++ ys ≡ [] → xs ≡ []
left-empty [] ys h = refl
left-empty (x ∷ xs) ys h = absurd cc

pub right-empty : {A : Type 0} (xs ys : List A) → xs ++ ys ≡ [] → ys ≡ []
right-empty [] ys h = h
right-empty (x ∷ xs) ys h = absurd cc

pub append-four : (a b c d : Text) → (a ++ (b ++ c)) ++ d ≡ a ++ (b ++ (c ++ d))
append-four a b c d = simp append_assoc

pub append-six : (p v q c e t : Text) → (p ++ (v ++ q)) ++ (c ++ (e ++ t)) ≡ (p ++ (v ++ (q ++ (c ++ e)))) ++ t
append-six p v q c e t = simp append_assoc
