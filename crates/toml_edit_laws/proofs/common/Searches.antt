-- The first element of a list that passes a test.
use Rattle.std.specs.Prelude.{find, map, option_map, filter, ◌&&◌, if◌then◌else◌}
use Rattle.std.proofs.Common.{Bool, inr, refl, List, inl, ◌≡◌, ◌∷◌, ◌++◌, Some, ap, true, ◌∙◌, sym, None, false, []}
use Rattle.std.proofs.lemmas.Bool.{cases_Bool}
use Rattle.toml_edit_laws.proofs.common.Members.{Among}
use Rattle.toml_edit_laws.proofs.common.Tests.{true-false}
use Rattle.toml_edit_model.specs.Kept.{first_of_list}
use Rattle.std.specs.Option.{option_or}
use Rattle.std.specs.List.{list_any}

pub find-append : {A : Type 0} (test : A → Bool) (xs ys : List A) → find test (xs ++ ys) ≡ option_or (find test xs) (find test ys)
find-append test [] ys = refl
find-append test (x ∷ xs) ys = elim (cases_Bool (test x)) [ inl e ↦ rw e refl | inr e ↦ rw e (find-append test xs ys) ]

pub find-map : {A B : Type 0} (test : B → Bool) (f : A → B) (xs : List A) → find test (map f xs) ≡ option_map f (find (λ x. test (f x)) xs)
find-map test f [] = refl
find-map test f (x ∷ xs) = elim (cases_Bool (test (f x))) [ inl e ↦ rw e refl | inr e ↦ rw e (find-map test f xs) ]

pub find-filter : {A : Type 0} (first second : A → Bool) (xs : List A) → find second (filter first xs) ≡ find (λ x. first x && second x) xs
find-filter first second [] = refl
find-filter first second (x ∷ xs) =
    elim (cases_Bool (first x)) [
      | inl e ↦ rw e (ap (λ o. if second x then Some x else o) (find-filter first second xs))
      | inr e ↦ rw e (find-filter first second xs)
    ]

pub first-filter : {A : Type 0} (test : A → Bool) (xs : List A) → first_of_list (filter test xs) ≡ find test xs
first-filter test [] = refl
first-filter test (x ∷ xs) = elim (cases_Bool (test x)) [ inl e ↦ rw e refl | inr e ↦ rw e (first-filter test xs) ]

pub find-some : {A : Type 0} (test : A → Bool) (xs : List A) (x : A) → find test xs ≡ Some x → Among x xs × (test x ≡ true)
find-some test [] x h = absurd cc
find-some test (y ∷ ys) x h =
    elim (cases_Bool (test y)) [
      | inl e ↦
          let f : Some y ≡ Some x = rw e at h in
          let is : x ≡ y = cc in
          (inl is, ap test is ∙ e)
      | inr e ↦ (let rest = find-some test ys x (let f : find test ys ≡ Some x = rw e at h in f) in (inr rest.0, rest.1))
    ]

pub find-there : {A : Type 0} (test : A → Bool) (xs : List A) (x : A) → Among x xs → test x ≡ true → (y : A) × (find test xs ≡ Some y)
find-there test [] x m e = elim m [ ]
find-there {A = A} test (y ∷ ys) x m e =
    elim (cases_Bool (test y)) [
      | inl f ↦ (y, rw f refl)
      | inr f ↦
          let rest : (z : A) × (find test ys ≡ Some z) =
          elim m [ inl is ↦ true-false (test y) (ap test (sym is) ∙ e) f | inr n ↦ find-there test ys x n e ] in
          (rest.0, rw f rest.1)
    ]

pub find-none : {A : Type 0} (test : A → Bool) (xs : List A) (x : A) → find test xs ≡ None → Among x xs → test x ≡ true → ⊥
find-none test xs x h m e = (let there = find-there test xs x m e in let clash : Some there.0 ≡ None = sym there.1 ∙ h in cc)

pub none-any : {A : Type 0} (test : A → Bool) (xs : List A) → find test xs ≡ None → list_any test xs ≡ false
none-any test [] h = refl
none-any test (x ∷ xs) h =
    elim (cases_Bool (test x)) [
      | inl e ↦ (let f : Some x ≡ None = rw e at h in absurd cc)
      | inr e ↦ (let f : find test xs ≡ None = rw e at h in rw e (none-any test xs f))
    ]
