-- Tests taken apart and put together, and equality of texts.
use Rattle.std.proofs.Common.{◌≡◌, refl, subst, Bool, true, false, List, [], ◌∷◌, ◌++◌, ap, sym}
use Rattle.std.specs.Prelude.{◌&&◌, ◌||◌, not, if◌then◌else◌, MatchBool}
use Rattle.std.proofs.lemmas.Slice.Eq.{bytes_eq-Decides}
use Rattle.toml_edit_model.specs.Text.{Text, same_text}

pub and_left : (a b : Bool) → (a && b) ≡ true → a ≡ true
and_left true b h = refl
and_left false b h = h

pub and_right : (a b : Bool) → (a && b) ≡ true → b ≡ true
and_right true b h = h
and_right false true h = refl
and_right false false h = h

pub and_both : (a b : Bool) → a ≡ true → b ≡ true → (a && b) ≡ true
and_both true b p q = q
and_both false b p q = p

pub and-true : (a : Bool) → (a && true) ≡ a
and-true true = refl
and-true false = refl

pub and-assoc : (a b c : Bool) → ((a && b) && c) ≡ (a && (b && c))
and-assoc true b c = refl
and-assoc false b c = refl

pub or-true : (a : Bool) → (a || true) ≡ true
or-true true = refl
or-true false = refl

pub or-false : (a : Bool) → (a || false) ≡ a
or-false true = refl
or-false false = refl

pub or-left : (a b : Bool) → (a || b) ≡ false → a ≡ false
or-left false b h = refl
or-left true b h = h

pub or-right : (a b : Bool) → (a || b) ≡ false → b ≡ false
or-right false b h = h
or-right true b h = cc

pub not-true : (a : Bool) → not a ≡ true → a ≡ false
not-true true h = sym h
not-true false h = refl

pub if-true : {A : Type 0} (b : Bool) (x y : A) → b ≡ true → (if b then x else y) ≡ x
if-true b x y h = rw h refl

pub if-false : {A : Type 0} (b : Bool) (x y : A) → b ≡ false → (if b then x else y) ≡ y
if-false b x y h = rw h refl

pub false-by : (b : Bool) → (b ≡ true → ⊥) → b ≡ false
false-by true h = absurd (h refl)
false-by false h = refl

pub true-false : {A : Type 0} (b : Bool) → b ≡ true → b ≡ false → A
true-false b h g = absurd (clash b h g)
  where
    clash : (b : Bool) → b ≡ true → b ≡ false → ⊥
    clash true h g = cc
    clash false h g = cc

pub same_text-refl : (t : Text) → same_text t t ≡ true
same_text-refl t = (bytes_eq-Decides t t).1 refl

pub same_text-is : (t u : Text) → same_text t u ≡ true → t ≡ u
same_text-is t u h = (bytes_eq-Decides t u).0 h

pub same_text-swap : (t u : Text) → same_text t u ≡ same_text u t
same_text-swap t u = by_test (same_text t u) refl
  where
    by_test : (b : Bool) → same_text t u ≡ b → b ≡ same_text u t
    by_test true e = sym (subst (λ v. same_text v t ≡ true) (same_text-is t u e) (same_text-refl t))
    by_test false e =
        sym (false-by (same_text u t) (λ g. true-false (same_text t u) (subst (λ v. same_text v u
        ≡ true) (same_text-is u t g) (same_text-refl u)) e))

pub append-nil : {A : Type 0} (xs : List A) → xs ++ [] ≡ xs
append-nil [] = refl
append-nil (x ∷ xs) = ap (λ y. x ∷ y) (append-nil xs)

pub either : (b : Bool) (A C P : Type 0) → (A → P) → (C → P) → MatchBool b A C → P
either true A C P f g h = f h
either false A C P f g h = g h

pub or-both : (a b : Bool) → a ≡ false → b ≡ false → (a || b) ≡ false
or-both true b h g = h
or-both false b h g = g
