-- Tests that were passed, and the front of a text.
use Rattle.std.proofs.Common.{◌≡◌, ℕ, ◌<◌, Bool, true, false, cond, ◌==◌, List, [], ◌∷◌, ◌++◌, ◌⊎◌, drop, Some, None, refl, sym, ap, inl}
use Rattle.std.proofs.Common.{inr, arith, eqb-true}
use Rattle.std.specs.List.{prefix_len}
use Rattle.std.proofs.lemmas.List.{take-append-drop}
use Rattle.toml_edit_laws.specs.reading.Runs.{first, split_while}

-- the side of a test that was taken
pub chosen : {A : Type 0} (b : Bool) (x y z : A) → cond b x y ≡ z → ((b ≡ true) × (x ≡ z)) ⊎ ((b ≡ false) × (y ≡ z))
chosen true x y z e = inl (refl, e)
chosen false x y z e = inr (refl, e)

-- a test that lets a value through held
pub guard_some : {A : Type 0} (b : Bool) (x y : A) → cond b (Some x) None ≡ Some y → (b ≡ true) × (x ≡ y)
guard_some true x y e = (refl, cc)
guard_some false x y e = absurd cc

-- the two parts of a pair
pub same_parts : {A B : Type 0} (a c : A) (b d : B) → ◌≡◌ {A = A × B} (a, b) (c, d) → (a ≡ c) × (b ≡ d)
same_parts {A} {B} a c b d e = (ap (λ (p : A × B). p.0) e, ap (λ (p : A × B). p.1) e)

-- the byte at the front
pub starts : (xs : List ℕ) (c : ℕ) → (first xs == c) ≡ true → 0 < c → xs ≡ c ∷ drop 1 xs
starts [] c e some = absurd (omega (arith, eqb-true 0 c e))
starts (x ∷ xs) c e some = ap (λ (y : ℕ). y ∷ xs) (eqb-true x c e)

-- a text in two parts
pub split_parts : (p : ℕ → Bool) (text : List ℕ) → text ≡ (split_while p text).0 ++ (split_while p text).1
split_parts p text = sym (take-append-drop (prefix_len p text) text)
