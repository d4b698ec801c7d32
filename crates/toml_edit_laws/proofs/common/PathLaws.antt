-- Equality of numbered paths, and paths that go on from others.
use Rattle.std.proofs.Common.{◌≡◌, refl, sym, ◌∙◌, ap, subst, Bool, true, false, [], ◌∷◌, ◌++◌, append_assoc, List, suc, ℕ, zero}
use Rattle.std.specs.Prelude.{◌&&◌}
use Rattle.std.proofs.lemmas.Bool.{eq-eqb, eqb-true}
use Rattle.toml_edit_model.specs.Text.{Text, same_text, one}
use Rattle.toml_edit_model.specs.Paths.{Step, at_key, at_element, Path, same_step, same_path, to_key, in_last}
use Rattle.toml_edit_laws.proofs.common.Tests.{and_left, and_right, and-true, false-by, true-false, same_text-refl, same_text-is}
use Rattle.toml_edit_model.specs.Meaning.{parent}
use Rattle.toml_edit_model.specs.Print.{below}
use Rattle.toml_edit_model.specs.Tree.{Key}

pub same_step-refl : (s : Step) → same_step s s ≡ true
same_step-refl (at_key k) = same_text-refl k
same_step-refl (at_element n) = eq-eqb n n refl

pub same_step-is : (s t : Step) → same_step s t ≡ true → s ≡ t
same_step-is (at_key k) (at_key l) h = ap at_key (same_text-is k l h)
same_step-is (at_element n) (at_element m) h = ap at_element (eqb-true n m h)
same_step-is (at_key k) (at_element m) h = absurd cc
same_step-is (at_element n) (at_key l) h = absurd cc

pub same_path-refl : (p : Path) → same_path p p ≡ true
same_path-refl [] = refl
same_path-refl (s ∷ p) = rw (same_step-refl s) (same_path-refl p)

pub same_path-is : (p q : Path) → same_path p q ≡ true → p ≡ q
same_path-is [] [] h = refl
same_path-is [] (t ∷ q) h = absurd cc
same_path-is (s ∷ p) [] h = absurd cc
same_path-is (s ∷ p) (t ∷ q) h =
    let first : s ≡ t = same_step-is s t (and_left (same_step s t) (same_path p q) h) in
    let rest : p ≡ q = same_path-is p q (and_right (same_step s t) (same_path p q) h) in
    cc

pub same_path-swap : (p q : Path) → same_path p q ≡ same_path q p
same_path-swap p q = by_test (same_path p q) refl
  where
    by_test : (b : Bool) → same_path p q ≡ b → b ≡ same_path q p
    by_test true e = sym (subst (λ r. same_path r p ≡ true) (same_path-is p q e) (same_path-refl p))
    by_test false e =
        sym (false-by (same_path q p) (λ g. true-false (same_path p q) (subst (λ r. same_path r q
        ≡ true) (same_path-is q p g) (same_path-refl q)) e))

-- paths with the same beginning
pub same_path-after : (p q r : Path) → same_path (p ++ q) (p ++ r) ≡ same_path q r
same_path-after [] q r = refl
same_path-after (s ∷ p) q r = rw (same_step-refl s) (same_path-after p q r)

pub same_path-key : (p : Path) (k l : Text) → same_path (to_key p k) (to_key p l) ≡ same_text k l
same_path-key p k l = same_path-after p (one (at_key k)) (one (at_key l)) ∙ and-true (same_text k l)

-- ---- paths that go on

-- the second path is the first one, or goes on from it
abbrev pub is_front : Path → Path → Bool
is_front [] q = true
is_front (s ∷ p) [] = false
is_front (s ∷ p) (t ∷ q) = same_step s t && is_front p q

pub front-refl : (p : Path) → is_front p p ≡ true
front-refl [] = refl
front-refl (s ∷ p) = rw (same_step-refl s) (front-refl p)

pub front-more : (p q : Path) → is_front p (p ++ q) ≡ true
front-more [] q = refl
front-more (s ∷ p) q = rw (same_step-refl s) (front-more p q)

pub front-through : (p q r : Path) → is_front p q ≡ true → is_front q r ≡ true → is_front p r ≡ true
front-through [] q r h g = refl
front-through (s ∷ p) [] r h g = absurd cc
front-through (s ∷ p) (t ∷ q) [] h g = absurd cc
front-through (s ∷ p) (t ∷ q) (u ∷ r) h g =
    let first : s ≡ t = same_step-is s t (and_left (same_step s t) (is_front p q) h) in
    rw (ap (λ x. same_step x u) first ∙ and_left (same_step t u) (is_front q r) g)
    (front-through p q r (and_right (same_step s t) (is_front p q) h) (and_right (same_step t u) (is_front q r) g))

-- one key down, and then on
pub front-key : (p : Path) (k : Text) (q : Path) → is_front (to_key p k) (p ++ (at_key k ∷ q)) ≡ true
front-key p k q = subst (λ r. is_front (to_key p k) r ≡ true) (append_assoc p (one (at_key k)) q) (front-more (to_key p k) q)

-- a path goes on with one key
pub front-keys : (p q : Path) (k l : Text) → is_front (to_key p k) q ≡ true → is_front (to_key p l) q ≡ true → same_text k l ≡ true
front-keys [] [] k l h g = absurd cc
front-keys [] (t ∷ q) k l h g =
    let first : at_key k ≡ t = same_step-is (at_key k) t (and_left (same_step (at_key k) t) true h) in
    let second : at_key l ≡ t = same_step-is (at_key l) t (and_left (same_step (at_key l) t) true g) in
    let same : k ≡ l = cc in
    subst (λ m. same_text k m ≡ true) same (same_text-refl k)
front-keys (s ∷ p) [] k l h g = absurd cc
front-keys (s ∷ p) (t ∷ q) k l h g =
    front-keys p q k l (and_right (same_step s t) (is_front (to_key p k) q) h) (and_right (same_step s t) (is_front (to_key p l) q) g)

pub parent-last : (p : Path) (s : Step) → parent (p ++ (s ∷ [])) ≡ p
parent-last [] s = refl
parent-last (t ∷ []) s = refl
parent-last (t ∷ u ∷ p) s = ap (λ q. t ∷ q) (parent-last (u ∷ p) s)

pub same_step-swap : (s t : Step) → same_step s t ≡ same_step t s
same_step-swap s t = sym (and-true (same_step s t)) ∙ same_path-swap (one s) (one t) ∙ and-true (same_step t s)

pub same-after : (p xs ys : Path) → p ++ xs ≡ p ++ ys → xs ≡ ys
same-after [] xs ys e = e
same-after (s ∷ p) xs ys e = (let rest : p ++ xs ≡ p ++ ys = cc in same-after p xs ys rest)

pub front-longer : (p : Path) (s : Step) (q : Path) → is_front (p ++ (s ∷ q)) p ≡ true → ⊥
front-longer [] s q h = cc
front-longer (t ∷ p) s q h = front-longer p s q (and_right (same_step t t) (is_front (p ++ (s ∷ q)) p) h)

pub not-longer : (p : Path) (s : Step) (q : Path) → p ++ (s ∷ q) ≡ p → ⊥
not-longer p s q e = front-longer p s q (subst (λ r. is_front (p ++ (s ∷ q)) r ≡ true) e (front-refl (p ++ (s ∷ q))))

pub below-last : (p : Path) (ks : List Key) (k : Key) → below p (ks ++ (k ∷ [])) ≡ to_key (below p ks) k.name
below-last p [] k = refl
below-last p (l ∷ ks) k = below-last (to_key p l.name) ks k

pub in_last-front : (n : ℕ) (p : Path) → is_front p (in_last n p) ≡ true
in_last-front zero p = front-refl p
in_last-front (suc n) p = front-more p (one (at_element n))
