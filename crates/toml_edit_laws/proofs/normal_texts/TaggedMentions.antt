-- The mentions of the elements of a list, each with its element, and which comes first.
use Rattle.std.proofs.Common.{List, inr, subst, inl, ◌∷◌, sym, ap, ◌≡◌, Some, Bool, None, Option, refl, ◌∙◌, true, ◌⊎◌, []}
use Rattle.std.specs.Prelude.{flat_map, map, find, option_map}
use Rattle.toml_edit_model.specs.Paths.{Mention, Path, same_path}
use Rattle.toml_edit_laws.proofs.common.Members.{image-among, among-left, Among, among-right, among-image, among-cases}
use Rattle.toml_edit_laws.proofs.common.Cores.{Core, core}
use Rattle.toml_edit_laws.proofs.common.Searches.{find-map, find-append, none-any}
use Rattle.std.specs.List.{AllByRecursion, list_any}
use Rattle.toml_edit_laws.proofs.common.Pairs.{AllPairs}
use Rattle.toml_edit_laws.proofs.common.Each.{all-map}
use Rattle.toml_edit_laws.proofs.common.Tests.{true-false}
use Rattle.std.specs.Option.{option_or}

abbrev pub tagged : {S X : Type 0} → (X → List (Mention S)) → List X → List (X × Mention S)
tagged ment xs = flat_map (λ x. map (λ m. (x, m)) (ment x)) xs

abbrev pub mentions_of_all : {S X : Type 0} → (X → List (Mention S)) → List X → List (Mention S)
mentions_of_all ment xs = flat_map (λ m. m) (map ment xs)

pub in-tagged : {S X : Type 0} (ment : X → List (Mention S)) (xs : List X) (x : X) (m : Mention S) → Among x xs → Among m (ment x)
    → Among (x, m) (tagged ment xs)
in-tagged ment [] x m a b = elim a [ ]
in-tagged {S = S} {X = X} ment (y ∷ ys) x m (inl e) b =
    among-left (x, m) (map (λ k. (y, k)) (ment y)) (tagged ment ys)
    (subst (λ z. Among {A = X × Mention S} (x, m) (map (λ k. (z, k)) (ment z))) e (image-among (λ (k : Mention S). (x, k)) m (ment x) b))
in-tagged ment (y ∷ ys) x m (inr n) b = among-right (x, m) (map (λ k. (y, k)) (ment y)) (tagged ment ys) (in-tagged ment ys x m n b)

pub tagged-in : {S X : Type 0} (ment : X → List (Mention S)) (xs : List X) (w : X × Mention S) → Among w (tagged ment xs) → Among w.0 xs
    × Among w.1 (ment w.0)
tagged-in ment [] w a = elim a [ ]
tagged-in {S = S} {X = X} ment (y ∷ ys) w a =
    elim (among-cases w (map (λ k. (y, k)) (ment y)) (tagged ment ys) a) [
      | inl b ↦
          let from = among-image (λ (k : Mention S). (y, k)) w (ment y) b in
          let one : w.0 ≡ y = ap (λ (v : X × Mention S). v.0) from.2 in
          let other : w.1 ≡ from.0 = ap (λ (v : X × Mention S). v.1) from.2 in
          (inl one, subst (λ z. Among w.1 (ment z)) (sym one) (subst (λ k. Among k (ment y)) (sym other) from.1))
      | inr b ↦ (let rest = tagged-in ment ys w b in (inr rest.0, rest.1))
    ]

pub find-tagged : {S X : Type 0} (ment : X → List (Mention S)) (test : Core → Bool) (xs : List X)
    → find (λ m. test (core m)) (mentions_of_all ment xs) ≡ option_map (λ w. w.1) (find (λ w. test (core w.1)) (tagged ment xs))
find-tagged ment test [] = refl
find-tagged {S = S} {X = X} ment test (x ∷ xs) =
    find-append (λ m. test (core m)) (ment x) (mentions_of_all ment xs)
    ∙ ap (option_or (find (λ m. test (core m)) (ment x))) (find-tagged ment test xs)
    ∙ by_found (find (λ m. test (core m)) (ment x))
    ∙ ap (λ o. option_map (λ (w : X × Mention S). w.1) (option_or o (find (λ w. test (core w.1)) (tagged ment xs))))
    (sym (find-map (λ (w : X × Mention S). test (core w.1)) (λ m. (x, m)) (ment x)))
    ∙ ap (option_map (λ (w : X × Mention S). w.1)) (sym
    (find-append (λ (w : X × Mention S). test (core w.1)) (map (λ m. (x, m)) (ment x)) (tagged ment xs)))
  where
    by_found : (o : Option (Mention S)) → option_or o (option_map (λ (w : X × Mention S). w.1)
        (find (λ w. test (core w.1)) (tagged ment xs)))
        ≡ option_map (λ (w : X × Mention S). w.1) (option_or (option_map (λ m. (x, m)) o) (find (λ w. test (core w.1)) (tagged ment xs)))
    by_found None = refl
    by_found (Some m) = refl

abbrev pub at : Path → Core → Bool
at p c = same_path p c.0

-- the element with the first mention at a path, and where the others stand
pub first-tagged : {S X : Type 0} (ment : X → List (Mention S)) (p : Path) (R : X → X → Type 0) (xs : List X) (w : X × Mention S)
    → find (λ v. at p (core v.1)) (tagged ment xs) ≡ Some w → AllPairs R xs
    → (find (λ m. at p (core m)) (ment w.0) ≡ Some w.1)
    × AllByRecursion (λ v. list_any (λ m. at p (core m)) (ment v) ≡ true → (v ≡ w.0) ⊎ R w.0 v) xs
first-tagged ment p R [] w h g = absurd cc
first-tagged {S = S} {X = X} ment p R (x ∷ xs) w h g =
    by_found (find (λ m. at p (core m)) (ment x)) refl
    (sym (find-append (λ (v : X × Mention S). at p (core v.1)) (map (λ m. (x, m)) (ment x)) (tagged ment xs)
    ∙ ap (λ o. option_or o (find (λ v. at p (core v.1)) (tagged ment xs)))
    (find-map (λ (v : X × Mention S). at p (core v.1)) (λ m. (x, m)) (ment x))) ∙ h)
    (λ e. first-tagged ment p R xs w e g.1)
  where
    by_found : (o : Option (Mention S)) → find (λ m. at p (core m)) (ment x) ≡ o
        → option_or (option_map (λ m. (x, m)) o) (find (λ v. at p (core v.1)) (tagged ment xs)) ≡ Some w
        → (find (λ v. at p (core v.1)) (tagged ment xs) ≡ Some w
        → (find (λ m. at p (core m)) (ment w.0) ≡ Some w.1)
        × AllByRecursion (λ v. list_any (λ m. at p (core m)) (ment v) ≡ true → (v ≡ w.0) ⊎ R w.0 v) xs)
        → (find (λ m. at p (core m)) (ment w.0) ≡ Some w.1)
        × AllByRecursion (λ v. list_any (λ m. at p (core m)) (ment v) ≡ true → (v ≡ w.0) ⊎ R w.0 v) (x ∷ xs)
    by_found (Some m) e f ih =
        let is : w ≡ (x, m) = cc in
        let one : x ≡ w.0 = sym (ap (λ (v : X × Mention S). v.0) is) in
        let other : m ≡ w.1 = sym (ap (λ (v : X × Mention S). v.1) is) in (
          subst (λ y. find (λ k. at p (core k)) (ment y) ≡ Some w.1) one (e ∙ ap Some other),
          (
            λ n. inl one,
            subst (λ y. AllByRecursion (λ v. list_any (λ k. at p (core k)) (ment v) ≡ true → (v ≡ y) ⊎ R y v) xs) one
                (all-map (R x) (λ v. list_any (λ k. at p (core k)) (ment v) ≡ true → (v ≡ x) ⊎ R x v) xs (λ v r n. inr r) g.0),
          ),
        )
    by_found None e f ih =
        let rest = ih f in (
          rest.0,
          (
            λ n. true-false (list_any (λ m. at p (core m)) (ment x)) n (none-any (λ (m : Mention S). at p (core m)) (ment x) e),
            rest.1,
          ),
        )
