-- The first faulty statement: there is one where a document is refused, and never two.
use Rattle.std.proofs.Common.{◌≡◌, refl, sym, ◌∙◌, ap, Bool, true, false, List, [], ◌∷◌, ◌++◌, append_assoc, inl, inr}
use Rattle.std.specs.Prelude.{◌&&◌, ◌⊎◌}
use Rattle.std.proofs.lemmas.Bool.{cases_Bool}
use Rattle.toml_edit_model.specs.Syntax.{Document}
use Rattle.toml_edit_model.specs.Version.{Version}
use Rattle.toml_edit_model.specs.Paths.{Placed, placed}
use Rattle.toml_edit_model.specs.Accepted.{are_right_in, is_accepted_in, IsFirstFaultyIn}
use Rattle.toml_edit_laws.specs.OneByOne.{is_right_in, all_right_in, FirstFaulty}
use Rattle.toml_edit_laws.proofs.common.Tests.{and-assoc, and-true, true-false, append-nil}
use Rattle.toml_edit_laws.proofs.one_by_one.Together.{right-together}

-- two ways to part a list
parted : {A : Type 0} (xs ys us bs : List A) (x y : A) → xs ++ (x ∷ us) ≡ ys ++ (y ∷ bs)
    → ((ys ≡ xs) × (y ≡ x)) ⊎ (((zs : List A) × (ys ≡ xs ++ (x ∷ zs))) ⊎ ((zs : List A) × (xs ≡ ys ++ (y ∷ zs))))
parted [] [] us bs x y e = inl (refl, (let same : x ∷ us ≡ y ∷ bs = e in cc))
parted [] (z ∷ ys) us bs x y e = inr (inl (ys, (let same : x ∷ us ≡ z ∷ (ys ++ (y ∷ bs)) = e in cc)))
parted (z ∷ xs) [] us bs x y e = inr (inr (xs, (let same : z ∷ (xs ++ (x ∷ us)) ≡ y ∷ bs = e in cc)))
parted (z ∷ xs) (w ∷ ys) us bs x y e =
    let head : z ≡ w = (let same : z ∷ (xs ++ (x ∷ us)) ≡ w ∷ (ys ++ (y ∷ bs)) = e in cc) in
    let tail : xs ++ (x ∷ us) ≡ ys ++ (y ∷ bs) = (let same : z ∷ (xs ++ (x ∷ us)) ≡ w ∷ (ys ++ (y ∷ bs)) = e in cc) in
    elim (parted xs ys us bs x y tail) [
      | inl s ↦ inl (ap (λ l. w ∷ l) s.0 ∙ ap (λ v. v ∷ xs) (sym head), s.1)
      | inr (inl l) ↦ inr (inl (l.0, ap (λ v. v ∷ ys) (sym head) ∙ ap (λ m. z ∷ m) l.1))
      | inr (inr l) ↦ inr (inr (l.0, ap (λ v. v ∷ xs) head ∙ ap (λ m. w ∷ m) l.1))
    ]

both-false : (a b : Bool) → a ≡ true → (a && (b && true)) ≡ false → b ≡ false
both-false a b h g = sym (and-true b) ∙ sym (ap (λ x. x && (b && true)) h) ∙ g

module _ (version : Version) where
  right-append_in : (earlier xs ys : List Placed)
      → all_right_in version earlier (xs ++ ys) ≡ (all_right_in version earlier xs && all_right_in version (earlier ++ xs) ys)
  right-append_in earlier [] ys = ap (λ es. all_right_in version es ys) (sym (append-nil earlier))
  right-append_in earlier (s ∷ xs) ys =
      ap (λ b. is_right_in version earlier s && b)
      (right-append_in (earlier ++ (s ∷ [])) xs ys
      ∙ ap (λ es. all_right_in version (earlier ++ (s ∷ [])) xs && all_right_in version es ys) (append_assoc earlier (s ∷ []) xs))
      ∙ sym (and-assoc (is_right_in version earlier s) (all_right_in version (earlier ++ (s ∷ [])) xs) (all_right_in version (earlier
      ++ (s ∷ xs)) ys))

  right-front : (xs ys : List Placed) → are_right_in version (xs ++ ys) ≡ true → are_right_in version xs ≡ true
  right-front xs ys h =
      right-together version xs
      ∙ front (all_right_in version [] xs) (all_right_in version xs ys) (sym (right-append_in [] xs ys)
      ∙ sym (right-together version (xs ++ ys)) ∙ h)
    where
      front : (a b : Bool) → (a && b) ≡ true → a ≡ true
      front true b h = refl
      front false b h = h

  -- a statement isn't right after right ones where they aren't right together with it
  pub wrong_here : (earlier : List Placed) (s : Placed) → are_right_in version earlier ≡ true → are_right_in version (earlier ++ (s ∷ []))
      ≡ false
      → is_right_in version earlier s ≡ false
  wrong_here earlier s right faulty =
      both-false (all_right_in version [] earlier) (is_right_in version earlier s) (sym (right-together version earlier) ∙ right)
      (sym (right-append_in [] earlier (s ∷ [])) ∙ sym (right-together version (earlier ++ (s ∷ []))) ∙ faulty)

  pub wrong_there : (earlier : List Placed) (s : Placed) → is_right_in version earlier s ≡ false
      → are_right_in version (earlier ++ (s ∷ [])) ≡ false
  wrong_there earlier s wrong =
      right-together version (earlier ++ (s ∷ [])) ∙ right-append_in [] earlier (s ∷ [])
      ∙ ap (λ b. all_right_in version [] earlier && (b && true)) wrong ∙ and-none (all_right_in version [] earlier)
    where
      and-none : (a : Bool) → (a && false) ≡ false
      and-none true = refl
      and-none false = refl

  refused_by : (d : Document) (earlier : List Placed) (s : Placed) → IsFirstFaultyIn version d earlier s → is_accepted_in version d ≡ false
  refused_by d earlier s first = by_test (is_accepted_in version d) refl
    where
      by_test : (b : Bool) → is_accepted_in version d ≡ b → b ≡ false
      by_test true e =
          true-false (are_right_in version (earlier ++ (s ∷ [])))
          (right-front (earlier ++ (s ∷ [])) first.later
          (ap (are_right_in version) (append_assoc earlier (s ∷ []) first.later ∙ sym first.split) ∙ e)) first.faulty
      by_test false e = refl

  -- going on from right statements, up to the first that isn't right
  found : (all earlier places : List Placed) → all ≡ earlier ++ places → are_right_in version earlier ≡ true
      → all_right_in version earlier places ≡ false
      → (done : List Placed) × (s : Placed) × (later : List Placed) × (all ≡ done ++ (s ∷ later)) × (are_right_in version done ≡ true)
      × (is_right_in version done s ≡ false)
  found all earlier [] is right wrong = absurd (let none : true ≡ false = wrong in cc)
  found all earlier (s ∷ rest) is right wrong =
      elim (cases_Bool (is_right_in version earlier s)) [
        | inl e ↦
            found all (earlier ++ (s ∷ [])) rest (is ∙ sym (append_assoc earlier (s ∷ []) rest))
            (right-together version (earlier ++ (s ∷ [])) ∙ right-append_in [] earlier (s ∷ [])
            ∙ ap (λ b. b && (is_right_in version earlier s && true)) (sym (right-together version earlier) ∙ right) ∙ ap (λ b. b && true) e)
            (sym (ap (λ b. b && all_right_in version (earlier ++ (s ∷ [])) rest) e) ∙ wrong)
        | inr e ↦ (earlier, s, rest, is, right, e)
      ]

  some_first : (d : Document) → is_accepted_in version d ≡ false → (earlier : List Placed) × (s : Placed)
      × IsFirstFaultyIn version d earlier s
  some_first d refused =
      let (done, s, later, is, right, wrong) =
      found (placed d) [] (placed d) refl refl (sym (right-together version (placed d)) ∙ refused) in
      (done, s, record { later = later; split = is; right = right; faulty = wrong_there done s wrong })

  one_first : (d : Document) (earlier others : List Placed) (s r : Placed) → IsFirstFaultyIn version d earlier s
      → IsFirstFaultyIn version d others r
      → (others ≡ earlier) × (r ≡ s)
  one_first d earlier others s r a b =
      elim (parted earlier others a.later b.later s r (sym a.split ∙ b.split)) [
        | inl same ↦ same
        | inr (inl more) ↦
            true-false (are_right_in version (earlier ++ (s ∷ [])))
            (right-front (earlier ++ (s ∷ [])) more.0 (ap (are_right_in version) (append_assoc earlier (s ∷ []) more.0 ∙ sym more.1)
            ∙ b.right)) a.faulty
        | inr (inr more) ↦
            true-false (are_right_in version (others ++ (r ∷ [])))
            (right-front (others ++ (r ∷ [])) more.0 (ap (are_right_in version) (append_assoc others (r ∷ []) more.0 ∙ sym more.1)
            ∙ a.right)) b.faulty
      ]

  pub first_faulty_laws : (d : Document) → FirstFaulty version d
  first_faulty_laws d = record { some = some_first d; refused = refused_by d; one = one_first d }
