-- Walks, one after the other, and the turns of a loop.
use Rattle.std.proofs.Common.{◌≡◌, sym, ap, subst, ◌∙◌, ℕ, ◌+◌, ◌<◌, ◌≤◌, Bool, true, false, List, [], ◌∷◌, ◌++◌, length, get_or, drop}
use Rattle.std.proofs.Common.{append_assoc, append-nil}
use Rattle.std.proofs.lemmas.List.{at_drop_all, drop_more}
use Rattle.toml_edit_tree.specs.Visits.{VisitsInOrder, visits_none, visits_last, visits_next}

module _ {V A : Type 0} {visits : V → A → Bool → V → Type 0} where
  -- two lists, one after the other
  pub visits-append : {xs ys : List A} {u v w : V} {goes : Bool} → VisitsInOrder visits xs u true v → VisitsInOrder visits ys v goes w
      → VisitsInOrder visits (xs ++ ys) u goes w
  visits-append visits_none h = h
  visits-append (visits_next v p r) h = visits_next v p (visits-append r h)

  -- what is after the end of a walk isn't visited
  pub visits-ended : {xs : List A} (ys : List A) {u v : V} → VisitsInOrder visits xs u false v → VisitsInOrder visits (xs ++ ys) u false v
  visits-ended ys (visits_last p) = visits_last p
  visits-ended ys (visits_next v p r) = visits_next v p (visits-ended ys r)

  -- one visit
  pub visits-one : {x : A} {u : V} (v : V) (goes : Bool) → visits u x goes v → VisitsInOrder visits (x ∷ []) u goes v
  visits-one v true p = visits_next v p visits_none
  visits-one v false p = visits_last p

  -- the same list
  pub visits-same : (xs ys : List A) {u v : V} {goes : Bool} → VisitsInOrder visits xs u goes v → xs ≡ ys
      → VisitsInOrder visits ys u goes v
  visits-same xs ys {u} {v} {goes} h is = subst (λ zs. VisitsInOrder visits zs u goes v) is h

  -- what is known of the end
  pub visits-goes : {xs : List A} {u v : V} {goes stops : Bool} → VisitsInOrder visits xs u goes v → goes ≡ stops
      → VisitsInOrder visits xs u stops v
  visits-goes {xs} {u} {v} h is = subst (λ b. VisitsInOrder visits xs u b v) is h

-- Of each element there is its own, and then that of those after it.
module _ {X A : Type 0} (all : ℕ → List X → List A) (own : ℕ → X → List A) (none : (i : ℕ) → all i [] ≡ [])
    (split : (i : ℕ) (x : X) (xs : List X) → all i (x ∷ xs) ≡ own i x ++ all (i + 1) xs) where
  pub turn : (xs : List X) (i : ℕ) (x : X) → i < length xs → x ≡ get_or xs i x → (done whole : List A) → done ++ all i (drop i xs) ≡ whole
      → (done ++ own i x) ++ all (i + 1) (drop (i + 1) xs) ≡ whole
  turn xs i x below is done whole more =
      append_assoc done (own i x) (all (i + 1) (drop (i + 1) xs))
      ∙ ap (λ l. done ++ l)
      (sym (ap (all i) (drop_more xs i x below) ∙ split i (get_or xs i x) (drop (i + 1) xs)
      ∙ ap (λ y. own i y ++ all (i + 1) (drop (i + 1) xs)) (sym is)))
      ∙ more

  -- none are left
  pub turns-end : (xs : List X) (i : ℕ) → length xs ≤ i → (done whole : List A) → done ++ all i (drop i xs) ≡ whole → done ≡ whole
  turns-end xs i past done whole more =
      sym (append-nil done) ∙ ap (λ l. done ++ l) (sym (at_drop_all (all i) xs i past ∙ none i)) ∙ more
