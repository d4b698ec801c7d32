-- A name in the place of another.
use Rattle.std.proofs.Common.{◌≡◌, ℕ, zero, suc, true, false, List, [], ◌∷◌, ◌++◌, Some, None, ◌||◌, not, if◌then◌else◌, is_some, set}
use Rattle.std.proofs.Common.{slice_get, refl, sym, ap, ◌∙◌, inl, inr}
use Rattle.std.proofs.lemmas.Bool.{cases_Bool, false≢true}
use Rattle.std.proofs.lemmas.Cmp.{nat_list_eq_equiv}
use Rattle.std.proofs.lemmas.Option.{none-some, same_Some}
use Rattle.std.specs.List.{IsDistinct, AllByRecursion}
use Rattle.toml_edit_laws.proofs.slots.Places.{changed-none, has_slot-none, none_at, none_next}
use Rattle.toml_edit_model.specs.Text.{Text, same_text}
use Rattle.toml_edit_model.specs.Tree.{Key}
use Rattle.toml_edit_model.specs.Rearranging.{is_free, renamed_key, renamed_slot}
use Rattle.toml_edit_model.specs.Slots as model
use Rattle.toml_edit_slots.specs.Renaming.{renaming}
use Rattle.toml_edit_slots.specs.Seen.{seen}
use Rattle.toml_edit_slots.specs.Slots.{AreApart, is_at, names, on_key, place, place_in}
use Rattle.toml_edit_slots.specs.declared.slots.Slot.{Slot}
use Rattle.toml_edit_slots.specs.declared.slots.rearrange.Renamed.TheVariants.{Done, Absent, Taken}
use Rattle.toml_edit_slots.proofs.IndexLaws.{place_in-congr, place_in-is, some_after}
use Rattle.toml_edit_slots.proofs.KeptLaws.{some_before}
use Rattle.toml_edit_slots.proofs.SeenLaws.{one_seen, place-seen}
use Rattle.toml_edit_slots.proofs.SlotLaws.{none_named, some_next}

-- ---- texts

-- a text in its own place
pub set-same : (us : List Text) (i : ℕ) (t : Text) → slice_get us i ≡ Some t → set us i t ≡ us
set-same [] i t is = refl
set-same (u ∷ us) zero t is = ap (λ x. x ∷ us) (sym (same_Some u t is))
set-same (u ∷ us) (suc i) t is = ap (λ l. u ∷ l) (set-same us i t is)

none-here : (t : Text) (us : List Text) → place_in t us ≡ None → AllByRecursion (λ u. same_text t u ≡ false) us
none-here t [] none = tt
none-here t (u ∷ us) none =
    elim (cases_Bool (same_text t u)) [
      | inl same ↦ absurd (none-some 0 (sym (rw same at none)))
      | inr other ↦ (other, none-here t us (none_next (place_in t us) (rw other at none)))
    ]

all_set : (P : Text → Type 0) (us : List Text) (i : ℕ) (t : Text) → P t → AllByRecursion P us → AllByRecursion P (set us i t)
all_set P [] i t p a = tt
all_set P (u ∷ us) zero t p a = (p, a.1)
all_set P (u ∷ us) (suc i) t p a = (a.0, all_set P us i t p a.1)

-- texts stay distinct with a new one in the place of one
pub distinct-set : (us : List Text) (i : ℕ) (t : Text) → place_in t us ≡ None → IsDistinct same_text us → IsDistinct same_text (set us i t)
unfolding IsDistinct
distinct-set [] i t none a = tt
distinct-set (u ∷ us) zero t none a = ((none-here t (u ∷ us) none).1, a.1)
distinct-set (u ∷ us) (suc i) t none a =
    let rest = none-here t (u ∷ us) none in (
      all_set (λ y. same_text u y ≡ false) us i t (nat_list_eq_equiv.symm u t ∙ rest.0) a.0,
      distinct-set us i t (none_next (place_in t us) (rw rest.0 at none)) a.1,
    )

-- a text of a list is one of a longer list, and the last one is
place-more : (us : List Text) (t u : Text) → is_some (place_in t us) ≡ true → is_some (place_in t (us ++ u ∷ [])) ≡ true
place-more [] t u is = absurd (false≢true is)
place-more (v ∷ us) t u is =
    elim (cases_Bool (same_text t v)) [
      | inl here ↦ rw here refl
      | inr other ↦ rw other (some_after (place_in t (us ++ u ∷ [])) (place-more us t u (some_before (place_in t us) (rw other at is))))
    ]

place-last : (us : List Text) (t u : Text) → same_text t u ≡ true → is_some (place_in t (us ++ u ∷ [])) ≡ true
place-last [] t u same = rw same refl
place-last (v ∷ us) t u same =
    elim (cases_Bool (same_text t v)) [
      | inl here ↦ rw here refl
      | inr other ↦ rw other (some_after (place_in t (us ++ u ∷ [])) (place-last us t u same))
    ]

-- what is there once a text is in the place of another was there, or is that text
pub among-set : (us : List Text) (i : ℕ) (t u : Text) → is_some (place_in t (set us i u)) ≡ true → is_some (place_in t (us ++ u ∷ []))
    ≡ true
among-set [] i t u is = absurd (false≢true is)
among-set (v ∷ us) zero t u is =
    elim (cases_Bool (same_text t u)) [
      | inl same ↦ place-last (v ∷ us) t u same
      | inr other ↦
          let rest = place-more us t u (some_before (place_in t us) (rw other at is)) in
          elim (cases_Bool (same_text t v)) [
            | inl here ↦ rw here refl
            | inr apart ↦ rw apart (some_after (place_in t (us ++ u ∷ [])) rest)
          ]
    ]
among-set (v ∷ us) (suc i) t u is =
    elim (cases_Bool (same_text t v)) [
      | inl here ↦ rw here refl
      | inr other ↦ rw other (some_after (place_in t (us ++ u ∷ []))
          (among-set us i t u (some_before (place_in t (set us i u)) (rw other at is))))
    ]

-- ---- slots

-- the names, with another in the place of one
pub names-renamed : {T : Type 0} (h : Key → Key) (t : Text) → ((k : Key) → (h k).name ≡ t) → (es : List (Slot T)) (i : ℕ)
    → names (on_key i h es) ≡ set (names es) i t
names-renamed h t is [] i = refl
names-renamed h t is (s ∷ es) zero = ap (λ n. n ∷ names es) (is s.key)
names-renamed h t is (s ∷ es) (suc i) = ap (λ l. s.key.name ∷ l) (names-renamed h t is es i)

module _ {T : Type 0} (t : Text) where
  pub has-seen : (es : List (Slot T)) (i : ℕ) → place t es ≡ Some i → model.has_slot t (seen es) ≡ true
  has-seen [] i at = absurd (none-some i at)
  has-seen (s ∷ es) i at =
      elim (cases_Bool (is_at t s)) [
        | inl same ↦ rw same refl
        | inr other ↦ let (j, is, e) = some_next (place t es) i (rw other at at) in rw other (has-seen es j is)
      ]

  pub has-none-seen : (es : List (Slot T)) → place t es ≡ None → model.has_slot t (seen es) ≡ false
  has-none-seen es none = has_slot-none t (seen es) (none_at t (seen es) (place-seen t es ∙ none))

  -- a key changed at the place of a name is one changed by the name
  on_key-seen : (h : Key → Key) (es : List (Slot T)) (i : ℕ) → AreApart es → place t es ≡ Some i → seen (on_key i h es)
      ≡ model.changed t (model.on_key h) (seen es)
  unfolding IsDistinct
  on_key-seen h [] i a at = absurd (none-some i at)
  on_key-seen h (s ∷ es) i a at =
      elim (cases_Bool (is_at t s)) [
        | inl same ↦
            let e : 0 ≡ i = same_Some 0 i (rw same at at) in
            let none = none_at t (seen es) (place-seen t es ∙ none_named t s.key.name es same a.0) in
            rw (same, ← e) (ap (λ l. one_seen (record { key = h s.key; item = s.item })
            ∷ l) (sym (changed-none t (model.on_key h) (seen es) none)))
        | inr other ↦ let (j, is, e) = some_next (place t es) i (rw other at at) in
            rw (other, e) (ap (λ l. one_seen s ∷ l) (on_key-seen h es j a.1 is))
      ]

module _ {T : Type 0} (t u : Text) (es : List (Slot T)) where
  pub free-new : place u es ≡ None → is_free t u (seen es) ≡ true
  free-new none =
      elim (cases_Bool (same_text t u)) [
        | inl same ↦ ap (λ b. b || not (model.has_slot u (seen es))) same
        | inr other ↦ ap (λ b. b || not (model.has_slot u (seen es))) other ∙ ap not (has-none-seen u es none)
      ]

  pub free-own : (i : ℕ) → place t es ≡ Some i → place u es ≡ Some i → is_free t u (seen es) ≡ true
  free-own i at there =
      let one : t ≡ u = same_Some t u (sym (place_in-is t (names es) i at) ∙ place_in-is u (names es) i there) in
      ap (λ b. b || not (model.has_slot u (seen es))) (ap (same_text t) (sym one) ∙ nat_list_eq_equiv.refl t)

  pub taken : (i j : ℕ) → place t es ≡ Some i → place u es ≡ Some j → (j ≡ i → ⊥) → is_free t u (seen es) ≡ false
  taken i j at there apart =
      elim (cases_Bool (same_text t u)) [
        | inl same ↦ absurd (apart (same_Some j i (sym there ∙ sym (place_in-congr t u same (names es)) ∙ at)))
        | inr other ↦ ap (λ b. b || not (model.has_slot u (seen es))) other ∙ ap not (has-seen u es j there)
      ]

  -- ---- what a renaming tells, and what it leaves

  pub told-absent : place t es ≡ None → Absent ≡ renaming t u (seen es)
  told-absent none = sym (ap (λ b. if b then (if is_free t u (seen es) then Done else Taken) else Absent) (has-none-seen t es none))

  pub told-taken : (i : ℕ) → place t es ≡ Some i → is_free t u (seen es) ≡ false → Taken ≡ renaming t u (seen es)
  told-taken i at busy =
      sym (ap (λ b. if b then (if is_free t u (seen es) then Done else Taken) else Absent) (has-seen t es i at)
      ∙ ap (λ b. if b then Done else Taken) busy)

  pub told-done : (i : ℕ) → place t es ≡ Some i → is_free t u (seen es) ≡ true → Done ≡ renaming t u (seen es)
  told-done i at free =
      sym (ap (λ b. if b then (if is_free t u (seen es) then Done else Taken) else Absent) (has-seen t es i at)
      ∙ ap (λ b. if b then Done else Taken) free)

  abbrev done : List (model.Slot T)
  done = model.changed t (model.on_key (renamed_key u)) (seen es)

  pub left-absent : place t es ≡ None → seen es ≡ renamed_slot t u (seen es)
  left-absent none =
      let same : done ≡ seen es = changed-none t (model.on_key (renamed_key u)) (seen es) (none_at t (seen es) (place-seen t es ∙ none)) in
      elim (cases_Bool (is_free t u (seen es))) [
        | inl free ↦ sym (ap (λ b. if b then done else seen es) free ∙ same)
        | inr busy ↦ sym (ap (λ b. if b then done else seen es) busy)
      ]

  pub left-taken : is_free t u (seen es) ≡ false → seen es ≡ renamed_slot t u (seen es)
  left-taken busy = sym (ap (λ b. if b then done else seen es) busy)

  pub left-done : (i : ℕ) → AreApart es → place t es ≡ Some i → is_free t u (seen es) ≡ true → seen (on_key i (renamed_key u) es)
      ≡ renamed_slot t u (seen es)
  left-done i apart at free = on_key-seen t (renamed_key u) es i apart at ∙ sym (ap (λ b. if b then done else seen es) free)
