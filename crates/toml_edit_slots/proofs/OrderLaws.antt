-- Slots put in the order of their places.
use Rattle.std.proofs.Common.{◌≡◌, ℕ, suc, ◌≤◌, Bool, true, false, List, [], ◌∷◌, Option, Some, None, is_some, length, get_or, set}
use Rattle.std.proofs.Common.{refl, sym, ap, ◌∙◌, inl, inr, arith, nat_le, option_map}
use Rattle.std.specs.Prelude.{◌||◌, ◌&&◌, if◌then◌else◌}
use Rattle.std.specs.Global.{Box}
use Rattle.std.specs.List.{IsDistinct, AllByRecursion}
use Rattle.std.proofs.lemmas.Bool.{cases_Bool}
use Rattle.std.proofs.lemmas.Cmp.{nat_list_eq_equiv}
use Rattle.std.proofs.lemmas.Option.{none-some, same_Some}
use Rattle.std.proofs.lemmas.Slice.Eq.{bytes_eq-Decides}
use Rattle.toml_edit_model.specs.Text.{Text, same_text}
use Rattle.toml_edit_model.specs.Order.{is_sorted_by, insert_by, sorted_by}
use Rattle.toml_edit_laws.specs.PlaceOrder.{key_place}
use Rattle.toml_edit_slots.specs.declared.slots.Slot.{Slot}
use Rattle.toml_edit_slots.specs.Slots.{is_at, names, AreApart, place, place_in}
use Rattle.toml_edit_slots.specs.SlotIndex.{IsIndexed, MayIndex}
use Rattle.toml_edit_slots.specs.declared.index.Index.{Index}
use Rattle.toml_edit_slots.specs.InPlace.{by_place, replaced}
use Rattle.toml_edit_slots.proofs.SlotLaws.{some_next}
use Rattle.toml_edit_slots.proofs.KeptLaws.{may_index}

-- one of the texts is this one
abbrev has : Text → List Text → Bool
has t us = is_some (place_in t us)

has-next : (t u : Text) (us : List Text) → has t (u ∷ us) ≡ (same_text t u || has t us)
has-next t u us = by_test (same_text t u) (place_in t us)
  where
    by_test : (b : Bool) (o : Option ℕ) → is_some (if b then Some 0 else option_map suc o) ≡ (b || is_some o)
    by_test true o = refl
    by_test false None = refl
    by_test false (Some i) = refl

or-swap : (a b c : Bool) → (a || (b || c)) ≡ (b || (a || c))
or-swap true true c = refl
or-swap true false c = refl
or-swap false b c = refl

module _ {T : Type 0} where
  -- ---- whether they are in order

  -- they are, and the first doesn't begin before this byte
  abbrev pub starts_from : ℕ → List (Slot T) → Bool
  starts_from n [] = true
  starts_from n (s ∷ es) = nat_le n (key_place s.key) && is_sorted_by by_place (s ∷ es)

  -- slots that are in order stay
  pub sorted-stays : (es : List (Slot T)) → is_sorted_by by_place es ≡ true → sorted_by by_place es ≡ es
  sorted-stays [] h = refl
  sorted-stays (s ∷ []) h = refl
  sorted-stays (s ∷ t ∷ es) h = by_first (by_place s t) refl h (λ g. sorted-stays (t ∷ es) g)
    where
      by_first : (b : Bool) → by_place s t ≡ b → (b && is_sorted_by by_place (t ∷ es)) ≡ true
          → (is_sorted_by by_place (t ∷ es) ≡ true → sorted_by by_place (t ∷ es) ≡ t ∷ es)
          → sorted_by by_place (s ∷ t ∷ es) ≡ s ∷ t ∷ es
      by_first true e g stays = ap (insert_by by_place s) (stays g) ∙ rw e refl
      by_first false e g stays = absurd cc

  -- ---- the names stay

  has-inserted : (t : Text) (s : Slot T) (es : List (Slot T)) → has t (names (insert_by by_place s es)) ≡ has t (names (s ∷ es))
  has-inserted t s [] = refl
  has-inserted t s (e ∷ es) =
      elim (cases_Bool (by_place s e)) [
        | inl first ↦ rw first refl
        | inr behind ↦
            rw behind (has-next t e.key.name (names (insert_by by_place s es))
            ∙ ap (λ b. same_text t e.key.name || b) (has-inserted t s es ∙ has-next t s.key.name (names es))
            ∙ or-swap (same_text t e.key.name) (same_text t s.key.name) (has t (names es))
            ∙ ap (λ b. same_text t s.key.name || b) (sym (has-next t e.key.name (names es)))
            ∙ sym (has-next t s.key.name (names (e ∷ es))))
      ]

  has-sorted : (t : Text) (es : List (Slot T)) → has t (names (sorted_by by_place es)) ≡ has t (names es)
  has-sorted t [] = refl
  has-sorted t (s ∷ es) =
      has-inserted t s (sorted_by by_place es) ∙ has-next t s.key.name (names (sorted_by by_place es))
      ∙ ap (λ b. same_text t s.key.name || b) (has-sorted t es) ∙ sym (has-next t s.key.name (names es))

  long-inserted : (s : Slot T) (es : List (Slot T)) → length (names (insert_by by_place s es)) ≡ suc (length (names es))
  long-inserted s [] = refl
  long-inserted s (e ∷ es) =
      elim (cases_Bool (by_place s e)) [
        | inl first ↦ rw first refl
        | inr behind ↦ rw behind (ap suc (long-inserted s es))
      ]

  long-sorted : (es : List (Slot T)) → length (names (sorted_by by_place es)) ≡ length (names es)
  long-sorted [] = refl
  long-sorted (s ∷ es) = long-inserted s (sorted_by by_place es) ∙ ap suc (long-sorted es)

  all-inserted : (P : Text → Type 0) (s : Slot T) (es : List (Slot T)) → P s.key.name → AllByRecursion P (names es)
      → AllByRecursion P (names (insert_by by_place s es))
  all-inserted P s [] p a = (p, tt)
  all-inserted P s (e ∷ es) p a =
      elim (cases_Bool (by_place s e)) [
        | inl first ↦ rw first (p, a)
        | inr behind ↦ rw behind (a.0, all-inserted P s es p a.1)
      ]

  all-sorted : (P : Text → Type 0) (es : List (Slot T)) → AllByRecursion P (names es) → AllByRecursion P (names (sorted_by by_place es))
  all-sorted P [] a = tt
  all-sorted P (s ∷ es) a = all-inserted P s (sorted_by by_place es) a.0 (all-sorted P es a.1)

  apart-inserted : (s : Slot T) (es : List (Slot T)) → AllByRecursion (λ y. same_text s.key.name y ≡ false) (names es) → AreApart es
      → AreApart (insert_by by_place s es)
  unfolding IsDistinct
  apart-inserted s [] a h = (tt, tt)
  apart-inserted s (e ∷ es) a h =
      elim (cases_Bool (by_place s e)) [
        | inl first ↦ rw first (a, h)
        | inr behind ↦
            rw behind (
              all-inserted (λ y. same_text e.key.name y ≡ false) s es (nat_list_eq_equiv.symm e.key.name s.key.name ∙ a.0) h.0,
              apart-inserted s es a.1 h.1,
            )
      ]

  pub apart-sorted : (es : List (Slot T)) → AreApart es → AreApart (sorted_by by_place es)
  unfolding IsDistinct
  apart-sorted [] h = tt
  apart-sorted (s ∷ es) h =
      apart-inserted s (sorted_by by_place es) (all-sorted (λ y. same_text s.key.name y ≡ false) es h.0) (apart-sorted es h.1)

  -- the index has their names still
  pub texts-sorted : (o : Option (Box Index)) (es : List (Slot T)) → IsIndexed o (names es)
      → MayIndex o (names (sorted_by by_place es))
  texts-sorted o es h =
      let long : length (names (sorted_by by_place es)) ≤ length (names es) = omega (arith, long-sorted es) in
      may_index o (names es) (names (sorted_by by_place es)) h long (λ t some. sym (has-sorted t es) ∙ some)

  -- ---- a slot in the place of another

  pub name-at : (t : Text) (es : List (Slot T)) (i : ℕ) (d : Slot T) → place t es ≡ Some i → t ≡ (get_or es i d).key.name
  name-at t [] i d h = absurd (none-some i h)
  name-at t (s ∷ es) i d h =
      elim (cases_Bool (is_at t s)) [
        | inl same ↦ let e : 0 ≡ i = same_Some 0 i (rw same at h) in rw (← e) ((bytes_eq-Decides t s.key.name).0 same)
        | inr other ↦ let (j, at, e) = some_next (place t es) i (rw other at h) in rw e (name-at t es j d at)
      ]

  pub replaced-set : (s : Slot T) (es : List (Slot T)) (i : ℕ) → place s.key.name es ≡ Some i → replaced s es ≡ set es i s
  replaced-set s [] i h = absurd (none-some i h)
  replaced-set s (e ∷ es) i h =
      elim (cases_Bool (is_at s.key.name e)) [
        | inl same ↦ let is : 0 ≡ i = same_Some 0 i (rw same at h) in rw (same, ← is) refl
        | inr other ↦ let (j, at, is) = some_next (place s.key.name es) i (rw other at h) in
            rw (other, is) (ap (λ l. e ∷ l) (replaced-set s es j at))
      ]
