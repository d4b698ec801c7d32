-- Slots that are kept, and slots in another order.
use Rattle.std.proofs.Common.{◌≡◌, ℕ, suc, ◌≤◌, Bool, true, false, cond, List, [], ◌∷◌, Option, Some, None, option_map, is_some, length}
use Rattle.std.proofs.Common.{refl, sym, ap, ◌∙◌, inl, inr, arith, IsPermutation}
use Rattle.std.proofs.lemmas.Bool.{cases_Bool, false≢true}
use Rattle.std.proofs.lemmas.Cmp.{nat_list_eq_equiv}
use Rattle.std.proofs.lemmas.List.Sorted.{IsPermutation-map, length_permutation, list_any-IsPermutation}
use Rattle.std.proofs.lemmas.Map.Keys.{IsDistinct-IsPermutation}
use Rattle.std.specs.Global.{Box}
use Rattle.std.specs.List.{IsDistinct, AllByRecursion, list_any}
use Rattle.toml_edit_model.specs.Text.{Text, same_text}
use Rattle.toml_edit_model.specs.Retaining.{RetainsBy}
use Rattle.toml_edit_slots.specs.declared.slots.Slot.{Slot}
use Rattle.toml_edit_slots.specs.Slots.{AreApart, is_at, names, place, place_in}
use Rattle.toml_edit_slots.specs.SlotIndex.{HasRoom, IsIndex, IsIndexed, MayIndex}
use Rattle.toml_edit_slots.specs.declared.index.Index.{Index}
use Rattle.toml_edit_slots.specs.declared.index.Index.TheVariants.{Hashed, Sorted}
use Rattle.toml_edit_slots.proofs.IndexLaws.{place_in-is, some_after, some_place}
use Rattle.toml_edit_slots.proofs.PlacesLaws.{texts-among}

pub some_before : (o : Option ℕ) → is_some (option_map suc o) ≡ true → is_some o ≡ true
some_before None h = h
some_before (Some j) h = refl

is_some_then : (o : Option ℕ) → is_some o ≡ true → (k : ℕ) × (o ≡ Some k)
is_some_then None h = absurd (false≢true h)
is_some_then (Some k) h = (k, refl)

-- an index of some texts has room for others among them
pub has_room : (x : Index) (us vs : List Text) → IsIndex x us → length vs ≤ length us
    → ((t : Text) → is_some (place_in t vs) ≡ true → is_some (place_in t us) ≡ true) → HasRoom x vs
has_room (Hashed m) us vs is long among = λ t there. ap is_some (is t) ∙ among t there
has_room (Sorted m) us vs is long among =
    texts-among us vs m is (λ k t there.
    let place = is_some_then (place_in t us) (among t (some_place vs k t t there (nat_list_eq_equiv.refl t))) in
    (place.0, place_in-is t us place.0 place.1))

pub may_index : (o : Option (Box Index)) (us vs : List Text) → IsIndexed o us → length vs ≤ length us
    → ((t : Text) → is_some (place_in t vs) ≡ true → is_some (place_in t us) ≡ true) → MayIndex o vs
may_index None us vs is long among = omega (arith, is, long)
may_index (Some x) us vs is long among = has_room x.value us vs is long among

-- ---- slots that are kept

module _ {T : Type 0} (says : Slot T → Bool → Type 0) where
  all-chosen : (P : Text → Type 0) (b : Bool) (s : Slot T) (es : List (Slot T)) → P s.key.name → AllByRecursion P (names es)
      → AllByRecursion P (names (cond b (s ∷ es) es))
  all-chosen P true s es p a = (p, a)
  all-chosen P false s es p a = a

  all-kept : (P : Text → Type 0) (es fs : List (Slot T)) → RetainsBy says es fs → AllByRecursion P (names es) → AllByRecursion P (names fs)
  all-kept P [] fs r a = rw r tt
  all-kept P (s ∷ es) fs r a = rw r.4 (all-chosen P r.0 s r.1 a.0 (all-kept P es r.1 r.3 a.1))

  apart-chosen : (b : Bool) (s : Slot T) (es : List (Slot T)) → AllByRecursion (λ u. same_text s.key.name u ≡ false) (names es)
      → AreApart es → AreApart (cond b (s ∷ es) es)
  unfolding IsDistinct
  apart-chosen true s es a d = (a, d)
  apart-chosen false s es a d = d

  pub apart-kept : (es fs : List (Slot T)) → RetainsBy says es fs → AreApart es → AreApart fs
  unfolding IsDistinct
  apart-kept [] fs r d = rw r tt
  apart-kept (s ∷ es) fs r d =
      rw r.4 (apart-chosen r.0 s r.1 (all-kept (λ u. same_text s.key.name u ≡ false) es r.1 r.3 d.0) (apart-kept es r.1 r.3 d.1))

  place-chosen : (t : Text) (b : Bool) (s : Slot T) (es : List (Slot T)) → is_at t s ≡ false → is_some (place t (cond b (s ∷ es) es)) ≡ true
      → is_some (place t es) ≡ true
  place-chosen t true s es other h = some_before (place t es) (rw other at h)
  place-chosen t false s es other h = h

  pub place-kept : (t : Text) (es fs : List (Slot T)) → RetainsBy says es fs → is_some (place t fs) ≡ true → is_some (place t es) ≡ true
  place-kept t [] fs r h = rw r at h
  place-kept t (s ∷ es) fs r h =
      elim (cases_Bool (is_at t s)) [
        | inl same ↦ rw same refl
        | inr other ↦ rw other (some_after (place t es) (place-kept t es r.1 r.3 (place-chosen t r.0 s r.1 other (rw r.4 at h))))
      ]

  length-chosen : (b : Bool) (s : Slot T) (es : List (Slot T)) (n : ℕ) → length es ≤ n → length (cond b (s ∷ es) es) ≤ suc n
  length-chosen true s es n h = omega (arith, h)
  length-chosen false s es n h = omega (arith, h)

  pub length-kept : (es fs : List (Slot T)) → RetainsBy says es fs → length fs ≤ length es
  length-kept [] fs r = rw r (omega arith)
  length-kept (s ∷ es) fs r = rw r.4 (length-chosen r.0 s r.1 (length es) (length-kept es r.1 r.3))

-- ---- slots in another order

place-any : (t : Text) (us : List Text) → is_some (place_in t us) ≡ list_any (same_text t) us
place-any t [] = refl
place-any t (u ∷ us) =
    elim (cases_Bool (same_text t u)) [
      | inl same ↦ rw same refl
      | inr other ↦ rw other (some_next (place_in t us) ∙ place-any t us)
    ]
  where
    some_next : (o : Option ℕ) → is_some (option_map suc o) ≡ is_some o
    some_next None = refl
    some_next (Some j) = refl

module _ {T : Type 0} (es fs : List (Slot T)) (same : IsPermutation es fs) where
  abbrev permuted : IsPermutation (names es) (names fs)
  permuted = IsPermutation-map (λ (s : Slot T). s.key.name) es fs same

  pub apart-permuted : AreApart es → AreApart fs
  apart-permuted a = IsDistinct-IsPermutation same_text nat_list_eq_equiv.symm (names es) (names fs) permuted a

  pub place-permuted : (t : Text) → is_some (place t fs) ≡ is_some (place t es)
  place-permuted t = place-any t (names fs) ∙ sym (list_any-IsPermutation (same_text t) (names es) (names fs) permuted)
      ∙ sym (place-any t (names es))

  pub length-permuted : length fs ≡ length es
  length-permuted = length_permutation es fs same
