-- Where texts stand in a list.
use Rattle.std.proofs.Common.{◌≡◌, ℕ, zero, suc, ◌+◌, ◌-◌, ◌<◌, ◌≤◌, true, false, List, [], ◌∷◌, ◌++◌, Option, Some, None, option_map}
use Rattle.std.proofs.Common.{is_some, length, remove, take, refl, sym, ap, subst, ◌∙◌, inl, inr, ◌⊎◌, arith, slice_get}
use Rattle.std.proofs.lemmas.Bool.{cases_Bool, false≢true}
use Rattle.std.proofs.lemmas.Cmp.{nat_list_eq_equiv}
use Rattle.std.proofs.lemmas.Option.{none-some, same_Some, slice_get_within}
use Rattle.std.proofs.lemmas.Slice.Eq.{bytes_eq-Decides}
use Rattle.std.specs.List.{IsDistinct, AllByRecursion}
use Rattle.toml_edit_model.specs.Text.{Text, same_text}
use Rattle.toml_edit_slots.specs.declared.slots.Slot.{Slot}
use Rattle.toml_edit_slots.specs.Slots.{names, place_in}
use Rattle.toml_edit_slots.proofs.SlotLaws.{some_next}

pub cases_option : {A : Type 0} (o : Option A) → (o ≡ None) ⊎ ((x : A) × (o ≡ Some x))
cases_option None = inl refl
cases_option (Some x) = inr (x, refl)

pub none_of : {A : Type 0} (o : Option A) → is_some o ≡ false → o ≡ None
none_of None h = refl
none_of (Some x) h = absurd (false≢true (sym h))

-- what holds of all texts holds of the one at a place
all_in : (P : Text → Type 0) (us : List Text) (i : ℕ) (t : Text) → slice_get us i ≡ Some t → AllByRecursion P us → P t
all_in P [] i t h a = absurd (omega (arith, slice_get_within [] i t h))
all_in P (u ∷ us) zero t h a = subst P (same_Some u t h) a.0
all_in P (u ∷ us) (suc i) t h a = all_in P us i t h a.1

-- equal texts have one place
pub place_in-congr : (t u : Text) → same_text t u ≡ true → (us : List Text) → place_in t us ≡ place_in u us
place_in-congr t u e [] = refl
place_in-congr t u e (v ∷ us) = rw (nat_list_eq_equiv.congr t u v e, place_in-congr t u e us) refl

-- a text of distinct ones has its own place
pub place_in-own : (us : List Text) (i : ℕ) (t : Text) → slice_get us i ≡ Some t → IsDistinct same_text us → place_in t us ≡ Some i
unfolding IsDistinct
place_in-own [] i t h a = absurd (omega (arith, slice_get_within [] i t h))
place_in-own (u ∷ us) zero t h a = rw (← same_Some u t h, nat_list_eq_equiv.refl u) refl
place_in-own (u ∷ us) (suc i) t h a =
    let other : same_text t u ≡ false = nat_list_eq_equiv.symm t u ∙ all_in (λ y. same_text u y ≡ false) us i t h a.0 in
    rw (other, place_in-own us i t h a.1) refl

-- the text is at its place
pub place_in-is : (t : Text) (us : List Text) (j : ℕ) → place_in t us ≡ Some j → slice_get us j ≡ Some t
place_in-is t [] j h = absurd (none-some j h)
place_in-is t (u ∷ us) j h =
    elim (cases_Bool (same_text t u)) [
      | inl same ↦
          let e : 0 ≡ j = same_Some 0 j (rw same at h) in
          let is : t ≡ u = (bytes_eq-Decides t u).0 same in
          rw (← e, is) refl
      | inr other ↦ let (k, at, e) = some_next (place_in t us) j (rw other at h) in rw e (place_in-is t us k at)
    ]

-- ---- a text taken out

-- what holds of all texts does so once one is gone
all_removed : (P : Text → Type 0) (us : List Text) (i : ℕ) → AllByRecursion P us → AllByRecursion P (remove us i)
all_removed P [] zero a = tt
all_removed P [] (suc i) a = tt
all_removed P (u ∷ us) zero a = a.1
all_removed P (u ∷ us) (suc i) a = (a.0, all_removed P us i a.1)

pub distinct-removed : (us : List Text) (i : ℕ) → IsDistinct same_text us → IsDistinct same_text (remove us i)
unfolding IsDistinct
distinct-removed [] zero a = tt
distinct-removed [] (suc i) a = tt
distinct-removed (u ∷ us) zero a = a.1
distinct-removed (u ∷ us) (suc i) a = (all_removed (λ y. same_text u y ≡ false) us i a.0, distinct-removed us i a.1)

pub some_after : (o : Option ℕ) → is_some o ≡ true → is_some (option_map suc o) ≡ true
some_after None h = h
some_after (Some j) h = refl

-- a text that stands somewhere has a place
pub some_place : (us : List Text) (k : ℕ) (t u : Text) → slice_get us k ≡ Some u → same_text t u ≡ true → is_some (place_in t us) ≡ true
some_place [] k t u is same = absurd (omega (arith, slice_get_within [] k u is))
some_place (w ∷ us) zero t u is same = rw (same_Some w u is, same) refl
some_place (w ∷ us) (suc k) t u is same =
    elim (cases_Bool (same_text t w)) [
      | inl here ↦ rw here refl
      | inr other ↦ rw other (some_after (place_in t us) (some_place us k t u is same))
    ]

-- what stands before the place stays there
pub before-removed : (us : List Text) (i k : ℕ) → k < i → slice_get (remove us i) k ≡ slice_get us k
before-removed [] zero k h = refl
before-removed [] (suc i) k h = refl
before-removed (u ∷ us) zero k h = absurd (omega (arith, h))
before-removed (u ∷ us) (suc i) zero h = refl
before-removed (u ∷ us) (suc i) (suc k) h = before-removed us i k (omega (arith, h))

-- what stands behind the place comes one place down
pub behind-removed : (us : List Text) (i k : ℕ) → i ≤ k → slice_get (remove us i) k ≡ slice_get us (suc k)
behind-removed [] zero k h = refl
behind-removed [] (suc i) k h = refl
behind-removed (u ∷ us) zero k h = refl
behind-removed (u ∷ us) (suc i) zero h = absurd (omega (arith, h))
behind-removed (u ∷ us) (suc i) (suc k) h = behind-removed us i k (omega (arith, h))

pub names-removed : {T : Type 0} (es : List (Slot T)) (i : ℕ) → names (remove es i) ≡ remove (names es) i
names-removed [] zero = refl
names-removed [] (suc i) = refl
names-removed (s ∷ es) zero = refl
names-removed (s ∷ es) (suc i) = ap (λ l. s.key.name ∷ l) (names-removed es i)

pub names-push : {T : Type 0} (es : List (Slot T)) (s : Slot T) → names (es ++ s ∷ []) ≡ names es ++ s.key.name ∷ []
names-push [] s = refl
names-push (x ∷ es) s = ap (λ l. x.key.name ∷ l) (names-push es s)

pub length-names : {T : Type 0} (es : List (Slot T)) → length (names es) ≡ length es
length-names [] = refl
length-names (s ∷ es) = ap suc (length-names es)

pub names-get : {T : Type 0} (es : List (Slot T)) (i : ℕ) (s : Slot T) → slice_get es i ≡ Some s → slice_get (names es) i ≡ Some s.key.name
names-get [] i s h = absurd (omega (arith, slice_get_within [] i s h))
names-get (x ∷ es) zero s h = ap (λ (y : Slot _). Some y.key.name) (same_Some x s h)
names-get (x ∷ es) (suc i) s h = names-get es i s h

-- the name behind a gap, once the gap is closed
pub name-behind : {T : Type 0} (es : List (Slot T)) (gap at : ℕ) (s : Slot T) → gap < at → slice_get es at ≡ Some s
    → slice_get (remove (names es) gap) (at - 1) ≡ Some s.key.name
name-behind es gap zero s h is = absurd (omega (arith, h))
name-behind es gap (suc at) s h is =
    let one : suc at - 1 ≡ at = omega arith in
    ap (slice_get (remove (names es) gap)) one ∙ behind-removed (names es) gap at (omega (arith, h)) ∙ names-get es (suc at) s is

pub long-removed : (us : List Text) (i : ℕ) → i < length us → length us ≡ length (remove us i) + 1
long-removed [] i h = absurd (omega (arith, h))
long-removed (u ∷ us) zero h = omega arith
long-removed (u ∷ us) (suc i) h = omega (arith, long-removed us i (omega (arith, h)))

pub take-next : (us : List Text) (i : ℕ) (u : Text) → slice_get us i ≡ Some u → take (suc i) us ≡ take i us ++ u ∷ []
take-next [] i u h = absurd (omega (arith, slice_get_within [] i u h))
take-next (v ∷ us) zero u h = ap (λ x. x ∷ []) (same_Some v u h)
take-next (v ∷ us) (suc i) u h = ap (λ l. v ∷ l) (take-next us i u h)

pub take-new : (us : List Text) (i : ℕ) (u : Text) → slice_get us i ≡ Some u → IsDistinct same_text us → place_in u (take i us) ≡ None
unfolding IsDistinct
take-new [] i u h a = absurd (omega (arith, slice_get_within [] i u h))
take-new (v ∷ us) zero u h a = refl
take-new (v ∷ us) (suc i) u h a =
    let other : same_text u v ≡ false = nat_list_eq_equiv.symm u v ∙ all_in (λ y. same_text v y ≡ false) us i u h a.0 in
    rw (other, take-new us i u h a.1) refl

pub take-all : (us : List Text) (n : ℕ) → length us ≤ n → take n us ≡ us
take-all [] zero h = refl
take-all [] (suc n) h = refl
take-all (u ∷ us) zero h = absurd (omega (arith, h))
take-all (u ∷ us) (suc n) h = ap (λ l. u ∷ l) (take-all us n (omega (arith, h)))

pub names-take : {T : Type 0} (es : List (Slot T)) (n : ℕ) → names (take n es) ≡ take n (names es)
names-take [] zero = refl
names-take [] (suc n) = refl
names-take (s ∷ es) zero = refl
names-take (s ∷ es) (suc n) = ap (λ l. s.key.name ∷ l) (names-take es n)

all_taken : (P : Text → Type 0) (us : List Text) (n : ℕ) → AllByRecursion P us → AllByRecursion P (take n us)
all_taken P [] zero a = tt
all_taken P [] (suc n) a = tt
all_taken P (u ∷ us) zero a = tt
all_taken P (u ∷ us) (suc n) a = (a.0, all_taken P us n a.1)

pub distinct-taken : (us : List Text) (n : ℕ) → IsDistinct same_text us → IsDistinct same_text (take n us)
unfolding IsDistinct
distinct-taken [] zero a = tt
distinct-taken [] (suc n) a = tt
distinct-taken (u ∷ us) zero a = tt
distinct-taken (u ∷ us) (suc n) a = (all_taken (λ y. same_text u y ≡ false) us n a.0, distinct-taken us n a.1)
