-- What a place says of the slots: its slot, and the slots once that one is another or gone.
use Rattle.std.proofs.Common.{◌≡◌, Result, Ok, Err, OnOk, ℕ, zero, suc, ◌+◌, ◌<◌, true, false, List, [], ◌∷◌, ◌++◌, Option}
use Rattle.std.proofs.Common.{Some, None, IfSome, option_map, length, get_or, set, remove, refl, sym, ap, subst, ◌∙◌, inl, inr, arith}
use Rattle.std.proofs.Common.{rules, position, slice_get, take, option_and_then}
use Rattle.std.proofs.lemmas.Bool.{cases_Bool}
use Rattle.std.proofs.lemmas.Cmp.{nat_list_eq_equiv}
use Rattle.std.proofs.lemmas.Option.{none-some, same_Some, slice_get_cases, slice_get-get_or, slice_get_within, get_or_from_slice_get}
use Rattle.std.proofs.lemmas.Slice.Eq.{bytes_eq-Decides}
use Rattle.std.specs.List.{position_or_len, IsDistinct, AllByRecursion}
use Rattle.toml_edit_model.specs.Text.{Text, same_text}
use Rattle.toml_edit_model.specs.Tree.{Key}
use Rattle.toml_edit_model.specs.Keys.{new_key, reset_key}
use Rattle.toml_edit_slots.specs.declared.slots.Slot.{Slot}
use Rattle.toml_edit_slots.specs.Slots.{is_at, names, AreApart, place, lookup, lookup_slot, put, without, items_of, with_item, on_key}
use Rattle.toml_edit_laws.proofs.slots.Places.{next_place, none_next}

-- a place after the first slot is one of the others
pub some_next : (o : Option ℕ) (i : ℕ) → option_map suc o ≡ Some i → (j : ℕ) × (o ≡ Some j) × (i ≡ suc j)
some_next None i h = absurd (none-some i h)
some_next (Some j) i h = (j, refl, sym (same_Some (suc j) i h))

module _ {T : Type 0} (t : Text) where
  -- the place is the position of the first slot that passes the test
  pub place-position : (es : List (Slot T)) → position (is_at t) es ≡ place t es
  place-position [] = refl
  place-position (s ∷ es) =
      elim (cases_Bool (is_at t s)) [
        | inl same ↦ rw same (grind (arith, rules))
        | inr other ↦ rw (other, ← place-position es) (next_place (position_or_len (is_at t) es) (length es))
      ]

  -- what is found is the slot at the place
  pub lookup_slot-present : (es : List (Slot T)) (i : ℕ) (d : Slot T) → place t es ≡ Some i → lookup_slot t es ≡ Some (get_or es i d)
  lookup_slot-present [] i d h = absurd (none-some i h)
  lookup_slot-present (s ∷ es) i d h =
      elim (cases_Bool (is_at t s)) [
        | inl same ↦ let e : 0 ≡ i = same_Some 0 i (rw same at h) in rw (same, ← e) refl
        | inr other ↦ let (j, at, e) = some_next (place t es) i (rw other at h) in rw (other, e) (lookup_slot-present es j d at)
      ]

  -- nothing is found where there is no place
  pub lookup_slot-absent : (es : List (Slot T)) → place t es ≡ None → lookup_slot t es ≡ None
  lookup_slot-absent [] h = refl
  lookup_slot-absent (s ∷ es) h =
      elim (cases_Bool (is_at t s)) [
        | inl same ↦ absurd (none-some 0 (sym (rw same at h)))
        | inr other ↦ rw other (lookup_slot-absent es (none_next (place t es) (rw other at h)))
      ]

  -- at a text that is there, its slot is replaced
  pub put-present : (es : List (Slot T)) (i : ℕ) (d : Slot T) (x : T) → place t es ≡ Some i → put t x es
      ≡ set es i (record { key = reset_key (get_or es i d).key; item = x })
  put-present [] i d x h = absurd (none-some i h)
  put-present (s ∷ es) i d x h =
      elim (cases_Bool (is_at t s)) [
        | inl same ↦ let e : 0 ≡ i = same_Some 0 i (rw same at h) in rw (same, ← e) refl
        | inr other ↦ let (j, at, e) = some_next (place t es) i (rw other at h) in rw (other, e) (ap (λ l. s ∷ l) (put-present es j d x at))
      ]

  -- the names stay
  pub names-put : (es : List (Slot T)) (i : ℕ) (x : T) → place t es ≡ Some i → names (put t x es) ≡ names es
  names-put [] i x h = absurd (none-some i h)
  names-put (s ∷ es) i x h =
      elim (cases_Bool (is_at t s)) [
        | inl same ↦ rw same refl
        | inr other ↦ let (j, at, e) = some_next (place t es) i (rw other at h) in rw other (ap (λ l. s.key.name ∷ l) (names-put es j x at))
      ]

  -- at a text that isn't there, a slot comes last
  pub put-absent : (es : List (Slot T)) (x : T) → place t es ≡ None → put t x es ≡ es ++ record { key = new_key t; item = x } ∷ []
  put-absent [] x h = refl
  put-absent (s ∷ es) x h =
      elim (cases_Bool (is_at t s)) [
        | inl same ↦ absurd (none-some 0 (sym (rw same at h)))
        | inr other ↦ rw other (ap (λ l. s ∷ l) (put-absent es x (none_next (place t es) (rw other at h))))
      ]

  -- the slot at the place is taken out
  pub without-present : (es : List (Slot T)) (i : ℕ) → place t es ≡ Some i → without t es ≡ remove es i
  without-present [] i h = absurd (none-some i h)
  without-present (s ∷ es) i h =
      elim (cases_Bool (is_at t s)) [
        | inl same ↦ let e : 0 ≡ i = same_Some 0 i (rw same at h) in rw (same, ← e) refl
        | inr other ↦ let (j, at, e) = some_next (place t es) i (rw other at h) in rw (other, e) (ap (λ l. s ∷ l) (without-present es j at))
      ]

  -- nothing is taken out where there is no place
  pub without-absent : (es : List (Slot T)) → place t es ≡ None → without t es ≡ es
  without-absent [] h = refl
  without-absent (s ∷ es) h =
      elim (cases_Bool (is_at t s)) [
        | inl same ↦ absurd (none-some 0 (sym (rw same at h)))
        | inr other ↦ rw other (ap (λ l. s ∷ l) (without-absent es (none_next (place t es) (rw other at h))))
      ]

  -- what holds of all names does so once a slot is gone
  all_without : (P : Text → Type 0) (es : List (Slot T)) → AllByRecursion P (names es) → AllByRecursion P (names (without t es))
  all_without P [] h = tt
  all_without P (s ∷ es) h =
      elim (cases_Bool (is_at t s)) [
        | inl same ↦ rw same h.1
        | inr other ↦ rw other (h.0, all_without P es h.1)
      ]

  -- slots stay apart once one is gone
  pub apart-without : (es : List (Slot T)) → AreApart es → AreApart (without t es)
  unfolding IsDistinct
  apart-without [] h = tt
  apart-without (s ∷ es) h =
      elim (cases_Bool (is_at t s)) [
        | inl same ↦ rw same h.1
        | inr other ↦ rw other (all_without (λ y. same_text s.key.name y ≡ false) es h.0, apart-without es h.1)
      ]

  -- what holds of all names, and of the text, does so once the text is there
  all_put : (P : Text → Type 0) (es : List (Slot T)) (x : T) → P t → AllByRecursion P (names es) → AllByRecursion P (names (put t x es))
  all_put P [] x p h = (p, tt)
  all_put P (s ∷ es) x p h =
      elim (cases_Bool (is_at t s)) [
        | inl same ↦ rw same h
        | inr other ↦ rw other (h.0, all_put P es x p h.1)
      ]

  -- slots stay apart once a text is there
  pub apart-put : (es : List (Slot T)) (x : T) → AreApart es → AreApart (put t x es)
  unfolding IsDistinct
  apart-put [] x h = (tt, tt)
  apart-put (s ∷ es) x h =
      elim (cases_Bool (is_at t s)) [
        | inl same ↦ rw same h
        | inr other ↦ rw other (
          all_put (λ y. same_text s.key.name y ≡ false) es x (nat_list_eq_equiv.symm s.key.name t ∙ other) h.0,
          apart-put es x h.1,
        )
      ]

module _ {T : Type 0} where
  -- another item in a slot is another slot at the place
  pub with_item-set : (es : List (Slot T)) (i : ℕ) (d : Slot T) (x : T) → with_item i x es
      ≡ set es i (record { key = (get_or es i d).key; item = x })
  with_item-set [] i d x = refl
  with_item-set (s ∷ es) zero d x = refl
  with_item-set (s ∷ es) (suc i) d x = ap (λ l. s ∷ l) (with_item-set es i d x)

  -- names don't change with an item
  pub names-with_item : (es : List (Slot T)) (i : ℕ) (x : T) → names (with_item i x es) ≡ names es
  names-with_item [] i x = refl
  names-with_item (s ∷ es) zero x = refl
  names-with_item (s ∷ es) (suc i) x = ap (λ l. s.key.name ∷ l) (names-with_item es i x)

  -- slots stay apart when an item changes
  pub apart-with_item : (es : List (Slot T)) (i : ℕ) (x : T) → AreApart es → AreApart (with_item i x es)
  apart-with_item es i x a = subst (IsDistinct same_text) (sym (names-with_item es i x)) a

  -- the item at a place is that of the slot at the place
  pub items_of-get : (es : List (Slot T)) (i : ℕ) (d : Slot T) → i < length es → slice_get (items_of es) i ≡ Some (get_or es i d).item
  items_of-get [] i d h = absurd (omega arith)
  items_of-get (s ∷ es) zero d h = refl
  items_of-get (s ∷ es) (suc i) d h = items_of-get es i d (omega arith)

-- equal texts have no place among names that the one is apart from
pub none_named : {T : Type 0} (t k : Text) (es : List (Slot T)) → same_text t k ≡ true
    → AllByRecursion (λ y. same_text k y ≡ false) (names es) → place t es ≡ None
none_named t k [] same all = refl
none_named t k (s ∷ es) same all =
    elim (cases_Bool (is_at t s)) [
      | inl here ↦ absurd (let e = sym all.0 ∙ (sym (nat_list_eq_equiv.congr t k s.key.name same) ∙ here) in cc)
      | inr other ↦ rw other (ap (option_map suc) (none_named t k es same all.1))
    ]

-- what is taken out has no place any more
pub place-without : {T : Type 0} (t : Text) (es : List (Slot T)) → AreApart es → place t (without t es) ≡ None
unfolding IsDistinct
place-without t [] a = refl
place-without t (s ∷ es) a =
    elim (cases_Bool (is_at t s)) [
      | inl same ↦ rw same (none_named t s.key.name es same a.0)
      | inr other ↦ rw (other, other) (ap (option_map suc) (place-without t es a.1))
    ]

-- slots stay apart when one with a new name comes last
pub apart-push : {T : Type 0} (es : List (Slot T)) (n : Slot T) → place n.key.name es ≡ None → AreApart es → AreApart (es ++ n ∷ [])
unfolding IsDistinct
apart-push [] n h a = (tt, tt)
apart-push (s ∷ es) n h a =
    elim (cases_Bool (is_at n.key.name s)) [
      | inl same ↦ absurd (none-some 0 (sym (rw same at h)))
      | inr other ↦ (
        all_push (λ y. same_text s.key.name y ≡ false) es n (nat_list_eq_equiv.symm s.key.name n.key.name ∙ other) a.0,
        apart-push es n (none_next (place n.key.name es) (rw other at h)) a.1,
      )
    ]
  where
    all_push : {T : Type 0} (P : Text → Type 0) (es : List (Slot T)) (n : Slot T) → P n.key.name → AllByRecursion P (names es)
        → AllByRecursion P (names (es ++ n ∷ []))
    all_push P [] n p q = (p, tt)
    all_push P (s ∷ es) n p q = (q.0, all_push P es n p q.1)

-- what stands under a text is the item at its place
pub lookup-at : {T : Type 0} (t : Text) (es : List (Slot T)) (i : ℕ) → place t es ≡ Some i → lookup t es ≡ slice_get (items_of es) i
lookup-at t [] i h = absurd (none-some i h)
lookup-at t (s ∷ es) i h =
    elim (cases_Bool (is_at t s)) [
      | inl same ↦ let e : 0 ≡ i = same_Some 0 i (rw same at h) in rw (same, ← e) refl
      | inr other ↦ let (j, at, e) = some_next (place t es) i (rw other at h) in rw (other, e) (lookup-at t es j at)
    ]

-- ---- what the calls answer of a place

-- what holds of all names holds of the one at a place
pub all_at : {T : Type 0} (P : Text → Type 0) (es : List (Slot T)) (i : ℕ) (d : Slot T) → i < length es → AllByRecursion P (names es)
    → P (get_or es i d).key.name
all_at P [] i d h a = absurd (omega arith)
all_at P (s ∷ es) zero d h a = a.0
all_at P (s ∷ es) (suc i) d h a = all_at P es i d (omega arith) a.1

-- a key of slots that are apart has no slot before its own
pub place-apart : {T : Type 0} (es : List (Slot T)) (i : ℕ) (d : Slot T) → i < length es → AreApart es
    → place (get_or es i d).key.name (take i es) ≡ None
unfolding IsDistinct
place-apart [] i d h a = absurd (omega arith)
place-apart (s ∷ es) zero d h a = refl
place-apart (s ∷ es) (suc i) d h a =
    let u = (get_or es i d).key.name in
    let other : same_text u s.key.name ≡ false = nat_list_eq_equiv.symm u s.key.name
    ∙ all_at (λ y. same_text s.key.name y ≡ false) es i d (omega arith) a.0 in
    rw (other, place-apart es i d (omega arith) a.1) refl

-- a place is below the number of slots
pub place-within : {T : Type 0} (t : Text) (es : List (Slot T)) (i : ℕ) → place t es ≡ Some i → i < length es
place-within t [] i h = absurd (none-some i h)
place-within t (s ∷ es) i h =
    elim (cases_Bool (is_at t s)) [
      | inl same ↦ let e : 0 ≡ i = same_Some 0 i (rw same at h) in omega (arith, e)
      | inr other ↦ let (j, at, e) = some_next (place t es) i (rw other at h) in omega (arith, e, place-within t es j at)
    ]

-- the same of any place that is found
pub places-within : {T : Type 0} (t : Text) (es : List (Slot T)) (o : Option ℕ) → o ≡ place t es → IfSome o (λ i. i < length es)
places-within t es None h = tt
places-within t es (Some i) h = place-within t es i (sym h)

-- the slot at the place, if there is one, is the one that is found
pub slot-at : {T : Type 0} (t : Text) (es : List (Slot T)) (o : Option ℕ) → place t es ≡ o → option_and_then (slice_get es) o
    ≡ lookup_slot t es
slot-at t es None h = sym (lookup_slot-absent t es h)
slot-at t es (Some i) h =
    elim (slice_get_cases es i).1 [
      | inl (x, below, is, same) ↦ slice_get-get_or es i x below ∙ sym (lookup_slot-present t es i x h)
      | inr (past, none) ↦ absurd (omega (arith, place-within t es i h))
    ]

-- no slot has the name of one before it
pub apart-at : {T : Type 0} (es : List (Slot T)) (i : ℕ) (s : Slot T) → AreApart es → slice_get es i ≡ Some s → place s.key.name (take i es)
    ≡ None
apart-at es i s a is =
    subst (λ (x : Slot _). place x.key.name (take i es)
    ≡ None) (get_or_from_slice_get es i s s is) (place-apart es i s (slice_get_within es i s is) a)

-- ---- another slot at a place, whose key has the name of the one there
module _ {T : Type 0} where
  -- the names stay
  pub names-set : (es : List (Slot T)) (i : ℕ) (d s : Slot T) → s.key.name ≡ (get_or es i d).key.name → names (set es i s) ≡ names es
  names-set [] i d s e = refl
  names-set (x ∷ es) zero d s e = ap (λ l. l ∷ names es) e
  names-set (x ∷ es) (suc i) d s e = ap (λ l. x.key.name ∷ l) (names-set es i d s e)

  -- the items stay, where the new slot has the old one's
  pub items-set : (es : List (Slot T)) (i : ℕ) (d s : Slot T) → s.item ≡ (get_or es i d).item → items_of (set es i s) ≡ items_of es
  items-set [] i d s e = refl
  items-set (x ∷ es) zero d s e = ap (λ l. l ∷ items_of es) e
  items-set (x ∷ es) (suc i) d s e = ap (λ l. x.item ∷ l) (items-set es i d s e)

  -- the slots stay apart
  pub apart-set : (es : List (Slot T)) (i : ℕ) (d s : Slot T) → s.key.name ≡ (get_or es i d).key.name → AreApart es → AreApart (set es i s)
  apart-set es i d s e a = subst (IsDistinct same_text) (sym (names-set es i d s e)) a

-- what follows from a fact holds wherever that does
pub on_ok : {X E P Q : Type 0} (r : Result X E) → (P → Q) → OnOk r P → OnOk r Q
on_ok (Ok x) f p = f p
on_ok (Err e) f p = tt

-- a slot whose key was changed
pub on_key-is : {T : Type 0} (h : Key → Key) (es : List (Slot T)) (i : ℕ) (d : Slot T) (k : Key) → d ≡ get_or es i d → k ≡ h d.key
    → set es i (record { key = k; item = d.item }) ≡ on_key i h es
on_key-is h [] i d k e p = refl
on_key-is h (s ∷ es) zero d k e p = ap (λ l. l ∷ es) (λ j. record { key = (p ∙ ap (λ (x : Slot _). h x.key) e) j; item = (e j).item })
on_key-is h (s ∷ es) (suc i) d k e p = ap (λ l. s ∷ l) (on_key-is h es i d k e p)

-- the slot at the place of a text has its name
pub named-at : {T : Type 0} (t : Text) (es : List (Slot T)) (i : ℕ) (d : Slot T) → place t es ≡ Some i → (get_or es i d).key.name ≡ t
named-at t [] i d h = absurd (none-some i h)
named-at t (s ∷ es) i d h =
    elim (cases_Bool (is_at t s)) [
      | inl same ↦
          let e : 0 ≡ i = same_Some 0 i (rw same at h) in
          let is : t ≡ s.key.name = (bytes_eq-Decides t s.key.name).0 same in
          rw (← e) (sym is)
      | inr other ↦ let (j, at, e) = some_next (place t es) i (rw other at h) in rw e (named-at t es j d at)
    ]

-- ---- a key changed in its slot, where its name stays
module _ {T : Type 0} (h : Key → Key) where
  pub on_key-set : (es : List (Slot T)) (i : ℕ) (d : Slot T) → on_key i h es
      ≡ set es i (record { key = h (get_or es i d).key; item = (get_or es i d).item })
  on_key-set [] i d = refl
  on_key-set (s ∷ es) zero d = refl
  on_key-set (s ∷ es) (suc i) d = ap (λ l. s ∷ l) (on_key-set es i d)

  pub names-on_key : ((k : Key) → (h k).name ≡ k.name) → (es : List (Slot T)) (i : ℕ) → names (on_key i h es) ≡ names es
  names-on_key e [] i = refl
  names-on_key e (s ∷ es) zero = ap (λ n. n ∷ names es) (e s.key)
  names-on_key e (s ∷ es) (suc i) = ap (λ l. s.key.name ∷ l) (names-on_key e es i)

  pub apart-on_key : ((k : Key) → (h k).name ≡ k.name) → (es : List (Slot T)) (i : ℕ) → AreApart es → AreApart (on_key i h es)
  apart-on_key e es i a = subst (IsDistinct same_text) (sym (names-on_key e es i)) a

-- what is read of the slot at a place
pub read-at : {T X : Type 0} (f : Slot T → X) (es : List (Slot T)) (i : ℕ) (d : Slot T) → i < length es → option_map f (slice_get es i)
    ≡ Some (f (get_or es i d))
read-at f [] i d h = absurd (omega (arith, h))
read-at f (s ∷ es) zero d h = refl
read-at f (s ∷ es) (suc i) d h = read-at f es i d (omega (arith, h))

-- a slot of slots that are apart is that of its name
pub place-own : {T : Type 0} (es : List (Slot T)) (i : ℕ) (d : Slot T) → i < length es → AreApart es → place (get_or es i d).key.name es
    ≡ Some i
unfolding IsDistinct
place-own [] i d h a = absurd (omega (arith, h))
place-own (s ∷ es) zero d h a = rw (nat_list_eq_equiv.refl s.key.name) refl
place-own (s ∷ es) (suc i) d h a =
    let u = (get_or es i d).key.name in
    let other : same_text u s.key.name ≡ false = nat_list_eq_equiv.symm u s.key.name
    ∙ all_at (λ y. same_text s.key.name y ≡ false) es i d (omega (arith, h)) a.0 in
    rw (other, place-own es i d (omega (arith, h)) a.1) refl
