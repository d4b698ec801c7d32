-- Places in maps, and how they change.
use Rattle.std.proofs.Common.{◌≡◌, ℕ, zero, suc, ◌+◌, ◌-◌, ◌<◌, ◌≤◌, if◌then◌else◌, Bool, true, false, cond, List, [], ◌∷◌, ◌++◌, filter, Option, Some, None, option_map}
use Rattle.std.proofs.Common.{is_some, length, remove, refl, sym, ap, subst, ◌∙◌, inl, inr, arith, string_bytes, slice_get}
use Rattle.std.proofs.lemmas.Bool.{cases_Bool, cases_lt, false≢true, le-ltb, lt-ltb}
use Rattle.std.proofs.lemmas.Cmp.{nat_list_eq_equiv}
use Rattle.std.proofs.lemmas.Map.Text.{is_text}
use Rattle.std.proofs.lemmas.Option.{none-some, same_Some, slice_get_within}
use Rattle.std.proofs.lemmas.Slice.Eq.{bytes_eq-Decides}
use Rattle.std.specs.List.{IsDistinct, AllByRecursion}
use Rattle.std.specs.Map.{lookup, values_of}
use Rattle.std.specs.Option.{option_map_or}
use Rattle.indexmap.specs.Layout.{set_value_at}
use Rattle.toml_edit_model.specs.Text.{Text, same_text}
use Rattle.toml_edit_slots.specs.Hashed.{HasNames, HasSame, IsHashed, IsHashedBefore, IsPutAt, closed_place, place_of}
use Rattle.toml_edit_slots.specs.SlotIndex.{stands_at, with_text}
use Rattle.toml_edit_slots.specs.Slots.{names, place_in}
use Rattle.toml_edit_slots.specs.declared.hashed.Hashed.{Hashed}
use Rattle.toml_edit_slots.specs.declared.slots.Slot.{Slot}
use Rattle.toml_edit_slots.proofs.IndexLaws.{before-removed, cases_option, length-names, none_of, place_in-congr, place_in-is, place_in-own}
use Rattle.toml_edit_slots.proofs.IndexLaws.{some_place}
use Rattle.toml_edit_slots.proofs.NewLaws.{with_text-new, with_text-there}
use Rattle.toml_edit_slots.proofs.SlotLaws.{some_next}
use Rattle.toml_edit_laws.proofs.slots.Places.{none_next}

-- a new text at the end
pub place_in-push : (us : List Text) (u : Text) → place_in u us ≡ None → (t : Text) → place_in t (us ++ u ∷ [])
    ≡ cond (same_text u t) (Some (length us)) (place_in t us)
place_in-push [] u h t = rw (nat_list_eq_equiv.symm u t) refl
place_in-push (v ∷ us) u h t =
    elim (cases_Bool (same_text u v)) [
      | inl same ↦ absurd (none-some 0 (sym (rw same at h)))
      | inr other ↦
          let more = place_in-push us u (none_next (place_in u us) (rw other at h)) t in
          elim (cases_Bool (same_text t v)) [
            | inl here ↦
                let apart : same_text u t ≡ false = nat_list_eq_equiv.symm u t ∙ nat_list_eq_equiv.congr t v u here
                ∙ nat_list_eq_equiv.symm v u ∙ other in
                rw (here, apart) refl
            | inr there ↦ elim (cases_Bool (same_text u t)) [
              | inl same ↦ rw (there, same) (ap (option_map suc) (rw same at more))
              | inr apart ↦ rw (there, apart) (ap (option_map suc) (rw apart at more))
            ]
          ]
    ]

-- ---- one more text

-- a text that was put into a map that had the same places
pub put-grown : {o : Option ℕ} (m l : Hashed) (x u : Text) (at : ℕ) → HasSame m l → x ≡ u → (t : Text)
    → o ≡ cond (same_text x t) (Some at) (place_of l t) → o ≡ cond (same_text u t) (Some at) (place_of m t)
put-grown m l x u at same is t put = put ∙ rw (is, same t) refl

hashed-push : (us : List Text) (m n : Hashed) (at : ℕ) (u : Text) → length us ≡ at → place_in u us ≡ None → IsHashed m us
    → IsPutAt at u m n → IsHashed n (us ++ u ∷ [])
hashed-push us m n at u long new is put t = put t ∙ rw (is t, ← long) (sym (place_in-push us u new t))

-- a text that was put in, and was new
pub hashed-new : {T : Type 0} (es : List (Slot T)) (m n : Hashed) (u : Text) → IsHashed m (names es) → place_of m u ≡ None
    → IsPutAt (length es) u m n → IsHashed n (with_text u (names es))
hashed-new es m n u is none put =
    let new : place_in u (names es) ≡ None = sym (is u) ∙ none in
    subst (IsHashed n) (sym (with_text-new u (names es) new)) (hashed-push (names es) m n (length es) u (length-names es) new is put)

-- a text that was put in, was not new, and got its place back
pub hashed-back : {T : Type 0} (es : List (Slot T)) (m n o : Hashed) (u : Text) (at there : ℕ) → IsHashed m (names es) → place_of m u
    ≡ Some there
    → IsPutAt at u m n → IsPutAt there u n o → IsHashed o (with_text u (names es))
hashed-back es m n o u at there is some put back =
    subst (IsHashed o) (sym (with_text-there u (names es) there (sym (is u) ∙ some)))
    (λ t. elim (cases_Bool (same_text u t)) [
      | inl same ↦ rw (back t, same) (sym some ∙ ap (place_of m) ((bytes_eq-Decides u t).0 same) ∙ is t)
      | inr other ↦ rw (back t, other) (rw (put t, other) (is t))
    ])

-- ---- places that are put right one by one

module _ (us : List Text) (apart : IsDistinct same_text us) (m n : Hashed) (at : ℕ) (u : Text)
    (here : slice_get us at ≡ Some u) (put : IsPutAt at u m n) where
  -- one place more is right
  pub hashed-more : IsHashedBefore at m us → IsHashedBefore (at + 1) n us
  hashed-more right k t below there =
      elim (cases_Bool (same_text u t)) [
        | inl same ↦ rw (put t, same) (sym (place_in-own us at u here apart) ∙ place_in-congr u t same us ∙ place_in-own us k t there apart)
        | inr other ↦ elim (cases_lt k at) [
          | inl less ↦ rw (put t, other) (right k t less there)
          | inr more ↦
              let is : at ≡ k = omega (arith, more, below) in
              let one : u ≡ t = same_Some u t (sym here ∙ ap (slice_get us) is ∙ there) in
              absurd (false≢true (sym other ∙ ap (same_text u) (sym one) ∙ nat_list_eq_equiv.refl u))
        ]
      ]

  -- the texts that were here are here
  pub names-put : HasNames m us → HasNames n us
  names-put has t there =
      elim (cases_Bool (same_text u t)) [
        | inl same ↦ rw (put t, same) refl
        | inr other ↦ rw (put t, other) (has t there)
      ]

-- ---- a text taken out

-- a text that none is equal to has no place
gone_after : (s t : Text) (us : List Text) → same_text s t ≡ true → AllByRecursion (λ y. same_text s y ≡ false) us → place_in t us ≡ None
gone_after s t [] e a = refl
gone_after s t (u ∷ us) e a =
    let other : same_text t u ≡ false = sym (nat_list_eq_equiv.congr s t u e) ∙ a.0 in
    rw (other, gone_after s t us e a.1) refl

-- a place behind the gap is one less, and another stays
down-behind : (gap p : ℕ) → gap < p → closed_place gap p ≡ p - 1
down-behind gap p behind = ap (λ b. if b then p - 1 else p) (lt-ltb gap p behind)

down-before : (gap p : ℕ) → p ≤ gap → closed_place gap p ≡ p
down-before gap p before = ap (λ b. if b then p - 1 else p) (le-ltb gap p before)

closed-suc : (k p : ℕ) → suc (closed_place k p) ≡ closed_place (suc k) (suc p)
closed-suc k p =
    elim (cases_lt k p) [
      | inl less ↦
          let one : suc (p - 1) ≡ suc p - 1 = omega (arith, less) in
          ap suc (down-behind k p less) ∙ one ∙ sym (down-behind (suc k) (suc p) (omega (arith, less)))
      | inr more ↦ ap suc (down-before k p more) ∙ sym (down-before (suc k) (suc p) (omega (arith, more)))
    ]

closed_next : (o : Option ℕ) → option_map (closed_place 0) (option_map suc o) ≡ o
closed_next None = refl
closed_next (Some p) =
    let one : suc p - 1 ≡ p = omega arith in
    ap (λ x. Some x) (down-behind 0 (suc p) (omega arith) ∙ one)

closed_out : (k : ℕ) (b : Bool) (o : Option ℕ) → option_map (closed_place (suc k)) (cond b None (option_map suc o))
    ≡ option_map suc (option_map (closed_place k) (cond b None o))
closed_out k true o = refl
closed_out k false None = refl
closed_out k false (Some p) = ap (λ x. Some x) (sym (closed-suc k p))

-- the places of the others, once the gap is closed
places-closed : (u : Text) (us : List Text) (i : ℕ) → place_in u us ≡ Some i → IsDistinct same_text us → (t : Text)
    → option_map (closed_place i) (cond (same_text u t) None (place_in t us)) ≡ place_in t (remove us i)
unfolding IsDistinct
places-closed u [] i h a t = absurd (none-some i h)
places-closed u (v ∷ us) i h a t =
    elim (cases_Bool (same_text u v)) [
      | inl here ↦
          let e : 0 ≡ i = same_Some 0 i (rw here at h) in
          elim (cases_Bool (same_text u t)) [
            | inl same ↦ rw (← e, same, gone_after v t us (sym (nat_list_eq_equiv.congr u v t here) ∙ same) a.0) refl
            | inr other ↦
                let apart : same_text t v ≡ false = nat_list_eq_equiv.symm t v ∙ sym (nat_list_eq_equiv.congr u v t here) ∙ other in
                rw (← e, other, apart) (closed_next (place_in t us))
          ]
      | inr there ↦
          let (k, at, e) = some_next (place_in u us) i (rw there at h) in
          elim (cases_Bool (same_text t v)) [
            | inl own ↦
                let other : same_text u t ≡ false = nat_list_eq_equiv.symm u t ∙ nat_list_eq_equiv.congr t v u own
                ∙ nat_list_eq_equiv.symm v u ∙ there in
                rw (e, own, other) (ap (λ x. Some x) (down-before (suc k) 0 (omega arith)))
            | inr other ↦
                rw (e, other) (closed_out k (same_text u t) (place_in t us) ∙ ap (option_map suc) (places-closed u us k at a.1 t))
          ]
    ]

-- a map that lost a text, once the gap is closed
pub hashed-closed : (us : List Text) → IsDistinct same_text us → (m n l : Hashed) (i : ℕ) (u : Text) → place_in u us ≡ Some i → IsHashed m us
    → ((t : Text) → place_of n t ≡ cond (same_text u t) None (place_of m t))
    → ((t : Text) → place_of l t ≡ option_map (closed_place i) (place_of n t)) → IsHashed l (remove us i)
hashed-closed us apart m n l i u at is gone closed t =
    closed t ∙ ap (option_map (closed_place i)) (gone t ∙ ap (cond (same_text u t) None) (is t)) ∙ places-closed u us i at apart t

-- ---- what fits stays

stands-some : (us : List Text) (k : ℕ) (t v : Text) → same_text t v ≡ true → stands_at us k v ≡ true → is_some (place_in t us) ≡ true
stands-some us k t v same stands =
    elim (cases_option (slice_get us k)) [
      | inl none ↦ absurd (false≢true (rw none at stands))
      | inr found ↦
          let here : same_text found.0 v ≡ true = rw found.1 at stands in
          some_place us k t found.0 found.1 (nat_list_eq_equiv.congr t v found.0 same ∙ nat_list_eq_equiv.symm v found.0 ∙ here)
    ]

module _ {K : Type 0} (text : K → Text) (us : List Text) where
  -- the entry says where its text is
  abbrev pub fits : K × ℕ → Bool
  fits p = stands_at us p.1 (text p.0)

  -- what is looked up, among the entries that fit
  lookup-kept : (t : Text) (k : ℕ) → slice_get us k ≡ Some t → (es : List (K × ℕ)) → lookup (λ x. same_text t (text x)) es ≡ Some k
      → lookup (λ x. same_text t (text x)) (filter fits es) ≡ Some k
  lookup-kept t k is [] e = absurd (none-some k e)
  lookup-kept t k is (p ∷ es) e =
      elim (cases_Bool (same_text t (text p.0))) [
        | inl same ↦
            let at : p.1 ≡ k = same_Some p.1 k (rw same at e) in
            let stays : fits p ≡ true = ap (λ j. stands_at us j (text p.0)) at
            ∙ ap (λ o. option_map_or (λ u. same_text u (text p.0)) o false) is ∙ same in
            rw (stays, same) (ap Some at)
        | inr other ↦
            let rest = lookup-kept t k is es (rw other at e) in
            elim (cases_Bool (fits p)) [
              | inl stays ↦ rw (stays, other) rest
              | inr goes ↦ rw goes rest
            ]
      ]

  lookup-gone : (t : Text) → place_in t us ≡ None → (es : List (K × ℕ)) → lookup (λ x. same_text t (text x)) (filter fits es) ≡ None
  lookup-gone t none [] = refl
  lookup-gone t none (p ∷ es) =
      elim (cases_Bool (fits p)) [
        | inl stays ↦ elim (cases_Bool (same_text t (text p.0))) [
          | inl same ↦ absurd (false≢true (ap is_some (sym none) ∙ stands-some us p.1 t (text p.0) same stays))
          | inr other ↦ rw (stays, other) (lookup-gone t none es)
        ]
        | inr goes ↦ rw goes (lookup-gone t none es)
      ]

  -- where each text is here with its place, the entries that fit have the places
  lookup-fitting : (t : Text) (es : List (K × ℕ)) → ((k : ℕ) → slice_get us k ≡ Some t → lookup (λ x. same_text t (text x)) es ≡ Some k)
      → lookup (λ x. same_text t (text x)) (filter fits es) ≡ place_in t us
  lookup-fitting t es right =
      elim (cases_option (place_in t us)) [
        | inl gone ↦ rw gone (lookup-gone t gone es)
        | inr found ↦ let there = place_in-is t us found.0 found.1 in rw found.1 (lookup-kept t found.0 there es (right found.0 there))
      ]

-- the entries that fit are the places of the texts
pub hashed-fitting : (us : List Text) (m n : Hashed) → IsHashedBefore (length us) m us
    → n.places.entries ≡ filter (fits string_bytes us) m.places.entries → IsHashed n us
hashed-fitting us m n right places t =
    ap (lookup (is_text t)) places
    ∙ lookup-fitting string_bytes us t m.places.entries (λ k is. right k t (slice_get_within us k t is) is)

-- ---- places that move down

module _ {K : Type 0} (gap : ℕ) where
  -- the entries, the gap closed in so many of them
  abbrev pub closed_first : ℕ → List (K × ℕ) → List (K × ℕ)
  closed_first zero es = es
  closed_first (suc n) [] = []
  closed_first (suc n) (e ∷ es) = (e.0, closed_place gap e.1) ∷ closed_first n es

  pub length-closed : (n : ℕ) (es : List (K × ℕ)) → length (closed_first n es) ≡ length es
  length-closed zero es = refl
  length-closed (suc n) [] = refl
  length-closed (suc n) (e ∷ es) = ap suc (length-closed n es)

  -- one more entry is written
  closed-written : (n : ℕ) (es : List (K × ℕ)) (x : ℕ) → slice_get (values_of (closed_first n es)) n ≡ Some x
      → set_value_at (closed_first n es) n (closed_place gap x) ≡ closed_first (suc n) es
  closed-written zero [] x is = refl
  closed-written zero (e ∷ es) x is = ap (λ y. (e.0, closed_place gap y) ∷ es) (sym (same_Some e.1 x is))
  closed-written (suc n) [] x is = refl
  closed-written (suc n) (e ∷ es) x is = ap (λ l. (e.0, closed_place gap e.1) ∷ l) (closed-written n es x is)

  -- one more entry may stay
  closed-same : (n : ℕ) (es : List (K × ℕ)) (x : ℕ) → slice_get (values_of (closed_first n es)) n ≡ Some x
      → closed_place gap x ≡ x → closed_first n es ≡ closed_first (suc n) es
  closed-same zero [] x is same = refl
  closed-same zero (e ∷ es) x is same =
      let own : e.1 ≡ x = same_Some e.1 x is in
      ap (λ y. (e.0, y) ∷ es) (own ∙ sym same ∙ ap (closed_place gap) (sym own))
  closed-same (suc n) [] x is same = refl
  closed-same (suc n) (e ∷ es) x is same = ap (λ l. (e.0, closed_place gap e.1) ∷ l) (closed-same n es x is same)

  module _ (n : ℕ) (es ds : List (K × ℕ)) (done : ds ≡ closed_first n es) where
    pub closed-within : n < length es → n < length ds
    closed-within within = let long = ap length done ∙ length-closed n es in omega (arith, long, within)

    -- a place behind the gap is written
    pub closed-behind : {x : ℕ} → gap < x → slice_get (values_of ds) n ≡ Some x → set_value_at ds n (x - 1) ≡ closed_first (n + 1) es
    closed-behind {x} behind is =
        let one : suc n ≡ n + 1 = omega arith in
        ap (λ l. set_value_at l n (x - 1)) done ∙ ap (set_value_at (closed_first n es) n) (sym (down-behind gap x behind))
        ∙ closed-written n es x (ap (λ l. slice_get (values_of l) n) (sym done) ∙ is) ∙ ap (λ k. closed_first k es) one

    -- another stays
    pub closed-before : {x : ℕ} → x ≤ gap → slice_get (values_of ds) n ≡ Some x → ds ≡ closed_first (n + 1) es
    closed-before {x} before is =
        let one : suc n ≡ n + 1 = omega arith in
        done ∙ closed-same n es x (ap (λ l. slice_get (values_of l) n) (sym done) ∙ is) (down-before gap x before)
        ∙ ap (λ k. closed_first k es) one

  -- what is looked up, once all are done
  pub lookup-closed : (test : K → Bool) (n : ℕ) (es : List (K × ℕ)) → length es ≤ n
      → lookup test (closed_first n es) ≡ option_map (closed_place gap) (lookup test es)
  lookup-closed test zero [] h = refl
  lookup-closed test (suc n) [] h = refl
  lookup-closed test zero (e ∷ es) h = absurd (omega (arith, h))
  lookup-closed test (suc n) (e ∷ es) h =
      elim (cases_Bool (test e.0)) [
        | inl here ↦ rw here refl
        | inr other ↦ rw other (lookup-closed test n es (omega (arith, h)))
      ]
