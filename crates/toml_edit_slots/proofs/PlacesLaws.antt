-- What is noted of texts, in an index of them.
use Rattle.std.proofs.Common.{◌≡◌, ℕ, zero, suc, ◌+◌, ◌<◌, Bool, true, false, cond, List, [], ◌∷◌, ◌++◌, filter, Option, Some, None}
use Rattle.std.proofs.Common.{option_map, is_some, length, remove, refl, sym, ap, ◌∙◌, inl, inr, ◌⊎◌, arith, nat_eq, slice_get}
use Rattle.std.proofs.Common.{string_bytes, String}
use Rattle.std.proofs.lemmas.Bool.{cases_Bool, cases_lt, false≢true}
use Rattle.std.proofs.lemmas.Cmp.{nat_list_eq_equiv}
use Rattle.std.proofs.lemmas.Map.Text.{is_eq-slice_cmp}
use Rattle.std.proofs.lemmas.Option.{none-some, same_Some, slice_get_within, slice_get-map}
use Rattle.std.proofs.lemmas.Slice.Eq.{bytes_eq-Decides}
use Rattle.std.specs.BTreeMap.{BTreeMap, get, get_by_text}
use Rattle.std.specs.Cmp.{unsigned_ties}
use Rattle.std.specs.Cmp.Lexicographic.{slice_cmp}
use Rattle.std.specs.Global.{Global}
use Rattle.std.specs.List.{IsDistinct}
use Rattle.std.specs.Map.{lookup}
use Rattle.std.specs.Option.{option_map_or, option_or}
use Rattle.std.specs.Ordering.{is_eq, nat_cmp}
use Rattle.toml_edit_model.specs.Text.{Text, same_text}
use Rattle.toml_edit_slots.specs.Slots.{names, place_in}
use Rattle.toml_edit_slots.specs.SlotIndex.{AreNotedApart, HasTexts, IsIndexOf, IsNotedAt, IsRightBefore, IsSetTo, hash_stands_at, is_own}
use Rattle.toml_edit_slots.specs.SlotIndex.{noted_place, second_hash, stands_at}
use Rattle.toml_edit_slots.specs.declared.slots.Slot.{Slot}
use Rattle.toml_edit_slots.specs.declared.places.Places.{Places}
use Rattle.toml_edit_slots.proofs.IndexLaws.{before-removed, behind-removed, cases_option, none_of, place_in-congr, place_in-is}
use Rattle.toml_edit_slots.proofs.IndexLaws.{place_in-own, some_place}

-- ---- two texts

-- texts at two places differ
other_text : (us : List Text) (j k : ℕ) (t u : Text) → slice_get us j ≡ Some t → slice_get us k ≡ Some u → IsDistinct same_text us
    → (j ≡ k → ⊥) → same_text u t ≡ false
other_text us j k t u ht hu apart ne =
    elim (cases_Bool (same_text u t)) [
      | inl same ↦ absurd (ne (same_Some j k (sym (place_in-own us j t ht apart) ∙ sym (place_in-congr u t same us)
          ∙ place_in-own us k u hu apart)))
      | inr other ↦ other
    ]

-- a text at a place is none that has no place
new_text : (us : List Text) (k : ℕ) (t u : Text) → slice_get us k ≡ Some t → place_in u us ≡ None → same_text u t ≡ false
new_text us k t u there new =
    elim (cases_Bool (same_text u t)) [
      | inl same ↦ absurd (false≢true (ap is_some (sym new) ∙ some_place us k u t there same))
      | inr other ↦ other
    ]

-- where nothing is noted under the text itself, its hash says the place
by_hash : (m : Places) (t : Text) → is_own m t ≡ false → noted_place m t ≡ get nat_cmp m.hashes (second_hash t)
by_hash m t bare = ap (λ o. option_or o (get nat_cmp m.hashes (second_hash t))) (none_of (get_by_text m.names t) bare)

-- no two texts of an index share a place that is noted
noted-apart : (us : List Text) (m : Places) (j k : ℕ) (t u : Text) → IsIndexOf m us → slice_get us j ≡ Some t → slice_get us k ≡ Some u
    → same_text u t ≡ false → AreNotedApart m t u
noted-apart us m j k t u is ht hu other same =
    elim (cases_Bool (is_own m t)) [
      | inl own ↦ inl own
      | inr bare ↦ elim (cases_Bool (is_own m u)) [
        | inl own ↦ inr own
        | inr none ↦
            let one : j ≡ k = same_Some j k (sym (is j t ht) ∙ by_hash m t bare ∙ ap (get nat_cmp m.hashes) same ∙ sym (by_hash m u none)
            ∙ is k u hu) in
            let alike : t ≡ u = same_Some t u (sym ht ∙ ap (slice_get us) one ∙ hu) in
            absurd (false≢true (sym other ∙ ap (same_text u) alike ∙ nat_list_eq_equiv.refl u))
      ]
    ]

-- an index has the texts that are among its own
pub texts-among : (us vs : List Text) (m : Places) → IsIndexOf m us
    → ((k : ℕ) (t : Text) → slice_get vs k ≡ Some t → (j : ℕ) × (slice_get us j ≡ Some t)) → HasTexts m vs
texts-among us vs m is among = record {
  noted = λ k t there. ap is_some (is (among k t there).0 t (among k t there).1);
  apart = λ j k t u ht hu other. noted-apart us m (among j t ht).0 (among k u hu).0 t u is (among j t ht).1 (among k u hu).1 other;
}

-- ---- a look-up

-- what holds of the name at a place among slots
pub stands-at : {T : Type 0} (es : List (Slot T)) (k : ℕ) (f : Text → Bool) (o : Option (Slot T)) → o ≡ slice_get es k
    → option_map_or f (option_map (λ s. s.key.name) o) false ≡ option_map_or f (slice_get (names es) k) false
stands-at es k f o is =
    ap (λ p. option_map_or f p false) (ap (option_map (λ s. s.key.name)) is ∙ sym (slice_get-map (λ s. s.key.name) es k))

pub not-there : (us : List Text) (m : Places) (t : Text) → IsIndexOf m us → noted_place m t ≡ None → place_in t us ≡ None
not-there us m t is none =
    elim (cases_option (place_in t us)) [
      | inl gone ↦ gone
      | inr found ↦ absurd (none-some found.0 (sym none ∙ is found.0 t (place_in-is t us found.0 found.1)))
    ]

pub is-there : (us : List Text) (t : Text) (at : ℕ) → IsDistinct same_text us → stands_at us at t ≡ true → place_in t us ≡ Some at
is-there us t at apart stands =
    elim (cases_option (slice_get us at)) [
      | inl none ↦ absurd (false≢true (rw none at stands))
      | inr found ↦
          let same : same_text found.0 t ≡ true = rw found.1 at stands in
          sym (place_in-congr found.0 t same us) ∙ place_in-own us at found.0 found.1 apart
    ]

pub other-there : (us : List Text) (m : Places) (t : Text) (at : ℕ) → IsIndexOf m us → noted_place m t ≡ Some at → stands_at us at t ≡ false
    → place_in t us ≡ None
other-there us m t at is noted stands =
    elim (cases_option (place_in t us)) [
      | inl gone ↦ gone
      | inr found ↦
          let there : slice_get us found.0 ≡ Some t = place_in-is t us found.0 found.1 in
          let one : at ≡ found.0 = same_Some at found.0 (sym noted ∙ is found.0 t there) in
          let here : slice_get us at ≡ Some t = ap (slice_get us) one ∙ there in
          absurd (false≢true (sym stands ∙ ap (λ o. option_map_or (λ u. same_text u t) o false) here ∙ nat_list_eq_equiv.refl t))
    ]

-- ---- a text, noted itself or no longer

-- the places, with these under the texts themselves
abbrev pub with_names : Places → BTreeMap (String Global) ℕ → Places
with_names m ns = record { hashes = m.hashes; names = ns }

module _ (m : Places) (ns : BTreeMap (String Global) ℕ) (u : Text) (w : Option ℕ)
    (put : (t : Text) → get_by_text ns t ≡ cond (same_text u t) w (get_by_text m.names t)) where
  name-other : (t : Text) → same_text u t ≡ false → get_by_text ns t ≡ get_by_text m.names t
  name-other t other = put t ∙ ap (λ b. cond b w (get_by_text m.names t)) other

  pub own-other : (t : Text) → same_text u t ≡ false → is_own (with_names m ns) t ≡ is_own m t
  own-other t other = ap is_some (name-other t other)

  pub place-other : (t : Text) → same_text u t ≡ false → noted_place (with_names m ns) t ≡ noted_place m t
  place-other t other = ap (λ o. option_or o (get nat_cmp m.hashes (second_hash t))) (name-other t other)

  pub place-put : (at : ℕ) → w ≡ Some at → noted_place (with_names m ns) u ≡ Some at
  place-put at is = ap (λ o. option_or o (get nat_cmp m.hashes (second_hash u))) (put u
      ∙ ap (λ b. cond b w (get_by_text m.names u)) (nat_list_eq_equiv.refl u) ∙ is)

  pub own-put : (at : ℕ) → w ≡ Some at → is_own m u ≡ true → (t : Text) → is_own (with_names m ns) t ≡ is_own m t
  own-put at is own t =
      elim (cases_Bool (same_text u t)) [
        | inl same ↦
            let one : u ≡ t = (bytes_eq-Decides u t).0 same in
            ap is_some (put t ∙ ap (λ b. cond b w (get_by_text m.names t)) same ∙ is) ∙ sym own ∙ ap (is_own m) one
        | inr other ↦ own-other t other
      ]

-- ---- one more text

pub index-same : (us : List Text) (m n : Places) → ((t : Text) → noted_place n t ≡ noted_place m t) → IsIndexOf m us → IsIndexOf n us
index-same us m n same is k t there = same t ∙ is k t there

get-pushed : (us : List Text) (u t : Text) (k : ℕ) → slice_get (us ++ u ∷ []) k ≡ Some t → (slice_get us k ≡ Some t)
    ⊎ ((k ≡ length us) × (u ≡ t))
get-pushed [] u t zero h = inr (refl, same_Some u t h)
get-pushed [] u t (suc k) h = absurd (none-some t h)
get-pushed (v ∷ us) u t zero h = inl h
get-pushed (v ∷ us) u t (suc k) h =
    elim (get-pushed us u t k h) [
      | inl before ↦ inl before
      | inr last ↦ inr (ap suc last.0, last.1)
    ]

pub index-more : (us : List Text) (m n : Places) (u : Text) → place_in u us ≡ None → IsIndexOf m us → IsNotedAt (length us) u m n
    → IsIndexOf n (us ++ u ∷ [])
index-more us m n u new is put k t there =
    elim (get-pushed us u t k there) [
      | inl before ↦ put.1 k t (new_text us k t u before new) (is k t before)
      | inr last ↦ ap (noted_place n) (sym last.1) ∙ put.0 ∙ ap Some (sym last.0)
    ]

-- ---- an index, put right place by place

module _ (us : List Text) (apart : IsDistinct same_text us) (m n : Places) (at : ℕ) (u : Text)
    (here : slice_get us at ≡ Some u) (put : IsSetTo at u m n) (has : HasTexts m us) where
  noted-still : (k : ℕ) (t : Text) → slice_get us k ≡ Some t → same_text u t ≡ false → noted_place n t ≡ noted_place m t
  noted-still k t there other = put.others t other (has.apart k at t u there here other)

  noted-set : (k : ℕ) (t : Text) → slice_get us k ≡ Some t → is_some (noted_place n t) ≡ true
  noted-set k t there =
      elim (cases_Bool (same_text u t)) [
        | inl same ↦ ap is_some (ap (noted_place n) (sym ((bytes_eq-Decides u t).0 same)) ∙ put.place)
        | inr other ↦ ap is_some (noted-still k t there other) ∙ has.noted k t there
      ]

  apart-set : (j k : ℕ) (t v : Text) → slice_get us j ≡ Some t → slice_get us k ≡ Some v → same_text v t ≡ false → AreNotedApart n t v
  apart-set j k t v ht hv other same =
      elim (has.apart j k t v ht hv other same) [
        | inl own ↦ inl (put.own t ∙ own)
        | inr own ↦ inr (put.own v ∙ own)
      ]

  -- the same texts are in it
  pub texts-set : HasTexts n us
  texts-set = record { noted = noted-set; apart = apart-set }

  -- one place more is right
  pub right-more : IsRightBefore at m us → IsRightBefore (at + 1) n us
  right-more right k t below there =
      elim (cases_Bool (same_text u t)) [
        | inl same ↦
            let is : at ≡ k = same_Some at k (sym (place_in-own us at u here apart) ∙ place_in-congr u t same us
            ∙ place_in-own us k t there apart) in
            ap (noted_place n) (sym ((bytes_eq-Decides u t).0 same)) ∙ put.place ∙ ap Some is
        | inr other ↦ elim (cases_lt k at) [
          | inl less ↦ noted-still k t there other ∙ right k t less there
          | inr more ↦
              let is : at ≡ k = omega (arith, more, below) in
              let one : u ≡ t = same_Some u t (sym here ∙ ap (slice_get us) is ∙ there) in
              absurd (false≢true (sym other ∙ ap (same_text u) (sym one) ∙ nat_list_eq_equiv.refl u))
        ]
      ]

-- ---- a text taken out

module _ (us : List Text) (apart : IsDistinct same_text us) (m n : Places) (gap : ℕ) (u : Text)
    (here : slice_get us gap ≡ Some u) (is : IsIndexOf m us)
    (own : (t : Text) → same_text u t ≡ false → is_own n t ≡ is_own m t)
    (others : (t : Text) → same_text u t ≡ false → AreNotedApart m t u → noted_place n t ≡ noted_place m t) where
  -- what is left had a place, which is not that of the text
  was_at : (k : ℕ) (t : Text) → slice_get (remove us gap) k ≡ Some t → (j : ℕ) × (slice_get us j ≡ Some t) × (same_text u t ≡ false)
      × (k < gap → j ≡ k)
  was_at k t there =
      elim (cases_lt k gap) [
        | inl less ↦
            let at : slice_get us k ≡ Some t = sym (before-removed us gap k less) ∙ there in
            (k, at, other_text us k gap t u at here apart (λ e. omega (arith, e, less)), λ _. refl)
        | inr more ↦
            let at : slice_get us (suc k) ≡ Some t = sym (behind-removed us gap k more) ∙ there in (
              suc k,
              at,
              other_text us (suc k) gap t u at here apart (λ e. omega (arith, e, more)),
              λ less. absurd (omega (arith, less, more)),
            )
      ]

  noted-left : (k : ℕ) (t : Text) (there : slice_get (remove us gap) k ≡ Some t) → noted_place n t ≡ Some (was_at k t there).0
  noted-left k t there =
      let w = was_at k t there in
      others t w.2 (noted-apart us m w.0 gap t u is w.1 here w.2) ∙ is w.0 t w.1

  apart-left : (j k : ℕ) (t v : Text) → slice_get (remove us gap) j ≡ Some t → slice_get (remove us gap) k ≡ Some v → same_text v t ≡ false
      → AreNotedApart n t v
  apart-left j k t v ht hv other same =
      let w = was_at j t ht in
      let x = was_at k v hv in
      elim (noted-apart us m w.0 x.0 t v is w.1 x.1 other same) [
        | inl o ↦ inl (own t w.2 ∙ o)
        | inr o ↦ inr (own v x.2 ∙ o)
      ]

  -- the others are in it
  pub texts-left : HasTexts n (remove us gap)
  texts-left = record { noted = λ k t there. ap is_some (noted-left k t there); apart = apart-left }

  -- the places before are right
  pub right-left : IsRightBefore gap n (remove us gap)
  right-left k t below there = noted-left k t there ∙ ap Some ((was_at k t there).3 below)

-- ---- what fits stays

module _ {K : Type 0} (test : K → Bool) (keep : K × ℕ → Bool) where
  lookup-kept : (v : ℕ) → ((k : K) → test k ≡ true → keep (k, v) ≡ true) → (es : List (K × ℕ)) → lookup test es ≡ Some v
      → lookup test (filter keep es) ≡ Some v
  lookup-kept v fits [] e = absurd (none-some v e)
  lookup-kept v fits (p ∷ es) e =
      elim (cases_Bool (test p.0)) [
        | inl found ↦
            let is : p.1 ≡ v = same_Some p.1 v (rw found at e) in
            let stays : keep p ≡ true = ap (λ j. keep (p.0, j)) is ∙ fits p.0 found in
            rw (stays, found) (ap Some is)
        | inr other ↦
            let rest = lookup-kept v fits es (rw other at e) in
            elim (cases_Bool (keep p)) [
              | inl stays ↦ rw (stays, other) rest
              | inr goes ↦ rw goes rest
            ]
      ]

  lookup-none-kept : (es : List (K × ℕ)) → lookup test es ≡ None → lookup test (filter keep es) ≡ None
  lookup-none-kept [] e = refl
  lookup-none-kept (p ∷ es) e =
      elim (cases_Bool (test p.0)) [
        | inl found ↦ absurd (none-some p.1 (sym (rw found at e)))
        | inr other ↦
            let rest = lookup-none-kept es (rw other at e) in
            elim (cases_Bool (keep p)) [
              | inl stays ↦ rw (stays, other) rest
              | inr goes ↦ rw goes rest
            ]
      ]

-- the entry says where its text stands
abbrev pub fits : List Text → String Global × ℕ → Bool
fits us p = stands_at us p.1 (string_bytes p.0)

-- the entry says where a text with its hash stands
abbrev pub hash_fits : List Text → ℕ × ℕ → Bool
hash_fits us p = hash_stands_at us p.1 p.0

module _ (us : List Text) (m n : Places) (right : IsRightBefore (length us) m us)
    (names : n.names.entries ≡ filter (fits us) m.names.entries) (hashes : n.hashes.entries ≡ filter (hash_fits us) m.hashes.entries) where
  abbrev by_name : Text → String Global → Bool
  by_name t k = is_eq (slice_cmp nat_cmp t (string_bytes k))

  kept-name : (k : ℕ) (t : Text) → slice_get us k ≡ Some t → get_by_text m.names t ≡ Some k → get_by_text n.names t ≡ Some k
  kept-name k t there noted =
      ap (lookup (by_name t)) names
      ∙ lookup-kept (by_name t) (fits us) k
      (λ x found. ap (λ o. option_map_or (λ u. same_text u (string_bytes x)) o false) there ∙ sym (is_eq-slice_cmp t (string_bytes x))
      ∙ found)
      m.names.entries noted

  kept-none : (t : Text) → get_by_text m.names t ≡ None → get_by_text n.names t ≡ None
  kept-none t none = ap (lookup (by_name t)) names ∙ lookup-none-kept (by_name t) (fits us) m.names.entries none

  kept-hash : (k : ℕ) (t : Text) → slice_get us k ≡ Some t → get nat_cmp m.hashes (second_hash t) ≡ Some k
      → get nat_cmp n.hashes (second_hash t) ≡ Some k
  kept-hash k t there noted =
      let test : ℕ → Bool = λ h. is_eq (nat_cmp (second_hash t) h) in
      ap (lookup test) hashes
      ∙ lookup-kept test (hash_fits us) k
      (λ h found. ap (λ o. option_map_or (λ u. nat_eq (second_hash u) h) o false) there ∙ unsigned_ties (second_hash t) h ∙ found)
      m.hashes.entries noted

  pub index-fitting : IsIndexOf n us
  index-fitting k t there =
      let noted = right k t (slice_get_within us k t there) there in
      elim (cases_option (get_by_text m.names t)) [
        | inl none ↦
            let hash = get nat_cmp m.hashes (second_hash t) in
            ap (λ o. option_or o (get nat_cmp n.hashes (second_hash t))) (kept-none t none)
            ∙ kept-hash k t there (sym (ap (λ o. option_or o hash) none) ∙ noted)
        | inr found ↦
            let is : Some found.0 ≡ Some k = sym (ap (λ o. option_or o (get nat_cmp m.hashes (second_hash t))) found.1) ∙ noted in
            ap (λ o. option_or o (get nat_cmp n.hashes (second_hash t))) (kept-name k t there (found.1 ∙ is))
      ]
