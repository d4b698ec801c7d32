-- The calls on the code's slots, as the definitions see them.
use Rattle.std.proofs.Common.{◌≡◌, ℕ, zero, suc, List, [], ◌∷◌, ◌++◌, map, Option, None, Some, option_map, refl, sym, ap, subst, ◌∙◌, inl}
use Rattle.std.proofs.Common.{inr, set, get_or, remove, length, nat_lt, cond, not, ◌+◌}
use Rattle.std.proofs.lemmas.Bool.{cases_Bool}
use Rattle.std.proofs.lemmas.List.{map-set, map-append}
use Rattle.std.specs.List.{IsDistinct, position_or_len, prefix_len}
use Rattle.toml_edit_model.specs.Text.{Text, same_text}
use Rattle.toml_edit_model.specs.Tree.{Key}
use Rattle.toml_edit_model.specs.Slots as model
use Rattle.toml_edit_laws.proofs.slots.Places.{none_at, put-at, put-new, without-at, without-none}
use Rattle.toml_edit_slots.specs.declared.slots.Slot.{Slot}
use Rattle.toml_edit_slots.specs.Slots.{AreApart, is_at, names, place, lookup, lookup_slot, put, without, with_item}
use Rattle.toml_edit_slots.specs.Seen.{pair_seen, seen, slot_seen}
use Rattle.toml_edit_model.specs.Keys.{new_key}
use Rattle.toml_edit_slots.proofs.SlotLaws.{none_named, place-position, put-absent, put-present}
use Rattle.toml_edit_slots.proofs.IndexLaws.{cases_option}

-- one slot as it is seen
abbrev pub one_seen : {T : Type 0} → Slot T → model.Slot T
one_seen s = slot_seen (λ x. x) s

module _ {T : Type 0} where
  pub names-seen : (es : List (Slot T)) → model.names (seen es) ≡ names es
  names-seen [] = refl
  names-seen (s ∷ es) = ap (λ l. s.key.name ∷ l) (names-seen es)

  pub apart-seen : (es : List (Slot T)) → AreApart es → model.AreApart (seen es)
  apart-seen es a = subst (IsDistinct same_text) (sym (names-seen es)) a

  pub length-seen : (es : List (Slot T)) → length (seen es) ≡ length es
  length-seen [] = refl
  length-seen (s ∷ es) = ap suc (length-seen es)

  pub get_or-seen : (es : List (Slot T)) (i : ℕ) (d : Slot T) → get_or (seen es) i (one_seen d) ≡ one_seen (get_or es i d)
  get_or-seen [] i d = refl
  get_or-seen (s ∷ es) zero d = refl
  get_or-seen (s ∷ es) (suc i) d = get_or-seen es i d

  pub remove-seen : (es : List (Slot T)) (i : ℕ) → remove (seen es) i ≡ seen (remove es i)
  remove-seen [] zero = refl
  remove-seen [] (suc i) = refl
  remove-seen (s ∷ es) zero = refl
  remove-seen (s ∷ es) (suc i) = ap (λ l. one_seen s ∷ l) (remove-seen es i)

module _ {T : Type 0} (t : Text) where
  front-seen : (es : List (Slot T)) → prefix_len (λ s. not (is_at t s)) es ≡ prefix_len (λ s. not (model.is_at t s)) (seen es)
  front-seen [] = refl
  front-seen (s ∷ es) = ap (λ n. cond (not (is_at t s)) (1 + n) 0) (front-seen es)

  pub place-seen : (es : List (Slot T)) → model.place t (seen es) ≡ place t es
  place-seen es =
      sym (ap (λ n. cond (nat_lt n (length es)) (Some n) None) (front-seen es)
      ∙ ap (λ m. cond (nat_lt (position_or_len (model.is_at t) (seen es)) m) (Some (position_or_len (model.is_at t) (seen es))) None)
      (sym (length-seen es)))
      ∙ place-position t es

  pub lookup_slot-seen : (es : List (Slot T)) → model.lookup_slot t (seen es) ≡ option_map one_seen (lookup_slot t es)
  lookup_slot-seen [] = refl
  lookup_slot-seen (s ∷ es) =
      elim (cases_Bool (is_at t s)) [
        | inl same ↦ rw same refl
        | inr other ↦ rw other (lookup_slot-seen es)
      ]

  item_of : (o : Option (Slot T)) → option_map (λ s. s.item) (option_map one_seen o) ≡ option_map (λ s. s.item) o
  item_of None = refl
  item_of (Some s) = refl

  pub lookup-seen : (es : List (Slot T)) → model.lookup t (seen es) ≡ lookup t es
  lookup-seen es = ap (option_map (λ s. s.item)) (lookup_slot-seen es) ∙ item_of (lookup_slot t es)

  -- ---- edits at a place

  -- a present name: its slot is another
  pub put-seen : (f : model.Slot T → model.Slot T) (s : model.Slot T) (es : List (Slot T)) (i : ℕ) (d r : Slot T) → s.key.name ≡ t
      → AreApart es → place t es ≡ Some i
      → f (one_seen (get_or es i d)) ≡ one_seen r → seen (set es i r) ≡ model.put f s (seen es)
  put-seen f s es i d r named a at same =
      map-set one_seen es i r
      ∙ ap (set (seen es) i) (sym same ∙ ap f (sym (get_or-seen es i d)))
      ∙ sym (put-at f s (seen es) i (one_seen d) (apart-seen es a) (ap (λ u. model.place u (seen es)) named ∙ place-seen es ∙ at))

  -- a new name: a slot comes last
  pub put-new-seen : (f : model.Slot T → model.Slot T) (r : Slot T) (es : List (Slot T)) → r.key.name ≡ t → place t es ≡ None
      → seen (es ++ r ∷ []) ≡ model.put f (one_seen r) (seen es)
  put-new-seen f r es named none =
      map-append one_seen es (r ∷ []) ∙ sym (put-new f (one_seen r) (seen es) (ap (λ u. model.place u (seen es)) named ∙ place-seen es
      ∙ none))

  -- a removal
  pub without-at-seen : (es : List (Slot T)) (i : ℕ) (d : Slot T) → AreApart es → place t es ≡ Some i → seen (remove es i)
      ≡ model.without t (seen es)
  without-at-seen es i d a at = sym (remove-seen es i) ∙ sym (without-at t (seen es) i (one_seen d) (apart-seen es a) (place-seen es ∙ at))

  pub without-none-seen : (es : List (Slot T)) → place t es ≡ None → model.without t (seen es) ≡ seen es
  without-none-seen es none = without-none t (seen es) (none_at t (seen es) (place-seen es ∙ none))

module _ {T : Type 0} (t : Text) where
  -- where names are apart, what goes is the one slot of the name
  pub without-seen : (es : List (Slot T)) → AreApart es → seen (without t es) ≡ model.without t (seen es)
  unfolding IsDistinct
  without-seen [] a = refl
  without-seen (s ∷ es) a =
      elim (cases_Bool (is_at t s)) [
        | inl same ↦ rw same (sym (without-none-seen t es (none_named t s.key.name es same a.0)))
        | inr other ↦ rw other (ap (λ l. one_seen s ∷ l) (without-seen es a.1))
      ]

  -- and what is put in goes into it
  pub inserted-seen : (x : T) (es : List (Slot T)) → AreApart es → seen (put t x es) ≡ model.inserted t x (seen es)
  inserted-seen x es a =
      let new : Slot T = record { key = new_key t; item = x } in
      elim (cases_option (place t es)) [
        | inl none ↦ ap seen (put-absent t es x none) ∙ put-new-seen t _ new es refl none
        | inr found ↦ ap seen (put-present t es found.0 new x found.1) ∙ put-seen t _ _ es found.0 new _ refl a found.1 refl
      ]

-- one pair more
pub extended_last : {T : Type 0} (es : List (model.Slot T)) (ps : List (Key × T)) (p : Key × T)
    → model.extended (map pair_seen (ps ++ p ∷ [])) es
    ≡ model.put (model.with_item p.1) (pair_seen p) (model.extended (map pair_seen ps) es)
extended_last es [] p = refl
extended_last es (q ∷ ps) p = extended_last (model.put (model.with_item q.1) (pair_seen q) es) ps p
