-- Lists of keyed slots, by the names of their keys.
use Rattle.std.specs.Prelude.{ℕ, zero, suc, Bool, List, [], ◌∷◌, Option, None, Some, if◌then◌else◌, map, option_map}
use Rattle.std.specs.List.{IsDistinct}
use Rattle.toml_edit_model.specs.Text.{Text, same_text}
use Rattle.toml_edit_model.specs.Tree.{Key}
use Rattle.toml_edit_model.specs.Keys.{new_key, reset_key}
use Rattle.toml_edit_slots.specs.declared.slots.Slot.{Slot}

-- the place of the first of these texts that is this one
abbrev pub place_in : Text → List Text → Option ℕ
place_in t [] = None
place_in t (u ∷ us) = if same_text t u then Some 0 else option_map suc (place_in t us)

module _ {T : Type 0} where
  -- the slot is that of the text
  abbrev pub is_at : Text → Slot T → Bool
  is_at t s = same_text t s.key.name

  abbrev pub names : List (Slot T) → List Text
  names es = map (λ s. s.key.name) es

  -- no two keys have one name
  abbrev pub AreApart : List (Slot T) → Type 0
  AreApart es = IsDistinct same_text (names es)

  -- the place of the first slot of the text
  abbrev pub place : Text → List (Slot T) → Option ℕ
  place t es = place_in t (names es)

  abbrev pub lookup_slot : Text → List (Slot T) → Option (Slot T)
  lookup_slot t [] = None
  lookup_slot t (s ∷ es) = if is_at t s then Some s else lookup_slot t es

  abbrev pub lookup : Text → List (Slot T) → Option T
  lookup t es = option_map (λ s. s.item) (lookup_slot t es)

  -- the slots after `insert`: a present key is reset and keeps its place, a new one goes last
  abbrev pub put : Text → T → List (Slot T) → List (Slot T)
  put t x [] = record { key = new_key t; item = x } ∷ []
  put t x (s ∷ es) =
      if is_at t s then record { key = reset_key s.key; item = x } ∷ es else s ∷ put t x es

  -- the slots after `remove`: the others keep their order
  abbrev pub without : Text → List (Slot T) → List (Slot T)
  without t [] = []
  without t (s ∷ es) = if is_at t s then es else s ∷ without t es

-- a slot, with h applied to its item
abbrev pub on_item : {X Y : Type 0} → (X → Y) → Slot X → Slot Y
on_item h s = record { key = s.key; item = h s.item }

abbrev pub items_of : {T : Type 0} → List (Slot T) → List T
items_of es = map (λ s. s.item) es

-- the slots, with another item in the slot at the place
abbrev pub with_item : {T : Type 0} → ℕ → T → List (Slot T) → List (Slot T)
with_item i x [] = []
with_item zero x (s ∷ es) = record { key = s.key; item = x } ∷ es
with_item (suc i) x (s ∷ es) = s ∷ with_item i x es

-- the slots, with the key at the place changed
abbrev pub on_key : {T : Type 0} → ℕ → (Key → Key) → List (Slot T) → List (Slot T)
on_key i h [] = []
on_key zero h (s ∷ es) = record { key = h s.key; item = s.item } ∷ es
on_key (suc i) h (s ∷ es) = s ∷ on_key i h es
