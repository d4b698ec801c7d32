-- Items that are put in, and made values there.
use Rattle.std.proofs.Common.{◌≡◌, ℕ, true, false, List, [], ◌∷◌, ◌++◌, Some, get_or, set, slice_get, refl, sym, ap, ◌∙◌, inl, inr}
use Rattle.std.proofs.lemmas.Bool.{cases_Bool, false≢true}
use Rattle.std.proofs.lemmas.Cmp.{nat_list_eq_equiv}
use Rattle.toml_edit_laws.proofs.slots.Places.{changed-at}
use Rattle.toml_edit_laws.proofs.slots.Views as views
use Rattle.toml_edit_model.specs.Conversions.{made_value}
use Rattle.toml_edit_model.specs.Keys.{new_key, reset_key}
use Rattle.toml_edit_model.specs.Slots as model
use Rattle.toml_edit_model.specs.Text.{Text}
use Rattle.toml_edit_model.specs.Tree.{Node}
use Rattle.toml_edit_slots.specs.Seen.{seen}
use Rattle.toml_edit_slots.specs.Slots.{items_of, place, with_item}
use Rattle.toml_edit_slots.specs.declared.slots.Slot.{Slot}
use Rattle.toml_edit_table_like.specs.Shown.{shown}
use Rattle.toml_edit_table_like.proofs.ShownLaws.{get-shown, item-found, place-shown, set-shown, shown-seen, slot_shown}
use Rattle.toml_edit_tree.specs.View.{item_view}
use Rattle.toml_edit_tree.specs.declared.item.Item.{Item}

pub inserted-shown : (t : Text) (x : Item) (es fs : List (Slot Item)) → seen fs ≡ model.inserted t x (seen es) → shown fs
    ≡ model.inserted t (item_view x) (shown es)
inserted-shown t x es fs left =
    shown-seen fs ∙ ap (views.seen item_view) left ∙ sym (views.inserted-seen item_view t x (seen es))
    ∙ ap (model.inserted t (item_view x)) (sym (shown-seen es))

-- the item of the slot of a name is changed by f
pub changed-here : (k : Text) (es : List (Slot Item)) (i : ℕ) → place k es ≡ Some i → model.AreApart (shown es)
    → (f : Node → Node) (x w : Item)
    → Some x ≡ slice_get (items_of es) i → item_view w ≡ f (item_view x) → shown (with_item i w es)
    ≡ model.changed k (model.on_item f) (shown es)
changed-here k es i at apart f x w there made =
    let (s, got, item) = item-found es i x there in
    let is : item_view w ≡ f (item_view s.item) = made ∙ ap (λ y. f (item_view y)) (sym item) in
    let g : model.Slot Node = get_or (shown es) i (slot_shown s) in
    set-shown es i (slot_shown s) w
    ∙ ap (λ n. set (shown es) i (model.with_item n g)) (is ∙ ap (λ (r : model.Slot Node). f r.item) (sym (get-shown es i s got)))
    ∙ sym (changed-at k (model.on_item f) (shown es) i (slot_shown s) apart (place-shown k es ∙ at))

-- ---- an item that is put in, and made a value there

module _ (t : Text) (n : Node) where
  twice : (es : List (model.Slot Node))
      → model.changed t (model.on_item made_value) (model.changed t (λ s. record { key = reset_key s.key; item = n }) es)
      ≡ model.changed t (λ s. record { key = reset_key s.key; item = made_value n }) es
  twice [] = refl
  twice (s ∷ es) =
      elim (cases_Bool (model.is_at t s)) [
        | inl same ↦ rw (same, same) (ap (λ l. record { key = reset_key s.key; item = made_value n } ∷ l) (twice es))
        | inr other ↦ rw (other, other) (ap (λ l. s ∷ l) (twice es))
      ]

  abbrev new_slot : Node → model.Slot Node
  new_slot m = record { key = new_key t; item = m }

  last : (es : List (model.Slot Node)) → model.has_slot t es ≡ false → model.changed t (model.on_item made_value) (es ++ new_slot n ∷ [])
      ≡ es ++ new_slot (made_value n) ∷ []
  last [] none = rw (nat_list_eq_equiv.refl t) refl
  last (s ∷ es) none =
      elim (cases_Bool (model.is_at t s)) [
        | inl same ↦ let there : model.has_slot t (s ∷ es) ≡ true = rw same refl in absurd (false≢true (sym none ∙ there))
        | inr other ↦ let rest : model.has_slot t (s ∷ es) ≡ model.has_slot t es = rw other refl in
            rw other (ap (λ l. s ∷ l) (last es (sym rest ∙ none)))
      ]

  pub made-inserted : (es : List (model.Slot Node)) → model.changed t (model.on_item made_value) (model.inserted t n es)
      ≡ model.inserted t (made_value n) es
  made-inserted es =
      elim (cases_Bool (model.has_slot t es)) [
        | inl there ↦ rw there (twice es)
        | inr none ↦ rw none (last es none)
      ]
