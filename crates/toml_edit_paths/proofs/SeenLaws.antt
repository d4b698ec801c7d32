-- Slots that are renamed or moved, as they are seen in a tree.
use Rattle.std.proofs.Common.{◌≡◌, ℕ, zero, suc, Bool, true, false, not, ◌||◌, if◌then◌else◌, List, [], ◌∷◌, Option, None, Some, option_map}
use Rattle.std.proofs.Common.{refl, sym, ap, ◌∙◌, length}
use Rattle.std.specs.Option.{option_map_or}
use Rattle.toml_edit_model.specs.Rearranging.{inserted_slot, is_free, moved_slot, renamed_key, renamed_slot}
use Rattle.toml_edit_model.specs.Slots as model
use Rattle.toml_edit_model.specs.Text.{Text, same_text}
use Rattle.toml_edit_laws.proofs.slots.Views as views
use Rattle.toml_edit_slots.specs.Renaming.{renaming}
use Rattle.toml_edit_slots.specs.Seen.{seen}
use Rattle.toml_edit_slots.specs.declared.slots.Slot.{Slot}
use Rattle.toml_edit_slots.specs.declared.slots.rearrange.Renamed.TheVariants.{Done, Absent, Taken}
use Rattle.toml_edit_tree.specs.View.{item_view}
use Rattle.toml_edit_tree.specs.declared.item.Item.{Item}
use Rattle.toml_edit_tree.specs.Indexed.{shown_slots}

-- ---- a view of the items, and the calls on the slots

module _ {X Y : Type 0} (h : X → Y) where
  is_free-joins : (t u : Text) (es : List (model.Slot X)) → is_free t u (views.seen h es) ≡ is_free t u es
  is_free-joins t u es = ap (λ b. same_text t u || not b) (views.has_slot-seen h u es)

  renaming-joins : (t u : Text) (es : List (model.Slot X)) → renaming t u (views.seen h es) ≡ renaming t u es
  renaming-joins t u es =
      ap (λ b. if b then (if is_free t u (views.seen h es) then Done else Taken) else Absent) (views.has_slot-seen h t es)
      ∙ ap (λ b. if model.has_slot t es then (if b then Done else Taken) else Absent) (is_free-joins t u es)

  renamed-joins : (t u : Text) (es : List (model.Slot X)) → renamed_slot t u (views.seen h es) ≡ views.seen h (renamed_slot t u es)
  renamed-joins t u es =
      ap (λ b. if b then model.changed t (model.on_key (renamed_key u)) (views.seen h es) else views.seen h es) (is_free-joins t u es)
      ∙ chosen (is_free t u es)
    where
      chosen : (b : Bool) → (if b then model.changed t (model.on_key (renamed_key u)) (views.seen h es) else views.seen h es)
          ≡ views.seen h (if b then model.changed t (model.on_key (renamed_key u)) es else es)
      chosen true = views.changed-seen h (model.on_key (renamed_key u)) (model.on_key (renamed_key u)) (λ s. refl) t es
      chosen false = refl

  inserted-joins : (i : ℕ) (s : model.Slot X) (es : List (model.Slot X)) → inserted_slot i (model.on_item h s) (views.seen h es)
      ≡ views.seen h (inserted_slot i s es)
  inserted-joins zero s [] = refl
  inserted-joins (suc i) s [] = refl
  inserted-joins zero s (e ∷ es) = refl
  inserted-joins (suc i) s (e ∷ es) = ap (λ l. model.on_item h e ∷ l) (inserted-joins i s es)

  moved-joins : (t : Text) (i : ℕ) (es : List (model.Slot X)) → moved_slot t i (views.seen h es) ≡ views.seen h (moved_slot t i es)
  moved-joins t i es =
      ap (λ o. option_map_or (λ s. inserted_slot i s (model.without t (views.seen h es))) o (views.seen h es))
      (views.lookup_slot-seen h t es)
      ∙ ap (λ l. option_map_or (λ s. inserted_slot i s l) (option_map (model.on_item h) (model.lookup_slot t es)) (views.seen h es))
      (views.without-seen h t es)
      ∙ found (model.lookup_slot t es)
    where
      found : (o : Option (model.Slot X)) → option_map_or (λ s. inserted_slot i s (views.seen h (model.without t es)))
          (option_map (model.on_item h) o) (views.seen h es)
          ≡ views.seen h (option_map_or (λ s. inserted_slot i s (model.without t es)) o es)
      found None = refl
      found (Some s) = inserted-joins i s (model.without t es)

-- ---- as they are shown

shown-seen : (es : List (Slot Item)) → shown_slots es ≡ views.seen item_view (seen es)
shown-seen [] = refl
shown-seen (s ∷ es) = ap (λ l. record { key = s.key; item = item_view s.item } ∷ l) (shown-seen es)

pub length-shown : (es : List (Slot Item)) → length (shown_slots es) ≡ length es
length-shown [] = refl
length-shown (s ∷ es) = ap suc (length-shown es)

pub has-shown : (t : Text) (es : List (Slot Item)) → model.has_slot t (shown_slots es) ≡ model.has_slot t (seen es)
has-shown t es = ap (model.has_slot t) (shown-seen es) ∙ views.has_slot-seen item_view t (seen es)

pub renaming-shown : (t u : Text) (es : List (Slot Item)) → renaming t u (shown_slots es) ≡ renaming t u (seen es)
renaming-shown t u es = ap (renaming t u) (shown-seen es) ∙ renaming-joins item_view t u (seen es)

pub renamed-shown : (t u : Text) (es fs : List (Slot Item)) → seen fs ≡ renamed_slot t u (seen es)
    → shown_slots fs ≡ renamed_slot t u (shown_slots es)
renamed-shown t u es fs left =
    shown-seen fs ∙ ap (views.seen item_view) left ∙ sym (renamed-joins item_view t u (seen es)) ∙ ap (renamed_slot t u) (sym (shown-seen es))

pub moved-shown : (t : Text) (i : ℕ) (es fs : List (Slot Item)) → seen fs ≡ moved_slot t i (seen es)
    → shown_slots fs ≡ moved_slot t i (shown_slots es)
moved-shown t i es fs left =
    shown-seen fs ∙ ap (views.seen item_view) left ∙ sym (moved-joins item_view t i (seen es)) ∙ ap (moved_slot t i) (sym (shown-seen es))
