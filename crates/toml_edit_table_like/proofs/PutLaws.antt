-- An item that is put under a key, where none stands.
use Rattle.std.proofs.Common.{◌≡◌, ℕ, ◌<◌, false, List, [], ◌∷◌, ◌++◌, Option, Some, None, is_some, length, get_or, option_map}
use Rattle.std.proofs.Common.{slice_get, refl, sym, ap, subst, ◌∙◌}
use Rattle.std.proofs.lemmas.Option.{slice_get-get_or}
use Rattle.std.specs.Option.{option_map_or, unwrap_or, UnwrapsOrElse}
use Rattle.std.specs.Prelude.{IfSome}
use Rattle.toml_edit_laws.proofs.slots.Places.{lookup_slot-at, lookup_slot-none, none_at, put-at, put-new}
use Rattle.toml_edit_model.specs.Slots as model
use Rattle.toml_edit_model.specs.Tree.{Key, Node}
use Rattle.toml_edit_slots.specs.Slots.{items_of, place, with_item}
use Rattle.toml_edit_slots.specs.declared.slots.Slot.{Slot}
use Rattle.toml_edit_table_like.specs.Putting.{item_put}
use Rattle.toml_edit_table_like.specs.Shown.{shown}
use Rattle.toml_edit_table_like.proofs.ShownLaws.{get-shown, has_slot-shown, item-at, place-shown, set-shown, slot_shown}
use Rattle.toml_edit_tree.specs.View.{item_view}
use Rattle.toml_edit_tree.specs.declared.item.Item.{Item}
use Rattle.toml_edit_tree.specs.declared.item.Item.TheVariants as items

last-shown : (es : List (Slot Item)) (k : Key) (x : Item) → shown (es ++ record { key = k; item = x } ∷ []) ≡ shown es
    ++ record { key = k; item = item_view x } ∷ []
last-shown [] k x = refl
last-shown (s ∷ es) k x = ap (λ l. slot_shown s ∷ l) (last-shown es k x)

pub with_item-last : (es : List (Slot Item)) (s : Slot Item) (x : Item) → with_item (length es) x (es ++ s ∷ []) ≡ es
    ++ record { key = s.key; item = x } ∷ []
with_item-last [] s x = refl
with_item-last (r ∷ es) s x = ap (λ l. r ∷ l) (with_item-last es s x)

pub item-last : (es : List (Slot Item)) (s : Slot Item) → slice_get (items_of (es ++ s ∷ [])) (length es) ≡ Some s.item
item-last [] s = refl
item-last (r ∷ es) s = item-last es s

module _ (k : Key) (es : List (Slot Item)) where
  left : model.AreApart (shown es) → (w : Item) → (o : Option ℕ) → place k.name es ≡ o
      → shown (option_map_or (λ at. with_item at w es) o (es ++ record { key = k; item = w } ∷ []))
      ≡ model.put (model.with_item (item_view w)) (record { key = k; item = item_view w }) (shown es)
  left apart w None e =
      last-shown es k w ∙ sym (put-new (model.with_item (item_view w)) (record { key = k; item = item_view w }) (shown es)
      (place-shown k.name es ∙ e))
  left apart w (Some i) e =
      let new : model.Slot Node = record { key = k; item = item_view w } in
      set-shown es i new w ∙ sym (put-at (model.with_item (item_view w)) new (shown es) i new apart (place-shown k.name es ∙ e))

  -- what is there with the item put in
  pub put-leaves : model.AreApart (shown es) → (w : Item) → shown (item_put k w es)
      ≡ model.put (model.with_item (item_view w)) (record { key = k; item = item_view w }) (shown es)
  put-leaves apart w = left apart w (place k.name es) refl

  pub put-there : (i : ℕ) → place k.name es ≡ Some i → (w : Item) → with_item i w es ≡ item_put k w es
  put-there i at w = ap (λ o. option_map_or (λ j. with_item j w es) o (es ++ record { key = k; item = w } ∷ [])) (sym at)

  pub put-gone : place k.name es ≡ None → (w : Item) → es ++ record { key = k; item = w } ∷ [] ≡ item_put k w es
  put-gone none w = ap (λ o. option_map_or (λ j. with_item j w es) o (es ++ record { key = k; item = w } ∷ [])) (sym none)

  held-there : (i : ℕ) → place k.name es ≡ Some i → (s : Slot Item) → slice_get es i ≡ Some s → model.lookup_slot k.name (shown es)
      ≡ Some (slot_shown s)
  held-there i at s got = lookup_slot-at k.name (shown es) i (slot_shown s) (place-shown k.name es ∙ at) ∙ ap Some (get-shown es i s got)

  pub item-there : (i : ℕ) → place k.name es ≡ Some i → i < length es → (d : Node) → option_map item_view (slice_get (items_of es) i)
      ≡ Some (unwrap_or (model.lookup k.name (shown es)) d)
  item-there i at low d =
      let fill : Slot Item = record { key = k; item = items.None } in
      let s = get_or es i fill in
      let got : slice_get es i ≡ Some s = slice_get-get_or es i fill low in
      ap (option_map item_view) (item-at es i s got)
      ∙ sym (ap (λ f. Some (unwrap_or (option_map (λ (r : model.Slot Node). r.item) f) d)) (held-there i at s got))

  -- the item at the key's place is the one that is found, whatever would be made
  pub item-or-else : (i : ℕ) → place k.name es ≡ Some i → i < length es → (P : Node → Type 0)
      → IfSome (slice_get (items_of es) i) (λ x. UnwrapsOrElse (model.lookup k.name (shown es)) P (item_view x))
  item-or-else i at low P =
      let fill : Slot Item = record { key = k; item = items.None } in
      let s = get_or es i fill in
      let got : slice_get es i ≡ Some s = slice_get-get_or es i fill low in
      let item : slice_get (items_of es) i ≡ Some s.item = item-at es i s got in
      let found : model.lookup k.name (shown es) ≡ Some (item_view s.item) =
      ap (option_map (λ (r : model.Slot Node). r.item)) (held-there i at s got) in
      subst (λ o. IfSome o (λ x. UnwrapsOrElse (model.lookup k.name (shown es)) P (item_view x))) (sym item)
      (subst (λ o. UnwrapsOrElse o P (item_view s.item)) (sym found) refl)

  pub item-gone : place k.name es ≡ None → (d : Node) → Some d ≡ Some (unwrap_or (model.lookup k.name (shown es)) d)
  item-gone none d =
      sym (ap (λ f. Some (unwrap_or (option_map (λ (r : model.Slot Node). r.item) f) d))
      (lookup_slot-none k.name (shown es) (none_at k.name (shown es) (place-shown k.name es ∙ none))))

  pub has-none : place k.name es ≡ None → model.has_slot k.name (shown es) ≡ false
  has-none none = has_slot-shown k.name es ∙ ap is_some none
