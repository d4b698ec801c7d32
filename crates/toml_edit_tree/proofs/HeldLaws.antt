-- The item of the slot at a place.
use Rattle.std.proofs.Common.{◌≡◌, ℕ, zero, suc, List, [], ◌∷◌, Some, option_map, slice_get, ap}
use Rattle.toml_edit_slots.specs.declared.slots.Slot.{Slot}
use Rattle.toml_edit_slots.specs.Slots.{items_of}
use Rattle.toml_edit_tree.specs.declared.item.Item.{Item}

pub item-at : (es : List (Slot Item)) (i : ℕ) (s : Slot Item) → slice_get es i ≡ Some s → slice_get (items_of es) i ≡ Some s.item
item-at [] i s h = absurd cc
item-at (x ∷ es) zero s h = ap (option_map (λ y. y.item)) h
item-at (x ∷ es) (suc i) s h = item-at es i s h
