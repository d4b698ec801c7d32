-- The values that are in an inline table by place.
use Rattle.std.specs.Prelude.{◌≡◌, ℕ, zero, suc, Bool, true, List, [], ◌∷◌, Option, Some, is_some, slice_get, option_and_then, IfSome}
use Rattle.std.proofs.Common.{refl, ap}
use Rattle.toml_edit_model.specs.Conversions.{made_value_or}
use Rattle.toml_edit_model.specs.Tree.{Key, Node}
use Rattle.toml_edit_slots.specs.Slots.{items_of, on_key, with_item}
use Rattle.toml_edit_slots.specs.declared.slots.Slot.{Slot}
use Rattle.toml_edit_tree.specs.ElementHolds.{value_held, value_open}
use Rattle.toml_edit_tree.specs.View.{item_view}
use Rattle.toml_edit_tree.specs.declared.item.Item.{Item}
use Rattle.toml_edit_tree.specs.declared.item.Item.TheVariants as items
use Rattle.toml_edit_tree.specs.declared.item.Item.TheVariants.{outs-Value}
use Rattle.toml_edit_tree.specs.declared.value.Value.{Value}

-- the value in the slot at a place, and whether there is one
abbrev pub value_at : ℕ → List (Slot Item) → Option Value
value_at at es = option_and_then value_held (slice_get (items_of es) at)

abbrev pub has_value_at : ℕ → List (Slot Item) → Bool
has_value_at at es = is_some (value_at at es)

-- another item in the slot at a place: what was there made a value, and d in place of a placeholder
abbrev pub MakesValueAt : Node → ℕ → List (Slot Item) → List (Slot Item) → Type 0
MakesValueAt d at es fs =
    (w : Item) × (fs ≡ with_item at w es) × (is_some (value_held w) ≡ true)
    × IfSome (slice_get (items_of es) at) (λ x. item_view w ≡ made_value_or d (item_view x))

-- ---- a slot that holds a value does so with another one, and with another key

pub held-Value : (v : Value) → value_held (items.Value v) ≡ Some v
held-Value v = ap value_open (outs-Value v)

pub has-with_item : (es : List (Slot Item)) (i : ℕ) (v : Value) → has_value_at i es ≡ true
    → has_value_at i (with_item i (items.Value v) es) ≡ true
has-with_item [] i v h = h
has-with_item (s ∷ es) zero v h = ap is_some (held-Value v)
has-with_item (s ∷ es) (suc i) v h = has-with_item es i v h

pub has-on_key : (h : Key → Key) (es : List (Slot Item)) (i : ℕ)
    → has_value_at i (on_key i h es) ≡ has_value_at i es
has-on_key h [] i = refl
has-on_key h (s ∷ es) zero = refl
has-on_key h (s ∷ es) (suc i) = has-on_key h es i
