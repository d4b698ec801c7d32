-- As many slots, with another item or another key in one: what keeps a place within them.
use Rattle.std.specs.Prelude.{◌≡◌, ℕ, zero, suc, List, [], ◌∷◌, length}
use Rattle.std.proofs.Common.{refl, ap}
use Rattle.toml_edit_model.specs.Tree.{Key}
use Rattle.toml_edit_slots.specs.declared.slots.Slot.{Slot}
use Rattle.toml_edit_slots.specs.Slots.{on_key, with_item}

module _ {T : Type 0} where
  pub length-with_item : (es : List (Slot T)) (i : ℕ) (x : T)
      → length (with_item i x es) ≡ length es
  length-with_item [] i x = refl
  length-with_item (s ∷ es) zero x = refl
  length-with_item (s ∷ es) (suc i) x = ap suc (length-with_item es i x)

  pub length-on_key : (h : Key → Key) (es : List (Slot T)) (i : ℕ)
      → length (on_key i h es) ≡ length es
  length-on_key h [] i = refl
  length-on_key h (s ∷ es) zero = refl
  length-on_key h (s ∷ es) (suc i) = ap suc (length-on_key h es i)
