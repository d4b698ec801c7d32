-- Slots in the order of their places, a slot put where another is, and one moved.
use Rattle.std.specs.Prelude.{ℕ, Bool, List, [], ◌∷◌, insert, nat_le, remove, slice_get, if◌then◌else◌}
use Rattle.std.specs.Option.{option_map_or}
use Rattle.toml_edit_laws.specs.PlaceOrder.{key_place}
use Rattle.toml_edit_slots.specs.declared.slots.Slot.{Slot}
use Rattle.toml_edit_slots.specs.Slots.{is_at}

module _ {T : Type 0} where
  -- the spelling of the key of one doesn't begin after that of the other
  abbrev pub by_place : Slot T → Slot T → Bool
  by_place s t = nat_le (key_place s.key) (key_place t.key)

  -- the slots, with this one in the place of that of its name
  abbrev pub replaced : Slot T → List (Slot T) → List (Slot T)
  replaced s [] = []
  replaced s (e ∷ es) = if is_at s.key.name e then s ∷ es else e ∷ replaced s es

-- the list, with what is at one place moved to another
abbrev pub moved : {X : Type 0} → ℕ → ℕ → List X → List X
moved from to xs = option_map_or (λ x. insert (remove xs from) to x) (slice_get xs from) xs
