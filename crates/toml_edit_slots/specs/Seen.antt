-- The code's slots as the definitions have them.
use Rattle.std.specs.Prelude.{◌≡◌, List, map}
use Rattle.std.specs.Borrow.{Bor}
use Rattle.toml_edit_model.specs.Tree.{Key}
use Rattle.toml_edit_model.specs.Slots.{Slot, extended}
use Rattle.toml_edit_slots.specs.declared.slots.Slot as code

-- a slot, with h applied to its item
abbrev pub slot_seen : {X Y : Type 0} → (X → Y) → code.Slot X → Slot Y
slot_seen h s = record { key = s.key; item = h s.item }

-- slots, with their items as they are
abbrev pub seen : {T : Type 0} → List (code.Slot T) → List (Slot T)
seen es = map (slot_seen (λ x. x)) es

-- a key with its item, as a slot
abbrev pub pair_seen : {T : Type 0} → Key × T → Slot T
pair_seen p = record { key = p.0; item = p.1 }

-- a key with its item, by two references, as a slot
abbrev pub pair_read : {T : Type 0} → Bor Key × Bor T → Slot T
pair_read p = record { key = p.0.now; item = p.1.now }

-- what slots are once pairs were put in
abbrev pub Adds : {T : Type 0} → List (code.Slot T) → List (Key × T) → List (code.Slot T) → Type 0
Adds old ps new = seen new ≡ extended (map pair_seen ps) (seen old)
