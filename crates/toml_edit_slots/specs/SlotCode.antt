-- How a slot is stored.
use Rattle.std.specs.Prelude.{refl}
use Rattle.std.specs.Coded.{Coded, code_by, coded×}
use Rattle.toml_edit_model.specs.Tree.{Key}
use Rattle.toml_edit_slots.specs.declared.slots.Slot.{Slot}
use Rattle.toml_edit_key.specs.contracts.key.Key as key

-- a slot is stored as the pair of its fields
abbrev pub slot_code : {T : Type 0} → Coded T → Coded (Slot T)
slot_code {T} c =
    code_by (Key × T) (coded× key.the_row.coded c) (λ s. (s.key, s.item))
    (λ p. record { key = p.0; item = p.1 }) (λ _. refl)
