-- Why a slot is not put in.
use Rattle.std.specs.Prelude.{◌≡◌, ℕ, Option, None, Some}
use Rattle.toml_edit_slots.specs.declared.slots.Refused.{Refused}
use Rattle.toml_edit_slots.specs.declared.slots.Refused.TheVariants.{Present, NoMemory}

-- the slot comes back, and its name has this place; it has none where there is no memory
abbrev pub IsRefusal : {S : Type 0} → S → Option ℕ → Refused S → Type 0
IsRefusal slot there (Present at back) = (there ≡ Some at) × (back ≡ slot)
IsRefusal slot there (NoMemory back) = (there ≡ None) × (back ≡ slot)
