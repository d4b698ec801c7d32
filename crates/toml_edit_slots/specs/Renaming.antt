-- What a renaming tells its caller.
use Rattle.std.specs.Prelude.{List, if◌then◌else◌}
use Rattle.toml_edit_model.specs.Text.{Text}
use Rattle.toml_edit_model.specs.Tree.{Key}
use Rattle.toml_edit_model.specs.Rearranging.{is_free}
use Rattle.toml_edit_model.specs.Slots.{Slot, has_slot}
use Rattle.toml_edit_slots.specs.declared.slots.rearrange.Renamed.{Renamed}
use Rattle.toml_edit_slots.specs.declared.slots.rearrange.Renamed.TheVariants.{Done, Absent, Taken}

-- a slot of the name t gets the name u: it is done where there is one, and no other has that name
abbrev pub renaming : {T : Type 0} → Text → Text → List (Slot T) → Renamed
renaming t u es = if has_slot t es then (if is_free t u es then Done else Taken) else Absent

-- the key k, with the decors of another one
abbrev pub with_decors_of : Key → Key → Key
with_decors_of k old = record k { leaf = old.leaf; dotted = old.dotted }
