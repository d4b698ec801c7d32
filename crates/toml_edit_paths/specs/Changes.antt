-- What a change at a path leaves, and how it is refused.
use Rattle.std.specs.Prelude.{◌≡◌, Bool, true, false, List, [], ◌∷◌, Result, Ok, Err}
use Rattle.toml_edit_model.specs.Text.{Text}
use Rattle.toml_edit_model.specs.Tree.{Node}
use Rattle.toml_edit_model.specs.Keys.{new_key}
use Rattle.toml_edit_model.specs.Slots.{Slot, lookup_slot}
use Rattle.toml_edit_edit_laws.specs.Commands.{Answer, done, refused, no_such_path, wrong_kind, taken, present, element_of, change_slot, change_element}
use Rattle.toml_edit_edit_laws.specs.Commands.{drop_slot, drop_element, remove_below}
use Rattle.toml_edit_slots.specs.declared.slots.rearrange.Renamed.{Renamed}
use Rattle.toml_edit_slots.specs.declared.slots.rearrange.Renamed.TheVariants.{Done, Absent, Taken}
use Rattle.toml_edit_paths.specs.declared.fault.ChangeFault.{ChangeFault}
use Rattle.toml_edit_paths.specs.declared.fault.ChangeFault.TheVariants.{NoSuchPath, WrongKind, Memory}

-- What is done leaves what is meant. A refusal is the one that is meant, and leaves all as it was,
-- as running out of memory does.
abbrev pub Changes : {A : Type 0} → Answer A → A → A → Result (Unit {0}) ChangeFault → Type 0
Changes meant old new (Ok u) = meant ≡ done new
Changes meant old new (Err NoSuchPath) = (meant ≡ refused no_such_path) × (new ≡ old)
Changes meant old new (Err WrongKind) = (meant ≡ refused wrong_kind) × (new ≡ old)
Changes meant old new (Err Memory) = new ≡ old

-- What a renaming leaves, and which of its three results it returns.
abbrev pub Renames : {A E : Type 0} → Answer A → A → A → Result Renamed E → Type 0
Renames meant old new (Ok Done) = meant ≡ done new
Renames meant old new (Ok Absent) = (meant ≡ refused no_such_path) × (new ≡ old)
Renames meant old new (Ok Taken) = (meant ≡ refused taken) × (new ≡ old)
Renames meant old new (Err e) = new ≡ old

-- What a move leaves, and whether there is a key to move.
abbrev pub Moves : {A : Type 0} → Answer A → A → A → Bool → Type 0
Moves meant old new true = meant ≡ done new
Moves meant old new false = (meant ≡ refused no_such_path) × (new ≡ old)

-- the slots of a table without what a path leads to: the slot of its only key, or what is below
-- that of its first
abbrev pub removed_slot : Text → List Text → List (Slot Node) → Answer (List (Slot Node))
removed_slot k [] ss = drop_slot k ss (present (lookup_slot k ss))
removed_slot k (l ∷ path) ss = change_slot false (new_key k) (remove_below (l ∷ path)) ss (lookup_slot k ss)

-- the elements of this kind, likewise
abbrev pub removed_element : (Node → Bool) → Text → List Text → List Node → Answer (List Node)
removed_element is k [] ns = drop_element ns (element_of is k ns)
removed_element is k (l ∷ path) ns =
    change_element (remove_below (l ∷ path)) ns (element_of is k ns)
