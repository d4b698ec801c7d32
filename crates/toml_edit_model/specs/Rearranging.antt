-- Keyed slots under another name, at another place, and inserted at a place, for items of any type.
-- No two keys have one name.
use Rattle.std.specs.Prelude.{ℕ, Bool, not, ◌||◌, if◌then◌else◌, List, insert, None}
use Rattle.std.specs.Option.{option_map_or}
use Rattle.toml_edit_model.specs.Text.{Text, same_text}
use Rattle.toml_edit_model.specs.Tree.{Key}
use Rattle.toml_edit_model.specs.Slots.{Slot, changed, has_slot, lookup_slot, on_key, without}

-- a key with another name, in the default spelling; its decors stay
abbrev pub renamed_key : Text → Key → Key
renamed_key t k = record { name = t; spelling = None; leaf = k.leaf; dotted = k.dotted }

module _ {T : Type 0} where
  -- no slot has the name u, except that of the name t
  abbrev pub is_free : Text → Text → List (Slot T) → Bool
  is_free t u es = same_text t u || not (has_slot u es)

  -- `rename` of t to u: the slot keeps its place and its item; where another slot has the name u,
  -- nothing changes
  abbrev pub renamed_slot : Text → Text → List (Slot T) → List (Slot T)
  renamed_slot t u es = if is_free t u es then changed t (on_key (renamed_key u)) es else es

  -- `insert_at`: the slots at the place and after it move up
  abbrev pub inserted_slot : ℕ → Slot T → List (Slot T) → List (Slot T)
  inserted_slot i s es = insert es i s

  -- `move_to`: the slot of the name is at the place, and the others keep their order
  abbrev pub moved_slot : Text → ℕ → List (Slot T) → List (Slot T)
  moved_slot t i es =
      option_map_or (λ s. inserted_slot i s (without t es)) (lookup_slot t es) es
