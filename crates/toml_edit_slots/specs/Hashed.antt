-- The places of a table's slots, in a map.
use Rattle.std.specs.Prelude.{◌≡◌, ℕ, ◌-◌, ◌<◌, true, List, Option, Some, is_some, nat_lt, slice_get, if◌then◌else◌}
use Rattle.indexmap.specs.IndexMap.{get_by_text}
use Rattle.toml_edit_model.specs.Text.{Text, same_text}
use Rattle.toml_edit_slots.specs.Slots.{place_in}
use Rattle.toml_edit_slots.specs.declared.hashed.Hashed.{Hashed}

-- the place that the text stands in the map with
abbrev pub place_of : Hashed → Text → Option ℕ
place_of m t = get_by_text m.places t

-- a text stands in the map with a place exactly where it is at that place among these
abbrev pub IsHashed : Hashed → List Text → Type 0
IsHashed m us = (t : Text) → place_of m t ≡ place_in t us

-- the texts before the place are here with their places
abbrev pub IsHashedBefore : ℕ → Hashed → List Text → Type 0
IsHashedBefore n m us = (k : ℕ) (t : Text) → k < n → slice_get us k ≡ Some t → place_of m t ≡ Some k

-- the text is here with the place, and the others as before
abbrev pub IsPutAt : ℕ → Text → Hashed → Hashed → Type 0
IsPutAt n u old new = (t : Text) → place_of new t ≡ if same_text u t then Some n else place_of old t

-- the same places are here
abbrev pub HasSame : Hashed → Hashed → Type 0
HasSame old new = (t : Text) → place_of new t ≡ place_of old t

-- each of the texts is here, whatever its place
abbrev pub HasNames : Hashed → List Text → Type 0
HasNames m us = (t : Text) → is_some (place_in t us) ≡ true → is_some (place_of m t) ≡ true

-- the place, once the gap before it is closed; one before the gap stays
abbrev pub closed_place : ℕ → ℕ → ℕ
closed_place gap p = if nat_lt gap p then p - 1 else p
