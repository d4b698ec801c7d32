-- Where a key goes among sorted ones.
use Rattle.std.specs.Prelude.{ℕ, Bool, List}
use Rattle.std.specs.Cmp.Lexicographic.{slice_cmp}
use Rattle.std.specs.List.{position_or_len}
use Rattle.std.specs.Ordering.{is_lt, nat_cmp}
use Rattle.toml_edit.specs.model.Slots.{Slot}
use Rattle.toml_edit.specs.model.Text.{Text}
use Rattle.toml_edit.specs.model.Tree.{Node}

-- the text comes before the key of the slot, by their bytes
abbrev pub comes_before : Text → Slot Node → Bool
comes_before t s = is_lt (slice_cmp nat_cmp t s.key.name)

-- the place of the first key that comes after this one, or the number of slots
abbrev pub sorted_place : Text → List (Slot Node) → ℕ
sorted_place t es = position_or_len (comes_before t) es
