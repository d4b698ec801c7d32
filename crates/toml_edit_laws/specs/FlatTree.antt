-- Right values, lists of keys, and slots with one more at the end.
use Rattle.std.specs.Prelude.{Bool, List}
use Rattle.std.specs.List.{list_any}
use Rattle.toml_edit_model.specs.Text.{Text, same_text}
use Rattle.toml_edit_model.specs.Tree.{Key, Node, Slots, no_slots, slot}

-- one of the keys is this text
abbrev pub is_among : Text → List Text → Bool
is_among k keys = list_any (same_text k) keys

-- the slots with one more at the end
abbrev pub with_slot : Slots → Key → Node → Slots
with_slot no_slots k n = slot k n no_slots
with_slot (slot l m ss) k n = slot l m (with_slot ss k n)
