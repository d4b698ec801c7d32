-- A value under a key, and under a key of a table, replaced in its decor.
use Rattle.std.specs.Prelude.{◌≡◌, true, List, Some}
use Rattle.toml_edit.specs.model.Conversions.{with_decor}
use Rattle.toml_edit.specs.model.Lists.{slot_list}
use Rattle.toml_edit.specs.model.Slots.{Slot, changed, with_item}
use Rattle.toml_edit.specs.model.TableCalls.{get}
use Rattle.toml_edit.specs.model.Text.{Text}
use Rattle.toml_edit.specs.model.Tree.{TableFields, Node, table, Slots, Tree, node_decor, is_value_node}

-- a value is there, and is replaced by this one, in its own decor
abbrev pub SetsValue : Text → Node → List (Slot Node) → List (Slot Node) → Type 0
SetsValue key value es new =
    (old : Node) × (get key es ≡ Some old) × (is_value_node old ≡ true)
    × (new ≡ changed key (with_item (with_decor (node_decor old) value)) es)

-- so it is in the slots of a table
abbrev pub SetsInTable : Text → Node → Node → Node → Type 0
SetsInTable key value n m =
    (f : TableFields) × (ss : Slots) × (xs : Slots) × (n ≡ table f ss) × (m ≡ table f xs)
    × SetsValue key value (slot_list ss) (slot_list xs)

-- which is under a name
abbrev pub SetsBelow : Text → Text → Node → List (Slot Node) → List (Slot Node) → Type 0
SetsBelow name key value es new =
    (n : Node) × (m : Node) × (get name es ≡ Some n) × SetsInTable key value n m
    × (new ≡ changed name (with_item m) es)

-- and so it is in a tree, of which all else stays
abbrev pub SetsInTree : Text → Text → Node → Tree → Tree → Type 0
SetsInTree name key value t u =
    (u.root ≡ t.root) × (u.trailing ≡ t.trailing)
    × SetsBelow name key value (slot_list t.slots) (slot_list u.slots)
