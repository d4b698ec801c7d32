-- The slots of a table and of an inline table as a list, and a slot that is read or taken out.
use Rattle.std.specs.Prelude.{◌≡◌, Bool, List, map, String, string_bytes}
use Rattle.std.specs.Borrow.{Bor}
use Rattle.std.specs.Fn.{Shared}
use Rattle.std.specs.Vec.Iter.{into_iter_items}
use Rattle.std.specs.declared.alloc.Global.{Global}
use Rattle.toml_edit_model.specs.Lists.{slot_list}
use Rattle.toml_edit_model.specs.Slots.{Slot, extended, pairs}
use Rattle.toml_edit_model.specs.Text.{Text}
use Rattle.toml_edit_model.specs.Tree.{Key, Node}
use Rattle.toml_edit_slots.specs.Closures.{FnReturnsAtTwo}
use Rattle.toml_edit_tree.specs.declared.inline_table.InlineTable.{InlineTable}
use Rattle.toml_edit_tree.specs.declared.item.Item.{Item}
use Rattle.toml_edit_tree.specs.declared.table.Table.{Table}
use Rattle.toml_edit_tree.specs.declared.table.iter.IntoIter.{IntoIter}
use Rattle.toml_edit_tree.specs.View.{fields_view, inline_view, item_view, slots_view, table_slots}

abbrev pub slots_of : Table → List (Slot Node)
slots_of t = slot_list (table_slots t)

abbrev pub inline_slots_of : InlineTable → List (Slot Node)
inline_slots_of t = slot_list (inline_view t).slots

-- a key with its item, by two references and by themselves
abbrev pub slot_read : Bor Key × Bor Item → Slot Node
slot_read p = record { key = p.0.now; item = item_view p.1.now }

abbrev pub slot_taken : Key × Item → Slot Node
slot_taken p = record { key = p.0; item = item_view p.1 }

-- ---- what contracts say of slots that come and go

-- pairs came into the table, and nothing else of it changed
abbrev pub AddsSlots : Table → List (Key × Item) → Table → Type 0
AddsSlots old ps new =
    (slots_of new ≡ extended (map slot_taken ps) (slots_of old))
    × (fields_view new ≡ fields_view old)

-- some call of f at the slot's name, and at an item that is seen as its item, returned b
abbrev pub SaysOfItem : {F : Type 0} → Shared F (Bor Text × (Bor Item × Unit {0})) Bool → F
    → Slot Node → Bool → Type 0
SaysOfItem g f s b = (x : Item) × (item_view x ≡ s.item) × FnReturnsAtTwo g f s.key.name x b

-- what an iterator over all slots has left, and a pair that it gave
abbrev pub all_left : IntoIter → List (Text × Node)
all_left it = pairs (slot_list (slots_view (into_iter_items it.slots)))

abbrev pub pair_taken : String Global × Item → Text × Node
pair_taken p = (string_bytes p.0, item_view p.1)
