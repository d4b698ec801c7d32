-- What the iterator that owns its inline table has left, what `extend` leaves, and what is known of
-- closures that are called at pairs.
use Rattle.std.specs.Prelude.{◌≡◌, Bool, List, map, String, string_bytes}
use Rattle.std.specs.Borrow.{Bor}
use Rattle.std.specs.Fn.{Shared}
use Rattle.std.specs.Vec.Iter.{into_iter_items}
use Rattle.std.specs.declared.alloc.Global.{Global}
use Rattle.toml_edit_model.specs.Iterating.{value_pairs}
use Rattle.toml_edit_model.specs.Lists.{slot_list}
use Rattle.toml_edit_model.specs.Slots.{Slot, extended}
use Rattle.toml_edit_model.specs.Text.{Text}
use Rattle.toml_edit_model.specs.Tree.{Key, Node}
use Rattle.toml_edit_slots.specs.Closures.{FnReturnsAtTwo}
use Rattle.toml_edit_tree.specs.InlineSlots.{inline_fields, value_taken}
use Rattle.toml_edit_tree.specs.SlotsOf.{inline_slots_of}
use Rattle.toml_edit_tree.specs.View.{slots_view, value_view}
use Rattle.toml_edit_tree.specs.declared.inline_table.InlineTable.{InlineTable}
use Rattle.toml_edit_tree.specs.declared.inline_table.iter.InlineTableIntoIter.{InlineTableIntoIter}
use Rattle.toml_edit_tree.specs.declared.value.Value.{Value}

-- what an iterator has left, and a pair that it gave
abbrev pub owned_pairs : InlineTableIntoIter → List (Text × Node)
owned_pairs it = value_pairs (slot_list (slots_view (into_iter_items it.slots)))

abbrev pub pair_owned : String Global × Value → Text × Node
pair_owned p = (string_bytes p.0, value_view p.1)

-- pairs came into the inline table, and nothing else of it changed
abbrev pub AddsValues : InlineTable → List (Key × Value) → InlineTable → Type 0
AddsValues old ps new =
    (inline_slots_of new ≡ extended (map value_taken ps) (inline_slots_of old))
    × (inline_fields new ≡ inline_fields old)

-- some call of f at the text, and at a value that is seen as n, returned b
abbrev pub SaysOfNamed : {F : Type 0} → Shared F (Bor Text × (Bor Value × Unit {0})) Bool → F
    → Text → Node → Bool → Type 0
SaysOfNamed g f t n b = (v : Value) × (value_view v ≡ n) × FnReturnsAtTwo g f t v b

-- such a call at the text and the value of a slot
abbrev pub SaysOfPair : {F : Type 0} → Shared F (Bor Text × (Bor Value × Unit {0})) Bool → F
    → Slot Node → Bool → Type 0
SaysOfPair g f s b = SaysOfNamed g f s.key.name s.item b
