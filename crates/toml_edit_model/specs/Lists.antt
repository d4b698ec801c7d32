-- The lists of slots and items in a tree, and the kinds of their items.
use Rattle.std.specs.Prelude.{Bool, true, false, if◌then◌else◌, List, [], ◌∷◌, Option, Some, None}
use Rattle.toml_edit_model.specs.Tree.{Node, nothing, list, inline, table, tables, Items, no_items, item, Slots, no_slots, slot}
use Rattle.toml_edit_model.specs.Slots.{Slot}

-- ---- lists

-- the slots of a tree as a list, and back
abbrev pub slot_list : Slots → List (Slot Node)
slot_list no_slots = []
slot_list (slot k n ss) = record { key = k; item = n } ∷ slot_list ss

abbrev pub slots_from : List (Slot Node) → Slots
slots_from [] = no_slots
slots_from (s ∷ es) = slot s.key s.item (slots_from es)

-- the items, likewise
abbrev pub item_list : Items → List Node
item_list no_items = []
item_list (item n xs) = n ∷ item_list xs

abbrev pub items_from : List Node → Items
items_from [] = no_items
items_from (n ∷ ns) = item n (items_from ns)

-- the slots of a table or an inline table
abbrev pub slots_in : Node → Option (List (Slot Node))
slots_in (table f ss) = Some (slot_list ss)
slots_in (inline f ss) = Some (slot_list ss)
slots_in n = None

-- the item with another list in their place
abbrev pub on_slots : (List (Slot Node) → List (Slot Node)) → Node → Node
on_slots h (table f ss) = table f (slots_from (h (slot_list ss)))
on_slots h (inline f ss) = inline f (slots_from (h (slot_list ss)))
on_slots h n = n

-- the items of an array or an array of tables
abbrev pub items_in : Node → Option (List Node)
items_in (list f xs) = Some (item_list xs)
items_in (tables e xs) = Some (item_list xs)
items_in n = None

-- the item with another list in their place
abbrev pub on_items : (List Node → List Node) → Node → Node
on_items h (list f xs) = list f (items_from (h (item_list xs)))
on_items h (tables e xs) = tables e (items_from (h (item_list xs)))
on_items h n = n

-- ---- kinds, beside `is_value_node` and `is_table_node`

-- no placeholder
abbrev pub is_item : Node → Bool
is_item nothing = false
is_item _ = true

-- an inline table, and an array of tables
abbrev pub is_inline_node : Node → Bool
is_inline_node (inline f ss) = true
is_inline_node _ = false

abbrev pub is_tables_node : Node → Bool
is_tables_node (tables e xs) = true
is_tables_node _ = false

-- a dotted table, and a dotted inline table
abbrev pub is_dotted_table : Node → Bool
is_dotted_table (table f ss) = f.is_dotted
is_dotted_table _ = false

abbrev pub is_dotted_inline : Node → Bool
is_dotted_inline (inline f ss) = f.is_dotted
is_dotted_inline _ = false

-- the item, where it passes a test
abbrev pub only : (Node → Bool) → Node → Option Node
only test n = if test n then Some n else None
