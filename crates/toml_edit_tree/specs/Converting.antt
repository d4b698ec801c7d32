-- The parts of conversions: each item made a value, a container of those slots in its new form, and
-- what may be a table.
use Rattle.std.specs.Prelude.{Bool, not, ◌||◌}
use Rattle.toml_edit_model.specs.Tree.{Node, list, inline, table, tables, Items, no_items, item, Slots, no_slots, slot, is_value_node}
use Rattle.toml_edit_model.specs.Lists.{slot_list, slots_from, item_list, items_from, is_inline_node}
use Rattle.toml_edit_model.specs.Conversions.{formatted, formatted_items, made_table, made_value, new_array, new_inline}

-- each item of a list made a value
abbrev pub each_made : Items → Items
each_made no_items = no_items
each_made (item n xs) = item (made_value n) (each_made xs)

abbrev pub each_slot_made : Slots → Slots
each_slot_made no_slots = no_slots
each_slot_made (slot k n ss) = slot k (made_value n) (each_slot_made ss)

-- the slots of a table as its `fmt` leaves them
abbrev pub formatted_slots : Slots → Slots
formatted_slots ss = slots_from (formatted (slot_list ss))

-- the items of an array as its `fmt` leaves them
abbrev pub formatted_elements : Items → Items
formatted_elements xs = items_from (formatted_items (item_list xs))

-- a table or an array of tables whose items are made values
abbrev pub inside_made : Node → Node
inside_made (table f ss) = table f (each_slot_made ss)
inside_made (tables e xs) = tables e (each_made xs)
inside_made n = n

-- a table as the inline table of its slots, and an array of tables as the array of its own, as
-- `fmt` leaves them
abbrev pub in_new_form : Node → Node
in_new_form (table f ss) = inline new_inline (formatted_slots ss)
in_new_form (tables e xs) = list new_array (formatted_elements xs)
in_new_form n = n

-- each inline table of a list made a table
abbrev pub tables_made : Items → Items
tables_made no_items = no_items
tables_made (item n xs) = item (made_table n) (tables_made xs)

-- an inline table, or no value
abbrev pub suits_tables : Node → Bool
suits_tables n = not (is_value_node n) || is_inline_node n
