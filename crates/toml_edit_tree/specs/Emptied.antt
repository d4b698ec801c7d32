-- Items without the items that they hold.
use Rattle.toml_edit_model.specs.Tree.{Node, nothing, leaf, list, inline, table, tables, no_items, no_slots}

-- the item, with all that it has beside the items that it holds
abbrev pub emptied : Node → Node
emptied nothing = nothing
emptied (leaf s spelling d) = leaf s spelling d
emptied (list f xs) = list f no_items
emptied (inline f ss) = inline f no_slots
emptied (table f ss) = table f no_slots
emptied (tables e xs) = tables e no_items
