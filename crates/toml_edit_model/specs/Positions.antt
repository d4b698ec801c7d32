-- Tables without positions: what `forget_positions` leaves.
use Rattle.std.specs.Prelude.{None}
use Rattle.toml_edit_model.specs.Tree.{Node, nothing, leaf, list, inline, table, tables, Items, no_items, item, Slots, no_slots, slot}

-- no table has a position, down to the values, which have none
abbrev mutual
  pub without_positions : Node → Node
  without_positions nothing = nothing
  without_positions (leaf s spelling d) = leaf s spelling d
  without_positions (list f xs) = list f xs
  without_positions (inline f ss) = inline f ss
  without_positions (table f ss) =
      table (record f { position = None }) (slots_without_positions ss)
  without_positions (tables e xs) = tables e (items_without_positions xs)

  pub items_without_positions : Items → Items
  items_without_positions no_items = no_items
  items_without_positions (item n xs) =
      item (without_positions n) (items_without_positions xs)

  pub slots_without_positions : Slots → Slots
  slots_without_positions no_slots = no_slots
  slots_without_positions (slot k n ss) =
      slot k (without_positions n) (slots_without_positions ss)
