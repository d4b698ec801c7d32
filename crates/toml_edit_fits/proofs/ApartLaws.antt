-- The keys of each table that the walk over the headers enters are distinct, where the tree is well made.
use mathlib.Core.Logic.{∥∥₁_elim}
use denote.Struct.Props.{props}
use Rattle.std.proofs.Math.Bool.{Bool-set}
use Rattle.toml_edit_model.specs.Tree.{Node, nothing, leaf, list, inline, table, tables, Items, no_items, item, Slots, no_slots, slot}
use Rattle.toml_edit_model.specs.Tree.{IsWellMade, ItemsAreWellMade, SlotsAreWellMade}
use Rattle.toml_edit_fits.specs.OrderTests.{ItemIsApart, ItemsAreApart, NodeIsApart, SlotsAreApart}

mutual
  node-apart : (n : Node) → IsWellMade n → NodeIsApart n
  node-apart nothing h = tt
  node-apart (leaf s spelling d) h = tt
  node-apart (list f xs) h = tt
  node-apart (inline f ss) h = tt
  node-apart (table f ss) h = slots-apart ss h
  node-apart (tables e xs) h = items-apart xs h

  items-apart : (xs : Items) → ItemsAreWellMade xs → ItemsAreApart xs
  items-apart no_items h = tt
  items-apart (item n xs) h = (item-apart n h.0, items-apart xs h.1)

  item-apart : (n : Node) → IsWellMade n → ItemIsApart n
  item-apart nothing h = tt
  item-apart (leaf s spelling d) h = tt
  item-apart (list f xs) h = tt
  item-apart (inline f ss) h = tt
  item-apart (table f ss) h = slots-apart ss h
  item-apart (tables e xs) h = tt

  slots-apart : (ss : Slots) → SlotsAreWellMade ss → SlotsAreApart ss
  slots-apart no_slots h = tt
  slots-apart (slot k n ss) h = (h.0, node-apart n h.2, slots-apart ss h.3)

-- that they are is a proposition
mutual
  node-prop : (n : Node) → IsProp (NodeIsApart n)
  node-prop nothing = hlevel props
  node-prop (leaf s spelling d) = hlevel props
  node-prop (list f xs) = hlevel props
  node-prop (inline f ss) = hlevel props
  node-prop (table f ss) = slots-prop ss
  node-prop (tables e xs) = items-prop xs

  items-prop : (xs : Items) → IsProp (ItemsAreApart xs)
  items-prop no_items = hlevel props
  items-prop (item n xs) = hlevel (item-prop n, items-prop xs)

  item-prop : (n : Node) → IsProp (ItemIsApart n)
  item-prop nothing = hlevel props
  item-prop (leaf s spelling d) = hlevel props
  item-prop (list f xs) = hlevel props
  item-prop (inline f ss) = hlevel props
  item-prop (table f ss) = slots-prop ss
  item-prop (tables e xs) = hlevel props

  slots-prop : (ss : Slots) → IsProp (SlotsAreApart ss)
  slots-prop no_slots = hlevel props
  slots-prop (slot k n ss) = hlevel (Bool-set, node-prop n, slots-prop ss)

pub made-apart : (ss : Slots) → ∥ SlotsAreWellMade ss ∥₁ → SlotsAreApart ss
made-apart ss made = ∥∥₁_elim made (slots-prop ss) (slots-apart ss)
