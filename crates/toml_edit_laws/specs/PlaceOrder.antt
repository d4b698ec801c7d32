-- Slots in the order of their places: the slots of each table are in the order of where the
-- spellings of their keys begin in the text.
use Rattle.std.specs.Prelude.{◌≡◌, ◌<◌, ℕ, false, nat_lt, if◌then◌else◌, Option, Some}
use Rattle.toml_edit_model.specs.Tree.{Raw, span, Key, Node, table, tables, Items, no_items, item, Slots, no_slots, slot, has_key}

-- where the text begins in the source; 0 where it is a text of its own
abbrev pub raw_place : Option Raw → ℕ
raw_place (Some (span i j)) = i
raw_place _ = 0

-- where the spelling of a key begins
abbrev pub key_place : Key → ℕ
key_place k = raw_place k.spelling

-- a slot before the first whose key doesn't begin before its own
abbrev pub slot_by_place : Key → Node → Slots → Slots
slot_by_place k n no_slots = slot k n no_slots
slot_by_place k n (slot l m ss) =
    if nat_lt (key_place l) (key_place k) then slot l m (slot_by_place k n ss)
    else slot k n (slot l m ss)

-- the slots of a table, and of each table below it, by where their keys begin
abbrev mutual
  pub node_by_place : Node → Node
  node_by_place (table f ss) = table f (slots_by_place ss)
  node_by_place (tables e xs) = tables e (items_by_place xs)
  node_by_place n = n

  pub items_by_place : Items → Items
  items_by_place no_items = no_items
  items_by_place (item n xs) = item (node_by_place n) (items_by_place xs)

  pub slots_by_place : Slots → Slots
  slots_by_place no_slots = no_slots
  slots_by_place (slot k n ss) = slot_by_place k (node_by_place n) (slots_by_place ss)

-- In each table no two keys have one name, and all begin before this byte.
abbrev mutual
  pub NodeIsPlaced : ℕ → Node → Type 0
  NodeIsPlaced end (table f ss) = ArePlaced end ss
  NodeIsPlaced end (tables e xs) = ItemsArePlaced end xs
  NodeIsPlaced end n = Unit {0}

  pub ItemsArePlaced : ℕ → Items → Type 0
  ItemsArePlaced end no_items = Unit {0}
  ItemsArePlaced end (item n xs) = NodeIsPlaced end n × ItemsArePlaced end xs

  pub ArePlaced : ℕ → Slots → Type 0
  ArePlaced end no_slots = Unit {0}
  ArePlaced end (slot k n ss) =
      (key_place k < end) × (has_key k.name ss ≡ false) × NodeIsPlaced end n × ArePlaced end ss
