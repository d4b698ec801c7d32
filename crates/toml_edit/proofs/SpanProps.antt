-- That spans fit their text is a proposition.
use denote.Struct.Props.{props}
use Rattle.std.proofs.Common.{Option, Some, None}
use Rattle.toml_edit_model.specs.Text.{Text}
use Rattle.toml_edit_model.specs.Tree.{Raw, owned, span, Decor, Key, Node, nothing, leaf, list, inline, table, tables, Items, no_items}
use Rattle.toml_edit_model.specs.Tree.{item, Slots, no_slots, slot}
use Rattle.toml_edit_model.specs.OwnedForm.{RawFits, OptionFits, DecorFits, KeyFits, NodeFits, ItemsFit, SlotsFit}

-- of a text
pub RawFits-prop : (t : Text) (r : Raw) → IsProp (RawFits t r)
RawFits-prop t (owned u) = hlevel props
RawFits-prop t (span i j) = hlevel props

-- of a text that may be unset
OptionFits-prop : (t : Text) (o : Option Raw) → IsProp (OptionFits t o)
OptionFits-prop t None = hlevel props
OptionFits-prop t (Some r) = RawFits-prop t r

-- of a decor
pub DecorFits-prop : (t : Text) (d : Decor) → IsProp (DecorFits t d)
DecorFits-prop t d = hlevel (OptionFits-prop)

-- of a key
KeyFits-prop : (t : Text) (k : Key) → IsProp (KeyFits t k)
KeyFits-prop t k = hlevel (OptionFits-prop)

-- of items, and of slots
mutual
  NodeFits-prop : (t : Text) (n : Node) → IsProp (NodeFits t n)
  NodeFits-prop t nothing = hlevel props
  NodeFits-prop t (leaf s spelling d) = hlevel (OptionFits-prop)
  NodeFits-prop t (list f xs) = hlevel (OptionFits-prop, RawFits-prop, ItemsFit-prop t xs)
  NodeFits-prop t (inline f ss) = hlevel (OptionFits-prop, RawFits-prop, SlotsFit-prop t ss)
  NodeFits-prop t (table f ss) = hlevel (OptionFits-prop, SlotsFit-prop t ss)
  NodeFits-prop t (tables e xs) = ItemsFit-prop t xs

  ItemsFit-prop : (t : Text) (xs : Items) → IsProp (ItemsFit t xs)
  ItemsFit-prop t no_items = hlevel props
  ItemsFit-prop t (item n xs) = hlevel (NodeFits-prop t n, ItemsFit-prop t xs)

  pub SlotsFit-prop : (t : Text) (ss : Slots) → IsProp (SlotsFit t ss)
  SlotsFit-prop t no_slots = hlevel props
  SlotsFit-prop t (slot k n ss) = hlevel (KeyFits-prop t k, NodeFits-prop t n, SlotsFit-prop t ss)
