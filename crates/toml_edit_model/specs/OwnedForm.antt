-- From spans of a text to the texts that they cut: which spans lie in a text, and the tree with
-- these texts.
use Rattle.std.specs.Prelude.{◌≤◌, ℕ, ◌-◌, take, drop, Option, Some, None, option_map}
use Rattle.std.specs.Str.{IsCharBoundary}
use Rattle.toml_edit_model.specs.Text.{Text}
use Rattle.toml_edit_model.specs.Tree.{Raw, owned, span, Decor, Key, TableFields, Node, nothing, leaf, list, inline, table, tables, Items}
use Rattle.toml_edit_model.specs.Tree.{no_items, item, Slots, no_slots, slot, Tree, SlotsAreWellMade}

-- the text that a span cuts
abbrev pub cut_out : Text → ℕ → ℕ → Text
cut_out source i j = take (j - i) (drop i source)

abbrev pub owned_raw : Text → Raw → Raw
owned_raw source (owned t) = owned t
owned_raw source (span i j) = owned (cut_out source i j)

abbrev pub owned_decor : Text → Decor → Decor
owned_decor source d = record {
  prefix = option_map (owned_raw source) d.prefix;
  suffix = option_map (owned_raw source) d.suffix;
}

abbrev pub owned_key : Text → Key → Key
owned_key source k =
    record {
      name = k.name;
      spelling = option_map (owned_raw source) k.spelling;
      leaf = owned_decor source k.leaf;
      dotted = owned_decor source k.dotted;
    }

abbrev pub owned_fields : Text → TableFields → TableFields
owned_fields source f = record f { decor = owned_decor source f.decor; extent = None }

-- a span lies in the text, on the boundaries of characters
abbrev pub RawFits : Text → Raw → Type 0
RawFits source (owned t) = Unit {0}
RawFits source (span i j) = IsCharBoundary source i × IsCharBoundary source j × (i ≤ j)

abbrev pub OptionFits : Text → Option Raw → Type 0
OptionFits source None = Unit {0}
OptionFits source (Some r) = RawFits source r

abbrev pub DecorFits : Text → Decor → Type 0
DecorFits source d = OptionFits source d.prefix × OptionFits source d.suffix

abbrev pub KeyFits : Text → Key → Type 0
KeyFits source k =
    OptionFits source k.spelling × DecorFits source k.leaf × DecorFits source k.dotted

-- each span of the tree does
abbrev mutual
  pub NodeFits : Text → Node → Type 0
  NodeFits source nothing = Unit {0}
  NodeFits source (leaf s spelling d) = OptionFits source spelling × DecorFits source d
  NodeFits source (list f xs) =
      DecorFits source f.decor × RawFits source f.trailing × ItemsFit source xs
  NodeFits source (inline f ss) =
      DecorFits source f.decor × RawFits source f.trailing × SlotsFit source ss
  NodeFits source (table f ss) = DecorFits source f.decor × SlotsFit source ss
  NodeFits source (tables e xs) = ItemsFit source xs

  pub ItemsFit : Text → Items → Type 0
  ItemsFit source no_items = Unit {0}
  ItemsFit source (item n xs) = NodeFits source n × ItemsFit source xs

  pub SlotsFit : Text → Slots → Type 0
  SlotsFit source no_slots = Unit {0}
  SlotsFit source (slot k n ss) = KeyFits source k × NodeFits source n × SlotsFit source ss

-- each span turned into the text that it cuts, those of containers into none
abbrev mutual
  pub owned_node : Text → Node → Node
  owned_node source nothing = nothing
  owned_node source (leaf s spelling d) =
      leaf s (option_map (owned_raw source) spelling) (owned_decor source d)
  owned_node source (list f xs) =
      list (record f {
        decor = owned_decor source f.decor;
        trailing = owned_raw source f.trailing;
        extent = None;
      }) (owned_items source xs)
  owned_node source (inline f ss) =
      inline (record f {
        decor = owned_decor source f.decor;
        trailing = owned_raw source f.trailing;
        extent = None;
      }) (owned_slots source ss)
  owned_node source (table f ss) = table (owned_fields source f) (owned_slots source ss)
  owned_node source (tables e xs) = tables None (owned_items source xs)

  pub owned_items : Text → Items → Items
  owned_items source no_items = no_items
  owned_items source (item n xs) = item (owned_node source n) (owned_items source xs)

  pub owned_slots : Text → Slots → Slots
  owned_slots source no_slots = no_slots
  owned_slots source (slot k n ss) =
      slot (owned_key source k) (owned_node source n) (owned_slots source ss)

abbrev pub owned_tree : Text → Tree → Tree
owned_tree source t =
    record {
      root = owned_fields source t.root;
      slots = owned_slots source t.slots;
      trailing = owned_raw source t.trailing;
    }

-- What the spans of a tree cut from its text makes a tree of owned texts: they lie in it, and the
-- spellings are true.
pub record IsOver (source : Text) (t : Tree) : Type 0 where
  pub root : DecorFits source t.root.decor
  pub slots : SlotsFit source t.slots
  pub trailing : RawFits source t.trailing
  pub well_made : SlotsAreWellMade (owned_slots source t.slots)
