-- The extents of containers lie in the text that a tree is of.
use Rattle.std.specs.Prelude.{◌≤◌, length, Some, None}
use Rattle.toml_edit_model.specs.Mode.{Mode}
use Rattle.toml_edit_model.specs.Text.{Text}
use Rattle.toml_edit_model.specs.Syntax.{Document, document_text}
use Rattle.toml_edit_model.specs.Tree.{Extent, Node, nothing, leaf, list, inline, table, tables, Items, no_items, item, Slots, no_slots}
use Rattle.toml_edit_model.specs.Tree.{slot, Tree}
use Rattle.toml_edit_model.specs.TreeOf.{spanned_in, IsTreeOf}

-- both ends do
abbrev pub ExtentLies : Text → Extent → Type 0
ExtentLies source None = Unit {0}
ExtentLies source (Some e) = (e.0 ≤ length source) × (e.1 ≤ length source)

abbrev mutual
  pub NodeLies : Text → Node → Type 0
  NodeLies source nothing = Unit {0}
  NodeLies source (leaf s spelling d) = Unit {0}
  NodeLies source (list f xs) = ExtentLies source f.extent × ItemsLie source xs
  NodeLies source (inline f ss) = ExtentLies source f.extent × SlotsLie source ss
  NodeLies source (table f ss) = ExtentLies source f.extent × SlotsLie source ss
  NodeLies source (tables e xs) = ExtentLies source e × ItemsLie source xs

  pub ItemsLie : Text → Items → Type 0
  ItemsLie source no_items = Unit {0}
  ItemsLie source (item n xs) = NodeLies source n × ItemsLie source xs

  pub SlotsLie : Text → Slots → Type 0
  SlotsLie source no_slots = Unit {0}
  SlotsLie source (slot k n ss) = NodeLies source n × SlotsLie source ss

-- So it is in the tree with spans of a document, over the document's text.
pub record TreeLies (source : Text) (t : Tree) : Type 0 where
  pub root : ExtentLies source t.root.extent
  pub slots : SlotsLie source t.slots

abbrev pub ExtentsLie : Mode → Type 0
ExtentsLie mode =
    (d : Document) (t : Tree) → IsTreeOf (spanned_in mode) d t → TreeLies (document_text d) t
