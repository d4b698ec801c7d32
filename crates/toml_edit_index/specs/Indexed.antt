-- The index of a document: an entry for each item, and what a node says of an entry.
use Rattle.std.specs.Prelude.{◌≡◌, ℕ, suc, ◌+◌, if◌then◌else◌, List, [], ◌∷◌, ◌++◌, length, take, flat_map, Option, None, Some, is_some, option_and_then}
use Rattle.std.specs.Option.{option_map_or}
use Rattle.std.specs.declared.ops.Range.{Range}
use Rattle.toml_edit_model.specs.Excerpt.{Position, position_of_byte}
use Rattle.toml_edit_model.specs.Lists.{is_item}
use Rattle.toml_edit_model.specs.Scalars.{Datetime, Scalar, string, integer, float, boolean, datetime}
use Rattle.toml_edit_model.specs.Text.{Text}
use Rattle.toml_edit_model.specs.Tree.{Raw, Key, Node, nothing, leaf, list, inline, table, tables, Items, no_items, item, Slots, no_slots, slot, Tree, node_decor}
use Rattle.toml_edit_text.specs.RawText.{range_of}
use Rattle.toml_edit_tree.specs.Casts.{text_in}
use Rattle.toml_edit_tree.specs.ItemParts.{item_span}
use Rattle.toml_edit_index.specs.declared.node.Node.{Node as IndexNode}
use Rattle.toml_edit_index.specs.declared.node.Span.{Span}

-- ---- the entries

-- an item, the key of the slot that it is in, the number of the node that holds it, and that of the
-- first node behind it and what is below it
pub record Entry : Type 0 where
  pub parent : ℕ
  pub next : ℕ
  pub key : Option Key
  pub item : Node

-- The items below the node of this number, each before those below it, in the order of slots and of
-- elements; without placeholders. The first of them has the second number.
abbrev mutual
  pub entries_below : ℕ → Node → List Entry
  entries_below at (table f ss) = entries_of_slots at (suc at) ss
  entries_below at (inline f ss) = entries_of_slots at (suc at) ss
  entries_below at (list f xs) = entries_of_elements at (suc at) xs
  entries_below at (tables e xs) = entries_of_elements at (suc at) xs
  entries_below at (leaf s spelling d) = []
  entries_below at nothing = []

  pub entries_of_slots : ℕ → ℕ → Slots → List Entry
  entries_of_slots parent at no_slots = []
  entries_of_slots parent at (slot k n ss) =
      if is_item n then
      (let below = entries_below at n in
      let next = suc at + length below in
      record { parent = parent; next = next; key = Some k; item = n }
      ∷ (below ++ entries_of_slots parent next ss))
      else entries_of_slots parent at ss

  pub entries_of_elements : ℕ → ℕ → Items → List Entry
  entries_of_elements parent at no_items = []
  entries_of_elements parent at (item n xs) =
      let below = entries_below at n in
      let next = suc at + length below in
      record { parent = parent; next = next; key = None; item = n }
      ∷ (below ++ entries_of_elements parent next xs)

-- ---- kinds

abbrev pub kind_of_datetime : Datetime → ℕ
kind_of_datetime d =
    if is_some d.offset then 5
    else if is_some d.time then (if is_some d.date then 6 else 8) else 7

abbrev pub kind_of_scalar : Scalar → ℕ
kind_of_scalar (string t) = 1
kind_of_scalar (integer z) = 2
kind_of_scalar (float t) = 3
kind_of_scalar (boolean b) = 4
kind_of_scalar (datetime d) = kind_of_datetime d

abbrev pub kind_of : Node → ℕ
kind_of nothing = 0
kind_of (leaf s spelling d) = kind_of_scalar s
kind_of (list f xs) = 9
kind_of (inline f ss) = if f.is_dotted then 11 else 10
kind_of (table f ss) = if f.is_dotted then 14 else if f.is_implicit then 13 else 12
kind_of (tables e xs) = 15

-- ---- places

abbrev pub nowhere : Span
nowhere = record { start = 0; end = 0 }

abbrev pub span_of : Option (Range ℕ) → Span
span_of r = option_map_or (λ r. record { start = r.start; end = r.end }) r nowhere

-- where a raw text is in the source
abbrev pub raw_span : Option Raw → Span
raw_span r = span_of (option_and_then range_of r)

abbrev pub key_span : Option Key → Span
key_span k = option_map_or (λ k. raw_span k.spelling) k nowhere

-- what is before a header, before the key of a value, and before an element
abbrev pub before : Option Key → Node → Span
before k (table f ss) = raw_span f.decor.prefix
before k (tables e xs) = nowhere
before k nothing = nowhere
before None n = raw_span (node_decor n).prefix
before (Some k) n = raw_span k.leaf.prefix

-- what is after a header or a value
abbrev pub after : Node → Span
after (table f ss) = raw_span f.decor.suffix
after n = raw_span (node_decor n).suffix

-- where an item begins: its key, if it has one
abbrev pub start_of : Option Key → Node → ℕ
start_of None n = (span_of (item_span n)).start
start_of (Some k) n = (key_span (Some k)).start

-- the line and the column, from 0, of a byte of the text: where what is before it ends
abbrev pub place_in : Text → ℕ → Position
place_in text byte = let above = take byte text in position_of_byte above (length above)

-- ---- names

abbrev pub name_of : Option Key → Option Text
name_of None = None
name_of (Some k) = Some k.name

abbrev pub text_or_none : Option Text → Text
text_or_none t = option_map_or (λ t. t) t []

-- a text that is put behind so many bytes
abbrev pub span_from : ℕ → Option Text → Span
span_from start t = option_map_or (λ t. record { start = start; end = start + length t }) t nowhere

-- ---- the nodes

-- the names that an entry adds
abbrev pub names_of : Entry → Text
names_of e = text_or_none (name_of e.key) ++ text_or_none (text_in e.item)

-- the node of an entry, whose names begin at this byte of the names
abbrev pub node_of : Text → ℕ → Entry → IndexNode
node_of text from e =
    let at = place_in text (start_of e.key e.item) in
    record {
      kind = kind_of e.item;
      parent = e.parent;
      next = e.next;
      name = span_from from (name_of e.key);
      content = span_from (from + length (text_or_none (name_of e.key))) (text_in e.item);
      key = key_span e.key;
      item = span_of (item_span e.item);
      before = before e.key e.item;
      after = after e.item;
      line = suc at.line;
      column = suc at.column;
    }

abbrev pub nodes_from : Text → ℕ → List Entry → List IndexNode
nodes_from text from [] = []
nodes_from text from (e ∷ es) = node_of text from e ∷ nodes_from text (from + length (names_of e)) es

-- the node of the root, with what is after the last statement
abbrev pub root_node : ℕ → Raw → IndexNode
root_node count trailing = record {
  kind = 0;
  parent = 0;
  next = count;
  name = nowhere;
  content = nowhere;
  key = nowhere;
  item = nowhere;
  before = nowhere;
  after = raw_span (Some trailing);
  line = 1;
  column = 1;
}

-- The nodes are exactly those of the tree: its root, and an entry for each of its slots and
-- elements, in their order. Each span is the one of the tree, which cuts the spelling out of the
-- text, and the names are those of the entries, one behind another.
abbrev pub IsIndexOf : Text → Tree → List IndexNode → Text → Type 0
IsIndexOf text t nodes names =
    let es = entries_of_slots 0 1 t.slots in
    (nodes ≡ root_node (suc (length es)) t.trailing ∷ nodes_from text 0 es)
    × (names ≡ flat_map names_of es)
