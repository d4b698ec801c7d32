-- How statements are added, one after another, to the slots of a document's tables, and where one
-- can't be (TOML 1.1.0, "Keys", "Table" and "Array of Tables"). At the end all this by numbered
-- paths, which only proofs cite.
use Rattle.std.specs.Prelude.{ℕ, zero, suc, ◌+◌, Bool, true, false, not, ◌&&◌, if◌then◌else◌, List, [], ◌∷◌, Option, Some, None, option_map}
use Rattle.std.specs.Prelude.{option_and_then}
use Rattle.toml_edit_model.specs.Mode.{Mode}
use Rattle.toml_edit_model.specs.Text.{Text, same_text}
use Rattle.toml_edit_model.specs.Syntax.{Statement, key_line, header}
use Rattle.toml_edit_model.specs.Paths.{at_key, at_element, Path, Mention, Source, Context, line_mentions, header_mentions, header_role_of}
use Rattle.toml_edit_model.specs.Paths.{source_of, path_start}
use Rattle.toml_edit_model.specs.Tree.{Extent, Node, table, tables, Items, no_items, item, Slots, no_slots, slot}
use Rattle.toml_edit_model.specs.TreeOf.{spanned_in, key_at, key_extent, made_by_path, header_fields, brackets_from, brackets_to}
use Rattle.toml_edit_laws.specs.FlatTree.{with_slot}
use Rattle.toml_edit_laws.specs.InlineTree.{node_at, with_node, add_last}

-- ---- slots and elements

-- the slots without that of a key
abbrev pub without_slot : Text → Slots → Slots
without_slot k no_slots = no_slots
without_slot k (slot l n ss) = if same_text k l.name then ss else slot l n (without_slot k ss)

-- the elements with one more at the end
abbrev pub with_item : Items → Node → Items
with_item no_items n = item n no_items
with_item (item m xs) n = item m (with_item xs n)

-- a change of the last element, which is a table; none where there is none
abbrev pub change_last : (Slots → Option Slots) → Items → Option Items
change_last change no_items = None
change_last change (item (table f inner) no_items) =
    option_map (λ changed. item (table f changed) no_items) (change inner)
change_last change (item n no_items) = None
change_last change (item n (item m xs)) = option_map (item n) (change_last change (item m xs))

-- the extent, up to another end
abbrev pub reaching : Extent → ℕ → Extent
reaching e end = option_map (λ p. (p.0, end)) e

-- ---- changes at a path

-- a change of the slots of a table
abbrev pub change_table : (Slots → Option Slots) → Node → Option Node
change_table change (table f inner) = option_map (table f) (change inner)
change_table change n = None

-- a change of the element of an array of tables
abbrev pub change_item : ℕ → (Node → Option Node) → Items → Option Items
change_item i change no_items = None
change_item zero change (item n xs) = option_map (λ changed. item changed xs) (change n)
change_item (suc i) change (item n xs) = option_map (item n) (change_item i change xs)

abbrev pub change_element : ℕ → (Node → Option Node) → Node → Option Node
change_element i change (tables e xs) = option_map (tables e) (change_item i change xs)
change_element i change n = None

-- a change of the item of a key
abbrev pub change_under : Text → (Node → Option Node) → Slots → Option Slots
change_under k change ss =
    option_and_then (λ n. option_map (λ changed. with_node k changed ss) (change n)) (node_at k ss)

-- a change of the slots of the table at a path of keys and elements, below an item or below slots;
-- none where no table is there
abbrev pub change_below_node : Path → (Slots → Option Slots) → Node → Option Node
change_below_node [] change n = change_table change n
change_below_node (at_key k ∷ p) change n =
    change_table (change_under k (change_below_node p change)) n
change_below_node (at_element i ∷ p) change n = change_element i (change_below_node p change) n

abbrev pub change_at : Path → (Slots → Option Slots) → Slots → Option Slots
change_at [] change ss = change ss
change_at (at_key k ∷ p) change ss = change_under k (change_below_node p change) ss
change_at (at_element i ∷ p) change ss = None

-- a statement's mentions as the table that it is in sees them: that of its block, and the root
abbrev pub own_mentions : Context → Statement → List (Mention Source)
own_mentions c (key_line f v end) =
    line_mentions (source_of c (key_line f v end))
    (c.start + path_start (key_line f v end)) [] f.path
own_mentions c (header h end) =
    header_mentions (source_of c (header h end)) c.arrays (header_role_of h)
    (c.start + path_start (header h end)) [] h.path

module _ (mode : Mode) where
  -- ---- a key line

  -- A change goes into the table at a dotted key, which is made where the key is new. A table that
  -- has a header can't be changed so, and nothing else can.
  abbrev pub extend_below : Mention Source → (Slots → Option Slots) → Slots → Option Node
      → Option Slots
  extend_below m change ss None =
      option_map (λ inner. with_slot ss (key_at (spanned_in mode) m)
      (table (made_by_path (spanned_in mode) true (key_extent (spanned_in mode) m)) inner))
      (change no_slots)
  extend_below m change ss (Some (table f inner)) =
      if f.is_implicit then option_map
      (λ changed. with_node m.segment.key (table (record f { is_dotted = true }) changed) ss)
      (change inner) else None
  extend_below m change ss (Some n) = None

  -- the slots with this item at the end of the mentions' path; none where something is in the way
  abbrev pub add_line : List (Mention Source) → Node → Slots → Option Slots
  add_line [] n ss = None
  add_line (m ∷ []) n ss = add_last ss (key_at (spanned_in mode) m) n (node_at m.segment.key ss)
  add_line (m ∷ r ∷ rest) n ss =
      extend_below m (add_line (r ∷ rest) n) ss (node_at m.segment.key ss)

  -- ---- a header

  abbrev pub headed_table : Mention Source → Slots → Node
  headed_table m ss = table (header_fields (spanned_in mode) m.source m.source.statement) ss

  -- A header goes on in the table at a key, or in the last element of the array of tables there; a
  -- table is made where the key is new.
  abbrev pub pass_below : Mention Source → (Slots → Option Slots) → Slots → Option Node
      → Option Slots
  pass_below m change ss None =
      option_map (λ inner. with_slot ss (key_at (spanned_in mode) m)
      (table (made_by_path (spanned_in mode) false (key_extent (spanned_in mode) m)) inner))
      (change no_slots)
  pass_below m change ss (Some (table f inner)) =
      option_map (λ changed. with_node m.segment.key (table f changed) ss) (change inner)
  pass_below m change ss (Some (tables e xs)) =
      option_map (λ changed. with_node m.segment.key (tables e changed) ss) (change_last change xs)
  pass_below m change ss (Some n) = None

  -- A header of a table that until now was only passed through heads it, and its slot goes last; no
  -- other item can be headed.
  abbrev pub open_table : Mention Source → Slots → Option Node → Option Slots
  open_table m ss None = Some (with_slot ss (key_at (spanned_in mode) m) (headed_table m no_slots))
  open_table m ss (Some (table f inner)) =
      if f.is_implicit && not f.is_dotted
      then Some (with_slot (without_slot m.segment.key ss) (key_at (spanned_in mode) m)
      (headed_table m inner)) else None
  open_table m ss (Some n) = None

  -- a header in double brackets adds an element to the array of tables at its key
  abbrev pub open_element : Mention Source → Slots → Option Node → Option Slots
  open_element m ss None =
      Some (with_slot ss (key_at (spanned_in mode) m)
      (tables (Some (
        brackets_from (spanned_in mode) m.source m.source.statement,
        brackets_to
            (spanned_in mode) m.source m.source.statement,
      ))
      (item (headed_table m no_slots) no_items)))
  open_element m ss (Some (tables e xs)) =
      Some (with_node m.segment.key
      (tables (reaching e (brackets_to (spanned_in mode) m.source m.source.statement))
      (with_item xs (headed_table m no_slots))) ss)
  open_element m ss (Some n) = None

  -- the slots with the table or element of a header, in double brackets or not, at the end of the
  -- mentions' path
  abbrev pub add_header : Bool → List (Mention Source) → Slots → Option Slots
  add_header is_array [] ss = None
  add_header is_array (m ∷ []) ss =
      if is_array then open_element m ss (node_at m.segment.key ss)
      else open_table m ss (node_at m.segment.key ss)
  add_header is_array (m ∷ r ∷ rest) ss =
      pass_below m (add_header is_array (r ∷ rest)) ss (node_at m.segment.key ss)

  -- ---- a statement

  -- the slots of the root with a statement added, whose value has this item; none where something
  -- is in its way
  abbrev pub add_statement : Context → Statement → Node → Slots → Option Slots
  add_statement c (key_line f v end) n ss =
      change_at c.block (add_line (own_mentions c (key_line f v end)) n) ss
  add_statement c (header h end) n ss = add_header h.is_array (own_mentions c (header h end)) ss
