-- Whether what is printed of a tree suits its place and keeps the limits, slot by slot (TOML 1.1.0,
-- "Key/Value Pair" to "Array of Tables").
use Rattle.std.specs.Prelude.{ℕ, ◌-◌, Bool, true, false, not, ◌&&◌, ◌||◌, ◌==◌, nat_lt, if◌then◌else◌, []}
use Rattle.toml_edit_model.specs.Mode.{Mode}
use Rattle.toml_edit_model.specs.Syntax.{nesting_limit}
use Rattle.toml_edit_model.specs.Tree.{Raw, Decor, Key, TableFields, Node, nothing, leaf, list, inline, table, tables, Items, no_items}
use Rattle.toml_edit_model.specs.Tree.{item, Slots, no_slots, slot, Tree, shown_prefix, shown_suffix, shown_raw, node_decor, is_value_node}
use Rattle.toml_edit_model.specs.Print.{dot_prefix, dot_suffix, is_line_node}
use Rattle.toml_edit_laws.specs.PrintByVisits.{has_own_header, holds_newline}
use Rattle.toml_edit_fits.specs.declared.route.Route.{Route}
use Rattle.toml_edit_fits.specs.TriviaTests.{is_whole, is_final, is_white, ends_line}

-- ---- keys

abbrev pub no_keys : Route
no_keys = record { room = nesting_limit; fits = true }

module _ (mode : Mode) where
  -- the key may end the path
  abbrev pub key_fits : Route → Key → Bool
  key_fits r k =
      (r.fits && nat_lt 0 r.room) && (r.room == nesting_limit || is_white (dot_prefix mode k))

  -- the path with one more key, before another
  abbrev pub then_key : Route → Key → Route
  then_key r k = record { room = r.room - 1; fits = key_fits r k && is_white (dot_suffix mode k) }

  -- ---- lines, pairs and values, where so many more brackets may be opened

  -- after a value: in brackets trivia, and elsewhere the end of a line
  abbrev pub may_follow : ℕ → Decor → Bool
  may_follow room d =
      if room == nesting_limit then ends_line mode (shown_suffix mode [] d)
      else is_whole (shown_suffix mode [] d)

  -- what is around the key and the value
  abbrev pub pair_fits : ℕ → Route → Key → Decor → Bool
  pair_fits room r k d =
      key_fits r k
      && ((is_whole (shown_prefix mode [] k.leaf) && is_white (shown_suffix mode [] k.leaf))
      && (is_white (shown_prefix mode [] d) && may_follow room d))

  abbrev pub element_fits : Decor → Bool
  element_fits d = is_whole (shown_prefix mode [] d) && is_whole (shown_suffix mode [] d)

  -- A value; the elements of an array; what is in an inline table; and there, a table with the keys
  -- before it.
  abbrev mutual
    pub value_fits : ℕ → Node → Bool
    value_fits room (list f xs) =
        nat_lt 0 room && (is_whole (shown_raw mode f.trailing) && items_fit (room - 1) xs)
    value_fits room (inline f ss) =
        nat_lt 0 room && (is_whole (shown_raw mode f.trailing) && inside_fits (room - 1) no_keys ss)
    value_fits room (leaf s spelling d) = true
    value_fits room (table f ss) = nat_lt 0 room
    value_fits room (tables e xs) = nat_lt 0 room
    value_fits room nothing = nat_lt 0 room

    pub items_fit : ℕ → Items → Bool
    items_fit room no_items = true
    items_fit room (item n xs) =
        elim (is_value_node n) [
          | true ↦ element_fits (node_decor n) && value_fits room n
          | false ↦ true
        ] && items_fit room xs

    pub inside_fits : ℕ → Route → Slots → Bool
    inside_fits room r no_slots = true
    inside_fits room r (slot k n ss) =
        elim (is_line_node n) [
          | true ↦ pair_fits room r k (node_decor n) && value_fits room n
          | false ↦ within_fits room (then_key r k) n
        ]
        && inside_fits room r ss

    pub within_fits : ℕ → Route → Node → Bool
    within_fits room r (inline f ss) = inside_fits room r ss
    within_fits room r (table f ss) = inside_fits room r ss
    within_fits room r (leaf s spelling d) = true
    within_fits room r (list f xs) = true
    within_fits room r (tables e xs) = true
    within_fits room r nothing = true

  -- the lines of a table, with the keys before them
  abbrev mutual
    pub lines_fit : Route → Slots → Bool
    lines_fit r no_slots = true
    lines_fit r (slot k n ss) =
        elim (is_line_node n) [
          | true ↦ pair_fits nesting_limit r k (node_decor n) && value_fits nesting_limit n
          | false ↦ dotted_fits (then_key r k) n
        ]
        && lines_fit r ss

    pub dotted_fits : Route → Node → Bool
    dotted_fits r (table f ss) = if f.is_dotted then lines_fit r ss else true
    dotted_fits r (inline f ss) = inside_fits nesting_limit r ss
    dotted_fits r (leaf s spelling d) = true
    dotted_fits r (list f xs) = true
    dotted_fits r (tables e xs) = true
    dotted_fits r nothing = true

  -- ---- tables

  -- inside the brackets of a header, and before it where a newline is in its last key's prefix
  abbrev pub brackets_fit : Decor → Bool
  brackets_fit d =
      if holds_newline mode d then is_whole (shown_prefix mode [] d)
      else is_white (shown_prefix mode [] d) && is_white (shown_suffix mode [] d)

  abbrev pub header_fits : Route → Key → Decor → Bool
  header_fits r k d =
      (key_fits r k && brackets_fit k.leaf)
      && (is_whole (shown_prefix mode [] d) && ends_line mode (shown_suffix mode [] d))

  -- a table below the root: its header, if it has one, and its lines; a dotted one is no element,
  -- and has neither
  abbrev pub table_fits : Route → Key → Bool → TableFields → Slots → Bool
  table_fits r k is_element f ss =
      if f.is_dotted then not is_element
      else (not (has_own_header is_element f ss) || header_fits r k f.decor) && lines_fit no_keys ss

  -- all tables below these slots
  abbrev mutual
    pub tables_fit : Route → Slots → Bool
    tables_fit r no_slots = true
    tables_fit r (slot k n ss) = node_fits r k n && tables_fit r ss

    pub node_fits : Route → Key → Node → Bool
    node_fits r k (table f ss) = table_fits r k false f ss && tables_fit (then_key r k) ss
    node_fits r k (tables e xs) = elements_fit r k xs
    node_fits r k (leaf s spelling d) = true
    node_fits r k (list f xs) = true
    node_fits r k (inline f ss) = true
    node_fits r k nothing = true

    pub elements_fit : Route → Key → Items → Bool
    elements_fit r k no_items = true
    elements_fit r k (item n xs) = as_element_fits r k n && elements_fit r k xs

    -- an item of an array of tables, which isn't printed unless it is a table
    pub as_element_fits : Route → Key → Node → Bool
    as_element_fits r k (table f ss) = table_fits r k true f ss && tables_fit (then_key r k) ss
    as_element_fits r k (tables e xs) = true
    as_element_fits r k (leaf s spelling d) = true
    as_element_fits r k (list f xs) = true
    as_element_fits r k (inline f ss) = true
    as_element_fits r k nothing = true

  -- the root, what is around it, and the trailing text; the root is not dotted
  abbrev pub root_fits : TableFields → Slots → Raw → Bool
  root_fits f ss trailing =
      (not f.is_dotted && lines_fit no_keys ss)
      && ((is_whole (shown_prefix mode [] f.decor) && is_whole (shown_suffix mode [] f.decor))
      && is_final (shown_raw mode trailing))

  -- all but the order of headers
  abbrev pub parts_fit : Tree → Bool
  parts_fit t = root_fits t.root t.slots t.trailing && tables_fit no_keys t.slots
