-- The print of a tree, piece by piece in the order in which it is written, over the tables that one
-- walk collects (TOML 1.1.0, "Key/Value Pair" to "Array of Tables").
use Rattle.std.specs.Prelude.{◌≡◌, ℤ, pos, Bool, true, false, not, ◌&&◌, ◌||◌, int_le, if◌then◌else◌, List, [], ◌∷◌, ◌++◌, Option, None}
use Rattle.std.specs.Prelude.{Some, unwrap_or, codes, map}
use Rattle.toml_edit_model.specs.Mode.{Mode}
use Rattle.toml_edit_model.specs.Text.{Text, newline, is_empty, has_byte, joined, line_feed}
use Rattle.toml_edit_model.specs.Syntax.{comma_text, opening_brackets, closing_brackets, path_text, statement_text, value_text}
use Rattle.toml_edit_model.specs.Tree.{Decor, Key, TableFields, Node, nothing, leaf, list, inline, table, tables, Items, no_items, item}
use Rattle.toml_edit_model.specs.Tree.{Slots, no_slots, slot, Tree, shown_prefix, shown_suffix, shown_raw, scalar_text, key_text}
use Rattle.toml_edit_model.specs.Tree.{node_decor, is_value_node}
use Rattle.toml_edit_model.specs.Print.{Line, one_space, dot_prefix, dot_suffix, last_leaf, segments, element_default, header_default}
use Rattle.toml_edit_model.specs.Print.{is_line_node, line_statement, root_prefix, root_suffix, print_in}
use Rattle.toml_edit_model.specs.Order.{sorted_by}

-- ---- commas, and whether there are lines

abbrev pub comma_before : Bool → Text
comma_before is_first = if is_first then [] else codes ","

-- the comma that ends the elements, if there are any
abbrev pub last_comma : Bool → Bool → Text
last_comma comma is_first = if is_first then [] else comma_text comma

-- the decor of the last value among the pairs of an inline table, after one of this decor
abbrev mutual
  pub last_pair : Slots → Option Decor → Option Decor
  last_pair no_slots before = before
  last_pair (slot k n ss) before =
      last_pair ss (elim (is_line_node n) [
        | true ↦ Some (node_decor n)
        | false ↦ last_pair_in n before
      ])

  pub last_pair_in : Node → Option Decor → Option Decor
  last_pair_in (inline f ss) before = last_pair ss before
  last_pair_in (table f ss) before = last_pair ss before
  last_pair_in (leaf s spelling d) before = before
  last_pair_in (list f xs) before = before
  last_pair_in (tables e xs) before = before
  last_pair_in nothing before = before

-- the decor of the value of the last of these lines, after one of this decor
abbrev pub last_shown : Option Decor → List Line → Option Decor
last_shown before [] = before
last_shown before (l ∷ ls) = last_shown (Some (node_decor l.item)) ls

-- whether there are lines in a dotted inline table
abbrev mutual
  pub has_inside : Slots → Bool
  has_inside no_slots = false
  has_inside (slot k n ss) =
      elim (is_line_node n) [ true ↦ true | false ↦ has_inside_of n ] || has_inside ss

  pub has_inside_of : Node → Bool
  has_inside_of (inline f ss) = has_inside ss
  has_inside_of (table f ss) = has_inside ss
  has_inside_of (leaf s spelling d) = false
  has_inside_of (list f xs) = false
  has_inside_of (tables e xs) = false
  has_inside_of nothing = false

-- whether a table has lines
abbrev mutual
  pub has_lines : Slots → Bool
  has_lines no_slots = false
  has_lines (slot k n ss) =
      elim (is_line_node n) [ true ↦ true | false ↦ has_dotted_lines n ] || has_lines ss

  pub has_dotted_lines : Node → Bool
  has_dotted_lines (table f ss) = f.is_dotted && has_lines ss
  has_dotted_lines (inline f ss) = has_inside ss
  has_dotted_lines (leaf s spelling d) = false
  has_dotted_lines (list f xs) = false
  has_dotted_lines (tables e xs) = false
  has_dotted_lines nothing = false

-- ---- the walk

-- a table below the root as it is collected: its place, the keys to it, whether it is an element,
-- and itself
pub record Headed : Type 0 where
  pub place : ℤ
  pub keys : List Key
  pub is_element : Bool
  pub fields : TableFields
  pub slots : Slots

-- a table has a header, unless it is implicit and has no lines; an element always has one
abbrev pub has_own_header : Bool → TableFields → Slots → Bool
has_own_header is_element f ss = is_element || (not f.is_implicit || has_lines ss)

-- what a walk has collected, in its order, and the position last seen
pub record Walked : Type 0 where
  pub tables : List Headed
  pub seen : ℤ

abbrev pub headed : ℤ → List Key → Bool → TableFields → Slots → Headed
headed place ks is_element f ss = record {
  place = place;
  keys = ks;
  is_element = is_element;
  fields = f;
  slots = ss;
}

-- One more table is entered. A dotted one takes no part.
abbrev pub enter : Walked → List Key → Bool → TableFields → Slots → Walked
enter w ks is_element f ss =
    if f.is_dotted
    then w
    else
    record {
      tables =
          if has_own_header is_element f ss
          then w.tables ++ (headed (unwrap_or f.position w.seen) ks is_element f ss ∷ [])
          else w.tables;
      seen = unwrap_or f.position w.seen;
    }

-- the tables below these slots, after what was collected
abbrev mutual
  pub walked : Slots → List Key → Walked → Walked
  walked no_slots ks w = w
  walked (slot k n ss) ks w = walked ss ks (walked_node n (ks ++ (k ∷ [])) w)

  pub walked_node : Node → List Key → Walked → Walked
  walked_node (table f ss) ks w = walked ss ks (enter w ks false f ss)
  walked_node (tables e xs) ks w = walked_items xs ks w
  walked_node (leaf s spelling d) ks w = w
  walked_node (list f xs) ks w = w
  walked_node (inline f ss) ks w = w
  walked_node nothing ks w = w

  pub walked_items : Items → List Key → Walked → Walked
  walked_items no_items ks w = w
  walked_items (item (table f ss) xs) ks w =
      walked_items xs ks (walked ss ks (enter w ks true f ss))
  walked_items (item _ xs) ks w = walked_items xs ks w

-- the place that is seen before the tables below a root
abbrev pub root_place : TableFields → ℤ
root_place f = if f.is_dotted then pos 0 else unwrap_or f.position (pos 0)

-- the tables of a document that have headers, in the order of the walk
abbrev pub headed_tables : TableFields → Slots → List Headed
headed_tables f ss = (walked ss [] (record { tables = []; seen = root_place f })).tables

abbrev pub by_place : Headed → Headed → Bool
by_place g h = int_le g.place h.place

-- nothing is printed before the first header
abbrev pub begins : TableFields → Slots → Bool
begins f ss = f.is_dotted || not (has_lines ss)

module _ (mode : Mode) where
  -- ---- keys

  -- what is before a key that ends a path, after these keys
  abbrev pub before_key : List Key → Key → Text
  before_key ks k = if is_empty ks then [] else dot_prefix mode k

  -- keys that others follow: each with the dot after it
  abbrev pub dotted_keys : Bool → List Key → Text
  dotted_keys is_first [] = []
  dotted_keys is_first (k ∷ ks) =
      (if is_first then [] else dot_prefix mode k)
      ++ (key_text k ++ (dot_suffix mode k ++ (codes "." ++ dotted_keys false ks)))

  -- the key of a line or a pair, after these keys, with its decor and the `=`
  abbrev pub key_part : Text → List Key → Key → Text
  key_part default ks k =
      shown_prefix mode default k.leaf
      ++ (dotted_keys true ks
      ++ (before_key ks k ++ (key_text k ++ (shown_suffix mode one_space k.leaf ++ codes "="))))

  -- a line or a pair up to the end of its value, which has this text
  abbrev pub pair_start : Text → List Key → Key → Node → Text → Text
  pair_start default ks k n value =
      key_part default ks k ++ (shown_prefix mode one_space (node_decor n) ++ value)

  -- that, of a line whose keys and value are known
  abbrev pub line_start : Text → Line → Text
  line_start default l =
      shown_prefix mode default (last_leaf l.keys)
      ++ (path_text (segments mode l.keys)
      ++ (shown_suffix mode one_space (last_leaf l.keys) ++ (codes "=" ++
      (shown_prefix mode one_space (node_decor l.item) ++ value_text l.value))))

  -- a line
  abbrev pub line_text : List Key → Key → Node → Text → Text
  line_text ks k n value =
      pair_start [] ks k n value ++ (shown_suffix mode [] (node_decor n) ++ newline)

  -- ---- arrays

  -- an element with its decor, and the comma before it
  abbrev pub element_text : Bool → Node → Text → Text
  element_text is_first n value =
      comma_before is_first
      ++ (shown_prefix mode (element_default is_first) (node_decor n)
      ++ (value ++ shown_suffix mode [] (node_decor n)))

  -- ---- inline tables

  -- what is between a pair whose value has this decor, if there is one, and the next
  abbrev pub between_pairs : Option Decor → Text
  between_pairs None = []
  between_pairs (Some d) = shown_suffix mode [] d ++ codes ","

  -- what is between the last pair, whose value has this decor, if there is one, and the text before
  -- the brace
  abbrev pub after_pairs : Bool → Option Decor → Text
  after_pairs comma None = []
  after_pairs comma (Some d) = shown_suffix mode one_space d ++ comma_text comma

  -- the pairs after one of this decor, up to the end of the last value
  abbrev pub pairs_shown : Option Decor → List Line → Text
  pairs_shown before [] = []
  pairs_shown before (l ∷ ls) =
      between_pairs before ++ (line_start one_space l ++ pairs_shown (Some (node_decor l.item)) ls)

  -- A value from its first byte to its last; the elements of an array, and the comma that ends
  -- them; the pairs of an inline table, after one whose value has this decor, each up to the end of
  -- its value.
  abbrev mutual
    pub written_value : Node → Text
    written_value (leaf s spelling d) = scalar_text s spelling
    written_value (list f xs) =
        codes "[" ++ (written_items f.comma true xs ++ (shown_raw mode f.trailing ++ codes "]"))
    written_value (inline f ss) =
        codes "{" ++ (written_pairs ss [] None
        ++ (after_pairs f.comma (last_pair ss None)
        ++ (shown_raw mode f.trailing ++ codes "}")))
    written_value (table f ss) = codes "{}"
    written_value (tables e xs) = codes "{}"
    written_value nothing = codes "{}"

    pub written_items : Bool → Bool → Items → Text
    written_items comma is_first no_items = last_comma comma is_first
    written_items comma is_first (item n xs) =
        elim (is_value_node n) [
          | true ↦ element_text is_first n (written_value n) ++ written_items comma false xs
          | false ↦ written_items comma is_first xs
        ]

    pub written_pairs : Slots → List Key → Option Decor → Text
    written_pairs no_slots ks before = []
    written_pairs (slot k n ss) ks before =
        elim (is_line_node n) [
          | true ↦ between_pairs before ++ pair_start one_space ks k n (written_value n)
          | false ↦ written_pairs_in n (ks ++ (k ∷ [])) before
        ]
        ++ written_pairs ss ks
        (elim (is_line_node n) [ true ↦ Some (node_decor n) | false ↦ last_pair_in n before ])

    pub written_pairs_in : Node → List Key → Option Decor → Text
    written_pairs_in (inline f ss) ks before = written_pairs ss ks before
    written_pairs_in (table f ss) ks before = written_pairs ss ks before
    written_pairs_in (leaf s spelling d) ks before = []
    written_pairs_in (list f xs) ks before = []
    written_pairs_in (tables e xs) ks before = []
    written_pairs_in nothing ks before = []

  -- ---- lines

  abbrev pub lines_text : List Line → Text
  lines_text ls = joined (map (λ l. statement_text (line_statement mode l)) ls)

  -- the lines in a dotted inline table
  abbrev mutual
    pub written_inside : Slots → List Key → Text
    written_inside no_slots ks = []
    written_inside (slot k n ss) ks =
        elim (is_line_node n) [
          | true ↦ line_text ks k n (written_value n)
          | false ↦ written_inside_of n (ks ++ (k ∷ []))
        ]
        ++ written_inside ss ks

    pub written_inside_of : Node → List Key → Text
    written_inside_of (inline f ss) ks = written_inside ss ks
    written_inside_of (table f ss) ks = written_inside ss ks
    written_inside_of (leaf s spelling d) ks = []
    written_inside_of (list f xs) ks = []
    written_inside_of (tables e xs) ks = []
    written_inside_of nothing ks = []

  -- the lines of a table, with the keys before them
  abbrev mutual
    pub written_lines : Slots → List Key → Text
    written_lines no_slots ks = []
    written_lines (slot k n ss) ks =
        elim (is_line_node n) [
          | true ↦ line_text ks k n (written_value n)
          | false ↦ written_dotted n (ks ++ (k ∷ []))
        ]
        ++ written_lines ss ks

    pub written_dotted : Node → List Key → Text
    written_dotted (table f ss) ks = if f.is_dotted then written_lines ss ks else []
    written_dotted (inline f ss) ks = written_inside ss ks
    written_dotted (leaf s spelling d) ks = []
    written_dotted (list f xs) ks = []
    written_dotted (tables e xs) ks = []
    written_dotted nothing ks = []

  -- ---- headers

  -- the prefix of the last key is before the header where it holds a newline
  abbrev pub holds_newline : Decor → Bool
  holds_newline d = has_byte line_feed (shown_prefix mode [] d)

  -- what is inside the brackets
  abbrev pub inside_brackets : Decor → Text → Text
  inside_brackets d path =
      (if holds_newline d then [] else shown_prefix mode [] d)
      ++ (path ++ (if holds_newline d then [] else shown_suffix mode [] d))

  -- a header, the last key of which has this decor, and the path of which has this text; and its
  -- newline
  abbrev pub header_parts : Bool → Bool → Decor → Text → TableFields → Text
  header_parts is_first is_element d path f =
      (if holds_newline d then shown_prefix mode [] d else [])
      ++ (shown_prefix mode (header_default is_first) f.decor
      ++ (opening_brackets is_element
      ++ (inside_brackets d path
      ++ (closing_brackets is_element ++ (shown_suffix mode [] f.decor ++ newline)))))

  abbrev pub header_text : Bool → Headed → Text
  header_text is_first h =
      header_parts is_first h.is_element (last_leaf h.keys)
      (path_text (segments mode h.keys)) h.fields

  -- the headers of tables, each with the table's lines, where nothing is printed before the first
  -- of them
  abbrev pub headers_text : Bool → List Headed → Text
  headers_text is_first [] = []
  headers_text is_first (h ∷ hs) =
      header_text is_first h ++ (written_lines h.slots [] ++ headers_text false hs)

  -- ---- the print

  -- the lines of the root; a dotted root has none
  abbrev pub root_lines : TableFields → Slots → Text
  root_lines f ss = if f.is_dotted then [] else written_lines ss []

  -- the print, piece by piece
  abbrev pub written_print : Tree → Text
  written_print t =
      root_prefix mode t
      ++ (root_lines t.root t.slots
      ++ (headers_text (begins t.root t.slots) (sorted_by by_place (headed_tables t.root t.slots))
      ++ (root_suffix mode t ++ shown_raw mode t.trailing)))

  -- The print of a tree is the text before its root, the root's lines, the headers in order of
  -- place, each with its lines, and the text after them.
  abbrev pub PrintByVisits : Type 0
  PrintByVisits = (t : Tree) → print_in mode false t ≡ written_print t
