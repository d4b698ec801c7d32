-- One function for key lines, headers and headers in double brackets: what is added at the end of a
-- path of keys, key by key. The laws of building don't cite it: it is for code that goes down a
-- path one key at a time.
use Rattle.std.specs.Prelude.{◌≡◌, ℕ, ◌+◌, Bool, true, false, if◌then◌else◌, List, [], ◌∷◌, length, Option, Some, None, option_map}
use Rattle.toml_edit_model.specs.Mode.{Mode}
use Rattle.toml_edit_model.specs.Text.{Text}
use Rattle.toml_edit_model.specs.Roles.{ends_path, extends}
use Rattle.toml_edit_model.specs.Syntax.{Segment, Statement, key_line, header}
use Rattle.toml_edit_model.specs.Paths.{Mention, Source, next_start}
use Rattle.toml_edit_model.specs.Tree.{Node, table, tables, Items, no_items, item, Slots}
use Rattle.toml_edit_model.specs.TreeOf.{spanned_in, key_at}
use Rattle.toml_edit_laws.specs.InlineTree.{node_at, with_node, add_last}
use Rattle.toml_edit_laws.specs.TableTree.{open_table, open_element, add_line, add_header}
use Rattle.toml_edit_laws.specs.TableClash.{extend_clash, pass_clash, table_clash, element_clash, line_clash, header_clash}
use Rattle.toml_edit_laws.specs.Building.{change_in}

-- what is added at the end of a path: the item of a key line, the table of a header, or an element
-- of one in double brackets
pub data Addition : Type 0 where
  a_value : Node → Addition
  a_table : Addition
  an_element : Addition

-- what is in the way of it
abbrev pub path_clash : Addition → List (Mention Source) → Slots → Option (Mention Source × Node)
path_clash (a_value n) ms ss = line_clash ms ss
path_clash a_table ms ss = header_clash false ms ss
path_clash an_element ms ss = header_clash true ms ss

-- ---- a key before the last

-- whether a table that it makes is dotted
abbrev pub makes_dotted : Addition → Bool
makes_dotted (a_value n) = true
makes_dotted _ = false

-- a change in the item at a key of a line: a table without a header, which becomes dotted
abbrev pub extend_in : (Slots → Option Slots) → Node → Option Node
extend_in change (table f inner) =
    if f.is_implicit then option_map (table (record f { is_dotted = true })) (change inner)
    else None
extend_in change n = None

-- a change in the item at a key: of a header in that of any table, and in the last element of an
-- array of tables
abbrev pub inside : Addition → (Slots → Option Slots) → Node → Option Node
inside (a_value n) change old = extend_in change old
inside _ change old = change_in change old

-- what is in its way at or below the item at a key
abbrev pub clash_inside : Addition → Mention Source → (Slots → Option (Mention Source × Node))
    → Node → Option (Mention Source × Node)
clash_inside (a_value n) m further old = extend_clash m further (Some old)
clash_inside _ m further old = pass_clash m further (Some old)

-- the last element, and the elements with another in its place
abbrev pub last_item : Items → Option Node
last_item no_items = None
last_item (item n no_items) = Some n
last_item (item n (item m xs)) = last_item (item m xs)

abbrev pub with_last : Node → Items → Items
with_last new no_items = no_items
with_last new (item n no_items) = item new no_items
with_last new (item n (item m xs)) = item n (with_last new (item m xs))

-- ---- the slots with it added

module _ (mode : Mode) where
  -- at the end of a path
  abbrev pub add_path : Addition → List (Mention Source) → Slots → Option Slots
  add_path (a_value n) ms ss = add_line mode ms n ss
  add_path a_table ms ss = add_header mode false ms ss
  add_path an_element ms ss = add_header mode true ms ss

  -- at the last key
  abbrev pub put_last_key : Addition → Mention Source → Slots → Option Node → Option Slots
  put_last_key (a_value n) m ss o = add_last ss (key_at (spanned_in mode) m) n o
  put_last_key a_table m ss o = open_table mode m ss o
  put_last_key an_element m ss o = open_element mode m ss o

abbrev pub last_key_clash : Addition → Mention Source → Option Node → Option (Mention Source × Node)
last_key_clash (a_value n) m o = option_map (λ old. (m, old)) o
last_key_clash a_table m o = table_clash m o
last_key_clash an_element m o = element_clash m o

-- ---- a statement

-- what it adds, where its value has this item, and below which keys
abbrev pub addition_of : Statement → Node → Addition
addition_of (key_line f v end) n = a_value n
addition_of (header h end) n = if h.is_array then an_element else a_table

-- ---- the table of a block

-- with other slots for those of the last element
abbrev pub put_last : (Slots → Slots) → Items → Items
put_last put no_items = no_items
put_last put (item (table f inner) no_items) = item (table f (put inner)) no_items
put_last put (item n no_items) = item n no_items
put_last put (item n (item m xs)) = item n (put_last put (item m xs))

-- of a table, or of the last element of an array of tables
abbrev pub put_in : (Slots → Slots) → Node → Node
put_in put (table f inner) = table f (put inner)
put_in put (tables e xs) = tables e (put_last put xs)
put_in put n = n

abbrev pub put_under : Text → (Slots → Slots) → Slots → Option Node → Slots
put_under k put ss None = ss
put_under k put ss (Some n) = with_node k (put_in put n) ss

-- of the table at these keys, where it is there
abbrev pub put_along : List Text → Slots → Slots → Slots
put_along [] new ss = new
put_along (k ∷ ks) new ss = put_under k (put_along ks new) ss (node_at k ss)

-- ---- a path

-- the mention is of this segment of the statement, which begins at this byte
abbrev pub IsMentionOf : Source → ℕ → Segment → Mention Source → Type 0
IsMentionOf s start g m = (m.source ≡ s) × (m.segment ≡ g) × (m.start ≡ start + length g.before)

-- The mentions are of these segments of the statement, the first of which begins at this byte: all
-- but the last pass on.
abbrev pub AreMentionsOf : Source → ℕ → List Segment → List (Mention Source) → Type 0
AreMentionsOf s start [] [] = Unit {0}
AreMentionsOf s start (g ∷ []) (m ∷ []) =
    IsMentionOf s start g m × (ends_path m.role ≡ true) × (extends m.role ≡ false)
AreMentionsOf s start (g ∷ h ∷ p) (m ∷ ms) =
    IsMentionOf s start g m × (ends_path m.role ≡ false) × (extends m.role ≡ true)
    × AreMentionsOf s (next_start start g) (h ∷ p) ms
AreMentionsOf s start _ _ = ⊥
