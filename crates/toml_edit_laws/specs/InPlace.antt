-- What a statement adds where the tables of headers stay in their places: the slots are to be put
-- in order once, after all statements. So the table of a header takes the place of one that was
-- only passed through, and goes last in the end (TOML 1.1.0, "Table").
use Rattle.std.specs.Prelude.{◌≡◌, ◌≤◌, ◌<◌, ℕ, true, not, ◌&&◌, if◌then◌else◌, List, [], ◌∷◌, Option, Some, None}
use Rattle.toml_edit_model.specs.Mode.{Mode}
use Rattle.toml_edit_model.specs.Text.{Text, same_text}
use Rattle.toml_edit_model.specs.Paths.{Mention, Source}
use Rattle.toml_edit_model.specs.Tree.{Key, Node, table, Slots, no_slots, slot, is_value_node}
use Rattle.toml_edit_model.specs.TreeOf.{spanned_in, key_at}
use Rattle.toml_edit_laws.specs.FlatTree.{with_slot}
use Rattle.toml_edit_laws.specs.InlineTree.{node_at, add_last}
use Rattle.toml_edit_laws.specs.TableTree.{headed_table, pass_below, open_element, add_line, add_header}
use Rattle.toml_edit_laws.specs.AddPath.{Addition, a_value, a_table, an_element}
use Rattle.toml_edit_laws.specs.PlaceOrder.{key_place}

-- ---- a header's table, put where a slot is

-- the slot of a key, with another key and item
abbrev pub replace_slot : Text → Key → Node → Slots → Slots
replace_slot t k n no_slots = no_slots
replace_slot t k n (slot l m ss) =
    if same_text t l.name then slot k n ss else slot l m (replace_slot t k n ss)

module _ (mode : Mode) where
  -- A header of a table that until now was only passed through heads it, where it is; no other item
  -- can be headed.
  abbrev pub head_table : Mention Source → Slots → Option Node → Option Slots
  head_table m ss None =
      Some (with_slot ss (key_at (spanned_in mode) m) (headed_table mode m no_slots))
  head_table m ss (Some (table f inner)) =
      if f.is_implicit && not f.is_dotted
      then Some (replace_slot m.segment.key (key_at (spanned_in mode) m)
      (headed_table mode m inner) ss) else None
  head_table m ss (Some n) = None

  -- the slots with the table of a header at the end of the mentions' path, where it is
  abbrev pub add_table : List (Mention Source) → Slots → Option Slots
  add_table [] ss = None
  add_table (m ∷ []) ss = head_table m ss (node_at m.segment.key ss)
  add_table (m ∷ r ∷ rest) ss =
      pass_below mode m (add_table (r ∷ rest)) ss (node_at m.segment.key ss)

  -- ---- any statement

  -- what a statement adds, at the end of a path
  abbrev pub add_in_place : Addition → List (Mention Source) → Slots → Option Slots
  add_in_place (a_value n) ms ss = add_line mode ms n ss
  add_in_place a_table ms ss = add_table ms ss
  add_in_place an_element ms ss = add_header mode true ms ss

  -- at the last key
  abbrev pub put_in_place : Addition → Mention Source → Slots → Option Node → Option Slots
  put_in_place (a_value n) m ss o = add_last ss (key_at (spanned_in mode) m) n o
  put_in_place a_table m ss o = head_table m ss o
  put_in_place an_element m ss o = open_element mode m ss o

  -- the spellings of the mentions begin from one byte on, and before another
  abbrev pub StandWithin : ℕ → ℕ → List (Mention Source) → Type 0
  StandWithin start end [] = Unit {0}
  StandWithin start end (m ∷ ms) =
      (start ≤ key_place (key_at (spanned_in mode) m))
      × (key_place (key_at (spanned_in mode) m) < end) × StandWithin start end ms

-- what a line adds is a value
abbrev pub IsRealAddition : Addition → Type 0
IsRealAddition (a_value n) = is_value_node n ≡ true
IsRealAddition _ = Unit {0}
