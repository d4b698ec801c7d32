-- Whether the headers of elements are in order, found in one walk over the tables (TOML 1.1.0,
-- "Array of Tables").
use Rattle.std.specs.Prelude.{◌≡◌, ℤ, Bool, true, false, not, ◌&&◌, ◌||◌, int_le, if◌then◌else◌, Option, None, Some, unwrap_or}
use Rattle.std.specs.Prelude.{option_and_then, option_map}
use Rattle.toml_edit_model.specs.Tree.{TableFields, Node, nothing, leaf, list, inline, table, tables, Items, no_items, item, Slots}
use Rattle.toml_edit_model.specs.Tree.{no_slots, slot, has_key}
use Rattle.toml_edit_laws.specs.PrintByVisits.{has_own_header, root_place}
use Rattle.toml_edit_fits.specs.declared.order.Marks.{Marks}

-- no two keys of a table have one name, in the tables that the walk enters
abbrev mutual
  pub NodeIsApart : Node → Type 0
  NodeIsApart (table f ss) = SlotsAreApart ss
  NodeIsApart (tables e xs) = ItemsAreApart xs
  NodeIsApart (leaf s spelling d) = Unit {0}
  NodeIsApart (list f xs) = Unit {0}
  NodeIsApart (inline f ss) = Unit {0}
  NodeIsApart nothing = Unit {0}

  pub ItemsAreApart : Items → Type 0
  ItemsAreApart no_items = Unit {0}
  ItemsAreApart (item n xs) = ItemIsApart n × ItemsAreApart xs

  -- an element of an array of tables
  pub ItemIsApart : Node → Type 0
  ItemIsApart (table f ss) = SlotsAreApart ss
  ItemIsApart (tables e xs) = Unit {0}
  ItemIsApart (leaf s spelling d) = Unit {0}
  ItemIsApart (list f xs) = Unit {0}
  ItemIsApart (inline f ss) = Unit {0}
  ItemIsApart nothing = Unit {0}

  pub SlotsAreApart : Slots → Type 0
  SlotsAreApart no_slots = Unit {0}
  SlotsAreApart (slot k n ss) = (has_key k.name ss ≡ false) × NodeIsApart n × SlotsAreApart ss

-- the place is this one, if there is one, or a later one
abbrev pub reaches : Option ℤ → ℤ → Bool
reaches None place = true
reaches (Some low) place = int_le low place

-- the later one of the two, if there are two
abbrev pub later : Option ℤ → ℤ → Option ℤ
later None place = Some place
later (Some high) place = if int_le high place then Some place else Some high

abbrev pub latest : Option ℤ → Option ℤ → Option ℤ
latest high None = high
latest high (Some place) = later high place

abbrev pub marks_of : ℤ → Option ℤ → Marks
marks_of seen highest = record { seen = seen; highest = highest }

abbrev pub place_in : Marks → TableFields → ℤ
place_in m f = unwrap_or f.position m.seen

-- One more table is entered; none, where its header is before that of the element that it is in,
-- or, of an element, before those of the elements before it.
abbrev pub enter : Bool → Option ℤ → Marks → TableFields → Slots → Option Marks
enter is_element low m f ss =
    if f.is_dotted then Some m
    else if has_own_header is_element f ss
    then (if reaches low (place_in m f) && (not is_element || reaches m.highest (place_in m f))
    then Some (marks_of (place_in m f) (later m.highest (place_in m f))) else None)
    else Some (marks_of (place_in m f) m.highest)

-- below an element, its place is the first
abbrev pub first_below : Bool → Option ℤ → Marks → TableFields → Option ℤ
first_below is_element low m f = if is_element && not f.is_dotted then Some (place_in m f) else low

-- the marks after the tables below these slots, or none where some header is too late
abbrev mutual
  pub order_slots : Option ℤ → Marks → Slots → Option Marks
  order_slots low m no_slots = Some m
  order_slots low m (slot k n ss) = option_and_then (λ w. order_slots low w ss) (order_node low m n)

  pub order_node : Option ℤ → Marks → Node → Option Marks
  order_node low m (table f ss) =
      option_and_then (λ w. order_slots (first_below false low m f) w ss) (enter false low m f ss)
  order_node low m (tables e xs) =
      option_map (λ w. marks_of w.seen (latest m.highest w.highest))
      (order_items low (marks_of m.seen None) xs)
  order_node low m (leaf s spelling d) = Some m
  order_node low m (list f xs) = Some m
  order_node low m (inline f ss) = Some m
  order_node low m nothing = Some m

  pub order_items : Option ℤ → Marks → Items → Option Marks
  order_items low m no_items = Some m
  order_items low m (item n xs) = option_and_then (λ w. order_items low w xs) (order_item low m n)

  pub order_item : Option ℤ → Marks → Node → Option Marks
  order_item low m (table f ss) =
      option_and_then (λ w. order_slots (first_below true low m f) w ss) (enter true low m f ss)
  order_item low m (tables e xs) = Some m
  order_item low m (leaf s spelling d) = Some m
  order_item low m (list f xs) = Some m
  order_item low m (inline f ss) = Some m
  order_item low m nothing = Some m

-- the marks before the tables below the root
abbrev pub root_marks : TableFields → Marks
root_marks f = marks_of (root_place f) None
