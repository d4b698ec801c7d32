-- The headers that are printed too early, found in one walk over the tables (TOML 1.1.0, "Array of
-- Tables").
use Rattle.std.specs.Prelude.{ℕ, suc, ℤ, Bool, true, false, not, ◌&&◌, ◌||◌, if◌then◌else◌, List, [], ◌++◌, Option, None}
use Rattle.std.specs.Fmt.{decimal}
use Rattle.toml_edit_model.specs.Mode.{Mode}
use Rattle.toml_edit_model.specs.Tree.{TableFields, Node, nothing, leaf, list, inline, table, tables, Items, no_items, item, Slots}
use Rattle.toml_edit_model.specs.Tree.{no_slots, slot, Tree}
use Rattle.toml_edit_laws.specs.PrintByVisits.{has_own_header}
use Rattle.toml_edit_fits.specs.declared.misfit.FitRule.TheVariants as rule
use Rattle.toml_edit_fits.specs.declared.order.Marks.{Marks}
use Rattle.toml_edit_fits.specs.FitTests.{no_keys}
use Rattle.toml_edit_fits.specs.OrderTests.{reaches, later, latest, marks_of, place_in, root_marks}
use Rattle.toml_edit_fits.specs.Misfits.{MisfitView, below, unless, root_misfits, tables_misfits}

-- The table has no header, or its header is not printed before that of an element that it is in nor,
-- of an element, before a header in an earlier element of the array.
abbrev pub is_in_order : Bool → Option ℤ → Marks → TableFields → Slots → Bool
is_in_order is_element low m f ss =
    (f.is_dotted || not (has_own_header is_element f ss))
    || (reaches low (place_in m f) && (not is_element || reaches m.highest (place_in m f)))

-- the marks after a table's own header
abbrev pub marks_past : Bool → Marks → TableFields → Slots → Marks
marks_past is_element m f ss =
    if f.is_dotted then m
    else if has_own_header is_element f ss
    then marks_of (place_in m f) (later m.highest (place_in m f))
    else marks_of (place_in m f) m.highest

-- the first place that headers below an element may have
abbrev pub low_in : Option ℤ → Marks → TableFields → Option ℤ
low_in low m f = if f.is_dotted then low else later low (place_in m f)

abbrev pub past_array : Marks → Marks → Marks
past_array m w = marks_of w.seen (latest m.highest w.highest)

-- the marks after the headers below these slots, in order or not
abbrev mutual
  pub past_slots : Marks → Slots → Marks
  past_slots m no_slots = m
  past_slots m (slot k n ss) = past_slots (past_node m n) ss

  pub past_node : Marks → Node → Marks
  past_node m (table f ss) = past_slots (marks_past false m f ss) ss
  past_node m (tables e xs) = past_array m (past_items (marks_of m.seen None) xs)
  past_node m (leaf s spelling d) = m
  past_node m (list f xs) = m
  past_node m (inline f ss) = m
  past_node m nothing = m

  pub past_items : Marks → Items → Marks
  past_items m no_items = m
  past_items m (item n xs) = past_items (past_item m n) xs

  pub past_item : Marks → Node → Marks
  past_item m (table f ss) = past_slots (marks_past true m f ss) ss
  past_item m (tables e xs) = m
  past_item m (leaf s spelling d) = m
  past_item m (list f xs) = m
  past_item m (inline f ss) = m
  past_item m nothing = m

-- the tables below these slots whose headers are printed too early
abbrev mutual
  pub early_slots : Option ℤ → Marks → Slots → List MisfitView
  early_slots low m no_slots = []
  early_slots low m (slot k n ss) =
      below k.name (early_node low m n) ++ early_slots low (past_node m n) ss

  pub early_node : Option ℤ → Marks → Node → List MisfitView
  early_node low m (table f ss) =
      unless (is_in_order false low m f ss) rule.Order
      ++ early_slots low (marks_past false m f ss) ss
  early_node low m (tables e xs) = early_items low (marks_of m.seen None) 0 xs
  early_node low m (leaf s spelling d) = []
  early_node low m (list f xs) = []
  early_node low m (inline f ss) = []
  early_node low m nothing = []

  pub early_items : Option ℤ → Marks → ℕ → Items → List MisfitView
  early_items low m at no_items = []
  early_items low m at (item n xs) =
      below (decimal at) (early_item low m n) ++ early_items low (past_item m n) (suc at) xs

  pub early_item : Option ℤ → Marks → Node → List MisfitView
  early_item low m (table f ss) =
      unless (is_in_order true low m f ss) rule.Order
      ++ early_slots (low_in low m f) (marks_past true m f ss) ss
  early_item low m (tables e xs) = []
  early_item low m (leaf s spelling d) = []
  early_item low m (list f xs) = []
  early_item low m (inline f ss) = []
  early_item low m nothing = []

-- all misfits of a tree, with the headers that the walk finds
abbrev pub walked_misfits : Mode → Tree → List MisfitView
walked_misfits mode t =
    root_misfits mode t.root t.slots t.trailing
    ++ (tables_misfits mode no_keys t.slots ++ early_slots None (root_marks t.root) t.slots)
