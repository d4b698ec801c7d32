-- Where a tree does not fit, and which rule is broken there, over the tests of its parts (TOML
-- 1.1.0, "Key/Value Pair" to "Array of Tables").
--
-- What a place has of its own comes before what is below it. The lines of a table come before the
-- tables below it, slot by slot; the headers that are printed too early come last, in the order of
-- the tree.
use Rattle.std.specs.Prelude.{ℕ, suc, ◌-◌, ℤ, Bool, true, false, not, ◌&&◌, ◌||◌, nat_lt, int_le, if◌then◌else◌, List, [], ◌∷◌, ◌++◌, map}
use Rattle.std.specs.Prelude.{codes}
use Rattle.std.specs.List.{list_any}
use Rattle.std.specs.Fmt.{decimal}
use Rattle.toml_edit_model.specs.Mode.{Mode}
use Rattle.toml_edit_model.specs.Text.{Text}
use Rattle.toml_edit_model.specs.Syntax.{nesting_limit}
use Rattle.toml_edit_model.specs.Keys.{new_key}
use Rattle.toml_edit_model.specs.Tree.{Raw, Key, TableFields, Node, nothing, leaf, list, inline, table, tables, Items, no_items, item}
use Rattle.toml_edit_model.specs.Tree.{Slots, no_slots, slot, Tree, shown_prefix, shown_suffix, shown_raw, node_decor, is_value_node}
use Rattle.toml_edit_model.specs.Paths.{Path, to_key, to_element}
use Rattle.toml_edit_model.specs.HeaderOrder.{Visit, PlacedVisit, visit_of, place_of}
use Rattle.toml_edit_model.specs.Print.{is_line_node}
use Rattle.toml_edit_model.specs.Fits.{is_too_late}
use Rattle.toml_edit_laws.specs.PrintByVisits.{has_own_header, root_place}
use Rattle.toml_edit_fits.specs.declared.misfit.FitRule.{FitRule}
use Rattle.toml_edit_fits.specs.declared.misfit.FitRule.TheVariants as rule
use Rattle.toml_edit_fits.specs.declared.route.Route.{Route}
use Rattle.toml_edit_fits.specs.TriviaTests.{is_whole, is_final}
use Rattle.toml_edit_fits.specs.FitTests.{no_keys, then_key, pair_fits, element_fits, header_fits}

-- A place where a rule is broken: the keys that lead to it from the root, each of its name alone;
-- in an array or an array of tables that is the number of the item in decimal.
pub record MisfitView : Type 0 where
  pub path : List Key
  pub rule : FitRule

-- ---- places

abbrev pub here : FitRule → List MisfitView
here r = record { path = []; rule = r } ∷ []

-- a part of the place is a misfit unless it passes its test
abbrev pub unless : Bool → FitRule → List MisfitView
unless fits r = if fits then [] else here r

abbrev pub below_key : Key → MisfitView → MisfitView
below_key k m = record { path = k ∷ m.path; rule = m.rule }

abbrev pub below_step : Text → MisfitView → MisfitView
below_step k m = below_key (new_key k) m

abbrev pub below : Text → List MisfitView → List MisfitView
below k ms = map (below_step k) ms

-- what a line or a header breaks: the limits if its path has too many keys, else a decor does not
-- suit its place
abbrev pub path_rule : Route → FitRule
path_rule r = if nat_lt 0 r.room then rule.Decor else rule.Limits

module _ (mode : Mode) where
  -- ---- lines, pairs and values, where so many more brackets may be opened

  -- an item of an array, with what is inside; one that is no value is not printed
  abbrev pub item_misfits : Node → List MisfitView → List MisfitView
  item_misfits n inner =
      elim (is_value_node n) [
        | true ↦ unless (element_fits mode (node_decor n)) rule.Decor ++ inner
        | false ↦ []
      ]

  -- a line or a pair with what is inside its value, or the lines below the key
  abbrev pub pair_misfits : ℕ → Route → Key → Node → List MisfitView → List MisfitView → List MisfitView
  pair_misfits room r k n inner lines =
      elim (is_line_node n) [
        | true ↦ unless (pair_fits mode room r k (node_decor n)) (path_rule r) ++ inner
        | false ↦ lines
      ]

  -- A bracket that is nested too deep is a misfit, and what is inside it is not looked at.
  abbrev mutual
    pub value_misfits : ℕ → Node → List MisfitView
    value_misfits room (list f xs) =
        if nat_lt 0 room
        then unless (is_whole (shown_raw mode f.trailing)) rule.Decor
        ++ items_misfits (room - 1) 0 xs
        else here rule.Limits
    value_misfits room (inline f ss) =
        if nat_lt 0 room
        then unless (is_whole (shown_raw mode f.trailing)) rule.Decor
        ++ inside_misfits (room - 1) no_keys ss
        else here rule.Limits
    value_misfits room (leaf s spelling d) = []
    value_misfits room (table f ss) = []
    value_misfits room (tables e xs) = []
    value_misfits room nothing = []

    -- the items of an array from this number on
    pub items_misfits : ℕ → ℕ → Items → List MisfitView
    items_misfits room at no_items = []
    items_misfits room at (item n xs) =
        below (decimal at) (item_misfits n (value_misfits room n))
        ++ items_misfits room (suc at) xs

    -- the pairs of an inline table, with the keys before them
    pub inside_misfits : ℕ → Route → Slots → List MisfitView
    inside_misfits room r no_slots = []
    inside_misfits room r (slot k n ss) =
        below k.name
        (pair_misfits room r k n (value_misfits room n) (within_misfits room (then_key mode r k) n))
        ++ inside_misfits room r ss

    pub within_misfits : ℕ → Route → Node → List MisfitView
    within_misfits room r (inline f ss) = inside_misfits room r ss
    within_misfits room r (table f ss) = inside_misfits room r ss
    within_misfits room r (leaf s spelling d) = []
    within_misfits room r (list f xs) = []
    within_misfits room r (tables e xs) = []
    within_misfits room r nothing = []

  -- the lines of a table, with the keys before them
  abbrev mutual
    pub lines_misfits : Route → Slots → List MisfitView
    lines_misfits r no_slots = []
    lines_misfits r (slot k n ss) =
        below k.name
        (pair_misfits nesting_limit r k n (value_misfits nesting_limit n)
        (dotted_misfits (then_key mode r k) n))
        ++ lines_misfits r ss

    pub dotted_misfits : Route → Node → List MisfitView
    dotted_misfits r (table f ss) = if f.is_dotted then lines_misfits r ss else []
    dotted_misfits r (inline f ss) = inside_misfits nesting_limit r ss
    dotted_misfits r (leaf s spelling d) = []
    dotted_misfits r (list f xs) = []
    dotted_misfits r (tables e xs) = []
    dotted_misfits r nothing = []

  -- ---- tables

  -- a table below the root: its header, if it has one, and its lines
  abbrev pub table_misfits : Route → Key → Bool → TableFields → Slots → List MisfitView
  table_misfits r k is_element f ss =
      if f.is_dotted then unless (not is_element) rule.Dotted
      else unless (not (has_own_header is_element f ss) || header_fits mode r k f.decor) (path_rule r)
      ++ lines_misfits no_keys ss

  -- all tables below these slots
  abbrev mutual
    pub tables_misfits : Route → Slots → List MisfitView
    tables_misfits r no_slots = []
    tables_misfits r (slot k n ss) = below k.name (node_misfits r k n) ++ tables_misfits r ss

    pub node_misfits : Route → Key → Node → List MisfitView
    node_misfits r k (table f ss) =
        table_misfits r k false f ss ++ tables_misfits (then_key mode r k) ss
    node_misfits r k (tables e xs) = elements_misfits r k 0 xs
    node_misfits r k (leaf s spelling d) = []
    node_misfits r k (list f xs) = []
    node_misfits r k (inline f ss) = []
    node_misfits r k nothing = []

    pub elements_misfits : Route → Key → ℕ → Items → List MisfitView
    elements_misfits r k at no_items = []
    elements_misfits r k at (item n xs) =
        below (decimal at) (element_misfits r k n) ++ elements_misfits r k (suc at) xs

    -- an item of an array of tables, which isn't printed unless it is a table
    pub element_misfits : Route → Key → Node → List MisfitView
    element_misfits r k (table f ss) =
        table_misfits r k true f ss ++ tables_misfits (then_key mode r k) ss
    element_misfits r k (tables e xs) = []
    element_misfits r k (leaf s spelling d) = []
    element_misfits r k (list f xs) = []
    element_misfits r k (inline f ss) = []
    element_misfits r k nothing = []

  -- the root, what is around it with the trailing text, and its lines
  abbrev pub root_misfits : TableFields → Slots → Raw → List MisfitView
  root_misfits f ss trailing =
      unless (not f.is_dotted) rule.Dotted
      ++ (unless ((is_whole (shown_prefix mode [] f.decor) && is_whole (shown_suffix mode [] f.decor))
      && is_final (shown_raw mode trailing)) rule.Decor
      ++ lines_misfits no_keys ss)

-- ---- the order of headers

-- A table that the walk over the tables enters (`HeaderOrder`), with the names of the keys that
-- lead to it.
abbrev pub Located : Type 0
Located = List Text × Visit

abbrev pub in_step : Text → Located → Located
in_step k x = (k ∷ x.0, x.1)

-- the tables below these slots, in the order of the walk
abbrev mutual
  pub located_slots : Slots → Path → List Key → List Located
  located_slots no_slots p ks = []
  located_slots (slot k n ss) p ks =
      map (in_step k.name) (located_node n (to_key p k.name) (ks ++ (k ∷ [])))
      ++ located_slots ss p ks

  pub located_node : Node → Path → List Key → List Located
  located_node (table f ss) p ks = ([], visit_of p ks false f ss) ∷ located_slots ss p ks
  located_node (tables e xs) p ks = located_items 0 xs p ks 0
  located_node (leaf s spelling d) p ks = []
  located_node (list f xs) p ks = []
  located_node (inline f ss) p ks = []
  located_node nothing p ks = []

  -- the items from this number on; the walk numbers the tables among them
  pub located_items : ℕ → Items → Path → List Key → ℕ → List Located
  located_items at no_items p ks i = []
  located_items at (item (table f ss) xs) p ks i =
      map (in_step (decimal at))
      (([], visit_of (to_element p i) ks true f ss) ∷ located_slots ss (to_element p i) ks)
      ++ located_items (suc at) xs p ks (suc i)
  located_items at (item _ xs) p ks i = located_items (suc at) xs p ks i

abbrev pub Headed : Type 0
Headed = List Text × PlacedVisit

-- those that have headers, with their places in the order of headers
abbrev pub headed_from : ℤ → List Located → List Headed
headed_from seen [] = []
headed_from seen (x ∷ rest) =
    if x.1.fields.is_dotted then headed_from seen rest
    else if has_own_header x.1.is_element x.1.fields x.1.slots
    then (x.0, (place_of seen x.1, x.1)) ∷ headed_from (place_of seen x.1) rest
    else headed_from (place_of seen x.1) rest

-- Of two tables in the order of the walk, the second is printed first, and the first is too late
-- after it.
abbrev pub is_too_early : PlacedVisit → PlacedVisit → Bool
is_too_early x y = is_too_late y.1 x.1 && not (int_le x.0 y.0)

-- those that are printed too early for one before them in the walk
abbrev pub early_after : List PlacedVisit → List Headed → List MisfitView
early_after before [] = []
early_after before (y ∷ rest) =
    (if list_any (λ x. is_too_early x y.1) before
    then record { path = map new_key y.0; rule = rule.Order } ∷ [] else [])
    ++ early_after (y.1 ∷ before) rest

abbrev pub early_misfits : Tree → List MisfitView
early_misfits t = early_after [] (headed_from (root_place t.root) (located_slots t.slots [] []))

-- ---- the whole tree

abbrev pub misfits : Mode → Tree → List MisfitView
misfits mode t =
    root_misfits mode t.root t.slots t.trailing
    ++ (tables_misfits mode no_keys t.slots ++ early_misfits t)

-- ---- what is shown of a rule

abbrev pub rule_text : FitRule → Text
rule_text rule.Decor = codes "whitespace or comment out of place"
rule_text rule.Dotted = codes "dotted root or element"
rule_text rule.Order = codes "header printed too early"
rule_text rule.Limits = codes "path or value too deep"
