-- A tree has no misfits just where it passes the tests, part by part.
use Rattle.std.proofs.Common.{◌≡◌, refl, sym, ◌∙◌, ap, subst, ℕ, suc, ◌-◌, ℤ, Bool, true, false, List, [], ◌∷◌, ◌++◌, Option, Some, None}
use Rattle.std.specs.Prelude.{◌&&◌, ◌||◌, ◌↔◌, not, nat_lt, if◌then◌else◌, slice_get, is_some, option_and_then, option_map}
use Rattle.std.specs.Fmt.{decimal}
use Rattle.std.specs.Option.{MatchOption}
use Rattle.toml_edit_model.specs.Mode.{Mode}
use Rattle.toml_edit_model.specs.Text.{Text, is_empty}
use Rattle.toml_edit_model.specs.Syntax.{nesting_limit}
use Rattle.toml_edit_model.specs.Tree.{Raw, Key, TableFields, Node, nothing, leaf, list, inline, table, tables, Items, no_items, item}
use Rattle.toml_edit_model.specs.Tree.{Slots, no_slots, slot, Tree, SlotsAreWellMade, shown_prefix, shown_suffix, shown_raw, node_decor}
use Rattle.toml_edit_model.specs.Tree.{is_value_node}
use Rattle.toml_edit_model.specs.Print.{is_line_node}
use Rattle.toml_edit_model.specs.Fits.{FitsIn}
use Rattle.toml_edit_laws.specs.PrintByVisits.{has_own_header}
use Rattle.toml_edit_laws.proofs.common.Tests.{and_left, and_right, true-false}
use Rattle.toml_edit_fits.specs.declared.misfit.FitRule.{FitRule}
use Rattle.toml_edit_fits.specs.declared.misfit.FitRule.TheVariants as rule
use Rattle.toml_edit_fits.specs.declared.order.Marks.{Marks}
use Rattle.toml_edit_fits.specs.declared.route.Route.{Route}
use Rattle.toml_edit_fits.specs.TriviaTests.{is_whole, is_final}
use Rattle.toml_edit_fits.specs.FitTests.{no_keys, then_key, pair_fits, element_fits, header_fits, value_fits, items_fit, inside_fits}
use Rattle.toml_edit_fits.specs.FitTests.{within_fits, lines_fit, dotted_fits, table_fits, tables_fit, node_fits, elements_fit}
use Rattle.toml_edit_fits.specs.FitTests.{as_element_fits, root_fits, parts_fit}
use Rattle.toml_edit_fits.specs.OrderTests.{SlotsAreApart, reaches, later, marks_of, place_in, enter, first_below, order_slots, order_node}
use Rattle.toml_edit_fits.specs.OrderTests.{order_items, order_item, root_marks}
use Rattle.toml_edit_fits.specs.Misfits.{MisfitView, here, unless, below, path_rule, item_misfits, pair_misfits, value_misfits}
use Rattle.toml_edit_fits.specs.Misfits.{items_misfits, inside_misfits, within_misfits, lines_misfits, dotted_misfits, table_misfits}
use Rattle.toml_edit_fits.specs.Misfits.{tables_misfits, node_misfits, elements_misfits, element_misfits, root_misfits, misfits}
use Rattle.toml_edit_fits.specs.EarlyTests.{is_in_order, marks_past, low_in, past_array, past_slots, past_node, past_items, past_item}
use Rattle.toml_edit_fits.specs.EarlyTests.{early_slots, early_node, early_items, early_item, walked_misfits}
use Rattle.toml_edit_fits.specs.MisfitViews.{Reports}
use Rattle.toml_edit_fits.proofs.ApartLaws.{made-apart}
use Rattle.toml_edit_fits.proofs.EarlyLaws.{misfits-walked}
use Rattle.toml_edit_fits.proofs.FitsLaws.{passes, passing}

-- ---- lists without elements

none-unless : (fits : Bool) (r : FitRule) → is_empty (unless fits r) ≡ fits
none-unless true r = refl
none-unless false r = refl

none-both : {A : Type 0} (xs ys : List A) (a b : Bool) → is_empty xs ≡ a → is_empty ys ≡ b → is_empty (xs ++ ys) ≡ (a && b)
none-both [] ys a b h g = g ∙ ap (λ x. x && b) h
none-both (x ∷ xs) ys a b h g = ap (λ x. x && b) h

none-below : (k : Text) (ms : List MisfitView) → is_empty (below k ms) ≡ is_empty ms
none-below k [] = refl
none-below k (m ∷ ms) = refl

-- what is below a step, and the rest
none-slot : (k : Text) (ms rest : List MisfitView) (a b : Bool) → is_empty ms ≡ a → is_empty rest ≡ b → is_empty (below k ms ++ rest)
    ≡ (a && b)
none-slot k ms rest a b h g = none-both (below k ms) rest a b (none-below k ms ∙ h) g

-- a part of a place, and the rest
none-part : (fits : Bool) (r : FitRule) (rest : List MisfitView) (b : Bool) → is_empty rest ≡ b → is_empty (unless fits r ++ rest)
    ≡ (fits && b)
none-part fits r rest b h = none-both (unless fits r) rest fits b (none-unless fits r) h

module _ (mode : Mode) where
  -- ---- values and lines

  none-item : (n : Node) (inner : List MisfitView) (a : Bool) → (is_value_node n ≡ true → is_empty inner ≡ a)
      → is_empty (item_misfits mode n inner) ≡ elim (is_value_node n) [ true ↦ element_fits mode (node_decor n) && a | false ↦ true ]
  none-item n inner a h = by_value (is_value_node n) h
    where
      by_value : (v : Bool) → (v ≡ true → is_empty inner ≡ a)
          → is_empty (elim v [ true ↦ unless (element_fits mode (node_decor n)) rule.Decor ++ inner | false ↦ [] ])
          ≡ elim v [ true ↦ element_fits mode (node_decor n) && a | false ↦ true ]
      by_value true h = none-part (element_fits mode (node_decor n)) rule.Decor inner a (h refl)
      by_value false h = refl

  none-pair : (room : ℕ) (r : Route) (k : Key) (n : Node) (inner lines : List MisfitView) (a b : Bool)
      → (is_line_node n ≡ true → is_empty inner ≡ a) → is_empty lines ≡ b
      → is_empty (pair_misfits mode room r k n inner lines)
      ≡ elim (is_line_node n) [ true ↦ pair_fits mode room r k (node_decor n) && a | false ↦ b ]
  none-pair room r k n inner lines a b h g = by_line (is_line_node n) h
    where
      by_line : (l : Bool) → (l ≡ true → is_empty inner ≡ a)
          → is_empty (elim l [ true ↦ unless (pair_fits mode room r k (node_decor n)) (path_rule r) ++ inner | false ↦ lines ])
          ≡ elim l [ true ↦ pair_fits mode room r k (node_decor n) && a | false ↦ b ]
      by_line true h = none-part (pair_fits mode room r k (node_decor n)) (path_rule r) inner a (h refl)
      by_line false h = g

  in-brackets : (c w a : Bool) (inner : List MisfitView) → is_empty inner ≡ a
      → is_empty (if c then unless w rule.Decor ++ inner else here rule.Limits) ≡ (c && (w && a))
  in-brackets true w a inner h = none-part w rule.Decor inner a h
  in-brackets false w a inner h = refl

  mutual
    none-value : (n : Node) (room : ℕ) → is_value_node n ≡ true → is_empty (value_misfits mode room n) ≡ value_fits mode room n
    none-value (leaf s x d) room h = refl
    none-value (list f xs) room h =
        in-brackets (nat_lt 0 room) (is_whole (shown_raw mode f.trailing)) (items_fit mode (room - 1) xs)
        (items_misfits mode (room - 1) 0 xs) (none-items xs (room - 1) 0)
    none-value (inline f ss) room h =
        in-brackets (nat_lt 0 room) (is_whole (shown_raw mode f.trailing)) (inside_fits mode (room - 1) no_keys ss)
        (inside_misfits mode (room - 1) no_keys ss) (none-inside ss (room - 1) no_keys)
    none-value (table f ss) room h = cc
    none-value (tables e xs) room h = cc
    none-value nothing room h = cc

    none-items : (xs : Items) (room at : ℕ) → is_empty (items_misfits mode room at xs) ≡ items_fit mode room xs
    none-items no_items room at = refl
    none-items (item n xs) room at =
        none-slot (decimal at) (item_misfits mode n (value_misfits mode room n)) (items_misfits mode room (suc at) xs)
        (elim (is_value_node n) [ true ↦ element_fits mode (node_decor n) && value_fits mode room n | false ↦ true ])
        (items_fit mode room xs)
        (none-item n (value_misfits mode room n) (value_fits mode room n) (none-value n room)) (none-items xs room (suc at))

    none-inside : (ss : Slots) (room : ℕ) (r : Route) → is_empty (inside_misfits mode room r ss) ≡ inside_fits mode room r ss
    none-inside no_slots room r = refl
    none-inside (slot k n ss) room r =
        none-slot k.name (pair_misfits mode room r k n (value_misfits mode room n) (within_misfits mode room (then_key mode r k) n))
        (inside_misfits mode room r ss)
        (elim (is_line_node n) [
          | true ↦ pair_fits mode room r k (node_decor n) && value_fits mode room n
          | false ↦
              within_fits mode room (then_key mode r k) n
        ]) (inside_fits mode room r ss)
        (none-pair room r k n (value_misfits mode room n) (within_misfits mode room (then_key mode r k) n) (value_fits mode room n)
        (within_fits mode room (then_key mode r k) n)
        (none-line n room) (none-within n room (then_key mode r k))) (none-inside ss room r)

    none-line : (n : Node) (room : ℕ) → is_line_node n ≡ true → is_empty (value_misfits mode room n) ≡ value_fits mode room n
    none-line (leaf s x d) room h = refl
    none-line (list f xs) room h =
        in-brackets (nat_lt 0 room) (is_whole (shown_raw mode f.trailing)) (items_fit mode (room - 1) xs)
        (items_misfits mode (room - 1) 0 xs) (none-items xs (room - 1) 0)
    none-line (inline f ss) room h =
        in-brackets (nat_lt 0 room) (is_whole (shown_raw mode f.trailing)) (inside_fits mode (room - 1) no_keys ss)
        (inside_misfits mode (room - 1) no_keys ss) (none-inside ss (room - 1) no_keys)
    none-line (table f ss) room h = cc
    none-line (tables e xs) room h = cc
    none-line nothing room h = cc

    none-within : (n : Node) (room : ℕ) (r : Route) → is_empty (within_misfits mode room r n) ≡ within_fits mode room r n
    none-within (inline f ss) room r = none-inside ss room r
    none-within (table f ss) room r = none-inside ss room r
    none-within (leaf s x d) room r = refl
    none-within (list f xs) room r = refl
    none-within (tables e xs) room r = refl
    none-within nothing room r = refl

  mutual
    none-lines : (ss : Slots) (r : Route) → is_empty (lines_misfits mode r ss) ≡ lines_fit mode r ss
    none-lines no_slots r = refl
    none-lines (slot k n ss) r =
        none-slot k.name (pair_misfits mode nesting_limit r k n (value_misfits mode nesting_limit n)
        (dotted_misfits mode (then_key mode r k) n)) (lines_misfits mode r ss)
        (elim (is_line_node n) [
          | true ↦ pair_fits mode nesting_limit r k (node_decor n) && value_fits mode nesting_limit n
          | false ↦
              dotted_fits mode (then_key mode r k) n
        ]) (lines_fit mode r ss)
        (none-pair nesting_limit r k n (value_misfits mode nesting_limit n) (dotted_misfits mode (then_key mode r k) n)
        (value_fits mode nesting_limit n) (dotted_fits mode (then_key mode r k) n)
        (none-line n nesting_limit) (none-dotted n (then_key mode r k))) (none-lines ss r)

    none-dotted : (n : Node) (r : Route) → is_empty (dotted_misfits mode r n) ≡ dotted_fits mode r n
    none-dotted (table f ss) r = by_dot f.is_dotted (none-lines ss r)
      where
        by_dot : (d : Bool) → is_empty (lines_misfits mode r ss) ≡ lines_fit mode r ss
            → is_empty (if d then lines_misfits mode r ss else []) ≡ (if d then lines_fit mode r ss else true)
        by_dot true h = h
        by_dot false h = refl
    none-dotted (inline f ss) r = none-inside ss nesting_limit r
    none-dotted (leaf s x d) r = refl
    none-dotted (list f xs) r = refl
    none-dotted (tables e xs) r = refl
    none-dotted nothing r = refl

  -- ---- tables

  none-table : (r : Route) (k : Key) (is_element : Bool) (f : TableFields) (ss : Slots) → is_empty (table_misfits mode r k is_element f ss)
      ≡ table_fits mode r k is_element f ss
  none-table r k is_element f ss = by_dot f.is_dotted
    where
      by_dot : (d : Bool) → is_empty (if d then unless (not is_element) rule.Dotted
          else unless (not (has_own_header is_element f ss) || header_fits mode r k f.decor) (path_rule r) ++ lines_misfits mode no_keys ss)
          ≡ (if d then not is_element else (not (has_own_header is_element f ss) || header_fits mode r k f.decor)
          && lines_fit mode no_keys ss)
      by_dot true = none-unless (not is_element) rule.Dotted
      by_dot false =
          none-part (not (has_own_header is_element f ss) || header_fits mode r k f.decor) (path_rule r) (lines_misfits mode no_keys ss)
          (lines_fit mode no_keys ss) (none-lines ss no_keys)

  mutual
    none-tables : (ss : Slots) (r : Route) → is_empty (tables_misfits mode r ss) ≡ tables_fit mode r ss
    none-tables no_slots r = refl
    none-tables (slot k n ss) r =
        none-slot k.name (node_misfits mode r k n) (tables_misfits mode r ss) (node_fits mode r k n) (tables_fit mode r ss)
        (none-node n r k) (none-tables ss r)

    none-node : (n : Node) (r : Route) (k : Key) → is_empty (node_misfits mode r k n) ≡ node_fits mode r k n
    none-node (table f ss) r k =
        none-both (table_misfits mode r k false f ss) (tables_misfits mode (then_key mode r k) ss) (table_fits mode r k false f ss)
        (tables_fit mode (then_key mode r k) ss)
        (none-table r k false f ss) (none-tables ss (then_key mode r k))
    none-node (tables e xs) r k = none-elements xs r k 0
    none-node (leaf s x d) r k = refl
    none-node (list f xs) r k = refl
    none-node (inline f ss) r k = refl
    none-node nothing r k = refl

    none-elements : (xs : Items) (r : Route) (k : Key) (at : ℕ) → is_empty (elements_misfits mode r k at xs) ≡ elements_fit mode r k xs
    none-elements no_items r k at = refl
    none-elements (item n xs) r k at =
        none-slot (decimal at) (element_misfits mode r k n) (elements_misfits mode r k (suc at) xs) (as_element_fits mode r k n)
        (elements_fit mode r k xs)
        (none-element n r k) (none-elements xs r k (suc at))

    none-element : (n : Node) (r : Route) (k : Key) → is_empty (element_misfits mode r k n) ≡ as_element_fits mode r k n
    none-element (table f ss) r k =
        none-both (table_misfits mode r k true f ss) (tables_misfits mode (then_key mode r k) ss) (table_fits mode r k true f ss)
        (tables_fit mode (then_key mode r k) ss)
        (none-table r k true f ss) (none-tables ss (then_key mode r k))
    none-element (tables e xs) r k = refl
    none-element (leaf s x d) r k = refl
    none-element (list f xs) r k = refl
    none-element (inline f ss) r k = refl
    none-element nothing r k = refl

  none-root : (f : TableFields) (ss : Slots) (trailing : Raw) → is_empty (root_misfits mode f ss trailing) ≡ root_fits mode f ss trailing
  none-root f ss trailing =
      none-part undotted rule.Dotted (unless around rule.Decor ++ lines_misfits mode no_keys ss) (around && lines_fit mode no_keys ss)
      (none-part around rule.Decor (lines_misfits mode no_keys ss) (lines_fit mode no_keys ss) (none-lines ss no_keys))
      ∙ turned undotted around (lines_fit mode no_keys ss)
    where
      undotted : Bool
      undotted = not f.is_dotted

      around : Bool
      around = (is_whole (shown_prefix mode [] f.decor) && is_whole (shown_suffix mode [] f.decor)) && is_final (shown_raw mode trailing)

      turned : (a b c : Bool) → (a && (b && c)) ≡ ((a && c) && b)
      turned true true true = refl
      turned true true false = refl
      turned true false true = refl
      turned true false false = refl
      turned false b c = refl

-- ---- the order of headers

abbrev when : Bool → Marks → Option Marks
when b m = if b then Some m else None

then-when : (a b : Bool) (m n : Marks) (f : Marks → Option Marks) → (a ≡ true → f m ≡ when b n) → option_and_then f (when a m)
    ≡ when (a && b) n
then-when true b m n f h = h refl
then-when false b m n f h = refl

map-when : (a : Bool) (m : Marks) (f : Marks → Marks) → option_map f (when a m) ≡ when a (f m)
map-when true m f = refl
map-when false m f = refl

enter-when : (is_element : Bool) (low : Option ℤ) (m : Marks) (f : TableFields) (ss : Slots) → enter is_element low m f ss
    ≡ when (is_in_order is_element low m f ss) (marks_past is_element m f ss)
enter-when is_element low m f ss =
    by_tests f.is_dotted (has_own_header is_element f ss) (reaches low (place_in m f)
    && (not is_element || reaches m.highest (place_in m f)))
  where
    by_tests : (d h t : Bool)
        → (if d then Some m else if h then (if t then Some (marks_of (place_in m f) (later m.highest (place_in m f))) else None)
        else Some (marks_of (place_in m f) m.highest))
        ≡ when ((d || not h) || t) (if d then m else if h then marks_of (place_in m f) (later m.highest (place_in m f))
        else marks_of (place_in m f) m.highest)
    by_tests true h t = refl
    by_tests false true true = refl
    by_tests false true false = refl
    by_tests false false t = refl

-- below an element in order, the first place is its own
low-is : (low : Option ℤ) (m : Marks) (f : TableFields) (ss : Slots) → is_in_order true low m f ss ≡ true → first_below true low m f
    ≡ low_in low m f
low-is low m f ss h = by_dot f.is_dotted h
  where
    reached : (low : Option ℤ) (place : ℤ) → reaches low place ≡ true → Some place ≡ later low place
    reached None place g = refl
    reached (Some x) place g = sym (ap (λ b. if b then Some place else Some x) g)

    by_dot : (d : Bool) → ((d || not true) || (reaches low (place_in m f) && (not true || reaches m.highest (place_in m f)))) ≡ true
        → (if true && not d then Some (place_in m f) else low) ≡ (if d then low else later low (place_in m f))
    by_dot true g = refl
    by_dot false g = reached low (place_in m f) (and_left (reaches low (place_in m f)) (reaches m.highest (place_in m f)) g)

when-like : (o : Option Marks) (a b : Bool) (m : Marks) → a ≡ b → o ≡ when b m → o ≡ when a m
when-like o a b m e h = h ∙ ap (λ x. when x m) (sym e)

mutual
  when-slots : (ss : Slots) (low : Option ℤ) (m : Marks) → order_slots low m ss ≡ when (is_empty (early_slots low m ss)) (past_slots m ss)
  when-slots no_slots low m = refl
  when-slots (slot k n ss) low m =
      let first = early_node low m n in
      let rest = early_slots low (past_node m n) ss in
      when-like (order_slots low m (slot k n ss)) (is_empty (below k.name first ++ rest)) (is_empty first
      && is_empty rest) (past_slots (past_node m n) ss)
      (none-slot k.name first rest (is_empty first) (is_empty rest) refl refl)
      (ap (option_and_then (λ w. order_slots low w ss)) (when-node n low m)
      ∙ then-when (is_empty first) (is_empty rest) (past_node m n) (past_slots (past_node m n) ss) (λ w. order_slots low w ss)
      (λ h. when-slots ss low (past_node m n)))

  when-node : (n : Node) (low : Option ℤ) (m : Marks) → order_node low m n ≡ when (is_empty (early_node low m n)) (past_node m n)
  when-node (table f ss) low m =
      let own = is_in_order false low m f ss in
      let past = marks_past false m f ss in
      let rest = early_slots low past ss in
      when-like (order_node low m (table f ss)) (is_empty (unless own rule.Order ++ rest)) (own && is_empty rest) (past_slots past ss)
      (none-part own rule.Order rest (is_empty rest) refl)
      (ap (option_and_then (λ w. order_slots low w ss)) (enter-when false low m f ss)
      ∙ then-when own (is_empty rest) past (past_slots past ss) (λ w. order_slots low w ss) (λ h. when-slots ss low past))
  when-node (tables e xs) low m =
      let before = marks_of m.seen None in
      ap (option_map (past_array m)) (when-items xs low before 0)
      ∙ map-when (is_empty (early_items low before 0 xs)) (past_items before xs) (past_array m)
  when-node (leaf s x d) low m = refl
  when-node (list f xs) low m = refl
  when-node (inline f ss) low m = refl
  when-node nothing low m = refl

  when-items : (xs : Items) (low : Option ℤ) (m : Marks) (at : ℕ) → order_items low m xs
      ≡ when (is_empty (early_items low m at xs)) (past_items m xs)
  when-items no_items low m at = refl
  when-items (item n xs) low m at =
      let first = early_item low m n in
      let rest = early_items low (past_item m n) (suc at) xs in
      when-like (order_items low m (item n xs)) (is_empty (below (decimal at) first ++ rest)) (is_empty first
      && is_empty rest) (past_items (past_item m n) xs)
      (none-slot (decimal at) first rest (is_empty first) (is_empty rest) refl refl)
      (ap (option_and_then (λ w. order_items low w xs)) (when-item n low m)
      ∙ then-when (is_empty first) (is_empty rest) (past_item m n) (past_items (past_item m n) xs) (λ w. order_items low w xs)
      (λ h. when-items xs low (past_item m n) (suc at)))

  when-item : (n : Node) (low : Option ℤ) (m : Marks) → order_item low m n ≡ when (is_empty (early_item low m n)) (past_item m n)
  when-item (table f ss) low m =
      let own = is_in_order true low m f ss in
      let past = marks_past true m f ss in
      let inside = low_in low m f in
      let rest = early_slots inside past ss in
      when-like (order_item low m (table f ss)) (is_empty (unless own rule.Order ++ rest)) (own && is_empty rest) (past_slots past ss)
      (none-part own rule.Order rest (is_empty rest) refl)
      (ap (option_and_then (λ w. order_slots (first_below true low m f) w ss)) (enter-when true low m f ss)
      ∙ then-when own (is_empty rest) past (past_slots past ss) (λ w. order_slots (first_below true low m f) w ss)
      (λ h. ap (λ l. order_slots l past ss) (low-is low m f ss h) ∙ when-slots ss inside past))
  when-item (tables e xs) low m = refl
  when-item (leaf s x d) low m = refl
  when-item (list f xs) low m = refl
  when-item (inline f ss) low m = refl
  when-item nothing low m = refl

-- below a header in order, a walk goes on from its marks
pub entered-on : {R : Type 0} (tells : R → MisfitView
    → Type 0) (is_element : Bool) (low inside : Option ℤ) (m v : Marks) (f : TableFields) (ss : Slots) (end : Option Marks) (r : R)
    → Some v ≡ enter is_element low m f ss → Reports tells (early_slots inside v ss) (Some (past_slots v ss)) None end r
    → Reports tells (unless (is_in_order is_element low m f ss) rule.Order
    ++ early_slots inside (marks_past is_element m f ss) ss) (Some (past_slots (marks_past is_element m f ss) ss)) None end r
entered-on tells is_element low inside m v f ss end r e h =
    by_order (is_in_order is_element low m f ss) (e ∙ enter-when is_element low m f ss)
  where
    by_order : (b : Bool) → Some v ≡ when b (marks_past is_element m f ss)
        → Reports tells (unless b rule.Order ++ early_slots inside (marks_past is_element m f ss) ss)
        (Some (past_slots (marks_past is_element m f ss) ss)) None end r
    by_order true g =
        let is : v ≡ marks_past is_element m f ss = cc in
        subst (λ (u : Marks). Reports tells (early_slots inside u ss) (Some (past_slots u ss)) None end r) is h
    by_order false g = absurd cc

-- ---- the whole tree

abbrev passed : Mode → Tree → Bool
passed mode t = parts_fit mode t && is_some (order_slots None (root_marks t.root) t.slots)

none-passed : (mode : Mode) (t : Tree) → is_empty (walked_misfits mode t) ≡ passed mode t
none-passed mode t =
    let parts = none-tables mode t.slots no_keys in
    let early = is_empty (early_slots None (root_marks t.root) t.slots) in
    none-both (root_misfits mode t.root t.slots t.trailing) (tables_misfits mode no_keys t.slots
    ++ early_slots None (root_marks t.root) t.slots)
    (root_fits mode t.root t.slots t.trailing) (tables_fit mode no_keys t.slots && is_some (order_slots None (root_marks t.root) t.slots))
    (none-root mode t.root t.slots t.trailing)
    (none-both (tables_misfits mode no_keys t.slots) (early_slots None (root_marks t.root) t.slots) (tables_fit mode no_keys t.slots)
    (is_some (order_slots None (root_marks t.root) t.slots))
    parts (sym (some-when early (past_slots (root_marks t.root) t.slots)) ∙ ap is_some (sym (when-slots t.slots None (root_marks t.root)))))
    ∙ sym (joined (root_fits mode t.root t.slots t.trailing) (tables_fit mode no_keys t.slots)
    (is_some (order_slots None (root_marks t.root) t.slots)))
  where
    some-when : (a : Bool) (m : Marks) → is_some (when a m) ≡ a
    some-when true m = refl
    some-when false m = refl

    joined : (a b c : Bool) → ((a && b) && c) ≡ (a && (b && c))
    joined true b c = refl
    joined false b c = refl

first-none : (ms : List MisfitView) → slice_get ms 0 ≡ None → is_empty ms ≡ true
first-none [] h = refl
first-none (m ∷ ms) h = cc

none-first : (ms : List MisfitView) → is_empty ms ≡ true → slice_get ms 0 ≡ None
none-first [] h = refl
none-first (m ∷ ms) h = cc

-- a well-made tree has no first misfit just where it fits
no-misfit : (mode : Mode) (t : Tree) → SlotsAreApart t.slots → (slice_get (misfits mode t) 0 ≡ None) ↔ FitsIn mode t
no-misfit mode t apart = (
  λ h. let all : passed mode t ≡ true = sym (none-passed mode t)
      ∙ first-none (walked_misfits mode t) (ap (λ ms. slice_get ms 0) (sym (misfits-walked mode t apart)) ∙ h) in
      passing mode t apart (and_left (parts_fit mode t) (is_some (order_slots None (root_marks t.root) t.slots)) all)
      (and_right (parts_fit mode t) (is_some (order_slots None (root_marks t.root) t.slots)) all),
  λ fits. ap (λ ms. slice_get ms 0) (misfits-walked mode t apart)
      ∙ none-first (walked_misfits mode t) (none-passed mode t ∙ passes mode t fits),
)

-- so a walk that reports the first one decides whether the tree fits
pub reports-decide : {R : Type 0} (tells : R → MisfitView → Type 0) (mode : Mode) (t : Tree) (end : Bool) (r : R)
    → ∥ SlotsAreWellMade t.slots ∥₁
    → Reports tells (misfits mode t) true false end r → (end ≡ true) ↔ FitsIn mode t
reports-decide tells mode t end r made h = by_first (slice_get (misfits mode t) 0) (no-misfit mode t (made-apart t.slots made)) h
  where
    by_first : (o : Option MisfitView) → (o ≡ None) ↔ FitsIn mode t → MatchOption o (end ≡ true) (λ m. (end ≡ false) × tells r m)
        → (end ≡ true) ↔ FitsIn mode t
    by_first None g h = (λ e. g.0 refl, λ f. h)
    by_first (Some m) g h = (λ e. true-false end e h.0, λ f. let e : Some m ≡ None = g.1 f in absurd cc)
