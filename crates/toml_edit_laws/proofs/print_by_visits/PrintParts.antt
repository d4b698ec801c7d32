-- The print of a tree is what stands around its root, the root's lines, and the headers that were collected, in order of place.
use Rattle.std.proofs.Common.{◌≡◌, refl, sym, ap, ◌∙◌, ℤ, pos, Bool, true, false, List, [], ◌∷◌, ◌++◌, append_assoc, inl, inr}
use Rattle.std.specs.Prelude.{filter, map, not, ◌&&◌, ◌||◌, int_le, if◌then◌else◌}
use Rattle.std.specs.List.{AllByRecursion}
use Rattle.std.proofs.lemmas.Bool.{cases_Bool}
use Rattle.toml_edit_laws.proofs.locality.Texts.{print-framed}
use Rattle.toml_edit_laws.proofs.common.LineEnds.{end-and-newline}
use Rattle.toml_edit_model.specs.Mode.{Mode, line_end, line_newline}
use Rattle.toml_edit_model.specs.Text.{Text, is_empty, joined}
use Rattle.toml_edit_model.specs.Paths.{Path}
use Rattle.toml_edit_model.specs.Syntax.{closing_brackets, opening_brackets, path_text, statement_text}
use Rattle.toml_edit_model.specs.Tree.{TableFields, Slots, Tree, shown_prefix, shown_raw, shown_suffix}
use Rattle.toml_edit_model.specs.HeaderOrder.{PlacedVisit, Visit, comes_before, in_header_order, is_root, place_of, places_from, slots_walk}
use Rattle.toml_edit_model.specs.HeaderOrder.{visit_of}
use Rattle.toml_edit_model.specs.Print.{Line, Printed, has_header, header_default, last_leaf, line_statement, lines_of}
use Rattle.toml_edit_model.specs.Print.{printed_line, printed_table, printed_tables, segments, table_lines, header_statement}
use Rattle.toml_edit_laws.specs.PrintByVisits.{PrintByVisits, begins, by_place, has_lines, headed_tables, header_text, headers_text}
use Rattle.toml_edit_laws.specs.PrintByVisits.{holds_newline, inside_brackets, lines_text, root_lines, root_place, written_lines}
use Rattle.toml_edit_laws.proofs.common.Tests.{and-true}
use Rattle.toml_edit_laws.proofs.common.OrderLaws.{all-sorted, sorted-alike, sorted-image, int_le-total, int_le-trans}
use Rattle.toml_edit_laws.proofs.print_by_visits.ValueTexts.{lines-are, lines-some}
use Rattle.toml_edit_laws.proofs.print_by_visits.WalkOnce.{head_of, shown_heads, shows_header, walked-tables}
use Rattle.toml_edit_laws.proofs.common.Visits.{IsBelowRoot, root-first, slots-below}
use Rattle.toml_edit_laws.proofs.common.Statements.{own_header}
use Rattle.toml_edit_laws.proofs.common.Sorting.{filter-sorted}
use Rattle.toml_edit_model.specs.Order.{sorted_by}

-- ---- the text of printed statements

abbrev text_of : List Printed → Text
text_of ps = joined (map statement_text (map (λ (p : Printed). p.statement) ps))

text_of-append : (xs ys : List Printed) → text_of (xs ++ ys) ≡ text_of xs ++ text_of ys
text_of-append [] ys = refl
text_of-append (x ∷ xs) ys =
    ap (λ (t : Text). statement_text x.statement ++ t) (text_of-append xs ys)
    ∙ sym (append_assoc (statement_text x.statement) (text_of xs) (text_of ys))

header-order : (a b o p ks s c u n : Text)
    → (a ++ b) ++ ((o ++ (p ++ (ks ++ (s ++ c)))) ++ (u ++ n)) ≡ a ++ (b ++ (o ++ ((p ++ (ks ++ s)) ++ (c ++ (u ++ n)))))
header-order a b o p ks s c u n = simp append_assoc

not-both : (i e h : Bool) → e ≡ not h → not (i && e) ≡ (not i || h)
not-both true e true p = ap not p
not-both true e false p = ap not p
not-both false e h p = refl

no-lines : (e i h : Bool) (ls : List Line) → is_empty ls ≡ not h → (e || (not i || h)) ≡ false → ls ≡ []
no-lines true i h ls p g = absurd cc
no-lines false false h ls p g = absurd cc
no-lines false true true ls p g = absurd cc
no-lines false true false [] p g = refl
no-lines false true false (l ∷ ls) p g = absurd cc

and-false : (b : Bool) → (b && false) ≡ false
and-false true = refl
and-false false = refl

abbrev pub IsBelow : PlacedVisit → Type 0
IsBelow v = is_root v.1 ≡ false

abbrev pub placed_before : PlacedVisit → PlacedVisit → Bool
placed_before g h = int_le g.0 h.0

-- Leaving out those without headers, and then sorting by place, is sorting and then leaving out.
pub shown-sorted : (vs : List PlacedVisit) → shown_heads (sorted_by placed_before vs) ≡ sorted_by by_place (shown_heads vs)
shown-sorted vs =
    ap (map head_of)
    (filter-sorted placed_before (λ a b c p q. int_le-trans a.0 b.0 c.0 p q) (λ a b p. int_le-total a.0 b.0 p) shows_header vs)
    ∙ sym (sorted-image head_of by_place (filter shows_header vs))

-- below the root the place decides
pub same-order : (a b : PlacedVisit) → IsBelow a → IsBelow b → comes_before a b ≡ placed_before a b
same-order a b p q =
    ap (λ (r : Bool). r || (not (is_root b.1) && int_le a.0 b.0)) p ∙ ap (λ (r : Bool). not r && int_le a.0 b.0) q

places-step : (b : Bool) (p seen : ℤ) (v : Visit) (vs : List Visit) → IsBelowRoot v → AllByRecursion IsBelow (places_from seen vs)
    → AllByRecursion IsBelow (places_from p vs) → AllByRecursion IsBelow (if b then places_from seen vs else (p, v) ∷ places_from p vs)
places-step true p seen v vs h f g = f
places-step false p seen v vs h f g = (h, g)

places-below : (seen : ℤ) (vs : List Visit) → AllByRecursion IsBelowRoot vs → AllByRecursion IsBelow (places_from seen vs)
places-below seen [] h = tt
places-below seen (v ∷ vs) h =
    places-step v.fields.is_dotted (place_of seen v) seen v vs h.0 (places-below seen vs h.1) (places-below (place_of seen v) vs h.1)

-- the tables that are collected are those of the walk that have headers
pub headed-are : (f : TableFields) (ss : Slots) → headed_tables f ss ≡ shown_heads (places_from (root_place f) (slots_walk ss [] []))
headed-are f ss = walked-tables ss [] [] (record { tables = []; seen = root_place f })

module _ (mode : Mode) where
  text_of-lines : (p : Path) (ls : List Line) → text_of (map (printed_line mode p) ls) ≡ lines_text mode ls
  text_of-lines p [] = refl
  text_of-lines p (l ∷ ls) = ap (λ (t : Text). statement_text (line_statement mode l) ++ t) (text_of-lines p ls)

  -- those of a table's lines
  table-text : (p : Path) (ss : Slots) → text_of (map (printed_line mode p) (table_lines mode ss [])) ≡ written_lines mode ss []
  table-text p ss = text_of-lines p (table_lines mode ss []) ∙ lines-are mode ss []

  -- ---- a header

  -- what stands before the suffix of a header
  abbrev header_before : Bool → PlacedVisit → Text → Text
  header_before is_first v t =
      let d = last_leaf v.1.keys in
      (if holds_newline mode d then shown_prefix mode [] d else [])
      ++ (shown_prefix mode (header_default is_first) v.1.fields.decor
      ++ (opening_brackets v.1.is_element ++ (inside_brackets mode d (path_text (segments mode v.1.keys))
      ++ (closing_brackets v.1.is_element ++ t))))

  -- a header in the parts that are written
  pub header-is : (is_first : Bool) (v : PlacedVisit) → statement_text (header_statement mode is_first v.1)
      ≡ header_text mode is_first (head_of v)
  header-is is_first v =
      let d = last_leaf v.1.keys in
      header-order (if holds_newline mode d then shown_prefix mode [] d
      else []) (shown_prefix mode (header_default is_first) v.1.fields.decor)
      (opening_brackets v.1.is_element) (if holds_newline mode d then [] else shown_prefix mode [] d) (path_text (segments mode v.1.keys))
      (if holds_newline mode d then [] else shown_suffix mode [] d) (closing_brackets v.1.is_element)
      (line_end mode (shown_suffix mode [] v.1.fields.decor)) (line_newline mode (shown_suffix mode [] v.1.fields.decor))
      ∙ ap (header_before is_first v) (end-and-newline mode (shown_suffix mode [] v.1.fields.decor))

  -- ---- which tables have one

  -- a table below the root has a header just where it is collected
  pub has-header : (v : PlacedVisit) → is_root v.1 ≡ false → has_header mode v.1 ≡ shows_header v
  has-header v below =
      ap (λ (r : Bool). not r && (v.1.is_element || not (v.1.fields.is_implicit && is_empty (lines_of mode v.1)))) below
      ∙ ap (λ (b : Bool). v.1.is_element || b) (not-both v.1.fields.is_implicit (is_empty (lines_of mode v.1)) (has_lines v.1.slots)
      (lines-some mode v.1.slots []))

  with-header : (b : Bool) (v : PlacedVisit) → is_root v.1 ≡ false → shows_header v ≡ true
      → printed_table mode b v.1 ≡ own_header mode b v.1 ∷ map (printed_line mode v.1.path) (lines_of mode v.1)
  with-header b v below e =
      ap (λ (c : Bool). (if c then own_header mode b v.1 ∷ [] else [])
      ++ map (printed_line mode v.1.path) (lines_of mode v.1)) (has-header v below ∙ e)

  -- one that isn't collected prints nothing
  pub without-header : (b : Bool) (v : PlacedVisit) → is_root v.1 ≡ false → shows_header v ≡ false → printed_table mode b v.1 ≡ []
  without-header b v below e =
      ap (λ (c : Bool). (if c then own_header mode b v.1 ∷ [] else [])
      ++ map (printed_line mode v.1.path) (lines_of mode v.1)) (has-header v below ∙ e)
      ∙ ap (map (printed_line mode v.1.path)) (no-lines v.1.is_element v.1.fields.is_implicit (has_lines v.1.slots) (lines_of mode v.1)
      (lines-some mode v.1.slots []) e)

  -- the text of tables below the root is that of those with headers
  pub headers-printed : (b : Bool) (vs : List PlacedVisit) → AllByRecursion IsBelow vs → text_of (printed_tables mode b vs)
      ≡ headers_text mode b (shown_heads vs)
  headers-printed b [] h = refl
  headers-printed b (v ∷ vs) h =
      elim (cases_Bool (shows_header v)) [
        | inl e ↦ ap (λ (t : List Printed). text_of (t ++ printed_tables mode (b && is_empty t) vs)) (with-header b v h.0 e)
            ∙ ap (λ (c : Bool). statement_text (header_statement mode b v.1)
            ++ text_of (map (printed_line mode v.1.path) (lines_of mode v.1) ++ printed_tables mode c vs)) (and-false b)
            ∙ ap (λ (t : Text). t ++ text_of (map (printed_line mode v.1.path) (lines_of mode v.1) ++ printed_tables mode false vs))
            (header-is b v)
            ∙ ap (λ (t : Text). header_text mode b (head_of v) ++ t)
            (text_of-append (map (printed_line mode v.1.path) (lines_of mode v.1)) (printed_tables mode false vs)
            ∙ ap (λ (t : Text). t ++ text_of (printed_tables mode false vs)) (table-text v.1.path v.1.slots)
            ∙ ap (λ (t : Text). written_lines mode v.1.slots [] ++ t) (headers-printed false vs h.1))
            ∙ sym (ap (λ (c : Bool). headers_text mode b (map head_of (if c then v ∷ filter shows_header vs else filter shows_header vs)))
            e)
        | inr e ↦ ap (λ (t : List Printed). text_of (t ++ printed_tables mode (b && is_empty t) vs)) (without-header b v h.0 e)
            ∙ ap (λ (c : Bool). text_of (printed_tables mode c vs)) (and-true b)
            ∙ headers-printed b vs h.1
            ∙ sym (ap (λ (c : Bool). headers_text mode b (map head_of (if c then v ∷ filter shows_header vs else filter shows_header vs)))
            e)
      ]

  -- ---- their order

  in-order : (b : Bool) (hs : List PlacedVisit) → AllByRecursion IsBelow hs
      → text_of (printed_tables mode b (sorted_by comes_before hs)) ≡ headers_text mode b (sorted_by by_place (shown_heads hs))
  in-order b hs h =
      headers-printed b (sorted_by comes_before hs) (all-sorted IsBelow comes_before hs h)
      ∙ ap (λ vs. headers_text mode b (shown_heads vs)) (sorted-alike IsBelow comes_before placed_before same-order hs h)
      ∙ ap (headers_text mode b) (shown-sorted hs)

  -- ---- the root

  empty-lines : (ls : List Line) → is_empty (map (printed_line mode []) ls) ≡ is_empty ls
  empty-lines [] = refl
  empty-lines (l ∷ ls) = refl

  begins-is : (ss : Slots) → is_empty (map (printed_line mode []) (table_lines mode ss [])) ≡ not (has_lines ss)
  begins-is ss = empty-lines (table_lines mode ss []) ∙ lines-some mode ss []

  -- the root's lines, and the headers behind them
  printed-root : (f : TableFields) (ss : Slots) (p : ℤ) (b : Bool)
      → text_of (printed_tables mode true (sorted_by comes_before (if b then places_from (pos 0) (slots_walk ss [] [])
      else (p, visit_of [] [] false f ss) ∷ places_from p (slots_walk ss [] []))))
      ≡ (if b then [] else written_lines mode ss [])
      ++ headers_text mode (b || not (has_lines ss)) (sorted_by by_place
      (shown_heads (places_from (if b then pos 0 else p) (slots_walk ss [] []))))
  printed-root f ss p true =
      in-order true (places_from (pos 0) (slots_walk ss [] [])) (places-below (pos 0) (slots_walk ss [] []) (slots-below ss [] []))
  printed-root f ss p false =
      let hs = places_from p (slots_walk ss [] []) in
      let sorted = sorted_by comes_before hs in
      ap (λ (l : List PlacedVisit). text_of (printed_tables mode true l)) (root-first (p, visit_of [] [] false f ss) sorted refl)
      ∙ text_of-append (map (printed_line mode []) (table_lines mode ss []))
      (printed_tables mode (is_empty (map (printed_line mode []) (table_lines mode ss []))) sorted)
      ∙ ap (λ (t : Text). t ++ text_of (printed_tables mode (is_empty (map (printed_line mode []) (table_lines mode ss []))) sorted))
      (table-text [] ss)
      ∙ ap (λ (b : Bool). written_lines mode ss [] ++ text_of (printed_tables mode b sorted)) (begins-is ss)
      ∙ ap (λ (t : Text). written_lines mode ss [] ++ t)
      (in-order (not (has_lines ss)) hs (places-below p (slots_walk ss [] []) (slots-below ss [] [])))

  -- the root's lines, and the headers that were collected behind them
  pub printed-text : (t : Tree) → text_of (printed_tables mode true (in_header_order t))
      ≡ root_lines mode t.root t.slots ++ headers_text mode (begins t.root t.slots) (sorted_by by_place (headed_tables t.root t.slots))
  printed-text t =
      printed-root t.root t.slots (place_of (pos 0) (visit_of [] [] false t.root t.slots)) t.root.is_dotted
      ∙ ap (λ hs. root_lines mode t.root t.slots ++ headers_text mode (begins t.root t.slots) (sorted_by by_place hs))
      (sym (headed-are t.root t.slots))

  -- ---- the print

  pub print-by-visits : PrintByVisits mode
  print-by-visits t =
      print-framed mode t
      ∙ ap (λ (x : Text). shown_prefix mode [] t.root.decor
      ++ (x ++ (shown_suffix mode [] t.root.decor ++ shown_raw mode t.trailing))) (printed-text t)
      ∙ ap (λ (x : Text). shown_prefix mode [] t.root.decor ++ x)
      (append_assoc (root_lines mode t.root t.slots) (headers_text mode (begins t.root t.slots)
      (sorted_by by_place (headed_tables t.root t.slots)))
      (shown_suffix mode [] t.root.decor ++ shown_raw mode t.trailing))
