-- The newline of the last printed statement is that of the last line or header, as it is found.
use Rattle.std.proofs.Common.{◌≡◌, refl, sym, ap, ◌∙◌, ℕ, ℤ, pos, length, Bool, true, false, List, [], ◌∷◌, ◌++◌, Option, None, Some, inl, inr}
use Rattle.std.specs.Prelude.{filter, map, ◌&&◌, if◌then◌else◌}
use Rattle.std.specs.List.{AllByRecursion}
use Rattle.std.proofs.lemmas.Bool.{cases_Bool}
use Rattle.toml_edit_model.specs.Iterating.{line_value}
use Rattle.toml_edit_model.specs.Mode.{Mode, exact, plain}
use Rattle.toml_edit_model.specs.Text.{Text, is_empty}
use Rattle.toml_edit_model.specs.Paths.{Path}
use Rattle.toml_edit_model.specs.Syntax.{newline_after}
use Rattle.toml_edit_model.specs.Tree.{Decor, Key, Node, nothing, leaf, list, inline, table, tables, TableFields, Slots, no_slots, slot}
use Rattle.toml_edit_model.specs.Tree.{Tree, node_decor}
use Rattle.toml_edit_model.specs.HeaderOrder.{PlacedVisit, comes_before, in_header_order, is_root, place_of, places_from, slots_walk}
use Rattle.toml_edit_model.specs.HeaderOrder.{visit_of}
use Rattle.toml_edit_model.specs.Order.{sorted_by}
use Rattle.toml_edit_model.specs.Print.{Line, Printed, dotted_lines, inside_lines, is_line_node, line_of, lines_inside, lines_of}
use Rattle.toml_edit_model.specs.Print.{printed_line, printed_table, printed_tables, statements_of, table_lines, value_of}
use Rattle.toml_edit_laws.specs.OpenEnds.{last_newline}
use Rattle.toml_edit_laws.specs.PrintByVisits.{Headed, by_place, last_pair, last_pair_in, last_shown}
use Rattle.toml_edit_laws.proofs.common.OrderLaws.{all-sorted, sorted-alike}
use Rattle.toml_edit_laws.proofs.common.Statements.{own_header}
use Rattle.toml_edit_laws.proofs.common.Visits.{places-all, root-first, slots-below}
use Rattle.toml_edit_laws.proofs.print_by_visits.PrintParts.{has-header, headed-are, shown-sorted, without-header, IsBelow, placed_before}
use Rattle.toml_edit_laws.proofs.print_by_visits.WalkOnce.{head_of, shown_heads, shows_header}
use Rattle.toml_edit_laws.proofs.print_by_visits.PrintParts.{same-order}
use Rattle.toml_edit_laws.proofs.print_by_visits.PairTexts.{last_shown-append}
use Rattle.toml_edit_tree.specs.Visits.{VisitsInOrder, visits_none, visits_last, visits_next, shown_lines}
use Rattle.toml_edit.specs.LastLines.{last_dotted, last_headed, last_line, last_of_root, last_statement, newline_of}

-- ---- the newline of the last statement

-- that of the last of these, or this one where there are none
abbrev newline_behind : Text → List Printed → Text
newline_behind t [] = t
newline_behind t (p ∷ ps) = newline_behind (newline_after p.statement) ps

behind-append : (t : Text) (ps qs : List Printed) → newline_behind t (ps ++ qs) ≡ newline_behind (newline_behind t ps) qs
behind-append t [] qs = refl
behind-append t (p ∷ ps) qs = behind-append (newline_after p.statement) ps qs

last-behind : (t : Text) (p : Printed) (ps : List Printed) → last_newline (map (λ (q : Printed). q.statement) (p ∷ ps))
    ≡ newline_behind t (p ∷ ps)
last-behind t p [] = refl
last-behind t p (q ∷ ps) = last-behind (newline_after p.statement) q ps

last-newline : (ps : List Printed) → last_newline (map (λ (p : Printed). p.statement) ps) ≡ newline_behind [] ps
last-newline [] = refl
last-newline (p ∷ ps) = last-behind [] p ps

-- ---- the last of lines

-- a walk that keeps the length of each line's newline ends with that of the last
abbrev length_of : Option Decor → ℕ
length_of o = length (newline_of exact o)

abbrev Keeps : {V : Type 0} (kept : V → ℕ) → V → List Key × Node → Bool → V → Type 0
Keeps kept u l more z = (more ≡ true) × (kept z ≡ length_of (Some (node_decor l.1)))

last-kept : {V : Type 0} (kept : V → ℕ) (ls : List Line) (before : Option Decor) (v w : V) (goes : Bool)
    → kept v ≡ length_of before → VisitsInOrder (Keeps kept) (map line_value ls) v goes w
    → kept w ≡ length_of (last_shown before ls)
last-kept kept [] before v w goes is visits_none = is
last-kept kept (l ∷ ls) before v w goes is (visits_last p) = let e = p.0 in absurd cc
last-kept kept (l ∷ ls) before v w goes is (visits_next u p r) = last-kept kept ls (Some (node_decor l.item)) u w goes p.1 r

-- ---- tables below the root

places-below : (p : ℤ) (ss : Slots) → AllByRecursion IsBelow (places_from p (slots_walk ss [] []))
places-below p ss = places-all (λ v. is_root v ≡ false) p (slots_walk ss [] []) (slots-below ss [] [])

module _ (mode : Mode) where
  -- ---- lines

  behind-lines : (p : Path) (o : Option Decor) (ls : List Line)
      → newline_behind (newline_of mode o) (map (printed_line mode p) ls) ≡ newline_of mode (last_shown o ls)
  behind-lines p o [] = refl
  behind-lines p o (l ∷ ls) = behind-lines p (Some (node_decor l.item)) ls

  -- the lines of a slot, and those after it
  slot-last : (k : Key) (n : Node) (ks : List Key) (inner rest : List Line) (o : Option Decor) (in_slot : Option Decor)
      (behind : Option Decor → Option Decor) (b : Bool)
      → last_shown o inner ≡ in_slot → ((d : Option Decor) → last_shown d rest ≡ behind d)
      → last_shown o (elim b [ true ↦ line_of (ks ++ (k ∷ [])) n (value_of mode n) | false ↦ inner ] ++ rest)
      ≡ behind (elim b [ true ↦ Some (node_decor n) | false ↦ in_slot ])
  slot-last k n ks inner rest o in_slot behind true first next = next (Some (node_decor n))
  slot-last k n ks inner rest o in_slot behind false first next =
      last_shown-append o inner rest ∙ ap (λ (d : Option Decor). last_shown d rest) first ∙ next in_slot

  mutual
    inside-last : (ss : Slots) (ks : List Key) (o : Option Decor) → last_shown o (inside_lines mode ss ks) ≡ last_pair ss o
    inside-last no_slots ks o = refl
    inside-last (slot k n ss) ks o =
        slot-last k n ks (lines_inside mode n (ks ++ (k ∷ []))) (inside_lines mode ss ks) o (last_pair_in n o) (last_pair ss)
        (is_line_node n)
        (node-last n (ks ++ (k ∷ [])) o) (λ d. inside-last ss ks d)

    node-last : (n : Node) (ks : List Key) (o : Option Decor) → last_shown o (lines_inside mode n ks) ≡ last_pair_in n o
    node-last (inline f ss) ks o = inside-last ss ks o
    node-last (table f ss) ks o = inside-last ss ks o
    node-last (leaf s spelling d) ks o = refl
    node-last (list f xs) ks o = refl
    node-last (tables e xs) ks o = refl
    node-last nothing ks o = refl

  if-dotted : (b : Bool) (ls : List Line) (o last : Option Decor) → last_shown o ls ≡ last → last_shown o (if b then ls else [])
      ≡ (if b then last else o)
  if-dotted true ls o last e = e
  if-dotted false ls o last e = refl

  mutual
    lines-last : (ss : Slots) (ks : List Key) (o : Option Decor) → last_shown o (table_lines mode ss ks) ≡ last_line ss o
    lines-last no_slots ks o = refl
    lines-last (slot k n ss) ks o =
        slot-last k n ks (dotted_lines mode n (ks ++ (k ∷ []))) (table_lines mode ss ks) o (last_dotted n o) (last_line ss) (is_line_node n)
        (dotted-last n (ks ++ (k ∷ [])) o) (λ d. lines-last ss ks d)

    dotted-last : (n : Node) (ks : List Key) (o : Option Decor) → last_shown o (dotted_lines mode n ks) ≡ last_dotted n o
    dotted-last (table f ss) ks o = if-dotted f.is_dotted (table_lines mode ss ks) o (last_line ss o) (lines-last ss ks o)
    dotted-last (inline f ss) ks o = inside-last ss ks o
    dotted-last (leaf s spelling d) ks o = refl
    dotted-last (list f xs) ks o = refl
    dotted-last (tables e xs) ks o = refl
    dotted-last nothing ks o = refl

  -- the newline after a table's lines
  lines-behind : (p : Path) (ss : Slots) (o : Option Decor)
      → newline_behind (newline_of mode o) (map (printed_line mode p) (table_lines mode ss [])) ≡ newline_of mode (last_line ss o)
  lines-behind p ss o = behind-lines p o (table_lines mode ss []) ∙ ap (newline_of mode) (lines-last ss [] o)

  -- ---- headers

  with-header : (b : Bool) (v : PlacedVisit) → is_root v.1 ≡ false → shows_header v ≡ true
      → printed_table mode b v.1 ≡ own_header mode b v.1 ∷ map (printed_line mode v.1.path) (lines_of mode v.1)
  with-header b v below e =
      ap (λ (c : Bool). (if c then own_header mode b v.1 ∷ [] else [])
      ++ map (printed_line mode v.1.path) (lines_of mode v.1)) (has-header mode v below ∙ e)

  -- the newline after tables below the root is that of the last of them with a header
  headers-behind : (b : Bool) (vs : List PlacedVisit) (o : Option Decor) → AllByRecursion IsBelow vs
      → newline_behind (newline_of mode o) (printed_tables mode b vs) ≡ newline_of mode (last_headed (shown_heads vs) o)
  headers-behind b [] o h = refl
  headers-behind b (v ∷ vs) o h =
      elim (cases_Bool (shows_header v)) [
        | inl e ↦ ap (λ (t : List Printed). newline_behind (newline_of mode o) (t ++ printed_tables mode (b && is_empty t) vs))
            (with-header b v h.0 e)
            ∙ behind-append (newline_of mode (Some v.1.fields.decor)) (map (printed_line mode v.1.path) (lines_of mode v.1))
            (printed_tables mode (b && false) vs)
            ∙ ap (λ (t : Text). newline_behind t (printed_tables mode (b && false) vs))
            (lines-behind v.1.path v.1.slots (Some v.1.fields.decor))
            ∙ headers-behind (b && false) vs (last_line v.1.slots (Some v.1.fields.decor)) h.1
            ∙ sym (ap (λ (c : Bool). newline_of mode (last_headed (map head_of (if c then v ∷ filter shows_header vs
            else filter shows_header vs)) o)) e)
        | inr e ↦ ap (λ (t : List Printed). newline_behind (newline_of mode o) (t ++ printed_tables mode (b && is_empty t) vs))
            (without-header mode b v h.0 e)
            ∙ headers-behind (b && true) vs o h.1
            ∙ sym (ap (λ (c : Bool). newline_of mode (last_headed (map head_of (if c then v ∷ filter shows_header vs
            else filter shows_header vs)) o)) e)
      ]

  in-order : (b : Bool) (hs : List PlacedVisit) (o : Option Decor) → AllByRecursion IsBelow hs
      → newline_behind (newline_of mode o) (printed_tables mode b (sorted_by comes_before hs))
      ≡ newline_of mode (last_headed (sorted_by by_place (shown_heads hs)) o)
  in-order b hs o h =
      headers-behind b (sorted_by comes_before hs) o (all-sorted IsBelow comes_before hs h)
      ∙ ap (λ (vs : List PlacedVisit). newline_of mode (last_headed (shown_heads vs) o))
      (sorted-alike IsBelow comes_before placed_before same-order hs h)
      ∙ ap (λ (heads : List Headed). newline_of mode (last_headed heads o)) (shown-sorted hs)

  -- ---- the root

  -- the root's lines, and the headers after them
  root-behind : (f : TableFields) (ss : Slots) (p : ℤ) (b : Bool)
      → newline_behind [] (printed_tables mode true (sorted_by comes_before (if b then places_from (pos 0) (slots_walk ss [] [])
      else (p, visit_of [] [] false f ss) ∷ places_from p (slots_walk ss [] []))))
      ≡ newline_of mode (last_headed (sorted_by by_place (shown_heads (places_from (if b then pos 0 else p) (slots_walk ss [] [])))) (if b
      then None else last_line ss None))
  root-behind f ss p true = in-order true (places_from (pos 0) (slots_walk ss [] [])) None (places-below (pos 0) ss)
  root-behind f ss p false =
      let sorted = sorted_by comes_before (places_from p (slots_walk ss [] [])) in
      let lines = map (printed_line mode []) (table_lines mode ss []) in
      ap (λ (l : List PlacedVisit). newline_behind [] (printed_tables mode true l)) (root-first (p, visit_of [] [] false f ss) sorted refl)
      ∙ behind-append [] lines (printed_tables mode (is_empty lines) sorted)
      ∙ ap (λ (t : Text). newline_behind t (printed_tables mode (is_empty lines) sorted)) (lines-behind [] ss None)
      ∙ in-order (is_empty lines) (places_from p (slots_walk ss [] [])) (last_line ss None) (places-below p ss)

  -- The last statement is the one that is found.
  pub last-newline-is : (t : Tree) → last_newline (statements_of mode t) ≡ newline_of mode (last_statement t.root t.slots)
  last-newline-is t =
      last-newline (printed_tables mode true (in_header_order t))
      ∙ root-behind t.root t.slots (place_of (pos 0) (visit_of [] [] false t.root t.slots)) t.root.is_dotted
      ∙ ap (λ (heads : List Headed). newline_of mode (last_headed (sorted_by by_place heads) (last_of_root t.root t.slots)))
      (sym (headed-are t.root t.slots))

-- ---- a walk

pub walk-last : {V : Type 0} (kept : V → ℕ) (ss : Slots) (before : Option Decor) (v w : V) (goes : Bool) → kept v ≡ length_of before
    → VisitsInOrder (λ (u : V) (l : List Key × Node) (more : Bool) (z : V). (more ≡ true) × (kept z ≡ length_of (Some (node_decor l.1)))) (shown_lines false ss []) v goes w
    → kept w ≡ length_of (last_line ss before)
walk-last kept ss before v w goes is h =
    last-kept kept (table_lines plain ss []) before v w goes is h ∙ ap length_of (lines-last plain ss [] before)
