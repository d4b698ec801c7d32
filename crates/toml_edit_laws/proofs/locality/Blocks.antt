-- The print of a steady tree by the blocks of its tables: each block's text depends on that block alone.
use Rattle.std.proofs.Common.{◌≡◌, refl, sym, ◌∙◌, ap, ℤ, pos, Bool, true, false, List, [], ◌∷◌, ◌++◌, Option, Some, None}
use Rattle.std.specs.Prelude.{◌&&◌, ◌||◌, not, filter, map, flat_map, if◌then◌else◌, int_le, unwrap_or, is_some}
use Rattle.std.specs.List.{AllByRecursion}
use Rattle.toml_edit_model.specs.Mode.{Mode, line_end, line_newline}
use Rattle.toml_edit_model.specs.Text.{Text, is_empty}
use Rattle.toml_edit_model.specs.Syntax.{Header, header}
use Rattle.toml_edit_model.specs.Paths.{Path}
use Rattle.toml_edit_model.specs.Tree.{Raw, owned, span, Key, TableFields, no_slots, Tree, shown_suffix, shown_side}
use Rattle.toml_edit_model.specs.HeaderOrder.{Visit, visit_of, slots_walk, walk, PlacedVisit, place_of, places_from, is_root, comes_before}
use Rattle.toml_edit_model.specs.Print.{Line, last_leaf, segments, lines_of, has_header, is_lifted, key_prefix, lifted_prefix}
use Rattle.toml_edit_model.specs.Print.{header_default, header_suffix, header_of, header_statement, Printed, printed_line, printed_table}
use Rattle.toml_edit_model.specs.Print.{printed_tables, printed}
use Rattle.toml_edit_model.specs.Fits.{has_own_prefix, has_steady_header}
use Rattle.toml_edit_laws.specs.Locality.{root_visit}
use Rattle.toml_edit_laws.proofs.common.Tests.{and_left, and_right, if-false}
use Rattle.toml_edit_laws.proofs.common.OrderLaws.{all-sorted, sorted-image, sorted-alike}
use Rattle.toml_edit_laws.proofs.common.Visits.{IsBelowRoot, root-first, before-total, before-trans, slots-below}
use Rattle.toml_edit_laws.proofs.common.Each.{all-map}
use Rattle.toml_edit_laws.proofs.common.Sorting.{filter-sorted}
use Rattle.toml_edit_model.specs.Order.{sorted_by}

-- ---- blocks

-- what is printed of a table that takes part in the order
pub record Block : Type 0 where
  pub path : Path
  pub keys : List Key
  pub is_element : Bool
  pub fields : TableFields
  pub lines : List Line

abbrev pub is_headed : Block → Bool
is_headed b = not (is_empty b.keys) && (b.is_element || not (b.fields.is_implicit && is_empty b.lines))

-- the block's table without its slots: its header needs no more
abbrev pub bare : Block → Visit
bare b = visit_of b.path b.keys b.is_element b.fields no_slots

abbrev pub place : Block → ℤ
place b = unwrap_or b.fields.position (pos 0)

abbrev pub stands_first : Block → Block → Bool
stands_first a b = int_le (place a) (place b)

abbrev pub IsSteadyBlock : Block → Type 0
IsSteadyBlock b = (not (is_headed b) || has_steady_header (bare b)) ≡ true

pub all-places : (P : Visit → Type 0) (seen : ℤ) (vs : List Visit) → AllByRecursion (λ v. v.fields.is_dotted ≡ false → P v) vs
    → AllByRecursion (λ (p : PlacedVisit). P p.1) (places_from seen vs)
all-places P seen [] h = tt
all-places P seen (v ∷ vs) h = by_test v.fields.is_dotted refl (all-places P seen vs h.1) (all-places P (place_of seen v) vs h.1)
  where
    by_test : (b : Bool) → v.fields.is_dotted ≡ b → AllByRecursion (λ (p : PlacedVisit). P p.1) (places_from seen vs)
        → AllByRecursion (λ (p : PlacedVisit). P p.1) (places_from (place_of seen v) vs)
        → AllByRecursion (λ (p : PlacedVisit). P p.1) (if b then places_from seen vs else (place_of seen v, v)
        ∷ places_from (place_of seen v) vs)
    by_test true e x y = x
    by_test false e x y = (h.0 e, y)

pub own-place : (seen : ℤ) (z : Option ℤ) → is_some z ≡ true → unwrap_or z seen ≡ unwrap_or z (pos 0)
own-place seen None h = absurd cc
own-place seen (Some z) h = refl

module _ (mode : Mode) where
  abbrev pub block_of : Visit → Block
  block_of v = record { path = v.path; keys = v.keys; is_element = v.is_element; fields = v.fields; lines = lines_of mode v }

  -- the tables that aren't dotted
  abbrev pub blocks : List Visit → List Block
  blocks [] = []
  blocks (v ∷ vs) = if v.fields.is_dotted then blocks vs else block_of v ∷ blocks vs

  pub blocks-append : (vs ws : List Visit) → blocks (vs ++ ws) ≡ blocks vs ++ blocks ws
  blocks-append [] ws = refl
  blocks-append (v ∷ vs) ws = by_test v.fields.is_dotted (blocks-append vs ws)
    where
      by_test : (b : Bool) → blocks (vs ++ ws) ≡ blocks vs ++ blocks ws
          → (if b then blocks (vs ++ ws) else block_of v ∷ blocks (vs ++ ws)) ≡ (if b then blocks vs else block_of v ∷ blocks vs)
          ++ blocks ws
      by_test true e = e
      by_test false e = ap (λ bs. block_of v ∷ bs) e

  abbrev pub block_header : Block → List Printed
  block_header b =
      if is_headed b then record { block = b.path; path = b.path; statement = header_statement mode true (bare b) } ∷ [] else []

  abbrev pub block_printed : Block → List Printed
  block_printed b = block_header b ++ map (printed_line mode b.path) b.lines

  abbrev pub printed_blocks : List Block → List Printed
  printed_blocks bs = flat_map block_printed (sorted_by stands_first (filter is_headed bs))

  -- ---- steady tables

  abbrev pub IsSteadyTable : Visit → Type 0
  IsSteadyTable v = ((v.fields.is_dotted || not (has_header mode v)) || has_steady_header v) ≡ true

  -- a header's text doesn't depend on what was printed before
  pub own-prefix : (x y : Text) (r : Option Raw) → has_own_prefix r ≡ true → shown_side mode x r ≡ shown_side mode y r
  own-prefix x y None h = absurd cc
  own-prefix x y (Some (owned t)) h = refl
  own-prefix x y (Some (span i j)) h = absurd cc

  header-same : (d : Bool) (v : Visit) → has_own_prefix v.fields.decor.prefix ≡ true → header_of mode d v ≡ header_of mode true v
  header-same d v h =
      let made : Text → Header = λ t.
      record {
        leading = lifted_prefix mode v ++ t;
        is_array = v.is_element;
        opening = if is_lifted mode v then [] else key_prefix mode v;
        path = segments mode v.keys;
        closing = if is_lifted mode v then [] else shown_suffix mode [] (last_leaf v.keys);
        trailing = line_end mode (header_suffix mode v);
      } in
      ap made (own-prefix (header_default d) (header_default true) v.fields.decor.prefix h)

  table-same : (d : Bool) (v : Visit) → IsSteadyBlock (block_of v) → printed_table mode d v ≡ block_printed (block_of v)
  table-same d v h = ap (λ hs. hs ++ map (printed_line mode v.path) (lines_of mode v)) (by_test (has_header mode v) h)
    where
      one_header : Header → List Printed
      one_header x = record { block = v.path; path = v.path; statement = header x (line_newline mode (header_suffix mode v)) } ∷ []

      by_test : (c : Bool) → (not c || has_steady_header v) ≡ true
          → (if c then one_header (header_of mode d v) else []) ≡ (if c then one_header (header_of mode true v) else [])
      by_test true h =
          ap one_header
          (header-same d v
          (and_right (is_some v.fields.position) (has_own_prefix v.fields.decor.prefix)
          (and_left (is_some v.fields.position && has_own_prefix v.fields.decor.prefix) (v.is_element || not v.fields.is_implicit) h)))
      by_test false h = refl

  -- the printed statements of tables in an order
  abbrev pub placed_printed : PlacedVisit → List Printed
  placed_printed p = block_printed (block_of p.1)

  tables-same : (d : Bool) (ps : List PlacedVisit) → AllByRecursion (λ p. IsSteadyBlock (block_of p.1)) ps → printed_tables mode d ps
      ≡ flat_map placed_printed ps
  tables-same d [] h = refl
  tables-same d (p ∷ ps) h =
      ap (λ xs. xs ++ printed_tables mode (d && is_empty (printed_table mode d p.1)) ps) (table-same d p.1 h.0)
      ∙ ap (λ xs. block_printed (block_of p.1) ++ xs) (tables-same (d && is_empty (printed_table mode d p.1)) ps h.1)

  -- ---- places

  abbrev pub has_placed_header : PlacedVisit → Bool
  has_placed_header p = has_header mode p.1

  -- the table has a header, and its place is its own position
  abbrev pub IsOwnPlace : PlacedVisit → Type 0
  IsOwnPlace p = (is_root p.1 ≡ false) × (p.0 ≡ place (block_of p.1))

  pub own-places : (seen : ℤ) (vs : List Visit) → AllByRecursion IsBelowRoot vs → AllByRecursion IsSteadyTable vs
      → AllByRecursion IsOwnPlace (filter has_placed_header (places_from seen vs))
  own-places seen [] b h = tt
  own-places seen (v ∷ vs) b h =
      by_test v.fields.is_dotted (has_header mode v) h.0 (own-places seen vs b.1 h.1) (own-places (place_of seen v) vs b.1 h.1) refl
    where
      by_test : (d c : Bool) → ((d || not c) || has_steady_header v) ≡ true
          → AllByRecursion IsOwnPlace (filter has_placed_header (places_from seen vs))
          → AllByRecursion IsOwnPlace (filter has_placed_header (places_from (place_of seen v) vs))
          → has_header mode v ≡ c
          → AllByRecursion IsOwnPlace
          (filter has_placed_header (if d then places_from seen vs else (place_of seen v, v) ∷ places_from (place_of seen v) vs))
      by_test true c s x y e = x
      by_test false true s x y e =
          let mine : IsOwnPlace (place_of seen v, v) = (
            b.0,
            own-place seen v.fields.position
                (and_left (is_some v.fields.position) (has_own_prefix v.fields.decor.prefix)
                (and_left (is_some v.fields.position && has_own_prefix v.fields.decor.prefix) (v.is_element
                || not v.fields.is_implicit) s)),
          ) in
          rw e (mine, y)
      by_test false false s x y e = rw e y

  -- the tables with headers in their places are the headed blocks
  abbrev pub block_at : PlacedVisit → Block
  block_at p = block_of p.1

  pub blocks-in_places : (seen : ℤ) (vs : List Visit) → map block_at (filter has_placed_header (places_from seen vs))
      ≡ filter is_headed (blocks vs)
  blocks-in_places seen [] = refl
  blocks-in_places seen (v ∷ vs) =
      by_test v.fields.is_dotted (has_header mode v) refl (blocks-in_places seen vs) (blocks-in_places (place_of seen v) vs)
    where
      by_test : (d c : Bool) → has_header mode v ≡ c
          → map block_at (filter has_placed_header (places_from seen vs)) ≡ filter is_headed (blocks vs)
          → map block_at (filter has_placed_header (places_from (place_of seen v) vs)) ≡ filter is_headed (blocks vs)
          → map block_at (filter has_placed_header (if d then places_from seen vs else (place_of seen v, v)
          ∷ places_from (place_of seen v) vs))
          ≡ filter is_headed (if d then blocks vs else block_of v ∷ blocks vs)
      by_test true c e x y = x
      by_test false true e x y = rw e (ap (λ bs. block_of v ∷ bs) y)
      by_test false false e x y = rw e y

  -- ---- what has no header and isn't the root prints nothing

  no-lines : (b : Block) → is_empty b.keys ≡ false → is_headed b ≡ false → block_printed b ≡ []
  no-lines b r h =
      ap (λ xs. xs ++ map (printed_line mode b.path) b.lines)
      (if-false (is_headed b) (record { block = b.path; path = b.path; statement = header_statement mode true (bare b) } ∷ []) [] h)
      ∙ no_lines b.lines (is-empty b.lines h)
    where
      is-empty : (ls : List Line) → (not (is_empty b.keys) && (b.is_element || not (b.fields.is_implicit && is_empty ls))) ≡ false
          → is_empty ls ≡ true
      is-empty [] g = refl
      is-empty (l ∷ ls) g = by_tests (is_empty b.keys) b.is_element b.fields.is_implicit r g
        where
          by_tests : (k e i : Bool) → k ≡ false → (not k && (e || not (i && false))) ≡ false → false ≡ true
          by_tests true e i r g = absurd cc
          by_tests false true i r g = sym g
          by_tests false false true r g = sym g
          by_tests false false false r g = sym g

      no_lines : (ls : List Line) → is_empty ls ≡ true → map (printed_line mode b.path) ls ≡ []
      no_lines [] g = refl
      no_lines (l ∷ ls) g = absurd cc

  drop-unheaded : (ps : List PlacedVisit) → AllByRecursion (λ (p : PlacedVisit). is_root p.1 ≡ false) ps
      → flat_map placed_printed ps ≡ flat_map placed_printed (filter has_placed_header ps)
  drop-unheaded [] h = refl
  drop-unheaded (p ∷ ps) h = by_test (has_header mode p.1) refl (drop-unheaded ps h.1)
    where
      by_test : (c : Bool) → has_header mode p.1 ≡ c → flat_map placed_printed ps ≡ flat_map placed_printed (filter has_placed_header ps)
          → placed_printed p ++ flat_map placed_printed ps ≡ flat_map placed_printed (if c then p ∷ filter has_placed_header ps
          else filter has_placed_header ps)
      by_test true e ih = ap (λ xs. placed_printed p ++ xs) ih
      by_test false e ih = ap (λ xs. xs ++ flat_map placed_printed ps) (no-lines (block_of p.1) h.0 e) ∙ ih

  -- ---- the order

  flat-at : (ps : List PlacedVisit) → flat_map placed_printed ps ≡ flat_map block_printed (map block_at ps)
  flat-at [] = refl
  flat-at (p ∷ ps) = ap (λ xs. placed_printed p ++ xs) (flat-at ps)

  pub same-order : (ps : List PlacedVisit) → AllByRecursion IsOwnPlace ps → map block_at (sorted_by comes_before ps)
      ≡ sorted_by stands_first (map block_at ps)
  same-order ps h =
      ap (λ xs. map block_at xs) (sorted-alike IsOwnPlace comes_before (λ p q. stands_first (block_at p) (block_at q)) agree ps h)
      ∙ sym (sorted-image block_at stands_first ps)
    where
      agree : (p q : PlacedVisit) → IsOwnPlace p → IsOwnPlace q → comes_before p q ≡ stands_first (block_at p) (block_at q)
      agree p q x y = by_tests (is_root p.1) (is_root q.1) x.0 y.0 ∙ ap (λ z. int_le z q.0) x.1
          ∙ ap (λ z. int_le (place (block_of p.1)) z) y.1
        where
          by_tests : (r s : Bool) → r ≡ false → s ≡ false → (r || (not s && int_le p.0 q.0)) ≡ int_le p.0 q.0
          by_tests false false d e = refl
          by_tests true s d e = absurd cc
          by_tests false true d e = absurd cc

  -- ---- the print

  pub printed-walk : (seen : ℤ) (d : Bool) (vs : List Visit) → AllByRecursion IsBelowRoot vs → AllByRecursion IsSteadyTable vs
      → printed_tables mode d (sorted_by comes_before (places_from seen vs)) ≡ printed_blocks (blocks vs)
  printed-walk seen d vs b h =
      let ps : List PlacedVisit = places_from seen vs in
      let steady : AllByRecursion (λ (p : PlacedVisit). IsSteadyBlock (block_of p.1)) ps =
      all-places (λ v. IsSteadyBlock (block_of v)) seen vs
      (all-map IsSteadyTable (λ v. v.fields.is_dotted ≡ false
      → IsSteadyBlock (block_of v)) vs (λ v s e. undotted v.fields.is_dotted (has_header mode v) (has_steady_header v) e s) h) in
      let below : AllByRecursion (λ (p : PlacedVisit). is_root p.1 ≡ false) ps =
      all-places IsBelowRoot seen vs (all-map IsBelowRoot (λ v. v.fields.is_dotted ≡ false → IsBelowRoot v) vs (λ v s e. s) b) in
      tables-same d (sorted_by comes_before ps) (all-sorted (λ (p : PlacedVisit). IsSteadyBlock (block_of p.1)) comes_before ps steady)
      ∙ drop-unheaded (sorted_by comes_before ps) (all-sorted (λ (p : PlacedVisit). is_root p.1 ≡ false) comes_before ps below)
      ∙ ap (λ xs. flat_map placed_printed xs) (filter-sorted comes_before before-trans before-total has_placed_header ps)
      ∙ flat-at (sorted_by comes_before (filter has_placed_header ps))
      ∙ ap (λ xs. flat_map block_printed xs) (same-order (filter has_placed_header ps) (own-places seen vs b h))
      ∙ ap (λ xs. flat_map block_printed (sorted_by stands_first xs)) (blocks-in_places seen vs)
    where
      undotted : (d c s : Bool) → d ≡ false → ((d || not c) || s) ≡ true → (not c || s) ≡ true
      undotted true c s e h = absurd cc
      undotted false c s e h = h

  pub printed-steady : (t : Tree) → t.root.is_dotted ≡ false → AllByRecursion IsSteadyTable (walk t)
      → printed mode t ≡ block_printed (block_of (root_visit t)) ++ printed_blocks (blocks (slots_walk t.slots [] []))
  printed-steady t d h =
      let vs : List Visit = slots_walk t.slots [] [] in
      let z : ℤ = place_of (pos 0) (root_visit t) in
      ap (λ b. printed_tables mode true (sorted_by comes_before (if b then places_from (pos 0) vs else (z, root_visit t)
      ∷ places_from z vs))) d
      ∙ ap (λ ps. printed_tables mode true ps) (root-first (z, root_visit t) (sorted_by comes_before (places_from z vs)) refl)
      ∙ ap (λ xs. printed_table mode true (root_visit t) ++ xs)
      (printed-walk z (is_empty (printed_table mode true (root_visit t))) vs (slots-below t.slots [] []) h.1)
