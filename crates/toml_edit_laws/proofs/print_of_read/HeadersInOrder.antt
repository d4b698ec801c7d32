-- The print of a read tree: the root's lines, and then its headed tables in the order of their numbers.
use Rattle.std.proofs.Common.{◌≡◌, ◌≤◌, refl, sym, ◌∙◌, ap, subst, ℕ, pos, negsuc, arith, Bool, true, false, List, [], ◌∷◌, ◌++◌, Option}
use Rattle.std.proofs.Common.{Some, None, inl, inr}
use Rattle.std.specs.Prelude.{ℤ, ◌&&◌, ◌||◌, not, map, filter, flat_map, int_le, unwrap_or, ◌==◌, if◌then◌else◌}
use Rattle.std.specs.List.{AllByRecursion}
use Rattle.std.proofs.Math.Bool.{and-false}
use Rattle.std.proofs.lemmas.Bool.{cases_Bool, eqb-true, le-leb}
use Rattle.std.proofs.lemmas.List.Folds.{flat_map-map}
use Rattle.toml_edit_model.specs.Mode.{Mode, line_newline}
use Rattle.toml_edit_model.specs.Text.{is_empty}
use Rattle.toml_edit_model.specs.Syntax.{header}
use Rattle.toml_edit_model.specs.Tree.{TableFields, Tree, shown_side}
use Rattle.toml_edit_model.specs.TreeOf.{owned_in, root_fields}
use Rattle.toml_edit_model.specs.HeaderOrder.{Visit, visit_of, slots_walk, PlacedVisit, place_of, places_from, is_root, comes_before}
use Rattle.toml_edit_model.specs.HeaderOrder.{in_header_order}
use Rattle.toml_edit_model.specs.Print.{table_lines, lines_of, has_header, header_default, lifted_prefix, header_of, printed_line}
use Rattle.toml_edit_model.specs.Print.{printed_table, printed_tables, printed, header_suffix}
use Rattle.toml_edit_laws.proofs.common.OrderLaws.{all-sorted, sorted-alike, filter-twice}
use Rattle.toml_edit_laws.proofs.print_of_read.SortedLists.{by_key, IsAscending, AreTied, sorted-ascending, filter-ascending, sorted-kept}
use Rattle.toml_edit_laws.proofs.print_of_read.SortedLists.{ascending-same, flat_map-kept}
use Rattle.toml_edit_laws.proofs.print_of_read.NoVisits.{is_number, numbered}
use Rattle.toml_edit_laws.proofs.print_of_read.WalkFacts.{IsOfRead, headed, by_path, IsEntered}
use Rattle.toml_edit_laws.proofs.common.Lists.{filter-image}
use Rattle.toml_edit_laws.proofs.common.Visits.{root-first}
use Rattle.toml_edit_laws.proofs.common.Each.{trivially, all_pass, all-map}
use Rattle.toml_edit_model.specs.Order.{sorted_by}

-- ---- numbers of places

abbrev pub number_or : ℕ → Option ℤ → ℕ
number_or n (Some (pos k)) = k
number_or n (Some (negsuc k)) = n
number_or n None = n

abbrev pub number_of : Visit → ℕ
number_of v = number_or 0 v.fields.position

abbrev is_set : Option ℤ → Bool
is_set (Some (pos k)) = true
is_set (Some (negsuc k)) = false
is_set None = false

abbrev pub has_number : Visit → Bool
has_number v = is_set v.fields.position

abbrev size : ℤ → ℕ
size (pos k) = k
size (negsuc k) = 0

-- the number of a place: that of the table, or the inherited one
abbrev place_key : PlacedVisit → ℕ
place_key g = number_or (size g.0) g.1.fields.position

pub set-number : (n : ℕ) (o : Option ℤ) → (is_set o && (number_or 0 o == n)) ≡ is_number n o
set-number n (Some (pos k)) = refl
set-number n (Some (negsuc k)) = refl
set-number n None = refl

own-key : (m : ℕ) (o : Option ℤ) → is_set o ≡ true → number_or m o ≡ number_or 0 o
own-key m (Some (pos k)) h = refl
own-key m (Some (negsuc k)) h = absurd cc
own-key m None h = absurd cc

number-key : (m n : ℕ) (o : Option ℤ) → is_number n o ≡ true → number_or m o ≡ n
number-key m n (Some (pos k)) h = eqb-true k n h
number-key m n (Some (negsuc k)) h = absurd cc
number-key m n None h = absurd cc

map-ascending : (gs : List PlacedVisit) → AllByRecursion (λ g. has_number g.1 ≡ true) gs → IsAscending place_key gs
    → IsAscending number_of (map (λ g. g.1) gs)
map-ascending [] h asc = tt
map-ascending (g ∷ gs) h asc = (each gs h.1 asc.0, map-ascending gs h.1 asc.1)
  where
    each : (xs : List PlacedVisit) → AllByRecursion (λ x. has_number x.1 ≡ true) xs → AllByRecursion (λ x. place_key g ≤ place_key x) xs
        → AllByRecursion (λ v. number_of g.1 ≤ number_of v) (map (λ x. x.1) xs)
    each [] p q = tt
    each (x ∷ xs) p q =
        let first : place_key g ≡ number_of g.1 = own-key (size g.0) g.1.fields.position h.0 in
        let second : place_key x ≡ number_of x.1 = own-key (size x.0) x.1.fields.position p.0 in
        let less : place_key g ≤ place_key x = q.0 in
        (omega arith, each xs p.1 q.1)

number-test : (n : ℕ) (v : Visit) → has_number v ≡ true → (number_of v == n) ≡ numbered n v
number-test n v h = ap (λ b. b && (number_of v == n)) (sym h) ∙ set-number n v.fields.position

filter-alike : {A : Type 0} (first second : A → Bool) (xs : List A) → AllByRecursion (λ x. first x ≡ second x) xs → filter first xs
    ≡ filter second xs
filter-alike first second [] h = refl
filter-alike first second (x ∷ xs) h = rw h.0 (ap (λ ys. if second x then x ∷ ys else ys) (filter-alike first second xs h.1))

abbrev sorted_places : List Visit → List PlacedVisit
sorted_places vs = sorted_by comes_before (places_from (pos 0) vs)

module _ (mode : Mode) where
  -- ---- the places of tables

  -- a table of a read tree in its place: no root, not dotted
  abbrev IsSetPlace : PlacedVisit → Type 0
  IsSetPlace g = IsEntered mode g.1 × (g.1.fields.is_dotted ≡ false) × (g.0 ≡ pos (place_key g))

  places-set : (j : ℕ) (vs : List Visit) → AllByRecursion (IsEntered mode) vs → AllByRecursion IsSetPlace (places_from (pos j) vs)
  places-set j [] h = tt
  places-set j (v ∷ vs) h = by_read h.0.1 (λ i. places-set i vs h.1)
    where
      by_dot : v.fields.position ≡ None → (b : Bool) → v.fields.is_dotted ≡ b
          → ((i : ℕ) → AllByRecursion IsSetPlace (places_from (pos i) vs))
          → AllByRecursion IsSetPlace (if b then places_from (pos j) vs else (place_of (pos j) v, v) ∷ places_from (place_of (pos j) v) vs)
      by_dot e true d ih = ih j
      by_dot e false d ih =
          subst (λ z. AllByRecursion IsSetPlace ((z, v) ∷ places_from z vs)) (sym (ap (λ o. unwrap_or o (pos j)) e))
          ((h.0, d, ap (λ o. pos (number_or j o)) (sym e)), ih j)

      by_read : IsOfRead mode v → ((i : ℕ) → AllByRecursion IsSetPlace (places_from (pos i) vs))
          → AllByRecursion IsSetPlace (places_from (pos j) (v ∷ vs))
      by_read (headed k t e d i p) ih =
          subst (λ b. AllByRecursion IsSetPlace (if b then places_from (pos j) vs else (place_of (pos j) v, v)
          ∷ places_from (place_of (pos j) v) vs)) (sym d)
          (subst (λ z. AllByRecursion IsSetPlace ((z, v) ∷ places_from z vs)) (sym (ap (λ o. unwrap_or o (pos j)) e))
          ((h.0, d, ap (λ o. pos (number_or k o)) (sym e)), ih k))
      by_read (by_path e i el lines) ih = by_dot e v.fields.is_dotted refl ih

  -- a number keeps the same of the places and of the tables
  places-kept : (n : ℕ) (seen : ℤ) (vs : List Visit) → AllByRecursion (IsEntered mode) vs
      → map (λ g. g.1) (filter (λ g. numbered n g.1) (places_from seen vs)) ≡ filter (numbered n) vs
  places-kept n seen [] h = refl
  places-kept n seen (v ∷ vs) h = by_read h.0.1 (λ z. places-kept n z vs h.1)
    where
      kept : Visit → List Visit → List Visit
      kept u us = if numbered n u then u ∷ us else us

      here : ((z : ℤ) → map (λ (g : PlacedVisit). g.1) (filter (λ (g : PlacedVisit). numbered n g.1) (places_from z vs))
          ≡ filter (numbered n) vs)
          → map (λ (g : PlacedVisit). g.1) (filter (λ (g : PlacedVisit). numbered n g.1) ((place_of seen v, v)
          ∷ places_from (place_of seen v) vs)) ≡ filter (numbered n) (v ∷ vs)
      here ih =
          elim (cases_Bool (numbered n v)) [
            | inl e ↦ rw e (ap (λ us. v ∷ us) (ih (place_of seen v)))
            | inr e ↦ rw e (ih (place_of seen v))
          ]

      by_dot : v.fields.position ≡ None → (b : Bool) → v.fields.is_dotted ≡ b
          → ((z : ℤ) → map (λ (g : PlacedVisit). g.1) (filter (λ (g : PlacedVisit). numbered n g.1) (places_from z vs))
          ≡ filter (numbered n) vs)
          → map (λ (g : PlacedVisit). g.1) (filter (λ (g : PlacedVisit). numbered n g.1) (if b then places_from seen vs
          else (place_of seen v, v) ∷ places_from (place_of seen v) vs))
          ≡ filter (numbered n) (v ∷ vs)
      by_dot e true d ih = ih seen ∙ sym (rw (ap (is_number n) e) refl)
      by_dot e false d ih = here ih

      by_read : IsOfRead mode v → ((z : ℤ) → map (λ (g : PlacedVisit). g.1)
          (filter (λ (g : PlacedVisit). numbered n g.1) (places_from z vs)) ≡ filter (numbered n) vs)
          → map (λ (g : PlacedVisit). g.1) (filter (λ (g : PlacedVisit). numbered n g.1) (places_from seen (v ∷ vs)))
          ≡ filter (numbered n) (v ∷ vs)
      by_read (headed k t e d i p) ih =
          subst
          (λ b.
          map (λ (g : PlacedVisit). g.1) (filter (λ (g : PlacedVisit). numbered n g.1) (if b then places_from seen vs
          else (place_of seen v, v) ∷ places_from (place_of seen v) vs))
          ≡ filter (numbered n) (v ∷ vs)) (sym d) (here ih)
      by_read (by_path e i el lines) ih = by_dot e v.fields.is_dotted refl ih

  -- ---- in order

  before-key : (a b : PlacedVisit) → IsSetPlace a → IsSetPlace b → comes_before a b ≡ by_key place_key a b
  before-key a b h g =
      rw (h.0.0, g.0.0) (ap (λ z. int_le z b.0) h.2 ∙ ap (λ z. int_le (pos (place_key a)) z) g.2)

  -- The tables with a number, as they are sorted, are those that are in order and of which each number keeps the same.
  pub in-order : (vs zs : List Visit) → AllByRecursion (IsEntered mode) vs → AllByRecursion (λ v. has_number v ≡ true) zs
      → IsAscending number_of zs
      → ((n : ℕ) → filter (numbered n) vs ≡ filter (numbered n) zs)
      → map (λ g. g.1) (filter (λ g. has_number g.1) (sorted_places vs)) ≡ zs
  in-order vs zs entered numbers ascending same =
      ap (λ gs. map (λ (g : PlacedVisit). g.1) (filter (λ (g : PlacedVisit). has_number g.1) gs)) sorted_is
      ∙ ascending-same number_of (map (λ (g : PlacedVisit). g.1) ys) zs
      (map-ascending ys all_numbers (filter-ascending place_key (λ g. has_number g.1) sorted (sorted-ascending place_key places))) ascending
      (λ n.
      filter-image (λ (g : PlacedVisit). g.1) (λ v. number_of v == n) ys
      ∙ ap (map (λ (g : PlacedVisit). g.1))
      (filter-twice (λ (g : PlacedVisit). Unit {0}) (λ g. has_number g.1) (λ g. number_of g.1 == n) (λ g. numbered n g.1)
      (λ g u. set-number n g.1.fields.position) sorted (trivially sorted)
      ∙ sorted-kept (by_key place_key) (λ g. numbered n g.1) (tied n) places)
      ∙ places-kept n (pos 0) vs entered
      ∙ same n
      ∙ sym (filter-alike (λ v. number_of v == n) (numbered n) zs (all-map (λ v. has_number v ≡ true) (λ v. (number_of v == n)
      ≡ numbered n v) zs (λ v e. number-test n v e) numbers)))
    where
      places : List PlacedVisit
      places = places_from (pos 0) vs

      sorted : List PlacedVisit
      sorted = sorted_by (by_key place_key) places

      ys : List PlacedVisit
      ys = filter (λ (g : PlacedVisit). has_number g.1) sorted

      sorted_is : sorted_places vs ≡ sorted
      sorted_is = sorted-alike IsSetPlace comes_before (by_key place_key) before-key places (places-set 0 vs entered)

      all_numbers : AllByRecursion (λ (g : PlacedVisit). has_number g.1 ≡ true) ys
      all_numbers =
          all-map (λ (g : PlacedVisit). Unit {0} × (has_number g.1 ≡ true)) (λ g. has_number g.1 ≡ true) ys (λ g p. p.1)
          (all_pass (λ (g : PlacedVisit). Unit {0}) (λ g. has_number g.1) sorted (trivially sorted))

      tied : (n : ℕ) → AreTied (by_key place_key) (λ (g : PlacedVisit). numbered n g.1)
      tied n a b p q =
          let first : place_key a ≡ n = number-key (size a.0) n a.1.fields.position p in
          let second : place_key b ≡ n = number-key (size b.0) n b.1.fields.position q in
          le-leb (place_key a) (place_key b) (omega arith)

  -- ---- the print

  -- what a table prints doesn't depend on what was printed before
  default-unseen : (b : Bool) (v : Visit) → IsOfRead mode v → v.fields.is_dotted ≡ false → printed_table mode b v
      ≡ printed_table mode true v
  default-unseen b v (headed k t e d i p) dot =
      let leading : shown_side mode (header_default b) v.fields.decor.prefix ≡ shown_side mode (header_default true) v.fields.decor.prefix =
      ap (shown_side mode (header_default b)) p ∙ sym (ap (shown_side mode (header_default true)) p) in
      ap (λ t.
      (if has_header mode v then record {
        block = v.path;
        path = v.path;
        statement =
            header (record (header_of mode true v) { leading = lifted_prefix mode v ++ t }) (line_newline mode (header_suffix mode v));
      } ∷ []
      else [])
      ++ map (printed_line mode v.path) (lines_of mode v)) leading
  default-unseen b v (by_path e i el lines) dot =
      let none : has_header mode v ≡ false =
      ap (λ x. not (is_root v) && (x || not (v.fields.is_implicit && is_empty (lines_of mode v)))) el
      ∙ ap (λ x. not (is_root v) && not (x && is_empty (lines_of mode v))) i
      ∙ ap (λ ls. not (is_root v) && not (is_empty ls)) (lines dot)
      ∙ and-false (not (is_root v)) in
      rw none refl

  -- a table without a number prints nothing
  nothing-printed : (v : Visit) → IsOfRead mode v → v.fields.is_dotted ≡ false → has_number v ≡ false → printed_table mode true v ≡ []
  nothing-printed v (headed k t e d i p) dot h = (let clash : true ≡ false = ap is_set (sym e) ∙ h in absurd cc)
  nothing-printed v (by_path e i el lines) dot h =
      let none : has_header mode v ≡ false =
      ap (λ x. not (is_root v) && (x || not (v.fields.is_implicit && is_empty (lines_of mode v)))) el
      ∙ ap (λ x. not (is_root v) && not (x && is_empty (lines_of mode v))) i
      ∙ ap (λ ls. not (is_root v) && not (is_empty ls)) (lines dot)
      ∙ and-false (not (is_root v)) in
      rw none (ap (map (printed_line mode v.path)) (lines dot))

  tables-printed : (b : Bool) (gs : List PlacedVisit) → AllByRecursion IsSetPlace gs → printed_tables mode b gs
      ≡ flat_map (λ g. printed_table mode true g.1) gs
  tables-printed b [] h = refl
  tables-printed b (g ∷ gs) h =
      ap (λ ps. ps ++ printed_tables mode (b && is_empty (printed_table mode b g.1)) gs) (default-unseen b g.1 h.0.0.1 h.0.1)
      ∙ ap (λ ps. printed_table mode true g.1 ++ ps) (tables-printed (b && is_empty (printed_table mode b g.1)) gs h.1)

  -- The headers' tables in header order are those with a number, in the order of their numbers.
  pub order-of-headers : (t : Tree) (zs : List Visit) → t.root ≡ root_fields (owned_in mode)
      → AllByRecursion (IsEntered mode) (slots_walk t.slots [] [])
      → AllByRecursion (λ v. has_number v ≡ true) zs → IsAscending number_of zs
      → ((n : ℕ) → filter (numbered n) (slots_walk t.slots [] []) ≡ filter (numbered n) zs)
      → map (λ g. g.1) (filter (λ g. has_number g.1) (in_header_order t)) ≡ zs
  order-of-headers t zs root_is entered numbers ascending same =
      ap (λ (f : TableFields). map (λ (g : PlacedVisit). g.1)
      (filter (λ (g : PlacedVisit). has_number g.1) (sorted_by comes_before (places_from (pos 0) (visit_of [] [] false f t.slots
      ∷ vs))))) root_is
      ∙ ap (λ gs. map (λ (g : PlacedVisit). g.1) (filter (λ (g : PlacedVisit). has_number g.1) gs)) (root-first (
        pos 0,
        root,
      ) (sorted_places vs) refl)
      ∙ in-order vs zs entered numbers ascending same
    where
      vs : List Visit
      vs = slots_walk t.slots [] []

      root : Visit
      root = visit_of [] [] false (root_fields (owned_in mode)) t.slots

  -- The print of a tree whose tables are of a read tree, where these are those with a number in order.
  pub printed-in-order : (t : Tree) (zs : List Visit) → t.root ≡ root_fields (owned_in mode)
      → AllByRecursion (IsEntered mode) (slots_walk t.slots [] [])
      → AllByRecursion (λ v. has_number v ≡ true) zs → IsAscending number_of zs
      → ((n : ℕ) → filter (numbered n) (slots_walk t.slots [] []) ≡ filter (numbered n) zs)
      → printed mode t ≡ map (printed_line mode []) (table_lines mode t.slots []) ++ flat_map (printed_table mode true) zs
  printed-in-order t zs root_is entered numbers ascending same =
      ap (λ (f : TableFields). printed_tables mode true (sorted_by comes_before (places_from (pos 0) (visit_of [] [] false f t.slots
      ∷ vs)))) root_is
      ∙ ap (printed_tables mode true) (root-first (pos 0, root) (sorted_places vs) refl)
      ∙ ap (λ ps. map (printed_line mode []) (table_lines mode t.slots []) ++ ps)
      (tables-printed (true && is_empty (printed_table mode true root)) (sorted_places vs) all_set
      ∙ flat_map-kept (λ (g : PlacedVisit). printed_table mode true g.1) (λ g. has_number g.1) (sorted_places vs)
      (all-map IsSetPlace (λ g. has_number g.1 ≡ false → printed_table mode true g.1
      ≡ []) (sorted_places vs) (λ g h e. nothing-printed g.1 h.0.1 h.1 e) all_set)
      ∙ sym (flat_map-map (printed_table mode true) (λ (g : PlacedVisit). g.1)
      (filter (λ (g : PlacedVisit). has_number g.1) (sorted_places vs)))
      ∙ ap (flat_map (printed_table mode true)) (in-order vs zs entered numbers ascending same))
    where
      vs : List Visit
      vs = slots_walk t.slots [] []

      root : Visit
      root = visit_of [] [] false (root_fields (owned_in mode)) t.slots

      all_set : AllByRecursion IsSetPlace (sorted_places vs)
      all_set = all-sorted IsSetPlace comes_before (places_from (pos 0) vs) (places-set 0 vs entered)
