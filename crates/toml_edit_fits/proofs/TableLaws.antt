-- The tests of tables tell what they say, of each table that the walk enters.
use Rattle.std.proofs.Common.{◌≡◌, refl, sym, ap, subst, ℕ, suc, ℤ, pos, Bool, true, false, List, [], ◌∷◌, ◌++◌}
use Rattle.std.specs.Prelude.{◌&&◌, ◌||◌, ◌↔◌, not, if◌then◌else◌, MatchBool, Decides, map}
use Rattle.std.specs.List.{AllByRecursion, list_all}
use Rattle.std.proofs.lemmas.Bool.Decides.{Decides-and, Decides-like}
use Rattle.toml_edit_model.specs.Mode.{Mode}
use Rattle.toml_edit_model.specs.Text.{one, is_empty}
use Rattle.toml_edit_model.specs.Trivia.{IsWholeTrivia, IsWhiteSpace, IsFinalTrivia}
use Rattle.toml_edit_model.specs.Syntax.{is_short, keeps_limits}
use Rattle.toml_edit_model.specs.Paths.{Path, to_key, to_element}
use Rattle.toml_edit_model.specs.Tree.{Decor, Key, TableFields, Node, nothing, leaf, list, inline, table, tables, Items, no_items, item}
use Rattle.toml_edit_model.specs.Tree.{Slots, no_slots, slot, Tree, shown_prefix, shown_suffix, shown_raw}
use Rattle.toml_edit_model.specs.Order.{sorted_by}
use Rattle.toml_edit_model.specs.HeaderOrder.{Visit, PlacedVisit, visit_of, node_walk, items_walk, slots_walk, walk, place_of, places_from}
use Rattle.toml_edit_model.specs.HeaderOrder.{comes_before, in_header_order}
use Rattle.toml_edit_model.specs.Print.{Line, segments, last_leaf, lines_of, line_statement, has_header, header_statement, printed_line}
use Rattle.toml_edit_model.specs.Print.{printed_table, printed_tables, Printed, statements_of}
use Rattle.toml_edit_model.specs.Fits.{HeaderSuits, TableSuits, DecorsSuit, is_undotted, PrintedLineSuits}
use Rattle.toml_edit_laws.specs.PrintByVisits.{has_own_header, holds_newline}
use Rattle.toml_edit_laws.specs.Locality.{root_visit}
use Rattle.toml_edit_laws.proofs.common.Each.{all-append, all-front, all-back, all-map, all-both, all-of}
use Rattle.toml_edit_laws.proofs.common.Lists.{not_empty-last}
use Rattle.toml_edit_laws.proofs.common.Tests.{and_left, and_right, and_both, true-false}
use Rattle.toml_edit_laws.proofs.accepted_prints.PrintedCut.{order-all}
use Rattle.toml_edit_laws.proofs.print_by_visits.KeyTexts.{last_leaf-end}
use Rattle.toml_edit_laws.proofs.print_by_visits.PrintParts.{has-header}
use Rattle.toml_edit_laws.proofs.common.Sorting.{all-inserted}
use Rattle.toml_edit_fits.specs.declared.route.Route.{Route}
use Rattle.toml_edit_fits.specs.TriviaTests.{is_white, is_whole, is_final, ends_line}
use Rattle.toml_edit_fits.specs.FitTests.{no_keys, key_fits, then_key, lines_fit, brackets_fit, header_fits, table_fits, tables_fit}
use Rattle.toml_edit_fits.specs.FitTests.{node_fits, elements_fit, root_fits, parts_fit}
use Rattle.toml_edit_fits.proofs.TriviaLaws.{end-decides, final-decides}
use Rattle.toml_edit_fits.proofs.ValueLaws.{IsRouteOf, no-keys, then-route, key-decides, whole-side, white-decides}
use Rattle.toml_edit_fits.proofs.NodeLaws.{PrintedLineFits, table-lines-decide, short-decides, both-lists}

-- ---- tests and lists

no-test : (b : Bool) → Decides (not b) (b ≡ false)
no-test true = (λ h. sym h, λ h. sym h)
no-test false = (λ h. refl, λ h. refl)

list-of : {A : Type 0} (test : A → Bool) (xs : List A) → AllByRecursion (λ x. test x ≡ true) xs → list_all test xs ≡ true
list-of test [] h = refl
list-of test (x ∷ xs) h = and_both (test x) (list_all test xs) h.0 (list-of test xs h.1)

not-false : (b : Bool) → not b ≡ true → b ≡ false
not-false true h = sym h
not-false false h = refl

pub all-unsorted : {A : Type 0} (P : A → Type 0) (before : A → A → Bool) (xs : List A) → AllByRecursion P (sorted_by before xs)
    → AllByRecursion P xs
all-unsorted P before [] h = tt
all-unsorted P before (x ∷ xs) h =
    let more = all-inserted P before x (sorted_by before xs) h in (more.0, all-unsorted P before xs more.1)

all-unplaced : (P : Visit → Type 0) (seen : ℤ) (vs : List Visit) → AllByRecursion (λ (v : PlacedVisit). P v.1) (places_from seen vs)
    → AllByRecursion (λ v. v.fields.is_dotted ≡ false → P v) vs
all-unplaced P seen [] h = tt
all-unplaced P seen (v ∷ vs) h = by_dot v.fields.is_dotted refl h (λ s. all-unplaced P s vs)
  where
    by_dot : (b : Bool) → v.fields.is_dotted ≡ b
        → AllByRecursion (λ (v : PlacedVisit). P v.1) (if b then places_from seen vs else (place_of seen v, v)
        ∷ places_from (place_of seen v) vs)
        → ((s : ℤ) → AllByRecursion (λ (v : PlacedVisit). P v.1) (places_from s vs)
        → AllByRecursion (λ v. v.fields.is_dotted ≡ false → P v) vs)
        → AllByRecursion (λ v. v.fields.is_dotted ≡ false → P v) (v ∷ vs)
    by_dot true e g ih = ((λ f. true-false v.fields.is_dotted e f), ih seen g)
    by_dot false e g ih = ((λ f. g.0), ih (place_of seen v) g.1)

-- ---- parts of every mode

abbrev Kept : List Printed → Type 0
Kept ps = AllByRecursion (λ (p : Printed). keeps_limits p.statement ≡ true) ps

image-kept : (ps : List Printed) → (list_all keeps_limits (map (λ p. p.statement) ps) ≡ true) ↔ Kept ps
image-kept [] = (λ h. tt, λ h. refl)
image-kept (p ∷ ps) =
    let more = image-kept ps in
    let rest = list_all keeps_limits (map (λ (q : Printed). q.statement) ps) in (
      λ h. (and_left (keeps_limits p.statement) rest h, more.0 (and_right (keeps_limits p.statement) rest h)),
      λ h. and_both (keeps_limits p.statement) rest h.0 (more.1 h.1),
    )

abbrev Undotted : Visit → Type 0
Undotted v = not (v.is_element && v.fields.is_dotted) ≡ true

module _ (mode : Mode) where
  -- ---- headers

  -- what stands in and around a header suits its place, and its path is short
  abbrev pub HeaderFits : Visit → Type 0
  HeaderFits v = HeaderSuits mode v × (is_short (segments mode v.keys) ≡ true)

  brackets-decide : (d : Decor) → Decides (brackets_fit mode d)
      (MatchBool (holds_newline mode d) (IsWholeTrivia (shown_prefix mode [] d)) (IsWhiteSpace (shown_prefix mode [] d)
      × IsWhiteSpace (shown_suffix mode [] d)))
  brackets-decide d = by_newline (holds_newline mode d)
    where
      by_newline : (b : Bool) → Decides (if b then is_whole (shown_prefix mode [] d) else is_white (shown_prefix mode [] d)
          && is_white (shown_suffix mode [] d))
          (MatchBool b (IsWholeTrivia (shown_prefix mode [] d)) (IsWhiteSpace (shown_prefix mode [] d)
          × IsWhiteSpace (shown_suffix mode [] d)))
      by_newline true = whole-side mode d.prefix
      by_newline false =
          Decides-and (is_white (shown_prefix mode [] d)) (is_white (shown_suffix mode [] d)) (white-decides (shown_prefix mode [] d))
          (white-decides (shown_suffix mode [] d))

  abbrev Inner : Decor → Type 0
  Inner d = MatchBool (holds_newline mode d) (IsWholeTrivia (shown_prefix mode [] d)) (IsWhiteSpace (shown_prefix mode [] d)
      × IsWhiteSpace (shown_suffix mode [] d))

  module _ (r : Route) (p : Path) (ks : List Key) (k : Key) (is_element : Bool) (f : TableFields) (ss : Slots) (is : IsRouteOf mode r ks)
    where
      abbrev here : Visit
      here = visit_of p (ks ++ one k) is_element f ss

      pub header-decides : Decides (header_fits mode r k f.decor) (HeaderFits (visit_of p (ks ++ one k) is_element f ss))
      header-decides =
          let last : last_leaf (ks ++ one k) ≡ k.leaf = last_leaf-end ks k in
          let short = short-decides mode (ks ++ one k) in
          Decides-like (header_fits mode r k f.decor)
          (λ h. (
            record {
              inner = subst Inner (sym last) h.0.1;
              segments = h.0.0.1;
              leading = h.1.0;
              trailing = h.1.1;
            },
            short.1 h.0.0.0,
          ))
          (λ h. let s = h.0 in (((short.0 h.1, s.segments), subst Inner last s.inner), (s.leading, s.trailing)))
          (Decides-and (key_fits mode r k && brackets_fit mode k.leaf) (is_whole (shown_prefix mode [] f.decor)
          && ends_line mode (shown_suffix mode [] f.decor))
          (Decides-and (key_fits mode r k) (brackets_fit mode k.leaf) (key-decides mode r ks k is) (brackets-decide k.leaf))
          (Decides-and (is_whole (shown_prefix mode [] f.decor)) (ends_line mode (shown_suffix mode [] f.decor))
          (whole-side mode f.decor.prefix) (end-decides mode (shown_suffix mode [] f.decor))))

  -- ---- tables

  -- what is printed of a table suits its place and keeps the limits; a dotted one is no element
  abbrev pub VisitFits : Visit → Type 0
  VisitFits v =
      MatchBool v.fields.is_dotted (v.is_element ≡ false)
      (MatchBool (has_header mode v) (HeaderFits v) (Unit {0}) × AllByRecursion (PrintedLineFits mode) (lines_of mode v))

  pub own-header : (p : Path) (ks : List Key) (k : Key) (is_element : Bool) (f : TableFields) (ss : Slots)
      → has_header mode (visit_of p (ks ++ one k) is_element f ss) ≡ has_own_header is_element f ss
  own-header p ks k is_element f ss = has-header mode (pos 0, visit_of p (ks ++ one k) is_element f ss) (not_empty-last ks k)

  table-decides : (r : Route) (p : Path) (ks : List Key) (k : Key) (is_element : Bool) (f : TableFields) (ss : Slots) → IsRouteOf mode r ks
      → Decides (table_fits mode r k is_element f ss) (VisitFits (visit_of p (ks ++ one k) is_element f ss))
  table-decides r p ks k is_element f ss is =
      by_dot f.is_dotted (by_header (has_own_header is_element f ss) (has_header mode v) (own-header p ks k is_element f ss))
    where
      v : Visit
      v = visit_of p (ks ++ one k) is_element f ss

      by_header : (b c : Bool) → c ≡ b → Decides (not b || header_fits mode r k f.decor)
          (MatchBool c (HeaderFits (visit_of p (ks ++ one k) is_element f ss)) (Unit {0}))
      by_header true true e = header-decides r p ks k is_element f ss is
      by_header true false e = absurd cc
      by_header false true e = absurd cc
      by_header false false e = (λ h. tt, λ h. refl)

      by_dot : (b : Bool) → Decides (not (has_own_header is_element f ss)
          || header_fits mode r k f.decor) (MatchBool (has_header mode (visit_of p (ks ++ one k) is_element f ss))
          (HeaderFits (visit_of p (ks ++ one k) is_element f ss)) (Unit {0}))
          → Decides (if b then not is_element else (not (has_own_header is_element f ss) || header_fits mode r k f.decor)
          && lines_fit mode no_keys ss)
          (MatchBool b (is_element ≡ false)
          (MatchBool (has_header mode (visit_of p (ks ++ one k) is_element f ss)) (HeaderFits (visit_of p (ks ++ one k) is_element f ss))
          (Unit {0}) × AllByRecursion (PrintedLineFits mode) (lines_of mode (visit_of p (ks ++ one k) is_element f ss))))
      by_dot true h = no-test is_element
      by_dot false h = Decides-and (not (has_own_header is_element f ss)
          || header_fits mode r k f.decor) (lines_fit mode no_keys ss) h (table-lines-decide mode ss)

  one-more : (a b : Bool) (v : Visit) (vs : List Visit) → Decides a (VisitFits v) → Decides b (AllByRecursion VisitFits vs)
      → Decides (a && b) (AllByRecursion VisitFits (v ∷ vs))
  one-more a b v vs h g = Decides-and a b h g

  mutual
    pub tables-decide : (ss : Slots) (r : Route) (p : Path) (ks : List Key) → IsRouteOf mode r ks
        → Decides (tables_fit mode r ss) (AllByRecursion VisitFits (slots_walk ss p ks))
    tables-decide no_slots r p ks is = (λ h. tt, λ h. refl)
    tables-decide (slot k n ss) r p ks is =
        both-lists VisitFits (node_fits mode r k n) (tables_fit mode r ss) (node_walk n (to_key p k.name) (ks ++ one k) false)
        (slots_walk ss p ks)
        (node-decides n r (to_key p k.name) ks k is) (tables-decide ss r p ks is)

    node-decides : (n : Node) (r : Route) (p : Path) (ks : List Key) (k : Key) → IsRouteOf mode r ks
        → Decides (node_fits mode r k n) (AllByRecursion VisitFits (node_walk n p (ks ++ one k) false))
    node-decides (table f ss) r p ks k is =
        one-more (table_fits mode r k false f ss) (tables_fit mode (then_key mode r k) ss) (visit_of p (ks ++ one k) false f ss)
        (slots_walk ss p (ks ++ one k))
        (table-decides r p ks k false f ss is) (tables-decide ss (then_key mode r k) p (ks ++ one k) (then-route mode r ks k is))
    node-decides (tables e xs) r p ks k is = elements-decide xs r p ks k 0 is
    node-decides (leaf s x d) r p ks k is = (λ h. tt, λ h. refl)
    node-decides (list f xs) r p ks k is = (λ h. tt, λ h. refl)
    node-decides (inline f ss) r p ks k is = (λ h. tt, λ h. refl)
    node-decides nothing r p ks k is = (λ h. tt, λ h. refl)

    elements-decide : (xs : Items) (r : Route) (p : Path) (ks : List Key) (k : Key) (i : ℕ) → IsRouteOf mode r ks
        → Decides (elements_fit mode r k xs) (AllByRecursion VisitFits (items_walk xs p (ks ++ one k) i))
    elements-decide no_items r p ks k i is = (λ h. tt, λ h. refl)
    elements-decide (item (table f ss) xs) r p ks k i is =
        let q = to_element p i in
        both-lists VisitFits (table_fits mode r k true f ss && tables_fit mode (then_key mode r k) ss) (elements_fit mode r k xs)
        (visit_of q (ks ++ one k) true f ss ∷ slots_walk ss q (ks ++ one k)) (items_walk xs p (ks ++ one k) (suc i))
        (one-more (table_fits mode r k true f ss) (tables_fit mode (then_key mode r k) ss) (visit_of q (ks ++ one k) true f ss)
        (slots_walk ss q (ks ++ one k))
        (table-decides r q ks k true f ss is) (tables-decide ss (then_key mode r k) q (ks ++ one k) (then-route mode r ks k is)))
        (elements-decide xs r p ks k (suc i) is)
    elements-decide (item (tables e us) xs) r p ks k i is = elements-decide xs r p ks k i is
    elements-decide (item (leaf s x d) xs) r p ks k i is = elements-decide xs r p ks k i is
    elements-decide (item (list f us) xs) r p ks k i is = elements-decide xs r p ks k i is
    elements-decide (item (inline f us) xs) r p ks k i is = elements-decide xs r p ks k i is
    elements-decide (item nothing xs) r p ks k i is = elements-decide xs r p ks k i is

  -- ---- the whole tree

  -- what is printed around the root suits its place; the root isn't dotted
  abbrev RootFits : Tree → Type 0
  RootFits t =
      ((t.root.is_dotted ≡ false) × AllByRecursion (PrintedLineFits mode) (lines_of mode (visit_of [] [] false t.root t.slots)))
      × ((IsWholeTrivia (shown_prefix mode [] t.root.decor) × IsWholeTrivia (shown_suffix mode [] t.root.decor))
      × IsFinalTrivia (shown_raw mode t.trailing))

  root-decides : (t : Tree) → Decides (root_fits mode t.root t.slots t.trailing) (RootFits t)
  root-decides t =
      Decides-and (not t.root.is_dotted && lines_fit mode no_keys t.slots)
      ((is_whole (shown_prefix mode [] t.root.decor) && is_whole (shown_suffix mode [] t.root.decor))
      && is_final (shown_raw mode t.trailing))
      (Decides-and (not t.root.is_dotted) (lines_fit mode no_keys t.slots) (no-test t.root.is_dotted) (table-lines-decide mode t.slots))
      (Decides-and (is_whole (shown_prefix mode [] t.root.decor)
      && is_whole (shown_suffix mode [] t.root.decor)) (is_final (shown_raw mode t.trailing))
      (Decides-and (is_whole (shown_prefix mode [] t.root.decor)) (is_whole (shown_suffix mode [] t.root.decor))
      (whole-side mode t.root.decor.prefix) (whole-side mode t.root.decor.suffix))
      (final-decides (shown_raw mode t.trailing)))

  -- all but the order of headers
  abbrev pub PartsFit : Tree → Type 0
  PartsFit t = DecorsSuit mode t × (is_undotted t ≡ true) × (list_all keeps_limits (statements_of mode t) ≡ true)

  -- ---- the limits of statements

  abbrev LimitsOf : Visit → Type 0
  LimitsOf v =
      MatchBool (has_header mode v) (is_short (segments mode v.keys) ≡ true) (Unit {0})
      × AllByRecursion (λ l. keeps_limits (line_statement mode l) ≡ true) (lines_of mode v)

  lines-kept : (p : Path) (ls : List Line) → Kept (map (printed_line mode p) ls)
      ↔ AllByRecursion (λ l. keeps_limits (line_statement mode l) ≡ true) ls
  lines-kept p [] = (λ h. tt, λ h. tt)
  lines-kept p (l ∷ ls) = let more = lines-kept p ls in (λ h. (h.0, more.0 h.1), λ h. (h.0, more.1 h.1))

  table-kept : (is_first : Bool) (v : Visit) → Kept (printed_table mode is_first v) ↔ LimitsOf v
  table-kept is_first v = by_header (has_header mode v) (lines-kept v.path (lines_of mode v))
    where
      by_header : (b : Bool) → Kept (map (printed_line mode v.path) (lines_of mode v))
          ↔ AllByRecursion (λ l. keeps_limits (line_statement mode l) ≡ true) (lines_of mode v)
          → Kept ((if b then record { block = v.path; path = v.path; statement = header_statement mode is_first v } ∷ [] else [])
          ++ map (printed_line mode v.path) (lines_of mode v))
          ↔ (MatchBool b (is_short (segments mode v.keys) ≡ true) (Unit {0})
          × AllByRecursion (λ l. keeps_limits (line_statement mode l) ≡ true) (lines_of mode v))
      by_header true more = (λ h. (h.0, more.0 h.1), λ h. (h.0, more.1 h.1))
      by_header false more = (λ h. (tt, more.0 h), λ h. more.1 h.1)

  tables-kept : (is_first : Bool) (vs : List PlacedVisit) → Kept (printed_tables mode is_first vs)
      ↔ AllByRecursion (λ (v : PlacedVisit). LimitsOf v.1) vs
  tables-kept is_first [] = (λ h. tt, λ h. tt)
  tables-kept is_first (v ∷ vs) =
      let here = printed_table mode is_first v.1 in
      let next = is_first && is_empty here in
      let more = tables-kept next vs in
      let this = table-kept is_first v.1 in (
        λ h. (
          this.0 (all-front (λ (p : Printed). keeps_limits p.statement ≡ true) here (printed_tables mode next vs) h),
          more.0 (all-back (λ (p : Printed). keeps_limits p.statement ≡ true) here (printed_tables mode next vs) h),
        ),
        λ h. all-append (λ (p : Printed). keeps_limits p.statement ≡ true) here (printed_tables mode next vs) (this.1 h.0) (more.1 h.1),
      )

  -- ---- together

  visit-parts : (v : Visit) → VisitFits v → v.fields.is_dotted ≡ false → TableSuits mode (pos 0, v) × LimitsOf v
  visit-parts v h e =
      let both = subst (λ b. MatchBool b (v.is_element ≡ false) (MatchBool (has_header mode v) (HeaderFits v) (Unit {0})
      × AllByRecursion (PrintedLineFits mode) (lines_of mode v))) e h in
      let header = of_header (has_header mode v) both.0 in (
        (header.0, all-map (PrintedLineFits mode) (PrintedLineSuits mode) (lines_of mode v) (λ l f. f.0) both.1),
        (header.1, all-map (PrintedLineFits mode) (λ l. keeps_limits (line_statement mode l) ≡ true) (lines_of mode v) (λ l f. f.1) both.1),
      )
    where
      of_header : (b : Bool) → MatchBool b (HeaderFits v) (Unit {0}) → MatchBool b (HeaderSuits mode v) (Unit {0})
          × MatchBool b (is_short (segments mode v.keys) ≡ true) (Unit {0})
      of_header true g = g
      of_header false g = (tt, tt)

  visit-whole : (v : Visit) → Undotted v → (v.fields.is_dotted ≡ false → TableSuits mode (pos 0, v) × LimitsOf v) → VisitFits v
  visit-whole v u f = by_dot v.fields.is_dotted u f
    where
      not-left : (a : Bool) → not (a && true) ≡ true → a ≡ false
      not-left true h = sym h
      not-left false h = refl

      with_header : (b : Bool) → MatchBool b (HeaderSuits mode v) (Unit {0})
          → MatchBool b (is_short (segments mode v.keys) ≡ true) (Unit {0}) → MatchBool b (HeaderFits v) (Unit {0})
      with_header true g k = (g, k)
      with_header false g k = tt

      by_dot : (b : Bool) → not (v.is_element && b) ≡ true → (b ≡ false → TableSuits mode (pos 0, v) × LimitsOf v)
          → MatchBool b (v.is_element ≡ false) (MatchBool (has_header mode v) (HeaderFits v) (Unit {0})
          × AllByRecursion (PrintedLineFits mode) (lines_of mode v))
      by_dot true u f = not-left v.is_element u
      by_dot false u f =
          let parts = f refl in (
            with_header (has_header mode v) parts.0.0 parts.1.0,
            all-both (PrintedLineSuits mode) (λ l. keeps_limits (line_statement mode l) ≡ true) (lines_of mode v) parts.0.1 parts.1.1,
          )

  visit-undotted : (v : Visit) → VisitFits v → Undotted v
  visit-undotted v h = by_dot v.fields.is_dotted h
    where
      none : (a : Bool) → a ≡ false → not (a && true) ≡ true
      none true e = sym e
      none false e = refl

      plainly : (a : Bool) → not (a && false) ≡ true
      plainly true = refl
      plainly false = refl

      by_dot : (b : Bool) → MatchBool b (v.is_element ≡ false) (MatchBool (has_header mode v) (HeaderFits v) (Unit {0})
          × AllByRecursion (PrintedLineFits mode) (lines_of mode v))
          → not (v.is_element && b) ≡ true
      by_dot true g = none v.is_element g
      by_dot false g = plainly v.is_element

  root-visit : (t : Tree) → RootFits t → VisitFits (root_visit t)
  root-visit t h = by_dot t.root.is_dotted h.0.1
    where
      by_dot : (b : Bool) → AllByRecursion (PrintedLineFits mode) (lines_of mode (visit_of [] [] false t.root t.slots))
          → MatchBool b (false ≡ false) (Unit {0} × AllByRecursion (PrintedLineFits mode)
          (lines_of mode (visit_of [] [] false t.root t.slots)))
      by_dot true g = refl
      by_dot false g = (tt, g)

  to-parts : (t : Tree) → RootFits t → AllByRecursion VisitFits (slots_walk t.slots [] []) → PartsFit t
  to-parts t root rest =
      let all : AllByRecursion VisitFits (walk t) = (root-visit t root, rest) in
      let ordered = order-all VisitFits t all in
      let placed = in_header_order t in (
        record {
          tables = all-map (λ (v : PlacedVisit). VisitFits v.1
              × (v.1.fields.is_dotted ≡ false)) (TableSuits mode) placed (λ v f. (visit-parts v.1 f.0 f.1).0) ordered;
          root_prefix = root.1.0.0;
          root_suffix = root.1.0.1;
          trailing = root.1.1;
        },
        and_both (not t.root.is_dotted) (list_all (λ v. not (v.is_element && v.fields.is_dotted)) (walk t)) (ap not root.0.0)
            (list-of (λ v. not (v.is_element && v.fields.is_dotted)) (walk t) (all-map VisitFits Undotted (walk t) visit-undotted all)),
        (image-kept (printed_tables mode true placed)).1 ((tables-kept true placed).1
            (all-map (λ (v : PlacedVisit). VisitFits v.1 × (v.1.fields.is_dotted ≡ false)) (λ (v : PlacedVisit). LimitsOf v.1) placed
            (λ v f. (visit-parts v.1 f.0 f.1).1) ordered)),
      )

  from-parts : (t : Tree) → PartsFit t → RootFits t × AllByRecursion VisitFits (slots_walk t.slots [] [])
  from-parts t h =
      let placed = in_header_order t in
      let limits = (tables-kept true placed).0 ((image-kept (printed_tables mode true placed)).0 h.2) in
      let tests = all-of (λ v. not (v.is_element && v.fields.is_dotted)) (walk t)
      (and_right (not t.root.is_dotted) (list_all (λ v. not (v.is_element && v.fields.is_dotted)) (walk t)) h.1) in
      let each = all-unplaced (λ v. TableSuits mode (pos 0, v) × LimitsOf v) (pos 0) (walk t)
      (all-unsorted (λ (v : PlacedVisit). TableSuits mode (pos 0, v.1) × LimitsOf v.1) comes_before (places_from (pos 0) (walk t))
      (all-both (TableSuits mode) (λ (v : PlacedVisit). LimitsOf v.1) placed h.0.tables limits)) in
      let all : AllByRecursion VisitFits (walk t) =
      all-map (λ v. Undotted v × (v.fields.is_dotted ≡ false → TableSuits mode (pos 0, v) × LimitsOf v)) VisitFits (walk t)
      (λ v f. visit-whole v f.0 f.1)
      (all-both Undotted (λ v. v.fields.is_dotted ≡ false → TableSuits mode (pos 0, v) × LimitsOf v) (walk t) tests each) in
      let undotted : t.root.is_dotted ≡ false =
      not-false t.root.is_dotted (and_left (not t.root.is_dotted) (list_all (λ v. not (v.is_element && v.fields.is_dotted)) (walk t))
      h.1) in
      let lines = (subst (λ b. MatchBool b (false ≡ false) (Unit {0}
      × AllByRecursion (PrintedLineFits mode) (lines_of mode (root_visit t)))) undotted all.0).1 in
      (((undotted, lines), ((h.0.root_prefix, h.0.root_suffix), h.0.trailing)), all.1)

  pub parts-decide : (t : Tree) → Decides (parts_fit mode t) (PartsFit t)
  parts-decide t =
      Decides-like (parts_fit mode t) (λ h. to-parts t h.0 h.1) (from-parts t)
      (Decides-and (root_fits mode t.root t.slots t.trailing) (tables_fit mode no_keys t.slots) (root-decides t)
      (tables-decide t.slots no_keys [] [] (no-keys mode)))
