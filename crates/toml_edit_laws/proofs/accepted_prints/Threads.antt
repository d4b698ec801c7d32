-- The reader's context along the printed statements: in it each header's numbered path is that of its table in the tree, and each
-- line stands in the block of its table.
use Rattle.std.proofs.Common.{◌≡◌, refl, sym, ◌∙◌, ap, subst, ℕ, zero, suc, ◌+◌, arith, pos, Bool, true, false, List, [], ◌∷◌, ◌++◌}
use Rattle.std.proofs.Common.{append_assoc, length, length-append}
use Rattle.std.specs.Prelude.{◌&&◌, ◌||◌, not, filter, map, if◌then◌else◌}
use Rattle.std.specs.List.{AllByRecursion}
use Rattle.std.proofs.lemmas.List.Elements.{filter-append}
use Rattle.toml_edit_model.specs.Mode.{Mode}
use Rattle.toml_edit_model.specs.Text.{Text, is_empty}
use Rattle.toml_edit_model.specs.Syntax.{Statement, key_line, header}
use Rattle.toml_edit_model.specs.Paths.{at_element, Path, same_path, in_last, to_key, to_element, elements_at, passing_role, header_path}
use Rattle.toml_edit_model.specs.Paths.{header_role_of}
use Rattle.toml_edit_model.specs.Meaning.{parent}
use Rattle.toml_edit_model.specs.Tree.{Key, Tree}
use Rattle.toml_edit_model.specs.HeaderOrder.{Visit, PlacedVisit, visit_of, slots_walk, walk, place_of, places_from, is_root, comes_before}
use Rattle.toml_edit_model.specs.HeaderOrder.{in_header_order}
use Rattle.toml_edit_model.specs.Print.{Line, segments, lines_of, has_header, Printed, printed_line, printed_table, printed_tables, printed}
use Rattle.toml_edit_model.specs.Print.{header_statement}
use Rattle.toml_edit_model.specs.Fits.{headed}
use Rattle.toml_edit_laws.specs.AcceptedPrints.{IsFitting}
use Rattle.toml_edit_laws.proofs.common.Tests.{and_left, not-true, true-false, if-false}
use Rattle.toml_edit_laws.proofs.common.OrderLaws.{all-sorted}
use Rattle.toml_edit_laws.proofs.accepted_prints.PrintedCut.{IsVisit, slots_walk-is, places-all}
use Rattle.toml_edit_laws.proofs.accepted_prints.Spots.{Spot, suits, tree_spot, tree-sees}
use Rattle.toml_edit_laws.proofs.accepted_prints.WalkPlaces.{Trail, start, to_table, to_item, trail_path, trail_keys, Led, EndsAs, walk-at}
use Rattle.toml_edit_laws.proofs.accepted_prints.WalkPaths.{walk-apart, is_item_of}
use Rattle.toml_edit_laws.proofs.accepted_prints.HeaderNumbers.{tree_at}
use Rattle.toml_edit_laws.proofs.accepted_prints.HeaderReach.{RightBy, Reached, reached, elements_in}
use Rattle.toml_edit_laws.proofs.accepted_prints.NamedPaths.{segments-names, names-snoc, down, dotted_told, line-snoc, down-snoc}
use Rattle.toml_edit_laws.proofs.accepted_prints.NamedPaths.{below-down, named_path, header-named, header_told, passing_told, named-snoc}
use Rattle.toml_edit_laws.proofs.accepted_prints.NamedPaths.{header-snoc, right-same, passed-trail, Fit, passing-fit}
use Rattle.toml_edit_laws.proofs.accepted_prints.LinePlaces.{LineAt, table-at}
use Rattle.toml_edit_laws.proofs.common.PathLaws.{parent-last}
use Rattle.toml_edit_laws.proofs.common.Cores.{Core, keys_of_segments, line_cores}
use Rattle.toml_edit_laws.proofs.common.Lists.{not_empty-last}
use Rattle.toml_edit_laws.proofs.common.Each.{all-both, all-append, all-map}
use Rattle.toml_edit_laws.proofs.common.Statements.{own_header}
use Rattle.toml_edit_laws.proofs.common.Visits.{root-first}
use Rattle.toml_edit_model.specs.Order.{sorted_by}
use Rattle.toml_edit_model.specs.Roles.{Role, header_role, array_role, value_role, implied_role, continued_role, dotted_role}
use Rattle.toml_edit_model.specs.Normal.{is_line}
use Rattle.toml_edit_model.specs.Keys.{names}

-- ---- the reader's context

-- what a statement says of paths, after these headers in double brackets and in this block
abbrev pub told_of : List Path → Path → Statement → List Core
told_of A b (key_line f v end) = line_cores b (keys_of_segments f.path)
told_of A b (header h end) = header_told A (header_role_of h) [] (keys_of_segments h.path)

-- the arrays and the block after it
abbrev pub arrays_after : List Path → Statement → List Path
arrays_after A (key_line f v end) = A
arrays_after A (header h end) = if h.is_array then header_path A [] h.path ∷ A else A

abbrev pub block_after : List Path → Path → Statement → Path
block_after A b (key_line f v end) = b
block_after A b (header h end) =
    if h.is_array then to_element (header_path A [] h.path) (elements_at A (header_path A [] h.path)) else header_path A [] h.path

-- each printed statement by the context in which it is read
abbrev pub Threads : (List Path → Path → Printed → Type 0) → List Path → Path → List Printed → Type 0
Threads P A b [] = Unit {0}
Threads P A b (p ∷ ps) = P A b p × Threads P (arrays_after A p.statement) (block_after A b p.statement) ps

-- ---- what holds of each statement there

-- its own path has the role of its own header or value
abbrev pub OwnOf : Printed → Path → Role → Type 0
OwnOf p q header_role = (q ≡ p.path) × (is_line p.statement ≡ false)
OwnOf p q value_role = (q ≡ p.path) × (is_line p.statement ≡ true)
OwnOf p q array_role = Unit {0}
OwnOf p q dotted_role = Unit {0}
OwnOf p q implied_role = Unit {0}
OwnOf p q continued_role = Unit {0}

-- the arrays up to here are those of the headers before
abbrev Counts : List Path → List Visit → Type 0
Counts A before = (q : Path) → elements_at A q ≡ elements_in q before

counts-plain : (A : List Path) (before : List Visit) (v : Visit) → v.is_element ≡ false → Counts A before → Counts A (before ++ (v ∷ []))
counts-plain A before v e h q =
    let more : elements_in q (before ++ (v ∷ [])) ≡ elements_in q before + length (filter (is_item_of q) (v ∷ [])) =
    ap length (filter-append (is_item_of q) before (v ∷ []))
    ∙ length-append (filter (is_item_of q) before) (filter (is_item_of q) (v ∷ [])) in
    let none : length (filter (is_item_of q) (v ∷ [])) ≡ 0 = ap (λ b. length (if b && same_path q (parent v.path) then v ∷ [] else [])) e in
    let now = h q in
    omega arith

counts-item : (A : List Path) (before : List Visit) (v : Visit) (P : Path) (n : ℕ) → v.is_element ≡ true → v.path ≡ to_element P n
    → Counts A before → Counts (P ∷ A) (before ++ (v ∷ []))
counts-item A before v P n e path h q =
    let more : elements_in q (before ++ (v ∷ [])) ≡ elements_in q before + length (filter (is_item_of q) (v ∷ [])) =
    ap length (filter-append (is_item_of q) before (v ∷ []))
    ∙ length-append (filter (is_item_of q) before) (filter (is_item_of q) (v ∷ [])) in
    let one : length (filter (is_item_of q) (v ∷ [])) ≡ length (if same_path q P then v ∷ [] else []) =
    ap (λ b. length (if b && same_path q (parent v.path) then v ∷ [] else [])) e
    ∙ ap (λ p. length (if same_path q p then v ∷ [] else [])) (ap parent path ∙ parent-last P (at_element n)) in
    by_test (same_path q P) more one (h q)
  where
    by_test : (b : Bool) → elements_in q (before ++ (v ∷ [])) ≡ elements_in q before + length (filter (is_item_of q) (v ∷ []))
        → length (filter (is_item_of q) (v ∷ [])) ≡ length (if b then v ∷ [] else []) → elements_at A q ≡ elements_in q before
        → length (if b then P ∷ filter (same_path q) A else filter (same_path q) A) ≡ elements_in q (before ++ (v ∷ []))
    by_test true more one now = omega arith
    by_test false more one now = omega arith

-- the tables after the root, in the order of headers
abbrev pub after_root : Tree → List PlacedVisit
after_root t = sorted_by comes_before (places_from (place_of (pos 0) (visit_of [] [] false t.root t.slots)) (slots_walk t.slots [] []))

abbrev pub root_placed : Tree → PlacedVisit
root_placed t = (place_of (pos 0) (visit_of [] [] false t.root t.slots), visit_of [] [] false t.root t.slots)

keyed-trail : (v : Visit) (T : Trail) → v.path ≡ trail_path T → v.keys ≡ trail_keys T → ([] ≡ v.path → ⊥) → is_root v ≡ false
keyed-trail v start path keys apart = absurd (apart (sym path))
keyed-trail v (to_table r k) path keys apart = ap is_empty keys ∙ not_empty-last (trail_keys r) k
keyed-trail v (to_item r k n) path keys apart = ap is_empty keys ∙ not_empty-last (trail_keys r) k

module _ (mode : Mode) where
  abbrev pub Says : (Path → Spot) → Printed → Core → Type 0
  Says K p m = Fit K m × OwnOf p m.0 m.1

  -- the statement leaves the block of its table, and what it says suits what stands there
  pub record StandsIn (K : Path → Spot) (A : List Path) (b : Path) (p : Printed) : Type 0 where
    pub block : block_after A b p.statement ≡ p.block
    pub says : AllByRecursion (Says K p) (told_of A b p.statement)

  module _ (K : Path → Spot) where
    -- ---- lines

    dotted-own : (p : Printed) (b : Path) (ns : List Text) → AllByRecursion (λ (m : Core). OwnOf p m.0 m.1) (dotted_told b ns)
    dotted-own p b [] = tt
    dotted-own p b (n ∷ ns) = (tt, dotted-own p (to_key b n) ns)

    line-own : (b : Path) (l : Line) (front : List Text) (last : Text) → names l.keys ≡ front ++ (last ∷ [])
        → AllByRecursion (λ (m : Core). OwnOf (printed_line mode b l) m.0 m.1) (line_cores b (names l.keys))
    line-own b l front last e =
        subst (λ ns. AllByRecursion (λ (m : Core). OwnOf (printed_line mode b l) m.0 m.1) (line_cores b ns)) (sym e)
        (subst (AllByRecursion (λ (m : Core). OwnOf (printed_line mode b l) m.0 m.1)) (sym (line-snoc b front last))
        (all-append (λ (m : Core). OwnOf (printed_line mode b l) m.0 m.1) (dotted_told b front) _
        (dotted-own (printed_line mode b l) b front)
        ((sym (down-snoc b front last) ∙ ap (down b) (sym e) ∙ sym (below-down b l.keys), refl), tt)))

    line-stands : (A : List Path) (b : Path) (l : Line) → LineAt mode K b l → StandsIn K A b (printed_line mode b l)
    line-stands A b l at =
        record {
          block = refl;
          says =
              subst (λ ns. AllByRecursion (Says K (printed_line mode b l)) (line_cores b ns)) (sym (segments-names mode l.keys))
              (all-both (Fit K) (λ (m : Core). OwnOf (printed_line mode b l) m.0 m.1) (line_cores b (names l.keys)) at.said
              (line-own b l at.front at.last at.some));
        }

    lines-thread : (A : List Path) (b : Path) (ls : List Line) (ps : List Printed) → AllByRecursion (LineAt mode K b) ls
        → Threads (StandsIn K) A b ps
        → Threads (StandsIn K) A b (map (printed_line mode b) ls ++ ps)
    lines-thread A b [] ps h g = g
    lines-thread A b (l ∷ ls) ps h g = (line-stands A b l h.0, lines-thread A b ls ps h.1 g)

    -- ---- headers

    passing-own : (p : Printed) (q : Path) (n : ℕ) → OwnOf p q (passing_role n)
    passing-own p q zero = tt
    passing-own p q (suc n) = tt

    passing-owns : (p : Printed) (A : List Path) (q : Path) (ns : List Text)
        → AllByRecursion (λ (m : Core). OwnOf p m.0 m.1) (passing_told A q ns)
    passing-owns p A q [] = tt
    passing-owns p A q (n ∷ ns) =
        (passing-own p (to_key q n) (elements_at A (to_key q n)), passing-owns p A (in_last (elements_at A (to_key q n)) (to_key q n)) ns)

    -- the header's path, and what it says, by its way
    trail-path : (A : List Path) (ks : List Key) (r : Trail) (k : Key) → ks ≡ trail_keys r ++ (k ∷ []) → RightBy (elements_at A) r
        → header_path A [] (segments mode ks) ≡ to_key (trail_path r) k.name
    trail-path A ks r k e right =
        header-named A [] (segments mode ks) ∙ ap (named_path A []) (segments-names mode ks ∙ ap names e ∙ names-snoc (trail_keys r) k)
        ∙ named-snoc A [] (names (trail_keys r)) k.name ∙ ap (λ p. to_key p k.name) (passed-trail A r right)

    trail-says : (W : List Visit) (A : List Path) (p : Printed) (role : Role) (ks : List Key) (r : Trail) (k : Key) → ks ≡ trail_keys r
        ++ (k ∷ []) → RightBy (elements_at A) r → Led K W r
        → Says K p (to_key (trail_path r) k.name, role) → AllByRecursion (Says K p)
        (header_told A role [] (keys_of_segments (segments mode ks)))
    trail-says W A p role ks r k e right led last =
        subst (λ ns. AllByRecursion (Says K p) (header_told A role [] ns)) (sym (segments-names mode ks ∙ ap names e
        ∙ names-snoc (trail_keys r) k))
        (subst (AllByRecursion (Says K p)) (sym (header-snoc A role [] (names (trail_keys r)) k.name))
        (all-append (Says K p) (passing_told A [] (names (trail_keys r))) _
        (all-both (Fit K) (λ (m : Core). OwnOf p m.0 m.1) (passing_told A [] (names (trail_keys r))) (passing-fit K W A r led right)
        (passing-owns p A [] (names (trail_keys r))))
        (subst (λ q. Says K p (to_key q k.name, role)) (sym (passed-trail A r right)) last, tt)))

  -- a table without a header has no lines, unless it is the root
  pub no-lines : (v : Visit) → is_root v ≡ false → has_header mode v ≡ false → lines_of mode v ≡ []
  no-lines v root none =
      by_lines (lines_of mode v) v.is_element v.fields.is_implicit
      (sym (ap (λ b. not b && (v.is_element || not (v.fields.is_implicit && is_empty (lines_of mode v)))) root) ∙ none)
    where
      by_lines : (ls : List Line) (e i : Bool) → (e || not (i && is_empty ls)) ≡ false → ls ≡ []
      by_lines [] e i h = refl
      by_lines (l ∷ ls) true i h = absurd cc
      by_lines (l ∷ ls) false true h = absurd cc
      by_lines (l ∷ ls) false false h = absurd cc

  -- ---- the headers of a tree

  module _ (t : Tree) (fitting : IsFitting mode t) where
    abbrev K : Path → Spot
    K = tree_spot t.slots

    -- a table of the walk that has a place
    abbrev pub IsPlaced : Visit → Type 0
    IsPlaced v = ((tree_at t v × IsVisit v) × (v.fields.is_dotted ≡ false)) × (is_root v ≡ false)

    record HeaderStands (A : List Path) (b : Path) (before : List Visit) (is_first : Bool) (v : Visit) : Type 0 where
      block : block_after A b (header_statement mode is_first v) ≡ v.path
      says : AllByRecursion (Says K (own_header mode is_first v)) (told_of A b (header_statement mode is_first v))
      counts : Counts (arrays_after A (header_statement mode is_first v)) (before ++ (v ∷ []))

    header-stands : (A : List Path) (b : Path) (before : List Visit) (is_first : Bool) (v : Visit) (after : List Visit)
        → headed mode t ≡ before ++ (v ∷ after) → IsPlaced v → Counts A before → HeaderStands A b before is_first v
    header-stands A b before is_first v after split placed counts =
        by_trail placed.0.0.0.trail placed.0.0.0.path placed.0.0.0.keys placed.0.0.0.led placed.0.0.0.ends
        (reached mode t fitting before v after split placed.0.0.0)
      where
        by_trail : (T : Trail) → v.path ≡ trail_path T → v.keys ≡ trail_keys T → Led K (walk t) T → EndsAs K (walk t) v T
            → Reached (λ p. elements_in p before) T
            → HeaderStands A b before is_first v
        by_trail start path keys led ends reach = true-false (is_root v) (ap is_empty keys) placed.1
        by_trail (to_table r k) path keys led ends reach =
            let right = right-same (λ p. elements_in p before) (elements_at A) r (λ q. sym (counts q)) reach in
            let own : header_path A [] (segments mode v.keys) ≡ v.path = trail-path K A v.keys r k keys right ∙ sym path in
            record {
              block =
                  ap (λ e. if e then to_element (header_path A [] (segments mode v.keys))
                  (elements_at A (header_path A [] (segments mode v.keys))) else header_path A [] (segments mode v.keys)) ends.0
                  ∙ own;
              says =
                  subst (λ e. AllByRecursion (Says K (own_header mode is_first v)) (header_told A (if e then array_role
                  else header_role) [] (keys_of_segments (segments mode v.keys)))) (sym ends.0)
                  (trail-says K (walk t) A (own_header mode is_first v) header_role v.keys r k keys right led.0
                  (ap (λ p. suits header_role (K p)) (sym path) ∙ ap (suits header_role) (ends.1 placed.0.1), (sym path, refl)));
              counts =
                  subst (λ e. Counts (if e then header_path A [] (segments mode v.keys) ∷ A else A) (before ++ (v ∷ []))) (sym ends.0)
                  (counts-plain A before v ends.0 counts);
            }
        by_trail (to_item r k n) path keys led ends reach =
            let right = right-same (λ p. elements_in p before) (elements_at A) r (λ q. sym (counts q)) reach.0 in
            let P = to_key (trail_path r) k.name in
            let own : header_path A [] (segments mode v.keys) ≡ P = trail-path K A v.keys r k keys right in
            record {
              block =
                  ap (λ e. if e then to_element (header_path A [] (segments mode v.keys))
                  (elements_at A (header_path A [] (segments mode v.keys))) else header_path A [] (segments mode v.keys)) ends
                  ∙ ap (λ q. to_element q (elements_at A q)) own ∙ ap (to_element P) (counts P ∙ reach.1) ∙ sym path;
              says =
                  subst (λ e. AllByRecursion (Says K (own_header mode is_first v)) (header_told A (if e then array_role
                  else header_role) [] (keys_of_segments (segments mode v.keys)))) (sym ends)
                  (trail-says K (walk t) A (own_header mode is_first v) array_role v.keys r k keys right led.0 (
                    ap (suits array_role) led.1,
                    tt,
                  ));
              counts =
                  subst (λ e. Counts (if e then header_path A [] (segments mode v.keys) ∷ A else A) (before ++ (v ∷ []))) (sym ends)
                  (subst (λ q. Counts (q ∷ A) (before ++ (v ∷ []))) (sym own) (counts-item A before v P n ends path counts));
            }

    -- a table's lines stand below it
    pub lines-at : (v : Visit) → tree_at t v → IsVisit v → v.fields.is_dotted ≡ false
        → AllByRecursion (LineAt mode K v.path) (lines_of mode v)
    lines-at v at is undotted = table-at mode K v.slots v.path [] is.made tt (at.sees undotted)

    -- the tables after these, in the order of headers
    tables-thread : (vs : List PlacedVisit) (before : List Visit) (A : List Path) (b : Path) (is_first : Bool)
        → headed mode t ≡ before ++ filter (has_header mode) (map (λ (v : PlacedVisit). v.1) vs)
        → AllByRecursion (λ (v : PlacedVisit). IsPlaced v.1) vs → Counts A before
        → Threads (StandsIn K) A b (printed_tables mode is_first vs)
    tables-thread [] before A b is_first split placed counts = tt
    tables-thread (v ∷ vs) before A b is_first split placed counts =
        by_header (has_header mode v.1) refl split (tables-thread vs)
      where
        by_header : (c : Bool) → has_header mode v.1 ≡ c
            → headed mode t ≡ before ++ (if c then v.1 ∷ filter (has_header mode) (map (λ (v : PlacedVisit). v.1) vs)
            else filter (has_header mode) (map (λ (v : PlacedVisit). v.1) vs))
            → ((before : List Visit) (A : List Path) (b : Path) (is_first : Bool)
            → headed mode t ≡ before ++ filter (has_header mode) (map (λ (v : PlacedVisit). v.1) vs)
            → AllByRecursion (λ (v : PlacedVisit). IsPlaced v.1) vs → Counts A before
            → Threads (StandsIn K) A b (printed_tables mode is_first vs))
            → Threads (StandsIn K) A b
            (((if c then own_header mode is_first v.1 ∷ [] else []) ++ map (printed_line mode v.1.path) (lines_of mode v.1))
            ++ printed_tables mode (is_first && is_empty (printed_table mode is_first v.1)) vs)
        by_header true e split more =
            let stands = header-stands A b before is_first v.1 (filter (has_header mode) (map (λ (v : PlacedVisit). v.1) vs)) split placed.0
            counts in (
              record { block = stands.block; says = stands.says },
              subst (λ q. Threads (StandsIn K) (arrays_after A (header_statement mode is_first v.1)) q
                  (map (printed_line mode v.1.path) (lines_of mode v.1)
                  ++ printed_tables mode (is_first && is_empty (printed_table mode is_first v.1)) vs)) (sym stands.block)
                  (lines-thread K (arrays_after A (header_statement mode is_first v.1)) v.1.path (lines_of mode v.1)
                  (printed_tables mode (is_first && is_empty (printed_table mode is_first v.1)) vs)
                  (lines-at v.1 placed.0.0.0.0 placed.0.0.0.1 placed.0.0.1)
                  (more (before ++ (v.1 ∷ [])) (arrays_after A (header_statement mode is_first v.1)) v.1.path (is_first
                  && is_empty (printed_table mode is_first v.1))
                  (split ∙ sym (append_assoc before (v.1 ∷ []) (filter (has_header mode) (map (λ (v : PlacedVisit). v.1) vs)))) placed.1
                  stands.counts)),
            )
        by_header false e split more =
            subst (λ ls. Threads (StandsIn K) A b (map (printed_line mode v.1.path) ls
            ++ printed_tables mode (is_first && is_empty (printed_table mode is_first v.1)) vs)) (sym (no-lines v.1 placed.0.1 e))
            (more before A b (is_first && is_empty (printed_table mode is_first v.1)) split placed.1 counts)

  -- ---- the root is first

  pub order-is : (t : Tree) → IsFitting mode t → in_header_order t ≡ root_placed t ∷ after_root t
  order-is t fitting =
      ap (sorted_by comes_before) (if-false t.root.is_dotted (places_from (pos 0) (slots_walk t.slots [] [])) _
      (not-true t.root.is_dotted (and_left (not t.root.is_dotted) _ fitting.fits.undotted)))
      ∙ root-first (root_placed t) (after_root t) refl

  -- the tables after the root are placed
  pub after-placed : (t : Tree) (fitting : IsFitting mode t) → AllByRecursion (λ (v : PlacedVisit). IsPlaced t fitting v.1) (after_root t)
  after-placed t fitting =
      let W = slots_walk t.slots [] [] in
      let facts : AllByRecursion (λ v. (tree_at t v × IsVisit v) × (is_root v ≡ false)) W =
      all-both (λ v. tree_at t v × IsVisit v) (λ v. is_root v ≡ false) W
      (all-both (tree_at t) IsVisit W (walk-at t fitting.made).1 (slots_walk-is t.slots [] [] fitting.made tt))
      (all-map (λ v. tree_at t v × ([] ≡ v.path → ⊥)) (λ v. is_root v ≡ false) W (λ v h. keyed-trail v h.0.trail h.0.path h.0.keys h.1)
      (all-both (tree_at t) (λ v. [] ≡ v.path → ⊥) W (walk-at t fitting.made).1 (walk-apart t fitting.made).0)) in
      let seen = place_of (pos 0) (visit_of [] [] false t.root t.slots) in
      all-sorted (λ (v : PlacedVisit). IsPlaced t fitting v.1) comes_before (places_from seen W)
      (all-map (λ (v : PlacedVisit). ((tree_at t v.1 × IsVisit v.1) × (is_root v.1 ≡ false))
      × (v.1.fields.is_dotted ≡ false)) (λ (v : PlacedVisit). IsPlaced t fitting v.1) (places_from seen W)
      (λ v h. ((h.0.0, h.1), h.0.1))
      (places-all (λ v. (tree_at t v × IsVisit v) × (is_root v ≡ false)) seen W facts))

  -- Each printed statement is read in the block of its table, and says what suits the tree.
  pub printed-thread : (t : Tree) → IsFitting mode t → Threads (StandsIn (tree_spot t.slots)) [] [] (printed mode t)
  printed-thread t fitting =
      let root = root_placed t in
      let split : headed mode t ≡ [] ++ filter (has_header mode) (map (λ (v : PlacedVisit). v.1) (after_root t)) =
      ap (λ (vs : List PlacedVisit). filter (has_header mode) (map (λ (v : PlacedVisit). v.1) vs)) (order-is t fitting) in
      subst (λ vs. Threads (StandsIn (tree_spot t.slots)) [] [] (printed_tables mode true vs)) (sym (order-is t fitting))
      (lines-thread (tree_spot t.slots) [] [] (lines_of mode root.1) (printed_tables mode (true
      && is_empty (printed_table mode true root.1)) (after_root t))
      (table-at mode (tree_spot t.slots) t.slots [] [] fitting.made tt (tree-sees t.slots))
      (tables-thread t fitting (after_root t) [] [] [] (true
      && is_empty (printed_table mode true root.1)) split (after-placed t fitting) (λ q. refl)))
