-- The walk finds those headers that are printed too early for one before them.
use Rattle.std.proofs.Common.{◌≡◌, refl, sym, ◌∙◌, ap, subst, ℕ, suc, ℤ, Bool, true, false, List, [], ◌∷◌, ◌++◌, append_assoc, Option, None}
use Rattle.std.specs.Prelude.{◌&&◌, ◌||◌, not, int_le, filter, map, if◌then◌else◌}
use Rattle.std.specs.List.{AllByRecursion, list_any}
use Rattle.std.specs.Fmt.{decimal}
use Rattle.std.proofs.lemmas.List.{map-append}
use Rattle.toml_edit_model.specs.Mode.{Mode}
use Rattle.toml_edit_model.specs.Text.{Text}
use Rattle.toml_edit_model.specs.Keys.{new_key}
use Rattle.toml_edit_model.specs.Paths.{Path, to_key, to_element}
use Rattle.toml_edit_model.specs.Tree.{Key, TableFields, Node, nothing, leaf, list, inline, table, tables, Items, no_items, item, Slots}
use Rattle.toml_edit_model.specs.Tree.{no_slots, slot, Tree}
use Rattle.toml_edit_model.specs.HeaderOrder.{Visit, PlacedVisit, visit_of, node_walk, items_walk, slots_walk, place_of, places_from}
use Rattle.toml_edit_model.specs.Fits.{is_too_late}
use Rattle.toml_edit_laws.specs.PrintByVisits.{has_own_header}
use Rattle.toml_edit_laws.proofs.common.Each.{all-map}
use Rattle.toml_edit_laws.proofs.common.Pairs.{all-across}
use Rattle.toml_edit_laws.proofs.common.PathLaws.{is_front, front-refl}
use Rattle.toml_edit_laws.proofs.accepted_prints.WalkPaths.{InNode, InSlots, InItems, node-in, items-in, slots-in, is_item_of}
use Rattle.toml_edit_laws.proofs.print_by_visits.WalkOnce.{seen_after, shows_header}
use Rattle.toml_edit_fits.specs.declared.misfit.FitRule.TheVariants as rule
use Rattle.toml_edit_fits.specs.declared.order.Marks.{Marks}
use Rattle.toml_edit_fits.specs.FitTests.{no_keys}
use Rattle.toml_edit_fits.specs.OrderTests.{NodeIsApart, ItemsAreApart, SlotsAreApart, reaches, later, marks_of, place_in, root_marks}
use Rattle.toml_edit_fits.specs.Misfits.{MisfitView, unless, below, Located, in_step, located_slots, located_node, located_items, Headed}
use Rattle.toml_edit_fits.specs.Misfits.{headed_from, is_too_early, early_after, misfits, root_misfits, tables_misfits}
use Rattle.toml_edit_fits.specs.EarlyTests.{is_in_order, marks_past, low_in, past_array, past_slots, past_node, past_items, past_item}
use Rattle.toml_edit_fits.specs.EarlyTests.{early_slots, early_node, early_items, early_item, walked_misfits}
use Rattle.toml_edit_fits.proofs.LatePaths.{in-slots-node, below-late, slots-late, items-late, below-no_item, own-item}
use Rattle.toml_edit_fits.proofs.OrderLaws.{heads, highest_after, latest-highest, reach-later, marks_after, marks-append}

-- ---- the marks after a walk

one-mark : (is_element : Bool) (m : Marks) (p : Path) (ks : List Key) (f : TableFields) (ss : Slots) → marks_past is_element m f ss
    ≡ marks_after m (visit_of p ks is_element f ss ∷ [])
one-mark is_element m p ks f ss = by_dot f.is_dotted
  where
    by_header : (h : Bool)
        → (if h then marks_of (place_in m f) (later m.highest (place_in m f)) else marks_of (place_in m f) m.highest)
        ≡ marks_of (place_in m f) (highest_after m.highest (if h then (place_in m f, visit_of p ks is_element f ss) ∷ [] else []))
    by_header true = refl
    by_header false = refl

    by_dot : (d : Bool)
        → (if d then m else if has_own_header is_element f ss then marks_of (place_in m f) (later m.highest (place_in m f))
        else marks_of (place_in m f) m.highest)
        ≡ marks_of (if d then m.seen else place_in m f) (highest_after m.highest (filter shows_header (if d then []
        else (place_in m f, visit_of p ks is_element f ss) ∷ [])))
    by_dot true = refl
    by_dot false = by_header (has_own_header is_element f ss)

mutual
  pub past-slots : (ss : Slots) (p : Path) (ks : List Key) (m : Marks) → past_slots m ss ≡ marks_after m (slots_walk ss p ks)
  past-slots no_slots p ks m = refl
  past-slots (slot k n ss) p ks m =
      let first = node_walk n (to_key p k.name) (ks ++ (k ∷ [])) false in
      ap (λ w. past_slots w ss) (past-node n (to_key p k.name) (ks ++ (k ∷ [])) m)
      ∙ (past-slots ss p ks (marks_after m first) ∙ marks-append m first (slots_walk ss p ks))

  past-node : (n : Node) (p : Path) (ks : List Key) (m : Marks) → past_node m n ≡ marks_after m (node_walk n p ks false)
  past-node (table f ss) p ks m =
      let v = visit_of p ks false f ss in
      ap (λ w. past_slots w ss) (one-mark false m p ks f ss)
      ∙ (past-slots ss p ks (marks_after m (v ∷ [])) ∙ marks-append m (v ∷ []) (slots_walk ss p ks))
  past-node (tables e xs) p ks m =
      let us = items_walk xs p ks 0 in
      ap (past_array m) (past-items xs p ks 0 (marks_of m.seen None))
      ∙ ap (marks_of (seen_after m.seen us)) (latest-highest (heads m.seen us) m.highest None)
  past-node (leaf s x d) p ks m = refl
  past-node (list f xs) p ks m = refl
  past-node (inline f ss) p ks m = refl
  past-node nothing p ks m = refl

  past-items : (xs : Items) (p : Path) (ks : List Key) (i : ℕ) (m : Marks) → past_items m xs ≡ marks_after m (items_walk xs p ks i)
  past-items no_items p ks i m = refl
  past-items (item (table f ss) xs) p ks i m =
      let us = visit_of (to_element p i) ks true f ss ∷ slots_walk ss (to_element p i) ks in
      let q = to_element p i in
      let v = visit_of q ks true f ss in
      ap (λ w. past_items w xs) (ap (λ w. past_slots w ss) (one-mark true m q ks f ss)
      ∙ (past-slots ss q ks (marks_after m (v ∷ [])) ∙ marks-append m (v ∷ []) (slots_walk ss q ks)))
      ∙ (past-items xs p ks (suc i) (marks_after m us) ∙ marks-append m us (items_walk xs p ks (suc i)))
  past-items (item (tables e us) xs) p ks i m = past-items xs p ks i m
  past-items (item (leaf s x d) xs) p ks i m = past-items xs p ks i m
  past-items (item (list f us) xs) p ks i m = past-items xs p ks i m
  past-items (item (inline f us) xs) p ks i m = past-items xs p ks i m
  past-items (item nothing xs) p ks i m = past-items xs p ks i m

past-element : (f : TableFields) (ss : Slots) (p : Path) (ks : List Key) (i : ℕ) (m : Marks)
    → past_item m (table f ss) ≡ marks_after m (visit_of (to_element p i) ks true f ss ∷ slots_walk ss (to_element p i) ks)
past-element f ss p ks i m =
    let q = to_element p i in
    let v = visit_of q ks true f ss in
    ap (λ w. past_slots w ss) (one-mark true m q ks f ss)
    ∙ (past-slots ss q ks (marks_after m (v ∷ [])) ∙ marks-append m (v ∷ []) (slots_walk ss q ks))

-- ---- located tables

abbrev pub visits : List Located → List Visit
visits xs = map (λ (x : Located). x.1) xs

abbrev pub placed : List Headed → List PlacedVisit
placed hs = map (λ (x : Headed). x.1) hs

abbrev under : Text → Headed → Headed
under k x = (k ∷ x.0, x.1)

visits-step : (k : Text) (xs : List Located) → visits (map (in_step k) xs) ≡ visits xs
visits-step k [] = refl
visits-step k (x ∷ xs) = ap (λ vs. x.1 ∷ vs) (visits-step k xs)

visits-both : (k : Text) (xs ys : List Located) (us vs : List Visit) → visits xs ≡ us → visits ys ≡ vs → visits (map (in_step k) xs ++ ys)
    ≡ us ++ vs
visits-both k xs ys us vs e g =
    map-append (λ (x : Located). x.1) (map (in_step k) xs) ys ∙ (ap (λ ws. ws ++ visits ys) (visits-step k xs ∙ e) ∙ ap (λ ws. us ++ ws) g)

mutual
  pub visits-slots : (ss : Slots) (p : Path) (ks : List Key) → visits (located_slots ss p ks) ≡ slots_walk ss p ks
  visits-slots no_slots p ks = refl
  visits-slots (slot k n ss) p ks =
      visits-both k.name (located_node n (to_key p k.name) (ks ++ (k ∷ []))) (located_slots ss p ks) (node_walk n (to_key p k.name) (ks
      ++ (k ∷ [])) false) (slots_walk ss p ks)
      (visits-node n (to_key p k.name) (ks ++ (k ∷ []))) (visits-slots ss p ks)

  visits-node : (n : Node) (p : Path) (ks : List Key) → visits (located_node n p ks) ≡ node_walk n p ks false
  visits-node (table f ss) p ks = ap (λ vs. visit_of p ks false f ss ∷ vs) (visits-slots ss p ks)
  visits-node (tables e xs) p ks = visits-items xs p ks 0 0
  visits-node (leaf s x d) p ks = refl
  visits-node (list f xs) p ks = refl
  visits-node (inline f ss) p ks = refl
  visits-node nothing p ks = refl

  visits-items : (xs : Items) (p : Path) (ks : List Key) (at i : ℕ) → visits (located_items at xs p ks i) ≡ items_walk xs p ks i
  visits-items no_items p ks at i = refl
  visits-items (item (table f ss) xs) p ks at i =
      let q = to_element p i in
      let v = visit_of q ks true f ss in
      visits-both (decimal at) (([], v) ∷ located_slots ss q ks) (located_items (suc at) xs p ks (suc i)) (v
      ∷ slots_walk ss q ks) (items_walk xs p ks (suc i))
      (ap (λ vs. v ∷ vs) (visits-slots ss q ks)) (visits-items xs p ks (suc at) (suc i))
  visits-items (item (tables e us) xs) p ks at i = visits-items xs p ks (suc at) i
  visits-items (item (leaf s x d) xs) p ks at i = visits-items xs p ks (suc at) i
  visits-items (item (list f us) xs) p ks at i = visits-items xs p ks (suc at) i
  visits-items (item (inline f us) xs) p ks at i = visits-items xs p ks (suc at) i
  visits-items (item nothing xs) p ks at i = visits-items xs p ks (suc at) i

-- ---- those with headers

headed-append : (xs ys : List Located) (seen : ℤ) → headed_from seen (xs ++ ys) ≡ headed_from seen xs
    ++ headed_from (seen_after seen (visits xs)) ys
headed-append [] ys seen = refl
headed-append (x ∷ xs) ys seen =
    by_tests x.1.fields.is_dotted (has_own_header x.1.is_element x.1.fields x.1.slots) (λ s. headed-append xs ys s)
  where
    by_tests : (d h : Bool) → ((s : ℤ) → headed_from s (xs ++ ys) ≡ headed_from s xs ++ headed_from (seen_after s (visits xs)) ys)
        → (if d then headed_from seen (xs ++ ys) else if h then (x.0, (place_of seen x.1, x.1)) ∷ headed_from (place_of seen x.1) (xs ++ ys)
        else headed_from (place_of seen x.1) (xs ++ ys))
        ≡ (if d then headed_from seen xs else if h then (x.0, (place_of seen x.1, x.1)) ∷ headed_from (place_of seen x.1) xs
        else headed_from (place_of seen x.1) xs)
        ++ headed_from (seen_after (if d then seen else place_of seen x.1) (visits xs)) ys
    by_tests true h ih = ih seen
    by_tests false true ih = ap (λ (hs : List Headed). (x.0, (place_of seen x.1, x.1)) ∷ hs) (ih (place_of seen x.1))
    by_tests false false ih = ih (place_of seen x.1)

headed-step : (k : Text) (xs : List Located) (seen : ℤ) → headed_from seen (map (in_step k) xs) ≡ map (under k) (headed_from seen xs)
headed-step k [] seen = refl
headed-step k (x ∷ xs) seen =
    by_tests x.1.fields.is_dotted (has_own_header x.1.is_element x.1.fields x.1.slots) (λ s. headed-step k xs s)
  where
    by_tests : (d h : Bool) → ((s : ℤ) → headed_from s (map (in_step k) xs) ≡ map (under k) (headed_from s xs))
        → (if d then headed_from seen (map (in_step k) xs) else if h then (k ∷ x.0, (place_of seen x.1, x.1))
        ∷ headed_from (place_of seen x.1) (map (in_step k) xs) else headed_from (place_of seen x.1) (map (in_step k) xs))
        ≡ map (under k) (if d then headed_from seen xs else if h then (x.0, (place_of seen x.1, x.1)) ∷ headed_from (place_of seen x.1) xs
        else headed_from (place_of seen x.1) xs)
    by_tests true h ih = ih seen
    by_tests false true ih = ap (λ (hs : List Headed). (k ∷ x.0, (place_of seen x.1, x.1)) ∷ hs) (ih (place_of seen x.1))
    by_tests false false ih = ih (place_of seen x.1)

headed-all : (P : Visit → Type 0) (xs : List Located) (seen : ℤ) → AllByRecursion P (visits xs)
    → AllByRecursion (λ (y : Headed). P y.1.1) (headed_from seen xs)
headed-all P [] seen h = tt
headed-all P (x ∷ xs) seen h =
    by_tests x.1.fields.is_dotted (has_own_header x.1.is_element x.1.fields x.1.slots) (λ s. headed-all P xs s h.1)
  where
    by_tests : (d t : Bool) → ((s : ℤ) → AllByRecursion (λ (y : Headed). P y.1.1) (headed_from s xs))
        → AllByRecursion (λ (y : Headed). P y.1.1)
        (if d then headed_from seen xs else if t then (x.0, (place_of seen x.1, x.1)) ∷ headed_from (place_of seen x.1) xs
        else headed_from (place_of seen x.1) xs)
    by_tests true t ih = ih seen
    by_tests false true ih = (h.0, ih (place_of seen x.1))
    by_tests false false ih = ih (place_of seen x.1)

pub headed-placed : (xs : List Located) (seen : ℤ) → placed (headed_from seen xs) ≡ heads seen (visits xs)
headed-placed [] seen = refl
headed-placed (x ∷ xs) seen = by_dot x.1.fields.is_dotted (headed-placed xs seen) (headed-placed xs (place_of seen x.1))
  where
    by_header : (t : Bool) → placed (headed_from (place_of seen x.1) xs) ≡ heads (place_of seen x.1) (visits xs)
        → placed (if t then (x.0, (place_of seen x.1, x.1)) ∷ headed_from (place_of seen x.1) xs else headed_from (place_of seen x.1) xs)
        ≡ (if t then (place_of seen x.1, x.1) ∷ heads (place_of seen x.1) (visits xs) else heads (place_of seen x.1) (visits xs))
    by_header true h = ap (λ (hs : List PlacedVisit). (place_of seen x.1, x.1) ∷ hs) h
    by_header false h = h

    by_dot : (d : Bool) → placed (headed_from seen xs) ≡ heads seen (visits xs) → placed (headed_from (place_of seen x.1) xs)
        ≡ heads (place_of seen x.1) (visits xs)
        → placed (if d then headed_from seen xs else if has_own_header x.1.is_element x.1.fields x.1.slots
        then (x.0, (place_of seen x.1, x.1)) ∷ headed_from (place_of seen x.1) xs else headed_from (place_of seen x.1) xs)
        ≡ filter shows_header (if d then places_from seen (visits xs) else (place_of seen x.1, x.1)
        ∷ places_from (place_of seen x.1) (visits xs))
    by_dot true h g = h
    by_dot false h g = by_header (has_own_header x.1.is_element x.1.fields x.1.slots) g

-- ---- those that are too early for one before them, or by a test

abbrev Test : Type 0
Test = PlacedVisit → Bool

abbrev late_too : PlacedVisit → Test → Test
late_too x c z = is_too_early x z || c z

abbrev among : Test → List Headed → List MisfitView
among c [] = []
among c (y ∷ hs) = (if c y.1 then record { path = map new_key y.0; rule = rule.Order } ∷ [] else []) ++ among (late_too y.1 c) hs

abbrev after : Test → List Headed → Test
after c [] = c
after c (y ∷ hs) = after (late_too y.1 c) hs

early-among : (before : List PlacedVisit) (hs : List Headed) → early_after before hs
    ≡ among (λ z. list_any (λ x. is_too_early x z) before) hs
early-among before [] = refl
early-among before (y ∷ hs) =
    ap (λ ms. (if list_any (λ x. is_too_early x y.1) before then record { path = map new_key y.0; rule = rule.Order } ∷ [] else [])
    ++ ms) (early-among (y.1 ∷ before) hs)

among-append : (hs gs : List Headed) (c : Test) → among c (hs ++ gs) ≡ among c hs ++ among (after c hs) gs
among-append [] gs c = refl
among-append (y ∷ hs) gs c =
    let one : List MisfitView = if c y.1 then record { path = map new_key y.0; rule = rule.Order } ∷ [] else [] in
    ap (λ ms. one ++ ms) (among-append hs gs (late_too y.1 c))
    ∙ sym (append_assoc one (among (late_too y.1 c) hs) (among (after (late_too y.1 c) hs) gs))

among-alike : (hs : List Headed) (c d : Test) → AllByRecursion (λ (y : Headed). c y.1 ≡ d y.1) hs → among c hs ≡ among d hs
among-alike [] c d h = refl
among-alike (y ∷ hs) c d h =
    ap (λ b. (if b then record { path = map new_key y.0; rule = rule.Order } ∷ [] else []) ++ among (late_too y.1 c) hs) h.0
    ∙ ap (λ ms. (if d y.1 then record { path = map new_key y.0; rule = rule.Order } ∷ [] else []) ++ ms)
    (among-alike hs (late_too y.1 c) (late_too y.1 d)
    (all-map (λ (z : Headed). c z.1 ≡ d z.1) (λ (z : Headed). late_too y.1 c z.1
    ≡ late_too y.1 d z.1) hs (λ z e. ap (λ b. is_too_early y.1 z.1 || b) e) h.1))

among-step : (k : Text) (hs : List Headed) (c : Test) → among c (map (under k) hs) ≡ below k (among c hs)
among-step k [] c = refl
among-step k (y ∷ hs) c = by_test (c y.1) (among-step k hs (late_too y.1 c))
  where
    by_test : (b : Bool) → among (late_too y.1 c) (map (under k) hs) ≡ below k (among (late_too y.1 c) hs)
        → (if b then record { path = new_key k ∷ map new_key y.0; rule = rule.Order } ∷ [] else [])
        ++ among (late_too y.1 c) (map (under k) hs)
        ≡ below k ((if b then record { path = map new_key y.0; rule = rule.Order } ∷ [] else []) ++ among (late_too y.1 c) hs)
    by_test true h = ap (λ (ms : List MisfitView). record { path = new_key k ∷ map new_key y.0; rule = rule.Order } ∷ ms) h
    by_test false h = h

after-calm : (hs : List Headed) (c : Test) (z : PlacedVisit) → AllByRecursion (λ (x : Headed). is_too_early x.1 z ≡ false) hs → after c hs z
    ≡ c z
after-calm [] c z h = refl
after-calm (x ∷ hs) c z h = after-calm hs (late_too x.1 c) z h.1 ∙ ap (λ b. b || c z) h.0

after-alike : (hs : List Headed) (c d : Test) (z : PlacedVisit) → c z ≡ d z → after c hs z ≡ after d hs z
after-alike [] c d z h = h
after-alike (x ∷ hs) c d z h = after-alike hs (late_too x.1 c) (late_too x.1 d) z (ap (λ b. is_too_early x.1 z || b) h)

-- two parts of a walk
parts : (c d : Test) (xs ys : List Located) (seen next : ℤ) → seen_after seen (visits xs) ≡ next
    → AllByRecursion (λ (y : Headed). after c (headed_from seen xs) y.1 ≡ d y.1) (headed_from next ys)
    → among c (headed_from seen (xs ++ ys)) ≡ among c (headed_from seen xs) ++ among d (headed_from next ys)
parts c d xs ys seen next e h =
    ap (among c) (headed-append xs ys seen ∙ ap (λ s. headed_from seen xs ++ headed_from s ys) e)
    ∙ (among-append (headed_from seen xs) (headed_from next ys) c
    ∙ ap (λ ms. among c (headed_from seen xs) ++ ms) (among-alike (headed_from next ys) (after c (headed_from seen xs)) d h))

-- of which none is too late after one of the other
calm-parts : (P Q : Visit → Type 0) (c : Test) (xs ys : List Located) (seen next : ℤ)
    → ((x y : Visit) → P x → Q y → is_too_late y x ≡ false)
    → AllByRecursion P (visits xs) → AllByRecursion Q (visits ys)
    → AllByRecursion (λ (y : Headed). after c (headed_from seen xs) y.1 ≡ c y.1) (headed_from next ys)
calm-parts P Q c xs ys seen next calm ps qs =
    all-map (λ (y : Headed). AllByRecursion (λ (x : Headed). is_too_early x.1 y.1 ≡ false) (headed_from seen xs))
    (λ (y : Headed). after c (headed_from seen xs) y.1 ≡ c y.1) (headed_from next ys)
    (λ y h. after-calm (headed_from seen xs) c y.1 h)
    (all-across (λ (y : Headed). Q y.1.1) (λ (x : Headed). P x.1.1) (λ (y x : Headed). is_too_early x.1 y.1
    ≡ false) (headed_from next ys) (headed_from seen xs)
    (λ y x q r. ap (λ b. b && not (int_le x.1.0 y.1.0)) (calm x.1.1 y.1.1 r q)) (headed-all Q ys next qs) (headed-all P xs seen ps))

-- ---- the tests of a walk

-- before the first place below an element
abbrev too_low : Option ℤ → Test
too_low low y = not (reaches low y.0)

-- or, of an element of the array at the path, before the latest place in an earlier element
abbrev too_soon : Option ℤ → Option ℤ → Path → Test
too_soon low high p y = not (reaches low y.0) || (is_item_of p y.1 && not (reaches high y.0))

later-test : (high : Option ℤ) (x z : ℤ) → reaches (later high x) z ≡ (reaches high z && int_le x z)
later-test high x z =
    same (reaches (later high x) z) (reaches high z) (int_le x z)
    (λ h. (reach-later high x z).0 h) (λ h. (reach-later high x z).1 h)
  where
    same : (a b c : Bool) → (a ≡ true → (b ≡ true) × (c ≡ true)) → ((b ≡ true) × (c ≡ true) → a ≡ true) → a ≡ (b && c)
    same true true true f g = refl
    same true true false f g = sym (f refl).1
    same true false c f g = sym (f refl).0
    same false true true f g = g (refl, refl)
    same false true false f g = refl
    same false false c f g = refl

-- one more element is before
soon-later : (low high : Option ℤ) (p : Path) (x z : PlacedVisit) → is_too_late z.1 x.1 ≡ is_item_of p z.1
    → late_too x (too_soon low high p) z ≡ too_soon low (later high x.0) p z
soon-later low high p x z h =
    ap (λ b. (b && not (int_le x.0 z.0)) || (not (reaches low z.0) || (is_item_of p z.1 && not (reaches high z.0)))) h
    ∙ (turned (is_item_of p z.1) (int_le x.0 z.0) (reaches low z.0) (reaches high z.0)
    ∙ ap (λ b. not (reaches low z.0) || (is_item_of p z.1 && not b)) (sym (later-test high x.0 z.0)))
  where
    turned : (i a l g : Bool) → ((i && not a) || (not l || (i && not g))) ≡ (not l || (i && not (g && a)))
    turned true true true true = refl
    turned true true true false = refl
    turned true true false g = refl
    turned true false true true = refl
    turned true false true false = refl
    turned true false false g = refl
    turned false a l g = refl

after-soon : (hs : List Headed) (low high : Option ℤ) (p : Path) (z : PlacedVisit)
    → AllByRecursion (λ (x : Headed). is_too_late z.1 x.1.1 ≡ is_item_of p z.1) hs
    → after (too_soon low high p) hs z ≡ too_soon low (highest_after high (placed hs)) p z
after-soon [] low high p z h = refl
after-soon (x ∷ hs) low high p z h =
    after-alike hs (late_too x.1 (too_soon low high p)) (too_soon low (later high x.1.0) p) z (soon-later low high p x.1 z h.0)
    ∙ after-soon hs low (later high x.1.0) p z h.1

no-item : (low high : Option ℤ) (p : Path) (z : PlacedVisit) → is_item_of p z.1 ≡ false → too_soon low high p z ≡ too_low low z
no-item low high p z h = ap (λ b. not (reaches low z.0) || (b && not (reaches high z.0))) h ∙ alone (not (reaches low z.0))
  where
    alone : (a : Bool) → (a || false) ≡ a
    alone true = refl
    alone false = refl

none-before : (low : Option ℤ) (p : Path) (z : PlacedVisit) → too_soon low None p z ≡ too_low low z
none-before low p z = alone (not (reaches low z.0)) (is_item_of p z.1)
  where
    alone : (a b : Bool) → (a || (b && false)) ≡ a
    alone true b = refl
    alone false true = refl
    alone false false = refl

-- below an element
low-later : (low high : Option ℤ) (p : Path) (x z : PlacedVisit) → is_item_of p z.1 ≡ false → is_too_late z.1 x.1 ≡ true
    → late_too x (too_soon low high p) z ≡ too_low (later low x.0) z
low-later low high p x z h g =
    ap (λ b. (b && not (int_le x.0 z.0)) || too_soon low high p z) g
    ∙ (ap (λ b. not (int_le x.0 z.0) || b) (no-item low high p z h)
    ∙ (turned (int_le x.0 z.0) (reaches low z.0) ∙ ap not (sym (later-test low x.0 z.0))))
  where
    turned : (a l : Bool) → (not a || not l) ≡ not (l && a)
    turned true true = refl
    turned true false = refl
    turned false true = refl
    turned false false = refl

-- ---- a table's own header

own-early : (low : Option ℤ) (m : Marks) (p : Path) (ks : List Key) (f : TableFields) (ss : Slots)
    → unless (is_in_order false low m f ss) rule.Order ≡ among (too_low low) (headed_from m.seen (([], visit_of p ks false f ss) ∷ []))
own-early low m p ks f ss = by_tests f.is_dotted (has_own_header false f ss)
  where
    by_reach : (r : Bool) → unless (r && true) rule.Order ≡ (if not r then record { path = []; rule = rule.Order } ∷ [] else []) ++ []
    by_reach true = refl
    by_reach false = refl

    by_tests : (d h : Bool) → unless ((d || not h) || (reaches low (place_in m f) && true)) rule.Order
        ≡ among (too_low low) (if d then [] else if h then ([], (place_in m f, visit_of p ks false f ss)) ∷ [] else [])
    by_tests true h = refl
    by_tests false true = by_reach (reaches low (place_in m f))
    by_tests false false = refl

element-early : (low : Option ℤ) (m : Marks) (p : Path) (i : ℕ) (ks : List Key) (f : TableFields) (ss : Slots)
    → unless (is_in_order true low m f ss) rule.Order ≡ among (too_soon low m.highest p)
    (headed_from m.seen (([], visit_of (to_element p i) ks true f ss) ∷ []))
element-early low m p i ks f ss = by_dot f.is_dotted
  where
    v : Visit
    v = visit_of (to_element p i) ks true f ss

    mine : is_item_of p (visit_of (to_element p i) ks true f ss) ≡ true
    mine = own-item p i (visit_of (to_element p i) ks true f ss) refl refl

    by_reach : (r h : Bool) → unless (r && h) rule.Order ≡ (if not r || not h then record { path = []; rule = rule.Order } ∷ [] else [])
        ++ []
    by_reach true true = refl
    by_reach true false = refl
    by_reach false h = refl

    by_dot : (d : Bool) → unless ((d || false) || (reaches low (place_in m f) && reaches m.highest (place_in m f))) rule.Order
        ≡ among (too_soon low m.highest p) (if d then [] else ([], (place_in m f, visit_of (to_element p i) ks true f ss)) ∷ [])
    by_dot true = refl
    by_dot false =
        by_reach (reaches low (place_in m f)) (reaches m.highest (place_in m f))
        ∙ sym (ap (λ b. (if not (reaches low (place_in m f)) || (b && not (reaches m.highest (place_in m f)))
        then record { path = []; rule = rule.Order } ∷ [] else []) ++ []) mine)

-- the tables below an element
below-element : (low : Option ℤ) (m : Marks) (p : Path) (i : ℕ) (ks : List Key) (f : TableFields) (ss : Slots) (next : ℤ)
    → AllByRecursion (λ (y : Headed). after (too_soon low m.highest p) (headed_from m.seen (([], visit_of (to_element p i) ks true f ss)
    ∷ [])) y.1 ≡ too_low (low_in low m f) y.1)
    (headed_from next (located_slots ss (to_element p i) ks))
below-element low m p i ks f ss next =
    all-map (λ (y : Headed). InSlots (to_element p i) ss y.1.1)
    (λ (y : Headed). after (too_soon low m.highest p) (headed_from m.seen (([], v) ∷ [])) y.1 ≡ too_low (low_in low m f) y.1)
    (headed_from next (located_slots ss (to_element p i) ks)) each
    (headed-all (InSlots (to_element p i) ss) (located_slots ss (to_element p i) ks) next
    (subst (AllByRecursion (InSlots (to_element p i) ss)) (sym (visits-slots ss (to_element p i) ks)) (slots-in ss (to_element p i) ks)))
  where
    v : Visit
    v = visit_of (to_element p i) ks true f ss

    each : (y : Headed) → InSlots (to_element p i) ss y.1.1
        → after (too_soon low m.highest p) (headed_from m.seen (([], visit_of (to_element p i) ks true f ss) ∷ [])) y.1
        ≡ too_low (low_in low m f) y.1
    each y h = by_dot f.is_dotted
      where
        by_dot : (d : Bool) → after (too_soon low m.highest p) (if d then []
            else ([], (place_in m f, visit_of (to_element p i) ks true f ss)) ∷ []) y.1
            ≡ too_low (if d then low else later low (place_in m f)) y.1
        by_dot true = no-item low m.highest p y.1 (below-no_item p i ss y.1.1 h)
        by_dot false =
            low-later low m.highest p (place_in m f, visit_of (to_element p i) ks true f ss) y.1 (below-no_item p i ss y.1.1 h)
            (below-late (to_element p i) ss (visit_of (to_element p i) ks true f ss) y.1.1 refl h)

-- ---- the walk

any-all : {A : Type 0} (P : A → Type 0) (f : (x : A) → P x) (xs : List A) → AllByRecursion P xs
any-all P f [] = tt
any-all P f (x ∷ xs) = (f x, any-all P f xs)

mutual
  pub early-slots : (ss : Slots) (p : Path) (ks : List Key) (low : Option ℤ) (m : Marks) → SlotsAreApart ss
      → early_slots low m ss ≡ among (too_low low) (headed_from m.seen (located_slots ss p ks))
  early-slots no_slots p ks low m apart = refl
  early-slots (slot k n ss) p ks low m apart =
      let q = to_key p k.name in
      let ls = ks ++ (k ∷ []) in
      let first = map (in_step k.name) (located_node n q ls) in
      let rest = located_slots ss p ks in
      let w = past_node m n in
      let seen : seen_after m.seen (visits first) ≡ w.seen =
      ap (seen_after m.seen) (visits-step k.name (located_node n q ls) ∙ visits-node n q ls)
      ∙ ap (λ (x : Marks). x.seen) (sym (past-node n q ls m)) in
      let firsts = subst (AllByRecursion (InNode q)) (sym (visits-step k.name (located_node n q ls) ∙ visits-node n q ls))
      (node-in n q ls) in
      let rests = subst (AllByRecursion (InSlots p ss)) (sym (visits-slots ss p ks)) (slots-in ss p ks) in
      ap (λ ms. below k.name ms ++ early_slots low w ss) (early-node n q ls low m apart.1)
      ∙ (ap (λ ms. below k.name (among (too_low low) (headed_from m.seen (located_node n q ls))) ++ ms) (early-slots ss p ks low w apart.2)
      ∙ (ap (λ ms. ms ++ among (too_low low) (headed_from w.seen rest))
      (sym (among-step k.name (headed_from m.seen (located_node n q ls)) (too_low low))
      ∙ ap (among (too_low low)) (sym (headed-step k.name (located_node n q ls) m.seen)))
      ∙ sym (parts (too_low low) (too_low low) first rest m.seen w.seen seen
      (calm-parts (InNode q) (InSlots p ss) (too_low low) first rest m.seen w.seen (λ x y h g. slots-late p k.name ss x y apart.0 h g)
      firsts rests))))

  early-node : (n : Node) (p : Path) (ks : List Key) (low : Option ℤ) (m : Marks) → NodeIsApart n
      → early_node low m n ≡ among (too_low low) (headed_from m.seen (located_node n p ks))
  early-node (table f ss) p ks low m apart =
      let v = visit_of p ks false f ss in
      let one : List Located = ([], v) ∷ [] in
      let rest = located_slots ss p ks in
      let w = marks_past false m f ss in
      let seen : seen_after m.seen (v ∷ []) ≡ w.seen = ap (λ (x : Marks). x.seen) (sym (one-mark false m p ks f ss)) in
      let rests = subst (AllByRecursion (InSlots p ss)) (sym (visits-slots ss p ks)) (slots-in ss p ks) in
      ap (λ ms. ms ++ early_slots low w ss) (own-early low m p ks f ss)
      ∙ (ap (λ ms. among (too_low low) (headed_from m.seen one) ++ ms) (early-slots ss p ks low w apart)
      ∙ sym (parts (too_low low) (too_low low) one rest m.seen w.seen seen
      (calm-parts (λ x. (x.path ≡ p) × (x.is_element ≡ false)) (InSlots p ss) (too_low low) one rest m.seen w.seen
      (λ x y h g. below-late p ss x y h.0 g ∙ h.1) ((refl, refl), tt) rests)))
  early-node (tables e xs) p ks low m apart =
      early-items xs p ks 0 0 low (marks_of m.seen None) apart
      ∙ among-alike (headed_from m.seen (located_items 0 xs p ks 0)) (too_soon low None p) (too_low low)
      (any-all (λ (y : Headed). too_soon low None p y.1 ≡ too_low low y.1) (λ y. none-before low p y.1)
      (headed_from m.seen (located_items 0 xs p ks 0)))
  early-node (leaf s x d) p ks low m apart = refl
  early-node (list f xs) p ks low m apart = refl
  early-node (inline f ss) p ks low m apart = refl
  early-node nothing p ks low m apart = refl

  early-items : (xs : Items) (p : Path) (ks : List Key) (at i : ℕ) (low : Option ℤ) (m : Marks) → ItemsAreApart xs
      → early_items low m at xs ≡ among (too_soon low m.highest p) (headed_from m.seen (located_items at xs p ks i))
  early-items no_items p ks at i low m apart = refl
  early-items (item (table f ss) xs) p ks at i low m apart =
      let q = to_element p i in
      let v = visit_of q ks true f ss in
      let one : List Located = ([], v) ∷ [] in
      let inside = located_slots ss q ks in
      let all : List Located = ([], v) ∷ inside in
      let first = map (in_step (decimal at)) all in
      let rest = located_items (suc at) xs p ks (suc i) in
      let u = marks_past true m f ss in
      let w = past_item m (table f ss) in
      let us = v ∷ slots_walk ss q ks in
      let c = too_soon low m.highest p in
      let d = too_soon low w.highest p in
      let is : visits first ≡ us = visits-step (decimal at) all ∙ ap (λ vs. v ∷ vs) (visits-slots ss q ks) in
      let marks = past-element f ss p ks i m in
      let seen : seen_after m.seen (visits first) ≡ w.seen = ap (seen_after m.seen) is ∙ ap (λ (x : Marks). x.seen) (sym marks) in
      let high : highest_after m.highest (placed (headed_from m.seen first)) ≡ w.highest =
      ap (highest_after m.highest) (headed-placed first m.seen ∙ ap (heads m.seen) is) ∙ ap (λ (x : Marks). x.highest) (sym marks) in
      let firsts = headed-all (λ x. is_front q x.path ≡ true) first m.seen
      (subst (AllByRecursion (λ x. is_front q x.path ≡ true)) (sym is) (
        front-refl q,
        all-map (InSlots q ss) (λ x. is_front q x.path
            ≡ true) (slots_walk ss q ks) (λ x h. in-slots-node q ss x h) (slots-in ss q ks),
      )) in
      let rests = headed-all (InItems p (suc i)) rest w.seen
      (subst (AllByRecursion (InItems p (suc i))) (sym (visits-items xs p ks (suc at) (suc i))) (items-in xs p ks (suc i))) in
      let across = all-map (λ (y : Headed). AllByRecursion (λ (x : Headed). is_too_late y.1.1 x.1.1
      ≡ is_item_of p y.1.1) (headed_from m.seen first)) (λ (y : Headed). after c (headed_from m.seen first) y.1
      ≡ d y.1) (headed_from w.seen rest)
      (λ y h. after-soon (headed_from m.seen first) low m.highest p y.1 h ∙ ap (λ g. too_soon low g p y.1) high)
      (all-across (λ (y : Headed). InItems p (suc i) y.1.1) (λ (x : Headed). is_front q x.1.1.path
      ≡ true) (λ (y x : Headed). is_too_late y.1.1 x.1.1 ≡ is_item_of p y.1.1)
      (headed_from w.seen rest) (headed_from m.seen first) (λ y x g h. items-late p i x.1.1 y.1.1 h g) rests firsts) in
      let own : early_item low m (table f ss) ≡ among c (headed_from m.seen all) =
      ap (λ ms. ms ++ early_slots (low_in low m f) u ss) (element-early low m p i ks f ss)
      ∙ (ap (λ ms. among c (headed_from m.seen one) ++ ms) (early-slots ss q ks (low_in low m f) u apart.0)
      ∙ sym (parts c (too_low (low_in low m f)) one inside m.seen u.seen (ap (λ (x : Marks). x.seen) (sym (one-mark true m q ks f ss)))
      (below-element low m p i ks f ss u.seen))) in
      ap (λ ms. below (decimal at) ms ++ early_items low w (suc at) xs) own
      ∙ (ap (λ ms. below (decimal at) (among c (headed_from m.seen all)) ++ ms) (early-items xs p ks (suc at) (suc i) low w apart.1)
      ∙ (ap (λ ms. ms ++ among d (headed_from w.seen rest))
      (sym (among-step (decimal at) (headed_from m.seen all) c) ∙ ap (among c) (sym (headed-step (decimal at) all m.seen)))
      ∙ sym (parts c d first rest m.seen w.seen seen across)))
  early-items (item (tables e us) xs) p ks at i low m apart = early-items xs p ks (suc at) i low m apart.1
  early-items (item (leaf s x d) xs) p ks at i low m apart = early-items xs p ks (suc at) i low m apart.1
  early-items (item (list f us) xs) p ks at i low m apart = early-items xs p ks (suc at) i low m apart.1
  early-items (item (inline f us) xs) p ks at i low m apart = early-items xs p ks (suc at) i low m apart.1
  early-items (item nothing xs) p ks at i low m apart = early-items xs p ks (suc at) i low m apart.1

-- the walk finds all misfits
pub misfits-walked : (mode : Mode) (t : Tree) → SlotsAreApart t.slots → misfits mode t ≡ walked_misfits mode t
misfits-walked mode t apart =
    ap (λ ms. root_misfits mode t.root t.slots t.trailing ++ (tables_misfits mode no_keys t.slots ++ ms))
    (early-among [] (headed_from (root_marks t.root).seen (located_slots t.slots [] []))
    ∙ sym (early-slots t.slots [] [] None (root_marks t.root) apart))
