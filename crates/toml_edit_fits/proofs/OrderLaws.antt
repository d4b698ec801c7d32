-- One walk over the tables tells whether their headers are in order.
use Rattle.std.proofs.Common.{◌≡◌, refl, sym, ◌∙◌, ap, subst, ℕ, suc, ℤ, arith, Bool, true, false, List, [], ◌∷◌, ◌++◌, Option, Some, None}
use Rattle.std.proofs.Common.{inl, inr}
use Rattle.std.specs.Prelude.{◌&&◌, ◌↔◌, not, int_le, filter, is_some, if◌then◌else◌, option_and_then, option_map}
use Rattle.std.specs.List.{AllByRecursion}
use Rattle.std.proofs.lemmas.Bool.{cases_Bool}
use Rattle.std.proofs.lemmas.Int.{ints}
use Rattle.std.proofs.lemmas.List.Elements.{filter-append}
use Rattle.toml_edit_model.specs.Paths.{Path, to_key, to_element}
use Rattle.toml_edit_model.specs.Tree.{Key, TableFields, Node, nothing, leaf, list, inline, table, tables, Items, no_items, item, Slots}
use Rattle.toml_edit_model.specs.Tree.{no_slots, slot}
use Rattle.toml_edit_model.specs.HeaderOrder.{Visit, PlacedVisit, visit_of, node_walk, items_walk, slots_walk, place_of, places_from}
use Rattle.toml_edit_model.specs.Fits.{is_too_late}
use Rattle.toml_edit_laws.specs.PrintByVisits.{has_own_header}
use Rattle.toml_edit_laws.proofs.common.Each.{all-append, all-front, all-back, all-map, all-filter, all-both}
use Rattle.toml_edit_laws.proofs.common.Tests.{true-false}
use Rattle.toml_edit_laws.proofs.common.Pairs.{AllPairs, all-across, pairs-append, pairs-across, pairs-right}
use Rattle.toml_edit_laws.proofs.common.OrderLaws.{int_le-trans}
use Rattle.toml_edit_laws.proofs.common.PathLaws.{is_front, front-refl}
use Rattle.toml_edit_laws.proofs.common.Visits.{places-all}
use Rattle.toml_edit_laws.proofs.accepted_prints.WalkPaths.{InNode, InSlots, InItems, node-in, items-in, slots-in, is_item_of}
use Rattle.toml_edit_laws.proofs.print_by_visits.WalkOnce.{seen_after, shows_header}
use Rattle.toml_edit_fits.specs.declared.order.Marks.{Marks}
use Rattle.toml_edit_fits.specs.OrderTests.{NodeIsApart, ItemsAreApart, SlotsAreApart, reaches, later, latest, marks_of, place_in, enter}
use Rattle.toml_edit_fits.specs.OrderTests.{first_below, order_slots, order_node, order_items, order_item}
use Rattle.toml_edit_fits.proofs.LatePaths.{in-slots-node, below-late, slots-late, items-late, below-no_item, own-item}

-- ---- the tables with headers, and their places

abbrev pub heads : ℤ → List Visit → List PlacedVisit
heads seen vs = filter shows_header (places_from seen vs)

pub places-append : (vs us : List Visit) (seen : ℤ) → places_from seen (vs ++ us) ≡ places_from seen vs
    ++ places_from (seen_after seen vs) us
places-append [] us seen = refl
places-append (v ∷ vs) us seen = by_dot v.fields.is_dotted (λ s. places-append vs us s)
  where
    by_dot : (b : Bool) → ((s : ℤ) → places_from s (vs ++ us) ≡ places_from s vs ++ places_from (seen_after s vs) us)
        → (if b then places_from seen (vs ++ us) else (place_of seen v, v) ∷ places_from (place_of seen v) (vs ++ us))
        ≡ (if b then places_from seen vs else (place_of seen v, v) ∷ places_from (place_of seen v) vs)
        ++ places_from (seen_after (if b then seen else place_of seen v) vs) us
    by_dot true ih = ih seen
    by_dot false ih = ap (λ ps. (place_of seen v, v) ∷ ps) (ih (place_of seen v))

pub heads-append : (vs us : List Visit) (seen : ℤ) → heads seen (vs ++ us) ≡ heads seen vs ++ heads (seen_after seen vs) us
heads-append vs us seen = ap (filter shows_header) (places-append vs us seen)
    ∙ filter-append shows_header (places_from seen vs) (places_from (seen_after seen vs) us)

pub seen-append : (vs us : List Visit) (seen : ℤ) → seen_after seen (vs ++ us) ≡ seen_after (seen_after seen vs) us
seen-append [] us seen = refl
seen-append (v ∷ vs) us seen = seen-append vs us (if v.fields.is_dotted then seen else place_of seen v)

pub heads-all : (P : Visit → Type 0) (seen : ℤ) (vs : List Visit) → AllByRecursion P vs
    → AllByRecursion (λ (x : PlacedVisit). P x.1) (heads seen vs)
heads-all P seen vs h = all-filter (λ (x : PlacedVisit). P x.1) shows_header (places_from seen vs) (places-all P seen vs h)

-- ---- the latest place

abbrev pub highest_after : Option ℤ → List PlacedVisit → Option ℤ
highest_after high [] = high
highest_after high (x ∷ xs) = highest_after (later high x.0) xs

highest-append : (xs ys : List PlacedVisit) (high : Option ℤ) → highest_after high (xs ++ ys) ≡ highest_after (highest_after high xs) ys
highest-append [] ys high = refl
highest-append (x ∷ xs) ys high = highest-append xs ys (later high x.0)

later-later : (a b : Option ℤ) (z : ℤ) → latest a (later b z) ≡ later (latest a b) z
later-later a None z = refl
later-later None (Some y) z =
    elim (cases_Bool (int_le y z)) [
      | inl e ↦ rw e refl
      | inr e ↦ rw e refl
    ]
later-later (Some x) (Some y) z = by_tests (int_le y z) (int_le x y) refl refl
  where
    by_tests : (b c : Bool) → int_le y z ≡ b → int_le x y ≡ c
        → latest (Some x) (if b then Some z else Some y) ≡ later (if c then Some y else Some x) z
    by_tests true true e f = ap (λ d. if d then Some z else Some x) (int_le-trans x y z f e)
        ∙ sym (ap (λ d. if d then Some z else Some y) e)
    by_tests true false e f = refl
    by_tests false true e f = ap (λ d. if d then Some y else Some x) f ∙ sym (ap (λ d. if d then Some z else Some y) e)
    by_tests false false e f =
        let away : int_le x z ≡ false = grind (arith, ints, e, f) in
        ap (λ d. if d then Some y else Some x) f ∙ sym (ap (λ d. if d then Some z else Some x) away)

pub latest-highest : (xs : List PlacedVisit) (a b : Option ℤ) → latest a (highest_after b xs) ≡ highest_after (latest a b) xs
latest-highest [] a b = refl
latest-highest (x ∷ xs) a b = latest-highest xs a (later b x.0) ∙ ap (λ o. highest_after o xs) (later-later a b x.0)

pub reach-later : (high : Option ℤ) (x z : ℤ) → (reaches (later high x) z ≡ true) ↔ ((reaches high z ≡ true) × (int_le x z ≡ true))
reach-later None x z = (λ h. (refl, h), λ h. h.1)
reach-later (Some y) x z = by_test (int_le y x) refl
  where
    by_test : (b : Bool) → int_le y x ≡ b → (reaches (if b then Some x else Some y) z ≡ true) ↔ ((int_le y z ≡ true) × (int_le x z ≡ true))
    by_test true e = (λ h. (int_le-trans y x z e h, h), λ h. h.1)
    by_test false e = (λ h. (h, (let over : int_le x z ≡ true = grind (arith, ints, e, h) in over)), λ h. h.0)

reach-highest : (xs : List PlacedVisit) (high : Option ℤ) (z : ℤ)
    → (reaches (highest_after high xs) z ≡ true) ↔ ((reaches high z ≡ true) × AllByRecursion (λ (x : PlacedVisit). int_le x.0 z ≡ true) xs)
reach-highest [] high z = (λ h. (h, tt), λ h. h.0)
reach-highest (x ∷ xs) high z =
    let more = reach-highest xs (later high x.0) z in
    let one = reach-later high x.0 z in
    (λ h. let parts = more.0 h in let first = one.0 parts.0 in (first.0, (first.1, parts.1)), λ h. more.1 (one.1 (h.0, h.1.0), h.1.1))

reach-through : (low : Option ℤ) (x z : ℤ) → reaches low x ≡ true → int_le x z ≡ true → reaches low z ≡ true
reach-through None x z h g = refl
reach-through (Some y) x z h g = int_le-trans y x z h g

-- ---- marks

abbrev pub marks_after : Marks → List Visit → Marks
marks_after m vs = marks_of (seen_after m.seen vs) (highest_after m.highest (heads m.seen vs))

pub marks-append : (m : Marks) (vs us : List Visit) → marks_after (marks_after m vs) us ≡ marks_after m (vs ++ us)
marks-append m vs us =
    ap (λ s. marks_of s (highest_after (highest_after m.highest (heads m.seen vs)) (heads (seen_after m.seen vs) us)))
    (sym (seen-append vs us m.seen))
    ∙ ap (marks_of (seen_after m.seen (vs ++ us)))
    (sym (highest-append (heads m.seen vs) (heads (seen_after m.seen vs) us) m.highest)
    ∙ ap (highest_after m.highest) (sym (heads-append vs us m.seen)))

-- the answer is these marks where P holds, and only then is there one, if A holds
abbrev pub Gives : Type 0 → Option Marks → Type 0 → Marks → Type 0
Gives A o P m = (P → o ≡ Some m) × (A → is_some o ≡ true → P)

gives-then : (A P Q : Type 0) (o : Option Marks) (f : Marks → Option Marks) (m n : Marks) → Gives A o P m → Gives A (f m) Q n
    → Gives A (option_and_then f o) (P × Q) n
gives-then A P Q o f m n g k = (λ h. ap (option_and_then f) (g.0 h.0) ∙ k.0 h.1, λ a. by_answer a o g.0 (g.1 a))
  where
    by_answer : A → (o : Option Marks) → (P → o ≡ Some m) → (is_some o ≡ true → P) → is_some (option_and_then f o) ≡ true → P × Q
    by_answer a None b c h = absurd cc
    by_answer a (Some w) b c h = let p = c refl in (p, k.1 a (subst (λ x. is_some (option_and_then f x) ≡ true) (b p) h))

gives-like : (A P Q : Type 0) (o : Option Marks) (m n : Marks) → (Q → P) → (A → P → Q) → m ≡ n → Gives A o P m → Gives A o Q n
gives-like A P Q o m n back on e g = (λ q. g.0 (back q) ∙ ap Some e, λ a h. on a (g.1 a h))

gives-map : (A P : Type 0) (o : Option Marks) (f : Marks → Marks) (m : Marks) → Gives A o P m → Gives A (option_map f o) P (f m)
gives-map A P o f m g = (λ p. ap (option_map f) (g.0 p), λ a. by_answer o (g.1 a))
  where
    by_answer : (o : Option Marks) → (is_some o ≡ true → P) → is_some (option_map f o) ≡ true → P
    by_answer None b h = absurd cc
    by_answer (Some w) b h = b refl

gives-under : (A B P : Type 0) (o : Option Marks) (m : Marks) → (A → B) → Gives B o P m → Gives A o P m
gives-under A B P o m f g = (g.0, λ a. g.1 (f a))

-- ---- in order

-- the later one of the walk, if the earlier one is too late after it, has no earlier place
abbrev pub Fine : PlacedVisit → PlacedVisit → Type 0
Fine x y = is_too_late y.1 x.1 ≡ true → int_le x.0 y.0 ≡ true

abbrev pub Ordered : Option ℤ → List PlacedVisit → Type 0
Ordered low xs = AllPairs Fine xs × AllByRecursion (λ (x : PlacedVisit). reaches low x.0 ≡ true) xs

-- the same, where elements of the array at the path are not before this place
abbrev Elements : Option ℤ → Option ℤ → Path → List PlacedVisit → Type 0
Elements low high p xs = Ordered low xs × AllByRecursion (λ (x : PlacedVisit). is_item_of p x.1 ≡ true → reaches high x.0 ≡ true) xs

pairs-left : {A : Type 0} (R : A → A → Type 0) (xs ys : List A) → AllPairs R (xs ++ ys) → AllPairs R xs
pairs-left R [] ys h = tt
pairs-left R (x ∷ xs) ys h = (all-front (R x) xs ys h.0, pairs-left R xs ys h.1)

joined : (low : Option ℤ) (xs ys : List PlacedVisit) → AllByRecursion (λ x. AllByRecursion (Fine x) ys) xs → Ordered low xs × Ordered low ys
    → Ordered low (xs ++ ys)
joined low xs ys across h =
    (pairs-append Fine xs ys h.0.0 h.1.0 across, all-append (λ (x : PlacedVisit). reaches low x.0 ≡ true) xs ys h.0.1 h.1.1)

parted : (low : Option ℤ) (xs ys : List PlacedVisit) → Ordered low (xs ++ ys) → Ordered low xs × Ordered low ys
parted low xs ys h =
    let R : PlacedVisit → Type 0 = λ x. reaches low x.0 ≡ true in
    ((pairs-left Fine xs ys h.0, all-front R xs ys h.1), (pairs-right Fine xs ys h.0, all-back R xs ys h.1))

fine-by : (x y : PlacedVisit) → is_too_late y.1 x.1 ≡ false → Fine x y
fine-by x y e h = true-false (is_too_late y.1 x.1) h e

-- two parts of a walk, of which none is too late after one of the other
two-parts : (A : Type 0) (low : Option ℤ) (o : Option Marks) (f : Marks → Option Marks) (m : Marks) (vs us : List Visit)
    → Gives A o (Ordered low (heads m.seen vs)) (marks_after m vs)
    → Gives A (f (marks_after m vs)) (Ordered low (heads (seen_after m.seen vs) us)) (marks_after (marks_after m vs) us)
    → (A → AllByRecursion (λ x. AllByRecursion (Fine x) (heads (seen_after m.seen vs) us)) (heads m.seen vs))
    → Gives A (option_and_then f o) (Ordered low (heads m.seen (vs ++ us))) (marks_after m (vs ++ us))
two-parts A low o f m vs us g k across =
    let xs = heads m.seen vs in
    let ys = heads (seen_after m.seen vs) us in
    subst (λ zs. Gives A (option_and_then f o) (Ordered low zs) (marks_after m (vs ++ us))) (sym (heads-append vs us m.seen))
    (gives-like A (Ordered low xs × Ordered low ys) (Ordered low (xs ++ ys)) (option_and_then f o) (marks_after (marks_after m vs) us)
    (marks_after m (vs ++ us))
    (parted low xs ys) (λ a. joined low xs ys (across a)) (marks-append m vs us)
    (gives-then A (Ordered low xs) (Ordered low ys) o f (marks_after m vs) (marks_after (marks_after m vs) us) g k))

-- ---- one table

none-refused : false ≡ true → ⊥
none-refused h = cc

-- a table that is none is entered
entered : (low : Option ℤ) (m : Marks) (p : Path) (ks : List Key) (f : TableFields) (ss : Slots)
    → Gives (Unit {0}) (enter false low m f ss) (Ordered low (heads m.seen (visit_of p ks false f ss ∷ [])))
    (marks_after m (visit_of p ks false f ss ∷ []))
entered low m p ks f ss = by_dot f.is_dotted
  where
    by_reach : (b : Bool) → reaches low (place_in m f) ≡ b
        → Gives (Unit {0}) (if b && true then Some (marks_of (place_in m f) (later m.highest (place_in m f))) else None)
        (Ordered low ((place_in m f, visit_of p ks false f ss) ∷ [])) (marks_of (place_in m f) (later m.highest (place_in m f)))
    by_reach true e = (λ h. refl, λ a h. ((tt, tt), (e, tt)))
    by_reach false e = (λ h. true-false (reaches low (place_in m f)) h.1.0 e, λ a h. absurd (none-refused h))

    by_header : (c : Bool)
        → Gives (Unit {0}) (if c then (if reaches low (place_in m f) && true
        then Some (marks_of (place_in m f) (later m.highest (place_in m f))) else None) else Some (marks_of (place_in m f) m.highest))
        (Ordered low (if c then (place_in m f, visit_of p ks false f ss) ∷ [] else []))
        (marks_of (place_in m f) (highest_after m.highest (if c then (place_in m f, visit_of p ks false f ss) ∷ [] else [])))
    by_header true = by_reach (reaches low (place_in m f)) refl
    by_header false = (λ h. refl, λ a h. (tt, tt))

    by_dot : (b : Bool)
        → Gives (Unit {0}) (if b then Some m else if has_own_header false f ss
        then (if reaches low (place_in m f) && true then Some (marks_of (place_in m f) (later m.highest (place_in m f))) else None)
        else Some (marks_of (place_in m f) m.highest))
        (Ordered low (filter shows_header (if b then [] else (place_in m f, visit_of p ks false f ss) ∷ [])))
        (marks_of (if b then m.seen else place_in m f) (highest_after m.highest (filter shows_header (if b then []
        else (place_in m f, visit_of p ks false f ss) ∷ []))))
    by_dot true = (λ h. refl, λ a h. (tt, tt))
    by_dot false = by_header (has_own_header false f ss)

-- an element is entered
element-entered : (low : Option ℤ) (m : Marks) (p : Path) (i : ℕ) (ks : List Key) (f : TableFields) (ss : Slots)
    → Gives (Unit {0}) (enter true low m f ss) (Elements low m.highest p (heads m.seen (visit_of (to_element p i) ks true f ss ∷ [])))
    (marks_after m (visit_of (to_element p i) ks true f ss ∷ []))
element-entered low m p i ks f ss = by_dot f.is_dotted
  where
    mine : is_item_of p (visit_of (to_element p i) ks true f ss) ≡ true
    mine = own-item p i (visit_of (to_element p i) ks true f ss) refl refl

    by_reach : (b c : Bool) → reaches low (place_in m f) ≡ b → reaches m.highest (place_in m f) ≡ c
        → Gives (Unit {0}) (if b && c then Some (marks_of (place_in m f) (later m.highest (place_in m f))) else None)
        (Elements low m.highest p ((place_in m f, visit_of (to_element p i) ks true f ss) ∷ []))
        (marks_of (place_in m f) (later m.highest (place_in m f)))
    by_reach true true e g = (λ h. refl, λ a h. (((tt, tt), (e, tt)), ((λ x. g), tt)))
    by_reach true false e g = (λ h. true-false (reaches m.highest (place_in m f)) (h.1.0 mine) g, λ a h. absurd (none-refused h))
    by_reach false c e g = (λ h. true-false (reaches low (place_in m f)) h.0.1.0 e, λ a h. absurd (none-refused h))

    by_dot : (b : Bool)
        → Gives (Unit {0}) (if b then Some m else (if reaches low (place_in m f) && reaches m.highest (place_in m f)
        then Some (marks_of (place_in m f) (later m.highest (place_in m f))) else None))
        (Elements low m.highest p (filter shows_header (if b then [] else (place_in m f, visit_of (to_element p i) ks true f ss) ∷ [])))
        (marks_of (if b then m.seen else place_in m f) (highest_after m.highest (filter shows_header (if b then []
        else (place_in m f, visit_of (to_element p i) ks true f ss) ∷ []))))
    by_dot true = (λ h. refl, λ a h. ((tt, tt), tt))
    by_dot false = by_reach (reaches low (place_in m f)) (reaches m.highest (place_in m f)) refl refl

-- ---- an element and the tables below it

no-elements : (p : Path) (high : Option ℤ) (xs : List PlacedVisit) → AllByRecursion (λ (x : PlacedVisit). is_item_of p x.1 ≡ false) xs
    → AllByRecursion (λ (x : PlacedVisit). is_item_of p x.1 ≡ true → reaches high x.0 ≡ true) xs
no-elements p high xs h =
    all-map (λ (x : PlacedVisit). is_item_of p x.1 ≡ false) (λ (x : PlacedVisit). is_item_of p x.1 ≡ true → reaches high x.0 ≡ true) xs
    (λ x e g. true-false (is_item_of p x.1) g e) h

abbrev IsBelowIt : Path → Visit → PlacedVisit → Type 0
IsBelowIt p v y = (is_item_of p y.1 ≡ false) × (is_too_late y.1 v ≡ true)

with-below : (low high : Option ℤ) (p : Path) (z : ℤ) (v : Visit) (ys : List PlacedVisit) → AllByRecursion (IsBelowIt p v) ys
    → (Elements low high p ((z, v) ∷ []) × Ordered (Some z) ys) ↔ Elements low high p ((z, v) ∷ ys)
with-below low high p z v ys below = (
  λ h. (
    (
      (all-map (λ (y : PlacedVisit). int_le z y.0 ≡ true) (Fine (z, v)) ys (λ y g e. g) h.1.1, h.1.0),
      (
        h.0.0.1.0,
        all-map (λ (y : PlacedVisit). int_le z y.0 ≡ true) (λ (y : PlacedVisit). reaches low y.0
            ≡ true) ys (λ y g. reach-through low z y.0 h.0.0.1.0 g) h.1.1,
      ),
    ),
    (h.0.1.0, no-elements p high ys (all-map (IsBelowIt p v) (λ (x : PlacedVisit). is_item_of p x.1 ≡ false) ys (λ y g. g.0) below)),
  ),
  λ h. (
    (((tt, tt), (h.0.1.0, tt)), (h.1.0, tt)),
    (
      h.0.0.1,
      all-map (λ y. Fine (z, v) y × IsBelowIt p v y) (λ (y : PlacedVisit). int_le z y.0
          ≡ true) ys (λ y g. g.0 g.1.1) (all-both (Fine (z, v)) (IsBelowIt p v) ys h.0.0.0 below),
    ),
  ),
)

element-below : (A : Type 0) (low : Option ℤ) (m : Marks) (p : Path) (i : ℕ) (ks : List Key) (f : TableFields) (ss : Slots)
    → ((l : Option ℤ) (w : Marks) → Gives A (order_slots l w ss) (Ordered l (heads w.seen (slots_walk ss (to_element p i) ks)))
    (marks_after w (slots_walk ss (to_element p i) ks)))
    → Gives A (order_item low m (table f ss)) (Elements low m.highest p (heads m.seen (visit_of (to_element p i) ks true f ss
    ∷ slots_walk ss (to_element p i) ks)))
    (marks_after m (visit_of (to_element p i) ks true f ss ∷ slots_walk ss (to_element p i) ks))
element-below A low m p i ks f ss slots =
    let q = to_element p i in
    let v = visit_of q ks true f ss in
    let us = slots_walk ss q ks in
    let first = first_below true low m f in
    let w = marks_after m (v ∷ []) in
    let same = by_dot f.is_dotted (λ s. heads-all (λ y. (is_item_of p y ≡ false) × (is_too_late y v ≡ true)) s us
    (all-map (InSlots q ss) (λ y. (is_item_of p y ≡ false)
    × (is_too_late y v ≡ true)) us (λ y h. (below-no_item p i ss y h, below-late q ss v y refl h)) (slots-in ss q ks))) in
    gives-like A (Elements low m.highest p (heads m.seen (v ∷ []))
    × Ordered first (heads w.seen us)) (Elements low m.highest p (heads m.seen (v ∷ us)))
    (order_item low m (table f ss)) (marks_after w us) (marks_after m (v ∷ us))
    same.1 (λ a. same.0)
    (marks-append m (v ∷ []) us)
    (gives-then A (Elements low m.highest p (heads m.seen (v ∷ []))) (Ordered first (heads w.seen us)) (enter true low m f ss)
    (λ x. order_slots first x ss) w (marks_after w us)
    (gives-under A (Unit {0}) (Elements low m.highest p (heads m.seen (v ∷ []))) (enter true low m f ss) w (λ a. tt)
    (element-entered low m p i ks f ss)) (slots first w))
  where
    by_dot : (b : Bool) → ((s : ℤ) → AllByRecursion (IsBelowIt p (visit_of (to_element p i) ks true f ss))
        (heads s (slots_walk ss (to_element p i) ks)))
        → (Elements low m.highest p (filter shows_header (if b then [] else (place_in m f, visit_of (to_element p i) ks true f ss) ∷ []))
        × Ordered (if not b then Some (place_in m f) else low) (heads (if b then m.seen
        else place_in m f) (slots_walk ss (to_element p i) ks)))
        ↔ Elements low m.highest p (filter shows_header (if b then places_from m.seen (slots_walk ss (to_element p i) ks)
        else (place_in m f, visit_of (to_element p i) ks true f ss) ∷ places_from (place_in m f) (slots_walk ss (to_element p i) ks)))
    by_dot true below = (
      λ h. (
        h.1,
        no-elements p m.highest (heads m.seen (slots_walk ss (to_element p i) ks))
            (all-map (IsBelowIt p (visit_of (to_element p i) ks true f ss)) (λ (x : PlacedVisit). is_item_of p x.1
            ≡ false) (heads m.seen (slots_walk ss (to_element p i) ks)) (λ y g. g.0) (below m.seen)),
      ),
      λ h. (((tt, tt), tt), h.0),
    )
    by_dot false below =
        with-below low m.highest p (place_in m f) (visit_of (to_element p i) ks true f ss)
        (heads (place_in m f) (slots_walk ss (to_element p i) ks)) (below (place_in m f))

-- ---- one element and the next ones

abbrev IsNext : Path → PlacedVisit → PlacedVisit → Type 0
IsNext p x y = is_too_late y.1 x.1 ≡ is_item_of p y.1

-- the clauses on each later one, from what holds between
across-fine : (p : Path) (high : Option ℤ) (xs ys : List PlacedVisit) → AllByRecursion (λ x. AllByRecursion (IsNext p x) ys) xs
    → AllByRecursion (λ (y : PlacedVisit). is_item_of p y.1 ≡ true → reaches (highest_after high xs) y.0 ≡ true) ys
    → AllByRecursion (λ x. AllByRecursion (Fine x) ys) xs
across-fine p high [] ys next h = tt
across-fine p high (x ∷ xs) ys next h = (
  all-map (λ y. IsNext p x y × (is_item_of p y.1 ≡ true → reaches (highest_after (later high x.0) xs) y.0 ≡ true)) (Fine x) ys
      (λ y g e. ((reach-later high x.0 y.0).0 ((reach-highest xs (later high x.0) y.0).0 (g.1 (sym g.0 ∙ e))).0).1)
      (all-both (IsNext p x) (λ (y : PlacedVisit). is_item_of p y.1 ≡ true → reaches (highest_after (later high x.0) xs) y.0
      ≡ true) ys next.0 h),
  across-fine p (later high x.0) xs ys next.1 h,
)

fine-across : (p : Path) (high : Option ℤ) (xs ys : List PlacedVisit) → AllByRecursion (λ x. AllByRecursion (IsNext p x) ys) xs
    → AllByRecursion (λ (y : PlacedVisit). is_item_of p y.1 ≡ true → reaches high y.0 ≡ true) ys
    → AllByRecursion (λ x. AllByRecursion (Fine x) ys) xs
    → AllByRecursion (λ (y : PlacedVisit). is_item_of p y.1 ≡ true → reaches (highest_after high xs) y.0 ≡ true) ys
fine-across p high [] ys next h f = h
fine-across p high (x ∷ xs) ys next h f =
    fine-across p (later high x.0) xs ys next.1
    (all-map (λ y. (IsNext p x y × Fine x y) × (is_item_of p y.1 ≡ true → reaches high y.0 ≡ true)) (λ (y : PlacedVisit). is_item_of p y.1
    ≡ true → reaches (later high x.0) y.0 ≡ true) ys
    (λ y g e. (reach-later high x.0 y.0).1 (g.1 e, g.0.1 (g.0.0 ∙ e)))
    (all-both (λ y. IsNext p x y × Fine x y) (λ (y : PlacedVisit). is_item_of p y.1 ≡ true → reaches high y.0
    ≡ true) ys (all-both (IsNext p x) (Fine x) ys next.0 f.0) h)) f.1

lower-reach : (p : Path) (high : Option ℤ) (xs ys : List PlacedVisit)
    → AllByRecursion (λ (y : PlacedVisit). is_item_of p y.1 ≡ true → reaches (highest_after high xs) y.0 ≡ true) ys
    → AllByRecursion (λ (y : PlacedVisit). is_item_of p y.1 ≡ true → reaches high y.0 ≡ true) ys
lower-reach p high xs ys h =
    all-map (λ (y : PlacedVisit). is_item_of p y.1 ≡ true → reaches (highest_after high xs) y.0
    ≡ true) (λ (y : PlacedVisit). is_item_of p y.1 ≡ true → reaches high y.0 ≡ true) ys
    (λ y g e. ((reach-highest xs high y.0).0 (g e)).0) h

next-joined : (low high : Option ℤ) (p : Path) (xs ys : List PlacedVisit) → AllByRecursion (λ x. AllByRecursion (IsNext p x) ys) xs
    → (Elements low high p xs × Elements low (highest_after high xs) p ys) ↔ Elements low high p (xs ++ ys)
next-joined low high p xs ys next =
    let R : PlacedVisit → Type 0 = λ x. is_item_of p x.1 ≡ true → reaches high x.0 ≡ true in (
      λ h. (
        joined low xs ys (across-fine p high xs ys next h.1.1) (h.0.0, h.1.0),
        all-append R xs ys h.0.1 (lower-reach p high xs ys h.1.1),
      ),
      λ h. let across = pairs-across Fine xs ys h.0.0 in
          let parts = parted low xs ys h.0 in
          ((parts.0, all-front R xs ys h.1), (parts.1, fine-across p high xs ys next (all-back R xs ys h.1) across)),
    )

-- what is no table is passed over
items-rest : (n : Node) (xs : Items) (p : Path) (ks : List Key) (i : ℕ) (low : Option ℤ) (m : Marks)
    → Gives (ItemsAreApart xs) (order_items low m xs) (Elements low m.highest p (heads m.seen (items_walk xs p ks i)))
    (marks_after m (items_walk xs p ks i))
    → Gives (ItemsAreApart (item n xs)) (order_items low m xs) (Elements low m.highest p (heads m.seen (items_walk xs p ks i)))
    (marks_after m (items_walk xs p ks i))
items-rest n xs p ks i low m g =
    gives-under (ItemsAreApart (item n xs)) (ItemsAreApart xs) (Elements low m.highest p (heads m.seen (items_walk xs p ks i)))
    (order_items low m xs) (marks_after m (items_walk xs p ks i)) (λ a. a.1) g

-- ---- the walk

mutual
  pub slots-ordered : (ss : Slots) (p : Path) (ks : List Key) (low : Option ℤ) (m : Marks)
      → Gives (SlotsAreApart ss) (order_slots low m ss) (Ordered low (heads m.seen (slots_walk ss p ks)))
      (marks_after m (slots_walk ss p ks))
  slots-ordered no_slots p ks low m = (λ h. refl, λ a h. (tt, tt))
  slots-ordered (slot k n ss) p ks low m =
      let A = SlotsAreApart (slot k n ss) in
      let first = node_walk n (to_key p k.name) (ks ++ (k ∷ [])) false in
      let rest = slots_walk ss p ks in
      let w = marks_after m first in
      two-parts A low (order_node low m n) (λ x. order_slots low x ss) m first rest
      (gives-under A (NodeIsApart n) (Ordered low (heads m.seen first)) (order_node low m n) w (λ a. a.1)
      (node-ordered n (to_key p k.name) (ks ++ (k ∷ [])) low m))
      (gives-under A (SlotsAreApart ss) (Ordered low (heads w.seen rest)) (order_slots low w ss) (marks_after w rest) (λ a. a.2)
      (slots-ordered ss p ks low w))
      (λ a. all-across (λ (x : PlacedVisit). InNode (to_key p k.name) x.1) (λ (y : PlacedVisit). InSlots p ss y.1) Fine (heads m.seen first)
      (heads (seen_after m.seen first) rest)
      (λ x y h g. fine-by x y (slots-late p k.name ss x.1 y.1 a.0 h g))
      (heads-all (InNode (to_key p k.name)) m.seen first (node-in n (to_key p k.name) (ks ++ (k ∷ []))))
      (heads-all (InSlots p ss) (seen_after m.seen first) rest (slots-in ss p ks)))

  pub node-ordered : (n : Node) (p : Path) (ks : List Key) (low : Option ℤ) (m : Marks)
      → Gives (NodeIsApart n) (order_node low m n) (Ordered low (heads m.seen (node_walk n p ks false)))
      (marks_after m (node_walk n p ks false))
  node-ordered (table f ss) p ks low m =
      let A = SlotsAreApart ss in
      let v = visit_of p ks false f ss in
      let rest = slots_walk ss p ks in
      let w = marks_after m (v ∷ []) in
      two-parts A low (enter false low m f ss) (λ x. order_slots low x ss) m (v ∷ []) rest
      (gives-under A (Unit {0}) (Ordered low (heads m.seen (v ∷ []))) (enter false low m f ss) w (λ a. tt) (entered low m p ks f ss))
      (slots-ordered ss p ks low w)
      (λ a. all-across (λ (x : PlacedVisit). (x.1.path ≡ p)
      × (x.1.is_element ≡ false)) (λ (y : PlacedVisit). InSlots p ss y.1) Fine (heads m.seen (v ∷ []))
      (heads (seen_after m.seen (v ∷ [])) rest)
      (λ x y h g. fine-by x y (below-late p ss x.1 y.1 h.0 g ∙ h.1))
      (heads-all (λ x. (x.path ≡ p) × (x.is_element ≡ false)) m.seen (v ∷ []) ((refl, refl), tt))
      (heads-all (InSlots p ss) (seen_after m.seen (v ∷ [])) rest (slots-in ss p ks)))
  node-ordered (tables e xs) p ks low m =
      let A = ItemsAreApart xs in
      let us = items_walk xs p ks 0 in
      let hs = heads m.seen us in
      gives-like A (Elements low None p hs) (Ordered low hs) (order_node low m (tables e xs))
      (marks_of (seen_after m.seen us) (latest m.highest (highest_after None hs))) (marks_after m us)
      (λ h. (
        h,
        all-map (λ (x : PlacedVisit). reaches low x.0 ≡ true) (λ (x : PlacedVisit). is_item_of p x.1 ≡ true → reaches None x.0
            ≡ true) hs (λ x g e. refl) h.1,
      ))
      (λ a h. h.0)
      (ap (marks_of (seen_after m.seen us)) (latest-highest hs m.highest None))
      (gives-map A (Elements low None p hs) (order_items low (marks_of m.seen None) xs) (λ w. marks_of w.seen (latest m.highest w.highest))
      (marks_after (marks_of m.seen None) us)
      (items-ordered xs p ks 0 low (marks_of m.seen None)))
  node-ordered (leaf s x y) p ks low m = (λ h. refl, λ a h. (tt, tt))
  node-ordered (list f xs) p ks low m = (λ h. refl, λ a h. (tt, tt))
  node-ordered (inline f ss) p ks low m = (λ h. refl, λ a h. (tt, tt))
  node-ordered nothing p ks low m = (λ h. refl, λ a h. (tt, tt))

  pub items-ordered : (xs : Items) (p : Path) (ks : List Key) (i : ℕ) (low : Option ℤ) (m : Marks)
      → Gives (ItemsAreApart xs) (order_items low m xs) (Elements low m.highest p (heads m.seen (items_walk xs p ks i)))
      (marks_after m (items_walk xs p ks i))
  items-ordered no_items p ks i low m = (λ h. refl, λ a h. ((tt, tt), tt))
  items-ordered (item (table f ss) xs) p ks i low m =
      let A = ItemsAreApart (item (table f ss) xs) in
      let q = to_element p i in
      let us = visit_of q ks true f ss ∷ slots_walk ss q ks in
      let rest = items_walk xs p ks (suc i) in
      let w = marks_after m us in
      let one = heads m.seen us in
      let two = heads (seen_after m.seen us) rest in
      let next = next-joined low m.highest p one two
      (all-across (λ (x : PlacedVisit). is_front q x.1.path
      ≡ true) (λ (y : PlacedVisit). InItems p (suc i) y.1) (IsNext p) one two (λ x y h g. items-late p i x.1 y.1 h g)
      (heads-all (λ x. is_front q x.path ≡ true) m.seen us (
        front-refl q,
        all-map (InSlots q ss) (λ x. is_front q x.path ≡ true) (slots_walk ss q ks) (λ x h. in-slots-node q ss x h) (slots-in ss q ks),
      ))
      (heads-all (InItems p (suc i)) (seen_after m.seen us) rest (items-in xs p ks (suc i)))) in
      subst (λ zs. Gives A (order_items low m (item (table f ss) xs)) (Elements low m.highest p zs) (marks_after m (us ++ rest)))
      (sym (heads-append us rest m.seen))
      (gives-like A (Elements low m.highest p one × Elements low w.highest p two) (Elements low m.highest p (one ++ two))
      (order_items low m (item (table f ss) xs)) (marks_after w rest) (marks_after m (us ++ rest))
      next.1 (λ a. next.0) (marks-append m us rest)
      (gives-then A (Elements low m.highest p one) (Elements low w.highest p two) (order_item low m (table f ss))
      (λ x. order_items low x xs) w (marks_after w rest)
      (element-below A low m p i ks f ss (λ l x. gives-under A (SlotsAreApart ss) (Ordered l (heads x.seen (slots_walk ss q ks)))
      (order_slots l x ss) (marks_after x (slots_walk ss q ks)) (λ a. a.0) (slots-ordered ss q ks l x)))
      (gives-under A (ItemsAreApart xs) (Elements low w.highest p two) (order_items low w xs) (marks_after w rest) (λ a. a.1)
      (items-ordered xs p ks (suc i) low w))))
  items-ordered (item (tables e us) xs) p ks i low m = items-rest (tables e us) xs p ks i low m (items-ordered xs p ks i low m)
  items-ordered (item (leaf s x y) xs) p ks i low m = items-rest (leaf s x y) xs p ks i low m (items-ordered xs p ks i low m)
  items-ordered (item (list f us) xs) p ks i low m = items-rest (list f us) xs p ks i low m (items-ordered xs p ks i low m)
  items-ordered (item (inline f us) xs) p ks i low m = items-rest (inline f us) xs p ks i low m (items-ordered xs p ks i low m)
  items-ordered (item nothing xs) p ks i low m = items-rest nothing xs p ks i low m (items-ordered xs p ks i low m)
