-- Where the elements of a tree are in order, the headers before each header are as many elements of each array on its way as its numbers
-- say.
use Rattle.std.proofs.Common.{◌≡◌, refl, sym, ◌∙◌, ap, subst, ℕ, suc, ◌+◌, ◌≤◌, ◌<◌, arith, ℤ, pos, Bool, true, false, List, [], ◌∷◌, ◌++◌}
use Rattle.std.proofs.Common.{length, inl, inr}
use Rattle.std.specs.Prelude.{◌&&◌, ◌||◌, not, nat_lt, filter, map, if◌then◌else◌}
use Rattle.std.specs.List.{list_all, AllByRecursion}
use Rattle.std.proofs.lemmas.Bool.{cases_eq, lt-ltb}
use Rattle.toml_edit_model.specs.Mode.{Mode}
use Rattle.toml_edit_model.specs.Text.{is_empty}
use Rattle.toml_edit_model.specs.Paths.{at_key, at_element, Path, to_element}
use Rattle.toml_edit_model.specs.Tree.{Tree, SlotsAreWellMade}
use Rattle.toml_edit_model.specs.HeaderOrder.{Visit, PlacedVisit, walk, place_of, places_from, comes_before, in_header_order}
use Rattle.toml_edit_model.specs.Print.{has_header, lines_of}
use Rattle.toml_edit_model.specs.Fits.{is_below, is_after_element, is_too_late, none_too_late, headed}
use Rattle.toml_edit_laws.specs.AcceptedPrints.{IsFitting}
use Rattle.toml_edit_laws.proofs.common.Members.{Among, all-of-among}
use Rattle.toml_edit_laws.proofs.common.Tests.{and_left, and_right, and_both, append-nil, not-true, true-false, or-left, or-right}
use Rattle.toml_edit_laws.proofs.common.PathLaws.{same_step-refl}
use Rattle.toml_edit_laws.proofs.accepted_prints.PrintedCut.{order-all}
use Rattle.toml_edit_laws.proofs.accepted_prints.Spots.{Spot, tree_spot}
use Rattle.toml_edit_laws.proofs.accepted_prints.WalkPlaces.{Trail, start, to_table, to_item, trail_keys, EndsAs, IsAt, walk-at}
use Rattle.toml_edit_laws.proofs.accepted_prints.WalkPaths.{Apart, walk-apart, is_item_of, item-element, Counted, walk-counted}
use Rattle.toml_edit_laws.proofs.common.Lists.{filter-image, not_empty-last}
use Rattle.toml_edit_laws.proofs.common.Visits.{places-all, before-total, before-trans}
use Rattle.toml_edit_laws.proofs.common.Pairs.{AllPairs, pairs-filter, pairs-of}
use Rattle.toml_edit_laws.proofs.common.Each.{all-of, all_pass, all-map, all-image, filter-passes}
use Rattle.toml_edit_laws.proofs.common.Sorting.{pairs-sorted, filter-sorted, sorted-stays}
use Rattle.toml_edit_model.specs.Order.{sorted_by}

-- ---- the order of headers

pub pairs-places : (R : Visit → Visit → Type 0) (seen : ℤ) (vs : List Visit) → AllPairs R vs
    → AllPairs (λ (a b : PlacedVisit). R a.1 b.1) (places_from seen vs)
pairs-places R seen [] h = tt
pairs-places R seen (v ∷ vs) h = by_test v.fields.is_dotted (pairs-places R seen vs h.1) (pairs-places R (place_of seen v) vs h.1)
  where
    by_test : (b : Bool) → AllPairs (λ (a b : PlacedVisit). R a.1 b.1) (places_from seen vs)
        → AllPairs (λ (a b : PlacedVisit). R a.1 b.1) (places_from (place_of seen v) vs)
        → AllPairs (λ (a b : PlacedVisit). R a.1 b.1) (if b then places_from seen vs else (place_of seen v, v)
        ∷ places_from (place_of seen v) vs)
    by_test true x y = x
    by_test false x y = (places-all (R v) (place_of seen v) vs h.0, y)

pub pairs-unimage : {A B : Type 0} (f : A → B) (R : B → B → Type 0) (xs : List A) → AllPairs R (map f xs)
    → AllPairs (λ a b. R (f a) (f b)) xs
pairs-unimage f R [] h = tt
pairs-unimage {A} f R (x ∷ xs) h = (each xs h.0, pairs-unimage f R xs h.1)
  where
    each : (ys : List A) → AllByRecursion (R (f x)) (map f ys) → AllByRecursion (λ b. R (f x) (f b)) ys
    each [] g = tt
    each (y ∷ ys) g = (g.0, each ys g.1)

-- ---- paths below and after elements

pub after-below : (P q : Path) (m n : ℕ) → is_after_element (to_element P m) (to_element P n ++ q) ≡ nat_lt n m
after-below [] q m n = refl
after-below (at_key k ∷ P) q m n = ap (λ b. b && is_after_element (to_element P m) (to_element P n ++ q)) (same_step-refl (at_key k))
    ∙ after-below P q m n
after-below (at_element i ∷ []) q m n =
    ap (λ b. b && is_after_element (to_element [] m) (to_element [] n ++ q)) (same_step-refl (at_element i)) ∙ after-below [] q m n
after-below (at_element i ∷ s ∷ P) q m n =
    ap (λ b. b && is_after_element (to_element (s ∷ P) m) (to_element (s ∷ P) n ++ q)) (same_step-refl (at_element i))
    ∙ after-below (s ∷ P) q m n

-- ---- counted lists

pub counted-among : (n : ℕ) (P : Path) (xs : List Visit) (w : Visit) → Counted n P xs → Among w xs → (m : ℕ) × (w.path ≡ to_element P m)
    × (n ≤ m) × (m < n + length xs)
counted-among n P [] w h a = elim a [ ]
counted-among n P (x ∷ xs) w h (inl e) = (n, ap (λ (v : Visit). v.path) e ∙ h.0, omega arith, omega arith)
counted-among n P (x ∷ xs) w h (inr a) =
    let more = counted-among (suc n) P xs w h.1 a in
    let low : suc n ≤ more.0 = more.2 in
    let high : more.0 < suc n + length xs = more.3 in
    (more.0, more.1, omega arith, omega arith)

pub counted-at : (n : ℕ) (P : Path) (xs : List Visit) (m : ℕ) → Counted n P xs → n ≤ m → m < n + length xs → (w : Visit) × Among w xs
    × (w.path ≡ to_element P m)
counted-at n P [] m h low high = absurd (omega arith)
counted-at n P (x ∷ xs) m h low high =
    elim (cases_eq n m) [
      | inl e ↦ (x, inl refl, h.0 ∙ ap (to_element P) e)
      | inr away ↦
          (let more = counted-at (suc n) P xs m h.1 (omega (arith, away)) (omega arith) in (more.0, inr more.1, more.2))
    ]

pub counted-right : (n : ℕ) (P : Path) (xs ys : List Visit) → Counted n P (xs ++ ys) → Counted (n + length xs) P ys
counted-right n P [] ys h = subst (λ m. Counted m P ys) (let same : n ≡ n + 0 = omega arith in same) h
counted-right n P (x ∷ xs) ys h =
    subst (λ m. Counted m P ys) (let same : suc n + length xs ≡ n + suc (length xs) = omega arith in
    same) (counted-right (suc n) P xs ys h.1)

pub counted-left : (n : ℕ) (P : Path) (xs ys : List Visit) → Counted n P (xs ++ ys) → Counted n P xs
counted-left n P [] ys h = tt
counted-left n P (x ∷ xs) ys h = (h.0, counted-left (suc n) P xs ys h.1)

counted-late : (n : ℕ) (P : Path) (xs : List Visit) → Counted n P xs → AllPairs (λ a b. is_after_element b.path a.path ≡ true) xs
counted-late n P [] h = tt
counted-late n P (x ∷ xs) h = (
  all-of-among (λ b. is_after_element b.path x.path ≡ true) xs
      (λ w a. let at = counted-among (suc n) P xs w h.1 a in
      let low : suc n ≤ at.0 = at.2 in
      let first : x.path ≡ to_element P n ++ [] = h.0 ∙ sym (append-nil (to_element P n)) in
      ap (λ p. is_after_element p x.path) at.1 ∙ ap (is_after_element (to_element P at.0)) first ∙ after-below P [] at.0 n
      ∙ lt-ltb n at.0 (omega arith)),
  counted-late (suc n) P xs h.1,
)

undotted-elements : (vs : List Visit) → list_all (λ v. not (v.is_element && v.fields.is_dotted)) vs ≡ true
    → AllByRecursion (λ v. v.is_element ≡ true → v.fields.is_dotted ≡ false) vs
undotted-elements vs h =
    all-map (λ v. not (v.is_element && v.fields.is_dotted) ≡ true) (λ v. v.is_element ≡ true → v.fields.is_dotted ≡ false) vs
    (λ v g e. sym (ap (λ b. b && v.fields.is_dotted) e) ∙ not-true (v.is_element && v.fields.is_dotted) g)
    (all-of (λ v. not (v.is_element && v.fields.is_dotted)) vs h)

filter-weaker : {A : Type 0} (test wider : A → Bool) (xs : List A) → AllByRecursion (λ x. test x ≡ true → wider x ≡ true) xs
    → filter test (filter wider xs) ≡ filter test xs
filter-weaker test wider [] h = refl
filter-weaker {A} test wider (x ∷ xs) h = by_test (wider x) refl (test x) refl (filter-weaker test wider xs h.1)
  where
    by_test : (b : Bool) → wider x ≡ b → (c : Bool) → test x ≡ c → filter test (filter wider xs) ≡ filter test xs
        → filter test (if b then x ∷ filter wider xs else filter wider xs) ≡ (if c then x ∷ filter test xs else filter test xs)
    by_test true e c g ih = ap (λ d. if d then x ∷ filter test (filter wider xs) else filter test (filter wider xs)) g
        ∙ ap (λ ys. if c then x ∷ ys else ys) ih
    by_test false e true g ih = true-false (wider x) (h.0 g) e
    by_test false e false g ih = ih

placed-items : (P : Path) (seen : ℤ) (vs : List Visit) → AllByRecursion (λ v. v.is_element ≡ true → v.fields.is_dotted ≡ false) vs
    → map (λ (v : PlacedVisit). v.1) (filter (λ (v : PlacedVisit). is_item_of P v.1) (places_from seen vs)) ≡ filter (is_item_of P) vs
placed-items P seen [] h = refl
placed-items P seen (v ∷ vs) h =
    by_test v.fields.is_dotted refl (is_item_of P v) refl (placed-items P seen vs h.1) (placed-items P (place_of seen v) vs h.1)
  where
    by_test : (b : Bool) → v.fields.is_dotted ≡ b → (c : Bool) → is_item_of P v ≡ c
        → map (λ (v : PlacedVisit). v.1) (filter (λ (v : PlacedVisit). is_item_of P v.1) (places_from seen vs)) ≡ filter (is_item_of P) vs
        → map (λ (v : PlacedVisit). v.1) (filter (λ (v : PlacedVisit). is_item_of P v.1) (places_from (place_of seen v) vs))
        ≡ filter (is_item_of P) vs
        → map (λ (v : PlacedVisit). v.1) (filter (λ (v : PlacedVisit). is_item_of P v.1) (if b then places_from seen vs
        else (place_of seen v, v) ∷ places_from (place_of seen v) vs))
        ≡ (if c then v ∷ filter (is_item_of P) vs else filter (is_item_of P) vs)
    by_test true e true g x y = true-false v.fields.is_dotted e (h.0 (item-element P v g))
    by_test true e false g x y = x
    by_test false e c g x y =
        ap (λ d. map (λ (v : PlacedVisit). v.1)
        (if d then (place_of seen v, v) ∷ filter (λ (v : PlacedVisit). is_item_of P v.1) (places_from (place_of seen v) vs)
        else filter (λ (v : PlacedVisit). is_item_of P v.1) (places_from (place_of seen v) vs))) g
        ∙ kept c y
      where
        kept : (c : Bool)
            → map (λ (v : PlacedVisit). v.1) (filter (λ (v : PlacedVisit). is_item_of P v.1) (places_from (place_of seen v) vs))
            ≡ filter (is_item_of P) vs
            → map (λ (v : PlacedVisit). v.1)
            (if c then (place_of seen v, v) ∷ filter (λ (v : PlacedVisit). is_item_of P v.1) (places_from (place_of seen v) vs)
            else filter (λ (v : PlacedVisit). is_item_of P v.1) (places_from (place_of seen v) vs))
            ≡ (if c then v ∷ filter (is_item_of P) vs else filter (is_item_of P) vs)
        kept true y = ap (λ ws. v ∷ ws) y
        kept false y = y

-- no header is too late after an earlier one
pub not-late : (vs : List Visit) → none_too_late vs ≡ true → AllPairs (λ g h. is_too_late g h ≡ false) vs
not-late [] h = tt
not-late (g ∷ rest) h = (
  all-map (λ x. not (is_too_late g x) ≡ true) (λ x. is_too_late g x ≡ false) rest (λ x f. not-true (is_too_late g x) f)
      (all-of (λ x. not (is_too_late g x)) rest (and_left (list_all (λ x. not (is_too_late g x)) rest) (none_too_late rest) h)),
  not-late rest (and_right (list_all (λ x. not (is_too_late g x)) rest) (none_too_late rest) h),
)

pub late-element : (g h : Visit) → is_too_late g h ≡ false → g.is_element ≡ true → is_after_element g.path h.path ≡ true → ⊥
late-element g h calm e late =
    true-false (g.is_element && is_after_element g.path h.path) (and_both g.is_element (is_after_element g.path h.path) e late)
    (or-right (h.is_element && is_below h.path g.path) (g.is_element && is_after_element g.path h.path) calm)

pub late-below : (g h : Visit) → is_too_late g h ≡ false → h.is_element ≡ true → is_below h.path g.path ≡ true → ⊥
late-below g h calm e late =
    true-false (h.is_element && is_below h.path g.path) (and_both h.is_element (is_below h.path g.path) e late)
    (or-left (h.is_element && is_below h.path g.path) (g.is_element && is_after_element g.path h.path) calm)

abbrev pub tree_at : Tree → Visit → Type 0
tree_at t v = IsAt (tree_spot t.slots) (walk t) v

-- each table in the order of headers, and each header
pub order-at : (t : Tree) → SlotsAreWellMade t.slots
    → AllByRecursion (λ (v : PlacedVisit). tree_at t v.1 × (v.1.fields.is_dotted ≡ false)) (in_header_order t)
order-at t made = order-all (tree_at t) t (walk-at t made)

pub order-apart : (t : Tree) → SlotsAreWellMade t.slots → AllPairs (λ (v w : PlacedVisit). Apart v.1 w.1) (in_header_order t)
order-apart t made =
    pairs-sorted (λ (v w : PlacedVisit). Apart v.1 w.1) comes_before (λ v w h e. h (sym e)) (places_from (pos 0) (walk t))
    (pairs-places Apart (pos 0) (walk t) (walk-apart t made))

module _ (mode : Mode) where
  -- ---- which tables have headers

  module _ (K : Path → Spot) (W : List Visit) where
    element-keys : (v : Visit) (T : Trail) → v.keys ≡ trail_keys T → EndsAs K W v T → v.is_element ≡ true → is_empty v.keys ≡ false
    element-keys v start keys ends e = true-false v.is_element e ends
    element-keys v (to_table r k) keys ends e = true-false v.is_element e ends.0
    element-keys v (to_item r k n) keys ends e = ap is_empty keys ∙ not_empty-last (trail_keys r) k

    pub element-headed : (v : Visit) → IsAt K W v → v.is_element ≡ true → has_header mode v ≡ true
    element-headed v at e =
        ap (λ b. not b && (v.is_element || not (v.fields.is_implicit && is_empty (lines_of mode v))))
        (element-keys v at.trail at.keys at.ends e)
        ∙ ap (λ b. b || not (v.fields.is_implicit && is_empty (lines_of mode v))) e

  -- ---- elements among the headers

  pub headed-at : (t : Tree) → SlotsAreWellMade t.slots
      → AllByRecursion (λ v. (tree_at t v × (v.fields.is_dotted ≡ false)) × (has_header mode v ≡ true)) (headed mode t)
  headed-at t made =
      all_pass (λ v. tree_at t v × (v.fields.is_dotted ≡ false)) (has_header mode) (map (λ (v : PlacedVisit). v.1) (in_header_order t))
      (all-image (λ (v : PlacedVisit). v.1) (λ v. tree_at t v × (v.fields.is_dotted ≡ false)) (in_header_order t) (order-at t made))

  -- The elements of an array among the headers are those of the walk, in the same order.
  pub headed-items : (t : Tree) → IsFitting mode t → (P : Path) → filter (is_item_of P) (headed mode t) ≡ filter (is_item_of P) (walk t)
  headed-items t fitting P =
      let f : PlacedVisit → Visit = λ v. v.1 in
      let test : PlacedVisit → Bool = λ v. is_item_of P v.1 in
      let places = places_from (pos 0) (walk t) in
      let undotted = undotted-elements (walk t) (and_right (not t.root.is_dotted)
      (list_all (λ v. not (v.is_element && v.fields.is_dotted)) (walk t)) fitting.fits.undotted) in
      let items : map f (filter test places) ≡ filter (is_item_of P) (walk t) = placed-items P (pos 0) (walk t) undotted in
      let headers : filter (is_item_of P) (headed mode t) ≡ map f (filter test (in_header_order t)) =
      filter-weaker (is_item_of P) (has_header mode) (map f (in_header_order t))
      (all-image f (λ v. is_item_of P v ≡ true → has_header mode v ≡ true) (in_header_order t)
      (all-map (λ (v : PlacedVisit). tree_at t v.1 × (v.1.fields.is_dotted ≡ false)) (λ (v : PlacedVisit). is_item_of P v.1 ≡ true
      → has_header mode v.1 ≡ true) (in_header_order t)
      (λ v h g. element-headed (tree_spot t.slots) (walk t) v.1 h.0 (item-element P v.1 g)) (order-at t fitting.made)))
      ∙ filter-image f (is_item_of P) (in_header_order t) in
      let sorted : filter test (in_header_order t) ≡ sorted_by comes_before (filter test places) =
      filter-sorted comes_before before-trans before-total test places in
      let counted : Counted 0 P (map f (filter test places)) = subst (Counted 0 P) (sym items) (walk-counted P t fitting.made) in
      let early : AllPairs (λ g h. is_too_late g h ≡ false) (filter (is_item_of P) (headed mode t)) =
      pairs-filter (λ g h. is_too_late g h ≡ false) (is_item_of P) (headed mode t) (not-late (headed mode t) fitting.fits.ordered) in
      let elements : AllByRecursion (λ v. v.is_element ≡ true) (filter (is_item_of P) (headed mode t)) =
      all-map (λ v. is_item_of P v ≡ true) (λ v. v.is_element
      ≡ true) (filter (is_item_of P) (headed mode t)) (item-element P) (filter-passes (is_item_of P) (headed mode t)) in
      let calm : AllPairs (λ g h. is_after_element g.path h.path ≡ true → ⊥) (filter (is_item_of P) (headed mode t)) =
      pairs-of (λ v. v.is_element ≡ true) (λ g h. is_too_late g h ≡ false) (λ g h. is_after_element g.path h.path ≡ true
      → ⊥) (filter (is_item_of P) (headed mode t))
      (λ g h e k early. late-element g h early e) elements early in
      headers ∙ ap (map f) (sorted
      ∙ sorted-stays comes_before (λ a b. is_after_element a.1.path b.1.path ≡ true) (filter test places)
      (pairs-unimage f (λ a b. is_after_element b.path a.path
      ≡ true) (filter test places) (counted-late 0 P (map f (filter test places)) counted))
      (subst (AllPairs (λ (a b : PlacedVisit). is_after_element a.1.path b.1.path ≡ true → ⊥)) sorted
      (pairs-unimage f (λ a b. is_after_element a.path b.path ≡ true → ⊥) (filter test (in_header_order t))
      (subst (AllPairs (λ a b. is_after_element a.path b.path ≡ true → ⊥)) headers calm)))) ∙ items
